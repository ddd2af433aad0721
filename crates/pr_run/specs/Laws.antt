-- What holds of outcomes.
use Rattle.std.specs.Prelude.{◌≡◌, ◌↔◌, IsTrue}
use Rattle.pr_run.specs.Case.{Outcome, agree}

-- two of them agree exactly where they are equal
abbrev pub OutcomesAreToldApart : Type 0
OutcomesAreToldApart = (a b : Outcome) → IsTrue (agree a b) ↔ (a ≡ b)
