-- What lawful states are to the code.
use Rattle.std.specs.Prelude.{ℕ, List}
use Rattle.law_lawful.specs.kr_view.View.{Row}
use Rattle.law_lawful.specs.kr_model.Lawful.{IsLawful}
use Rattle.kr_ops.specs.declared.state.State.{State}
use Rattle.kr_ops.specs.Meaning.{meaning}
use Rattle.kr_ops.specs.Sound.{IsServed, IsSound}

abbrev pub LawfulAreSound : Type 0 → ℕ → Type 0
LawfulAreSound T M = (number : T → ℕ) (table : List Row) (s : State T M) → IsLawful number table (meaning s) → IsServed s → IsSound s
