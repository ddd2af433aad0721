-- How many texts there may still be.
use Rattle.std.specs.Prelude.{ℕ, ◌-◌, ◌≤◌, List, [], length, All}
use Rattle.pr_gen.specs.declared.conditions.Budget.{Budget}
use Rattle.pr_gen.specs.declared.steps.ProbeStep.{ProbeStep}
use Rattle.pr_gen.specs.declared.steps.ProbeStep.TheVariants.{Call, SetSp}
use Rattle.pr_gen.specs.Steps.{texts_in, bytes_in, IsWithoutZeros}

abbrev pub step_texts : ProbeStep → List (List ℕ)
step_texts (Call number args who show) = texts_in args
step_texts (SetSp sp) = []

-- these texts may be there
pub record Fits (b : Budget) (ts : List (List ℕ)) : Type 0 where
  pub count : length ts ≤ b.texts
  pub size : bytes_in ts ≤ b.bytes
  pub clean : All IsWithoutZeros ts

abbrev pub left_after : Budget → List (List ℕ) → Budget
left_after b ts = record { texts = b.texts - length ts; bytes = b.bytes - bytes_in ts }

abbrev pub budget : ℕ → ℕ → Budget
budget count size = record { texts = count; bytes = size }
