-- What links lead to, in code.
use Rattle.std.specs.Prelude.{ℕ}
use Rattle.std.specs.Option.{option_map_or}
use Rattle.kr_ops.specs.kr_model.State.{Image, Process, State, opened, process}
use Rattle.kr_seen.specs.Shown.{Target, Nothing, Unplaced, At, opened_target}
use Rattle.kr_seen.specs.declared.target.Target.{Target as Held}
use Rattle.kr_seen.specs.declared.target.Target.TheVariants as held

abbrev pub target_told : {T : Type 0} → Held T → Target T
target_told held.Nothing = Nothing
target_told (held.Unplaced what) = Unplaced what
target_told (held.At place dir name) = At place dir name.now

module _ {T : Type 0} where
  abbrev pub process_target : {U : Type 0} → (Process T Image → Target U) → ℕ → State T Image → Target U
  process_target target pid s = option_map_or target (process pid s) Nothing

  abbrev pub opened_target_of : ℕ → ℕ → State T Image → Target T
  opened_target_of pid fd s = option_map_or opened_target (opened pid fd s) Nothing
