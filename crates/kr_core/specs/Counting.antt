-- How often calls altered the shape of the tree, and the bytes of files.
use Rattle.std.specs.Prelude.{◌≡◌, ◌⊎◌, ◌+◌, ℕ, suc, Bool, if◌then◌else◌}
use Rattle.kr_first.specs.kr_model.Judged.{HasShape}
use Rattle.kr_turns.specs.law_steady.Bytes.{HasBytes}
use Rattle.kr_core.specs.Kernel.{Kernel, machine}

-- a count stays where something holds, and rises by one where it doesn't
abbrev pub Counts : Type 0 → (before now : ℕ) → Type 0
Counts A before now = (A × (now ≡ before)) ⊎ ((A → ⊥) × (now ≡ suc before))

-- both counts of a step: of the steps that make another shape of the tree, and of those that make other bytes of a file
pub record IsCounted {P S T : Type 0} {M : ℕ} (number : T → ℕ) (old new : Kernel P S T M) : Type 0 where
  pub shape : Counts (HasShape (machine number old).state.tree (machine number new).state.tree) old.shape_changes new.shape_changes
  pub bytes : Counts (HasBytes (machine number old).state.tree (machine number new).state.tree) old.byte_changes new.byte_changes

-- one more, or as many
abbrev pub raised : ℕ → Bool → ℕ
raised count by = if by then count + 1 else count
