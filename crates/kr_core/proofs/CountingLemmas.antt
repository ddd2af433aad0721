-- How the counts of what calls altered go on.
use Rattle.std.proofs.Common.{◌≡◌, ◌≤◌, ◌+◌, ℕ, suc, Bool, true, false, inl, inr, arith, refl, ◌∙◌}
use Rattle.std.specs.Prelude.{◌↔◌}
use Rattle.kr_turns.specs.law_steady.Told.{LeavesBoth}
use Rattle.kr_turns.specs.kr_steps.Calls.{Altered, IsAltered}
use Rattle.kr_core.specs.Counting.{Counts, IsCounted, raised}
use Rattle.kr_core.specs.Kernel.{Kernel, machine}

counts : (A : Type 0) (told : Bool) → (told ≡ false) ↔ A → (before now : ℕ) → now ≡ raised before told → Counts A before now
counts A true tells before now is = let more : before + 1 ≡ suc before = omega arith in inr (λ holds. (let no : true ≡ false = tells.1 holds in cc), is ∙ more)
counts A false tells before now is = inl (tells.0 refl, is)

-- no more than were counted with them
pub raised-within : (count all : ℕ) (told : Bool) → count ≤ all → raised count told ≤ all + 1
raised-within count all true within = omega arith
raised-within count all false within = omega arith

module _ {P S T : Type 0} {M : ℕ} (number : T → ℕ) (old new : Kernel P S T M) where
  -- a step that leaves both
  pub left-counts : LeavesBoth (machine number old).state.tree (machine number new).state.tree → new.shape_changes ≡ old.shape_changes → new.byte_changes ≡ old.byte_changes → IsCounted number old new
  left-counts both shape bytes = record { shape = inl (both.0, shape); bytes = inl (both.1, bytes) }

  -- a call, by what is told of it
  pub call-counts : (a : Altered) → IsAltered a (machine number old).state.tree (machine number new).state.tree → new.shape_changes ≡ raised old.shape_changes a.shape → new.byte_changes ≡ raised old.byte_changes a.bytes
      → IsCounted number old new
  call-counts a is shape bytes = record { shape = counts _ a.shape is.shape old.shape_changes new.shape_changes shape; bytes = counts _ a.bytes is.bytes old.byte_changes new.byte_changes bytes }
