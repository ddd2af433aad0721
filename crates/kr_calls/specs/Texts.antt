-- Reading a text out of memory, byte by byte.
use Rattle.std.specs.Prelude.{ℕ, zero, suc, ◌+◌, nat_eq, List, [], ◌∷◌, slice_index, if◌then◌else◌}
use Rattle.rv_mem.specs.Actions.{Action, read_if_allowed}
use Rattle.rv_mem.specs.declared.rights.Use.TheVariants.{Read}

-- the text at an address, whose zero is among the first `max` bytes: a byte that may not be read refuses it,
-- and `max` bytes without a zero are too long
unfoldable pub read_text : {A : Type 0} → (max at : ℕ) → Action A → Action A → (List ℕ → Action A) → Action A
read_text zero at refused too_long next = too_long
read_text (suc max) at refused too_long next =
    read_if_allowed at 1 (Read ∷ []) refused
    (λ bytes. if nat_eq (slice_index bytes 0) 0 then next [] else read_text max (at + 1) refused too_long (λ text. next (slice_index bytes 0 ∷ text)))
