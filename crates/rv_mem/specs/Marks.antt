-- The marks of a page, and how they are stored.
use Rattle.std.specs.Prelude.{◌≡◌, ◌≢◌, ℕ, zero, suc, ◌/◌, ◌%◌, Bool, false, List, [], ◌∷◌, map, replicate, nat_eq, slice_index, if◌then◌else◌}
use Rattle.std.specs.Int.{bit_at}
use Rattle.std.specs.List.{range_with_len}
use Rattle.rv_mem.specs.declared.marks.Marks.{Marks}
use Rattle.rv_table.specs.pr_base.Page.{page_size}

-- a page without a mark
unfoldable pub no_marks : List Bool
no_marks = replicate page_size false

-- whether the byte at an index is marked, by words of 64 bits
abbrev pub is_set : List ℕ → ℕ → Bool
is_set words i = nat_eq (bit_at (slice_index words (i / 64)) (i % 64)) 1

-- the marks that words tell
unfoldable pub marks_in : List ℕ → List Bool
marks_in words = map (is_set words) (range_with_len 0 page_size)

-- the marks of a page that has room for some
abbrev pub marks_of : Marks → List Bool
marks_of m = if m.some then marks_in m.words else no_marks

-- the marks of a page, where none are kept if `marked` is 0
abbrev pub kept_marks : ℕ → Marks → List Bool
kept_marks marked m = if nat_eq marked 0 then no_marks else marks_of m

-- those of the page at a place in a list, which has none where none are stored
unfoldable pub marks_at : ℕ → List Marks → ℕ → List Bool
marks_at marked [] i = no_marks
marks_at marked (m ∷ ms) zero = kept_marks marked m
marks_at marked (m ∷ ms) (suc i) = marks_at marked ms i

-- the marks of the page at a place became these, and those of no other page changed
pub record IsChangedAt (marked : ℕ) (old new : List Marks) (i : ℕ) (marks : List Bool) : Type 0 where
  pub here : marks_at marked new i ≡ marks
  pub others : (j : ℕ) → j ≢ i → marks_at marked new j ≡ marks_at marked old j
