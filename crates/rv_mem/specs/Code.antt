-- What was decoded of a page.
use Rattle.std.specs.Prelude.{◌≡◌, ◌<◌, ◌*◌, ℕ, Bool, true, List, length, take, drop, slice_index_or, Some}
use Rattle.rv_table.specs.pr_base.Fields.{little_endian}
use Rattle.rv_table.specs.declared.instr.Instr.{Instr}
use Rattle.rv_table.specs.declared.small.Small.{Small}
use Rattle.rv_table.specs.Small.{instr_of}
use Rattle.rv_table.specs.Rows.{decoded}
use Rattle.rv_mem.specs.declared.rights.Use.TheVariants.{Execute}
use Rattle.rv_mem.specs.Pages.{Pages, allows_all, any_marked, bytes_from}

-- the word at an offset
abbrev pub word_at : List ℕ → ℕ → ℕ
word_at bytes offset = little_endian (take 4 (drop offset bytes))

-- each instruction that is remembered is that of the word at its place
abbrev pub AreDecoded : List Small → List ℕ → Type 0
AreDecoded entries bytes =
    (k : ℕ) (d : Small) (i : Instr) → k < length entries → instr_of (slice_index_or entries k d) ≡ Some i → decoded (word_at bytes (4 * k)) ≡ Some i

-- a fetch of the word at an address: it may be executed, this is its instruction, and this tells whether one of its bytes is marked
pub record IsFetched (m : Pages) (at : ℕ) (found : Small) (marks : Bool) : Type 0 where
  pub allowed : allows_all m at 4 Execute ≡ true
  pub word : instr_of found ≡ decoded (little_endian (bytes_from m at 4))
  pub marked : marks ≡ any_marked m at 4
