-- What stands at each address of an image.
use Rattle.std.specs.Prelude.{◌≡◌, ◌⊎◌, ℕ, ◌+◌, ◌/◌, ◌<◌, ◌≤◌, List, length, slice_index}
use Rattle.rv_mem.specs.declared.rights.Use.{Use}
use Rattle.rv_mem.specs.Page.{grants}
use Rattle.rv_mem.specs.Pages.{Pages, allows, byte_at}
use Rattle.elf_read.specs.declared.plan.Segment.{Segment}
use Rattle.elf_load.specs.Image.{first_page, end_page, rights_in}

-- a segment of a file: its bytes of the file from its address on, every other byte of its pages zero,
-- and its rights on all of them
pub record HoldsSegment (file : List ℕ) (m : Pages) (s : Segment) : Type 0 where
  pub bytes : (k : ℕ) → k < s.file → byte_at m (s.at + k) ≡ slice_index file (s.offset + k)
  pub zeros : (a : ℕ) → first_page s ≤ a / 4096 → a / 4096 < end_page s → (a < s.at) ⊎ (s.at + s.file ≤ a) → byte_at m a ≡ 0
  pub rights : (a : ℕ) (what : Use) → first_page s ≤ a / 4096 → a / 4096 < end_page s → allows m a what ≡ grants (rights_in s.flags) what

-- the bytes of a stack from its stack pointer up
abbrev pub HoldsBytes : Pages → ℕ → List ℕ → Type 0
HoldsBytes m at bytes = (k : ℕ) → k < length bytes → byte_at m (at + k) ≡ slice_index bytes k
