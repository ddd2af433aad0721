use Rattle.std.proofs.Common.{◌≡◌, ℕ, ◌++◌, List, take, drop, length}
use Rattle.elf_read.specs.Plans.{segments_of}
use Rattle.elf_read.specs.declared.headers.ProgramHeader.{ProgramHeader}
use Rattle.elf_read.specs.declared.plan.Segment.{Segment}
use Rattle.elf_read.proofs.plan.gather.Given as goal

-- the segments of the first i headers stand at the front of the room
pub record GatheredSoFar (moved : ℕ) (headers : List ProgramHeader) (i : ℕ) (room segments : List Segment) (count : ℕ) : Type 0 where
  pub counted : count ≡ length (segments_of moved (take i headers))
  pub gathered : segments ≡ segments_of moved (take i headers) ++ drop (length (segments_of moved (take i headers))) room

abbrev pub invariant-loop-header : goal.invariant-loop-header
invariant-loop-header l =
    GatheredSoFar l.moved l.headers l.header-index l.initial.segments l.segments l.count
