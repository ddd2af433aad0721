-- The memory, the registers and the end of the data with which an accepted file starts.
use Rattle.std.specs.Prelude.{ℕ, ◌+◌, ◌-◌, ◌*◌, ◌/◌, ◌%◌, ◌==◌, nat_lt, Bool, true, false, ◌||◌, List, [], ◌∷◌, take, drop, replicate, slice_set}
use Rattle.std.specs.Int.{div_ceil}
use Rattle.rv_mem.specs.declared.rights.Rights.{Rights}
use Rattle.rv_mem.specs.declared.regs.Regs.{Regs}
use Rattle.rv_mem.specs.Pages.{Pages, mapped, written}
use Rattle.rv_mem.specs.Memory.{Memory, empty_memory, with_pages, page_count}
use Rattle.elf_read.specs.Plans.{planned}
use Rattle.elf_read.specs.Rules.{page_size}
use Rattle.elf_read.specs.declared.plan.Plan.{Plan}
use Rattle.elf_read.specs.declared.plan.Segment.{Segment}
use Rattle.elf_load.specs.FirstStack.{stack_top, stack_pointer, stack_bytes, pairs_of}

-- ---- segments

-- the rights in p_flags: bit 0 to execute, bit 1 to write, bit 2 to read
abbrev pub rights_in : ℕ → Rights
rights_in flags = record { r = flags / 4 % 2 == 1; w = flags / 2 % 2 == 1; x = flags % 2 == 1 }

-- the numbers of a segment's first page and of the page at which its last one ends
abbrev pub first_page : Segment → ℕ
first_page s = s.at / page_size

abbrev pub end_page : Segment → ℕ
end_page s = div_ceil (s.at + s.memory) page_size

-- its bytes in the file
abbrev pub file_bytes : List ℕ → Segment → List ℕ
file_bytes file s = take s.file (drop s.offset file)

-- pages with a segment: fresh zero pages with its rights, and in them its bytes of the file from its
-- address on
unfoldable pub with_segment : List ℕ → Pages → Segment → Pages
with_segment file m s =
    written (mapped m (first_page s) (end_page s - first_page s) (rights_in s.flags)) s.at (file_bytes file s)

unfoldable pub with_segments : List ℕ → Pages → List Segment → Pages
with_segments file m [] = m
with_segments file m (s ∷ segments) = with_segments file (with_segment file m s) segments

-- how many pages segments have that share none
abbrev pub segment_pages : List Segment → ℕ
segment_pages [] = 0
segment_pages (s ∷ segments) = end_page s - first_page s + segment_pages segments

-- the address at which the pages of the last segment end
abbrev pub break_from : ℕ → List Segment → ℕ
break_from end [] = end
break_from end (s ∷ segments) = break_from (end_page s * page_size) segments

abbrev pub program_break : Plan → ℕ
program_break plan = break_from 0 (planned plan)

-- ---- the stack

-- 1 MiB
abbrev pub stack_pages : ℕ
stack_pages = 256

abbrev pub stack_rights : Rights
stack_rights = record { r = true; w = true; x = false }

-- pages with a stack, in which these bytes stand from the stack pointer up
unfoldable pub with_stack : Pages → ℕ → List ℕ → Pages
with_stack m sp bytes = written (mapped m (stack_top / page_size - stack_pages) stack_pages stack_rights) sp bytes

-- ---- the whole

unfoldable pub image_pages : List ℕ → Plan → List (List ℕ) → List (List ℕ) → List ℕ → Pages
image_pages file plan args env ids =
    with_stack (with_segments file empty_memory.pages (planned plan))
    (stack_pointer args env) (stack_bytes (pairs_of plan ids) args env)

abbrev pub image_memory : List ℕ → Plan → List (List ℕ) → List (List ℕ) → List ℕ → Memory
image_memory file plan args env ids = with_pages empty_memory (image_pages file plan args env ids)

-- the pc at the first instruction, the stack pointer in x2, all other registers zero
abbrev pub first_regs : Plan → List (List ℕ) → List (List ℕ) → Regs
first_regs plan args env = record { x = slice_set (replicate 32 0) 2 (stack_pointer args env); pc = plan.entry }

-- `pages` pages pass the limit of a process, or, beside those of others, the limit of all processes
abbrev pub exceeds_pages : ℕ → ℕ → Bool
exceeds_pages others pages = nat_lt 16384 pages || nat_lt 262144 (others + pages)

-- whether an image may not be loaded beside `others` pages of others
abbrev pub image_exceeds : ℕ → List ℕ → Plan → List (List ℕ) → List (List ℕ) → List ℕ → Bool
image_exceeds others file plan args env ids =
    exceeds_pages others (page_count (image_pages file plan args env ids))
