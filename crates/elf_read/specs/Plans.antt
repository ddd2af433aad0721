-- What the loader needs of a file: its segments with addresses as moved, and where its program header
-- table and its first instruction are.
use Rattle.std.specs.Prelude.{◌≡◌, ℕ, ◌+◌, ◌-◌, ◌*◌, ◌%◌, ◌^◌, ◌<◌, ◌≤◌, ◌/◌, nat_le, Bool, ◌&&◌, if◌then◌else◌, List, [], ◌∷◌, ◌++◌, length, take, map, filter, replicate}
use Rattle.std.specs.Int.{div_ceil}
use Rattle.elf_read.specs.Headers.{file_header, program_headers, entry_size}
use Rattle.elf_read.specs.Rules.{is_segment, displacement, most_headers, page_size, lowest_address, address_limit}
use Rattle.elf_read.specs.declared.headers.FileHeader.{FileHeader}
use Rattle.elf_read.specs.declared.headers.ProgramHeader.{ProgramHeader}
use Rattle.elf_read.specs.declared.plan.Plan.{Plan}
use Rattle.elf_read.specs.declared.plan.Segment.{Segment}

-- the segment of a program header
abbrev pub segment_of : ℕ → ProgramHeader → Segment
segment_of moved h = record {
  at = h.p_vaddr + moved;
  memory = h.p_memsz;
  offset = h.p_offset;
  file = h.p_filesz;
  flags = h.p_flags;
}

abbrev pub no_segment : Segment
no_segment = record { at = 0; memory = 0; offset = 0; file = 0; flags = 0 }

abbrev pub segments_of : ℕ → List ProgramHeader → List Segment
segments_of moved headers = map (segment_of moved) (filter is_segment headers)

-- whether a segment's part in the file holds the `size` bytes from `start` on
abbrev pub holds : ℕ → ℕ → Segment → Bool
holds start size s = nat_le s.offset start && nat_le (start + size) (s.offset + s.file)

-- the address of these bytes of the file by the first segment that holds them, or 0
abbrev pub address_in : ℕ → ℕ → List Segment → ℕ
address_in start size [] = 0
address_in start size (s ∷ segments) =
    if holds start size s then s.at + (start - s.offset) else address_in start size segments

abbrev pub plan_with : FileHeader → List Segment → Plan
plan_with header segments = record {
  entry = (header.e_entry + displacement header) % 2 ^ 64;
  phdr = address_in header.e_phoff (entry_size * header.e_phnum) segments;
  phnum = header.e_phnum;
  count = length segments;
  segments = segments ++ replicate (most_headers - length segments) no_segment;
}

abbrev pub plan_of : List ℕ → Plan
plan_of file =
    plan_with (file_header file) (segments_of (displacement (file_header file)) (program_headers file))

-- ---- what the rules give

-- of each segment of a file of `size` bytes
pub record IsSound (size : ℕ) (s : Segment) : Type 0 where
  pub above : lowest_address ≤ s.at
  pub below : s.at + s.memory ≤ address_limit
  pub in_memory : 0 < s.memory
  pub sized : s.file ≤ s.memory
  pub congruent : s.offset % page_size ≡ s.at % page_size
  pub in_file : s.offset + s.file ≤ size

-- each segment begins at or after the page `end`, at which the last page of the one before it ends
abbrev pub IsInOrder : ℕ → List Segment → Type 0
IsInOrder end [] = Unit {0}
IsInOrder end (s ∷ segments) =
    (end ≤ s.at / page_size) × IsInOrder (div_ceil (s.at + s.memory) page_size) segments

-- the segments of a plan
abbrev pub planned : Plan → List Segment
planned plan = take plan.count plan.segments
