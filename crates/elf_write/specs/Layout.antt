-- The files that are written: where their two segments stand, and their bytes.
use Rattle.std.specs.Prelude.{ℕ, ◌+◌, ◌-◌, ◌*◌, ◌==◌, if◌then◌else◌, List, [], ◌∷◌, ◌++◌, length, replicate}
use Rattle.std.specs.Int.{div_ceil, to_le_bytes, w32, w64}
use Rattle.elf_read.specs.declared.plan.Segment.{Segment}
use Rattle.elf_read.specs.pr_base.Page.{page_size}

-- ---- the segments, by the sizes of the code and of the first bytes of the data

abbrev pub code_address : ℕ
code_address = 0x10000

-- the code, in whole pages
abbrev pub pages : ℕ → ℕ
pages code = div_ceil code page_size * page_size

abbrev pub data_offset : ℕ → ℕ
data_offset code = page_size + pages code

-- read and execute
abbrev pub code_segment : ℕ → Segment
code_segment code = record { at = code_address; memory = code; offset = page_size; file = code; flags = 5 }

-- read and write
abbrev pub data_segment : ℕ → ℕ → ℕ → Segment
data_segment code init bss = record {
  at = code_address + pages code;
  memory = init + bss;
  offset = data_offset code;
  file = init;
  flags = 6;
}

abbrev pub segments : ℕ → ℕ → ℕ → List Segment
segments code init bss =
    code_segment code ∷ (if init + bss == 0 then [] else data_segment code init bss ∷ [])

-- ---- the bytes

unfoldable pub file_header_bytes : List ℕ
file_header_bytes =
    0x7f ∷ 0x45 ∷ 0x4c ∷ 0x46 ∷ 2 ∷ 1 ∷ 1 ∷ 0 ∷ 0 ∷ 0 ∷ 0 ∷ 0 ∷ 0 ∷ 0 ∷ 0 ∷ 0 ∷
    2 ∷ 0 ∷ 243 ∷ 0 ∷ 1 ∷ 0 ∷ 0 ∷ 0 ∷ 0 ∷ 0 ∷ 1 ∷ 0 ∷ 0 ∷ 0 ∷ 0 ∷ 0 ∷
    64 ∷ 0 ∷ 0 ∷ 0 ∷ 0 ∷ 0 ∷ 0 ∷ 0 ∷ 0 ∷ 0 ∷ 0 ∷ 0 ∷ 0 ∷ 0 ∷ 0 ∷ 0 ∷
    0 ∷ 0 ∷ 0 ∷ 0 ∷ 64 ∷ 0 ∷ 56 ∷ 0 ∷ 2 ∷ 0 ∷ 0 ∷ 0 ∷ 0 ∷ 0 ∷ 0 ∷ 0 ∷ []

-- p_type, p_flags, p_offset, p_vaddr, p_paddr, p_filesz, p_memsz, p_align
unfoldable pub program_header_bytes : Segment → List ℕ
program_header_bytes s =
    to_le_bytes w32 1 ++ (to_le_bytes w32 s.flags ++ (to_le_bytes w64 s.offset ++ (to_le_bytes w64 s.at ++
    (to_le_bytes w64 s.at ++ (to_le_bytes w64 s.file ++ (to_le_bytes w64 s.memory ++ to_le_bytes w64 page_size))))))

unfoldable pub zeros : ℕ → List ℕ
zeros n = replicate n 0

-- with zeros behind up to a size
abbrev pub padded : ℕ → List ℕ → List ℕ
padded size bytes = bytes ++ zeros (size - length bytes)

abbrev pub headers : ℕ → ℕ → ℕ → List ℕ
headers code init bss =
    file_header_bytes ++ program_header_bytes (code_segment code) ++ program_header_bytes (data_segment code init bss)

abbrev pub written : List ℕ → List ℕ → ℕ → List ℕ
written code init bss =
    padded (data_offset (length code)) (padded page_size (headers (length code) (length init) bss) ++ code) ++ init
