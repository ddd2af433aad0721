-- The fields of an ELF-64 file, under the names and at the places that the ELF-64 object file format
-- gives them: those of the ELF header, the file's first 64 bytes, and of each program header.
use Rattle.std.specs.Prelude.{ℕ, zero, suc, ◌+◌, ◌*◌, List, [], ◌∷◌, ◌++◌, take, drop}
use Rattle.pr_base.specs.Fields.{little_endian}
use Rattle.elf_read.specs.declared.headers.FileHeader.{FileHeader}
use Rattle.elf_read.specs.declared.headers.ProgramHeader.{ProgramHeader}

-- the number in the `width` bytes from `at` on
abbrev pub field : List ℕ → ℕ → ℕ → ℕ
field bytes at width = little_endian (take width (drop at bytes))

abbrev pub file_header : List ℕ → FileHeader
file_header file = record {
  e_type = field file 16 2;
  e_machine = field file 18 2;
  e_entry = field file 24 8;
  e_phoff = field file 32 8;
  e_phentsize = field file 54 2;
  e_phnum = field file 56 2;
}

-- how many bytes a program header has
abbrev pub entry_size : ℕ
entry_size = 56

-- of the bytes from its first one on
abbrev pub program_header : List ℕ → ProgramHeader
program_header entry = record {
  p_type = field entry 0 4;
  p_flags = field entry 4 4;
  p_offset = field entry 8 8;
  p_vaddr = field entry 16 8;
  p_filesz = field entry 32 8;
  p_memsz = field entry 40 8;
}

-- the first n program headers of the table that begins at an offset
abbrev pub table_entries : List ℕ → ℕ → ℕ → List ProgramHeader
table_entries file start zero = []
table_entries file start (suc n) =
    table_entries file start n ++ program_header (drop (start + entry_size * n) file) ∷ []

-- the program headers of a file with this ELF header
abbrev pub entries_of : FileHeader → List ℕ → List ProgramHeader
entries_of header file = table_entries file header.e_phoff header.e_phnum

abbrev pub program_headers : List ℕ → List ProgramHeader
program_headers file = entries_of (file_header file) file
