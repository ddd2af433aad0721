-- Which files are accepted: the rules in their order, each of them over all program headers before the
-- next one. The names of fields and of values are those of the ELF-64 object file format.
pub use Rattle.pr_base.specs.Page.{page_size}
use Rattle.std.specs.Prelude.{ℕ, ◌+◌, ◌*◌, ◌/◌, ◌%◌, ◌==◌, nat_lt, if◌then◌else◌, Bool, not, ◌&&◌, ◌||◌, List, [], ◌∷◌, length, nat_eq, Option, Some, None, slice_index, position}
use Rattle.std.specs.List.{starts_with, list_any}
use Rattle.std.specs.Int.{div_ceil}
use Rattle.std.specs.Option.{option_or}
use Rattle.elf_read.specs.Headers.{file_header, entries_of, entry_size}
use Rattle.elf_read.specs.declared.headers.FileHeader.{FileHeader}
use Rattle.elf_read.specs.declared.headers.ProgramHeader.{ProgramHeader}
use Rattle.elf_read.specs.declared.fault.ElfFault.{ElfFault}
use Rattle.elf_read.specs.declared.fault.ElfFault.TheVariants.{Short, Magic, Class, Kind, Machine, Table, NoLoad, Sizes, Outside, Order, Place, Interp}

-- ---- the values of the format

abbrev pub magic : List ℕ
magic = 0x7f ∷ 0x45 ∷ 0x4c ∷ 0x46 ∷ []

-- e_ident: 64-bit objects, little-endian data, the current version
abbrev pub is_class64 : List ℕ → Bool
is_class64 file = (slice_index file 4 == 2) && (slice_index file 5 == 1) && (slice_index file 6 == 1)

-- e_type: an executable and a shared object
abbrev pub et_exec : ℕ
et_exec = 2

abbrev pub et_dyn : ℕ
et_dyn = 3

-- e_machine: RISC-V
abbrev pub em_riscv : ℕ
em_riscv = 243

-- p_type: a part to be loaded, and the name of an interpreter
abbrev pub pt_load : ℕ
pt_load = 1

abbrev pub pt_interp : ℕ
pt_interp = 3

-- ---- the project's own limits

abbrev pub most_headers : ℕ
most_headers = 64

abbrev pub lowest_address : ℕ
lowest_address = 0x10000

abbrev pub address_limit : ℕ
address_limit = 0x3F_0000_0000

-- how far the addresses of a file are moved: a shared object's all by the same number of pages
abbrev pub displacement : FileHeader → ℕ
displacement header = if header.e_type == et_dyn then 0x10_0000_0000 else 0

-- ---- the rules on the ELF header

abbrev pub first_broken_identity : List ℕ → Option ElfFault
first_broken_identity file =
    let header = file_header file in
    if nat_lt (length file) 64 then Some Short
    else if not (starts_with nat_eq file magic) then Some Magic
    else if not (is_class64 file) then Some Class
    else if not ((header.e_type == et_exec) || (header.e_type == et_dyn)) then Some Kind
    else if not (header.e_machine == em_riscv) then Some Machine
    else None

-- a segment: a part to be loaded, with a memory size other than 0
abbrev pub is_segment : ProgramHeader → Bool
is_segment h = (h.p_type == pt_load) && not (h.p_memsz == 0)

-- ---- the rules on the table

-- there is a header, and the size of one isn't the format's, there are too many, or the table passes
-- the file, which has `size` bytes
abbrev pub is_bad_table : FileHeader → ℕ → Bool
is_bad_table header size =
    not (header.e_phnum == 0) &&
    (not (header.e_phentsize == entry_size) || nat_lt most_headers header.e_phnum ||
    nat_lt size (header.e_phoff + entry_size * header.e_phnum))

abbrev pub first_broken_table : FileHeader → List ℕ → Option ElfFault
first_broken_table header file =
    if is_bad_table header (length file) then Some Table
    else if not (list_any is_segment (entries_of header file)) then Some NoLoad
    else None

-- ---- the rules on one segment

-- more bytes in the file than in memory, or offset and address not congruent modulo the page size.
-- Addresses are moved by whole pages, which changes neither this nor the order
abbrev pub is_missized : ProgramHeader → Bool
is_missized h =
    is_segment h && (nat_lt h.p_memsz h.p_filesz || not (h.p_offset % page_size == h.p_vaddr % page_size))

-- the part in the file passes the end of the file
abbrev pub is_outside : ℕ → ProgramHeader → Bool
is_outside size h = is_segment h && nat_lt size (h.p_offset + h.p_filesz)

-- not inside the addresses that programs may have
abbrev pub is_misplaced : ℕ → ProgramHeader → Bool
is_misplaced moved h =
    is_segment h &&
    (nat_lt (h.p_vaddr + moved) lowest_address || nat_lt address_limit (h.p_vaddr + moved + h.p_memsz))

abbrev pub is_interpreter : ProgramHeader → Bool
is_interpreter h = h.p_type == pt_interp

-- ---- the rule on the order of segments

-- the number of the page of a segment's first byte
abbrev pub first_page : ProgramHeader → ℕ
first_page h = h.p_vaddr / page_size

-- the number of the page at which a segment's last page ends
abbrev pub end_page : ProgramHeader → ℕ
end_page h = div_ceil (h.p_vaddr + h.p_memsz) page_size

-- the index of the first segment that begins before the end of the segment before it. The headers
-- begin at the index k, and the last segment before them ends at the page `end`
abbrev pub disorder_from : ℕ → ℕ → List ProgramHeader → Option ℕ
disorder_from k end [] = None
disorder_from k end (h ∷ hs) =
    if not (is_segment h) then disorder_from (k + 1) end hs
    else if nat_lt (first_page h) end then Some k
    else disorder_from (k + 1) (end_page h) hs

abbrev pub first_disorder : List ProgramHeader → Option ℕ
first_disorder headers = disorder_from 0 0 headers

-- ---- all rules

-- the fault at the first header that breaks a rule, or else what the next rules give
abbrev pub broken_at : Option ℕ → (ℕ → ElfFault) → Option ElfFault → Option ElfFault
broken_at None fault next = next
broken_at (Some k) fault next = Some (fault k)

-- of the rules on segments and interpreters
abbrev pub first_broken_header : ℕ → ℕ → List ProgramHeader → Option ElfFault
first_broken_header size moved headers =
    broken_at (position is_missized headers) Sizes (
    broken_at (position (is_outside size) headers) Outside (
    broken_at (first_disorder headers) Order (
    broken_at (position (is_misplaced moved) headers) Place (
    broken_at (position is_interpreter headers) Interp None))))

-- the first rule that the file breaks, or none: then the file is accepted
abbrev pub first_broken : List ℕ → Option ElfFault
first_broken file =
    let header = file_header file in
    option_or (first_broken_identity file) (
    option_or (first_broken_table header file) (
    first_broken_header (length file) (displacement header) (entries_of header file)))
