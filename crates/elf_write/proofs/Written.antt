-- What a written file is to the loader.
use Rattle.std.proofs.Common.{◌≡◌, ℕ, ◌+◌, ◌-◌, ◌^◌, ◌<◌, ◌≤◌, ◌++◌, false, nat_lt, List, [], ◌∷◌, length, take, drop, arith, refl, ◌∙◌, append_assoc, length-append}
use Rattle.std.specs.Prelude.{None}
use Rattle.std.specs.Int.{to_le_bytes, from_le_bytes, w32, w64}
use Rattle.std.proofs.lemmas.Nat.{from_le_bytes-to_le_bytes_4, from_le_bytes-to_le_bytes_8}
use Rattle.std.proofs.lemmas.List.{take_at, length-replicate}
use Rattle.std.proofs.Math.Seq.{drop-append_seam}
use Rattle.std.proofs.lemmas.Bool.Decides.{nat_tests}
use Rattle.elf_read.specs.pr_base.Fields.{little_endian}
use Rattle.elf_read.specs.Headers.{file_header, program_header, table_entries}
use Rattle.elf_read.specs.Rules.{first_broken_identity}
use Rattle.elf_read.specs.declared.headers.FileHeader.{FileHeader}
use Rattle.elf_read.specs.declared.headers.ProgramHeader.{ProgramHeader}
use Rattle.elf_read.specs.declared.plan.Segment.{Segment}
use Rattle.elf_write.specs.Layout.{file_header_bytes, program_header_bytes, data_offset, padded, zeros, headers, written, pages}

-- ---- numbers

little_endian-of_8 : (a b d e f g h i : ℕ) → little_endian (a ∷ b ∷ d ∷ e ∷ f ∷ g ∷ h ∷ i ∷ []) ≡ from_le_bytes w64 (a ∷ b ∷ d ∷ e ∷ f ∷ g ∷ h ∷ i ∷ [])
little_endian-of_8 a b d e f g h i = omega arith

little_endian-of_4 : (a b d e : ℕ) → little_endian (a ∷ b ∷ d ∷ e ∷ []) ≡ from_le_bytes w32 (a ∷ b ∷ d ∷ e ∷ [])
little_endian-of_4 a b d e = omega arith

number_8 : (n : ℕ) → n < 2 ^ 64 → little_endian (to_le_bytes w64 n) ≡ n
number_8 n fits = rw (little_endian-of_8) (from_le_bytes-to_le_bytes_8 n fits)

number_4 : (n : ℕ) → n < 2 ^ 32 → little_endian (to_le_bytes w32 n) ≡ n
number_4 n fits = rw (little_endian-of_4) (from_le_bytes-to_le_bytes_4 n fits)

-- ---- the headers of a written file

-- the program header of a segment
abbrev pub header_of : Segment → ProgramHeader
header_of s = record { p_type = 1; p_flags = s.flags; p_offset = s.offset; p_vaddr = s.at; p_filesz = s.file; p_memsz = s.memory }

pub record Fits (s : Segment) : Type 0 where
  pub flags : s.flags < 2 ^ 32
  pub offset : s.offset < 2 ^ 64
  pub at : s.at < 2 ^ 64
  pub file : s.file < 2 ^ 64
  pub memory : s.memory < 2 ^ 64

read_back : (s : Segment) (rest : List ℕ) → Fits s → program_header (program_header_bytes s ++ rest) ≡ header_of s
unfolding program_header_bytes
read_back s rest fits =
    let flags = number_4 s.flags fits.flags in
    let offset = number_8 s.offset fits.offset in
    let at = number_8 s.at fits.at in
    let file = number_8 s.file fits.file in
    let memory = number_8 s.memory fits.memory in
    rw (flags, offset, at, file, memory) refl

elf_header : (rest : List ℕ) → file_header (file_header_bytes ++ rest) ≡ record { e_type = 2; e_machine = 243; e_entry = 0x10000; e_phoff = 64; e_phentsize = 56; e_phnum = 2 }
unfolding file_header_bytes
elf_header rest = refl

first_entry : (s t : Segment) (rest : List ℕ) → drop 64 (file_header_bytes ++ (program_header_bytes s ++ rest)) ≡ program_header_bytes s ++ rest
unfolding file_header_bytes
first_entry s t rest = refl

second_entry : (s t : Segment) (rest : List ℕ) → drop 120 (file_header_bytes ++ (program_header_bytes s ++ rest)) ≡ rest
unfolding file_header_bytes program_header_bytes
second_entry s t rest = refl

-- ---- lengths and places

length-zeros : (n : ℕ) → length (zeros n) ≡ n
unfolding zeros
length-zeros n = length-replicate n 0

length-header : (s : Segment) → length (program_header_bytes s) ≡ 56
unfolding program_header_bytes
length-header s = refl

length-file_header : length file_header_bytes ≡ 64
unfolding file_header_bytes
length-file_header = refl

length-headers : (n i b : ℕ) → length (headers n i b) ≡ 176
length-headers n i b =
    rw (length-append, length-append, length-header, length-header, length-file_header) refl

length-padded : (size : ℕ) (bytes : List ℕ) → length bytes ≤ size → length (padded size bytes) ≡ size
length-padded size bytes fewer = rw (length-append, length-zeros) (omega arith)

pub pages_enough : (n : ℕ) → n ≤ pages n
pages_enough n = omega arith

pub pages_few : (n : ℕ) → pages n ≤ n + 4095
pages_few n = omega arith

-- what stands before the code, and before the data
abbrev before_code : List ℕ → List ℕ → ℕ → List ℕ
before_code code init bss = padded 4096 (headers (length code) (length init) bss)

abbrev before_data : List ℕ → List ℕ → ℕ → List ℕ
before_data code init bss = padded (data_offset (length code)) (before_code code init bss ++ code)

length-before_code : (code init : List ℕ) (bss : ℕ) → length (before_code code init bss) ≡ 4096
length-before_code code init bss =
    length-padded 4096 (headers (length code) (length init) bss) (omega (arith, length-headers (length code) (length init) bss))

length-before_data : (code init : List ℕ) (bss : ℕ) → length (before_data code init bss) ≡ data_offset (length code)
length-before_data code init bss =
    length-padded (data_offset (length code)) (before_code code init bss ++ code)
    (omega (arith, length-append (before_code code init bss) code, length-before_code code init bss, pages_enough (length code)))

pub length-written : (code init : List ℕ) (bss : ℕ) → length (written code init bss) ≡ data_offset (length code) + length init
length-written code init bss = rw (length-append) (rw (length-before_data code init bss) refl)

drop_past : (n : ℕ) (xs ys : List ℕ) → length xs ≡ n → drop n (xs ++ ys) ≡ ys
drop_past n xs ys is = rw (← is) (drop-append_seam xs ys)

pub init_stands : (code init : List ℕ) (bss : ℕ) → drop (data_offset (length code)) (written code init bss) ≡ init
init_stands code init bss = drop_past (data_offset (length code)) (before_data code init bss) init (length-before_data code init bss)

pub code_stands : (code init : List ℕ) (bss : ℕ) → take (length code) (drop 4096 (written code init bss)) ≡ code
code_stands code init bss =
    let filling : List ℕ = zeros (data_offset (length code) - length (before_code code init bss ++ code)) in
    let parts : written code init bss ≡ before_code code init bss ++ (code ++ (filling ++ init)) = simp append_assoc in
    let behind : drop 4096 (before_code code init bss ++ (code ++ (filling ++ init))) ≡ code ++ (filling ++ init) = drop_past 4096 (before_code code init bss) (code ++ (filling ++ init)) (length-before_code code init bss) in
    rw (parts, behind) (take_at code (filling ++ init) (length code) refl)

-- ---- what the rules read

-- two entries of the table, where the bytes of each begin as said
two_entries : (file first second : List ℕ) → drop 64 file ≡ first → drop 120 file ≡ second → table_entries file 64 2 ≡ program_header first ∷ program_header second ∷ []
two_entries file first second one two = rw (one, two) refl

abbrev pub elf_fields : FileHeader
elf_fields = record { e_type = 2; e_machine = 243; e_entry = 0x10000; e_phoff = 64; e_phentsize = 56; e_phnum = 2 }

-- what the loader reads of a file
pub record Reads (file : List ℕ) (s t : Segment) : Type 0 where
  pub wide : 176 ≤ length file
  pub header : file_header file ≡ elf_fields
  pub entries : table_entries file 64 2 ≡ header_of s ∷ header_of t ∷ []
  pub identity : first_broken_identity file ≡ None

identified : (rest : List ℕ) → nat_lt (length (file_header_bytes ++ rest)) 64 ≡ false → first_broken_identity (file_header_bytes ++ rest) ≡ None
unfolding file_header_bytes
identified rest wide = rw wide refl

pub not_less : (n k : ℕ) → k ≤ n → nat_lt n k ≡ false
not_less n k enough = grind (arith, nat_tests)

pub reads : (s t : Segment) (rest : List ℕ) → Fits s → Fits t → Reads (file_header_bytes ++ (program_header_bytes s ++ (program_header_bytes t ++ rest))) s t
reads s t rest fits_s fits_t =
    let behind : List ℕ = program_header_bytes s ++ (program_header_bytes t ++ rest) in
    let size : length (file_header_bytes ++ behind) ≡ 64 + (56 + (56 + length rest)) =
    omega (arith, length-append file_header_bytes behind, length-append (program_header_bytes s) (program_header_bytes t ++ rest), length-append (program_header_bytes t) rest, length-header s, length-header t, length-file_header) in
    let two = two_entries (file_header_bytes ++ behind) behind (program_header_bytes t ++ rest) (first_entry s t (program_header_bytes t ++ rest)) (second_entry s t (program_header_bytes t ++ rest)) in
    record {
      wide = omega arith;
      header = elf_header behind;
      entries = two ∙ both (program_header behind) (header_of s) (program_header (program_header_bytes t ++ rest)) (header_of t) (read_back s (program_header_bytes t ++ rest) fits_s) (read_back t rest fits_t);
      identity = identified behind (not_less (length (file_header_bytes ++ behind)) 64 (omega arith));
    }
  where
    both : (a b g h : ProgramHeader) → a ≡ b → g ≡ h → ◌≡◌ {A = List ProgramHeader} (a ∷ g ∷ []) (b ∷ h ∷ [])
    both a b g h e f = rw (e, f) refl
