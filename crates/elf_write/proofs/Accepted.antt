-- The rules hold of a file with the headers of two segments in their places.
use Rattle.std.proofs.Common.{◌≡◌, ℕ, ◌+◌, ◌*◌, ◌/◌, ◌%◌, ◌<◌, ◌≤◌, ◌++◌, Bool, true, false, not, cond, nat_lt, List, [], ◌∷◌, length, arith, refl, ap, ◌∙◌, ◌-◌, add-zero, sym, subst, append_assoc}
use Rattle.std.specs.Prelude.{Option, None, Some, position, map, if◌then◌else◌, ◌==◌}
use Rattle.std.specs.Int.{div_ceil}
use Rattle.std.specs.List.{list_any}
use Rattle.std.specs.Option.{option_or}
use Rattle.std.proofs.lemmas.Bool.Decides.{nat_tests}
use Rattle.std.proofs.lemmas.List.{take_at}
use Rattle.elf_read.specs.Headers.{file_header, entries_of, program_headers}
use Rattle.elf_read.specs.Rules.{first_broken, first_broken_identity, first_broken_header, broken_at, is_bad_table, is_segment, is_missized, is_outside, is_misplaced, is_interpreter, first_page, end_page, first_disorder, displacement}
use Rattle.elf_read.specs.Plans.{segment_of, segments_of, plan_of, planned, holds, address_in}
use Rattle.elf_read.specs.declared.fault.ElfFault.{ElfFault}
use Rattle.elf_read.specs.declared.fault.ElfFault.TheVariants.{Table, NoLoad, Sizes, Outside, Order, Place, Interp}
use Rattle.elf_read.specs.declared.headers.FileHeader.{FileHeader}
use Rattle.elf_read.specs.declared.headers.ProgramHeader.{ProgramHeader}
use Rattle.elf_read.specs.declared.plan.Segment.{Segment}
use Rattle.elf_write.specs.Layout.{file_header_bytes, program_header_bytes, code_segment, data_segment, data_offset, padded, zeros, headers, segments, written, pages}
use Rattle.elf_write.proofs.Written.{Reads, Fits, header_of, not_less, reads, length-written, pages_few, pages_enough}

-- what the rules ask of a segment in a file of `size` bytes
pub record IsLawful (size : ℕ) (s : Segment) : Type 0 where
  pub sized : s.file ≤ s.memory
  pub congruent : s.offset % 4096 ≡ s.at % 4096
  pub in_file : s.offset + s.file ≤ size
  pub above : 0x10000 ≤ s.at
  pub below : s.at + s.memory ≤ 0x3F_0000_0000

not_missized : (size : ℕ) (s : Segment) → IsLawful size s → is_missized (header_of s) ≡ false
not_missized size s law = let sized = law.sized in let congruent = law.congruent in grind (arith, nat_tests)

not_outside : (size : ℕ) (s : Segment) → IsLawful size s → is_outside size (header_of s) ≡ false
not_outside size s law = let inside = law.in_file in grind (arith, nat_tests)

not_misplaced : (size : ℕ) (s : Segment) → IsLawful size s → is_misplaced 0 (header_of s) ≡ false
not_misplaced size s law = let above = law.above in let below = law.below in grind (arith, nat_tests)

pair_none : (p : ProgramHeader → Bool) (a b : ProgramHeader) → p a ≡ false → p b ≡ false → position p (a ∷ b ∷ []) ≡ None
pair_none p a b first second = rw (first, second) refl

order_case : (a b x y z : Bool) → x ≡ false → y ≡ false → z ≡ false → ◌≡◌ {A = Option ℕ} (if not a then (if not b then None else if x then Some 1 else None) else if y then Some 0 else (if not b then None else if z then Some 1 else None)) None
order_case true true x y z no_x no_y no_z = rw (no_y, no_z) refl
order_case true false x y z no_x no_y no_z = rw no_y refl
order_case false true x y z no_x no_y no_z = rw no_x refl
order_case false false x y z no_x no_y no_z = refl

in_order : (h g : ProgramHeader) → end_page h ≤ first_page g → first_disorder (h ∷ g ∷ []) ≡ None
in_order h g ordered =
    order_case (is_segment h) (is_segment g) (nat_lt (first_page g) 0) (nat_lt (first_page h) 0) (nat_lt (first_page g) (end_page h))
    (not_less (first_page g) 0 (omega arith)) (not_less (first_page h) 0 (omega arith)) (not_less (first_page g) (end_page h) ordered)

broken_none : (first : Option ℕ) (fault : ℕ → ElfFault) (next : Option ElfFault) → first ≡ None → next ≡ None → broken_at first fault next ≡ None
broken_none first fault next none rest = rw (none, rest) refl

headers_kept : (size : ℕ) (s t : Segment) → IsLawful size s → IsLawful size t → div_ceil (s.at + s.memory) 4096 ≤ t.at / 4096 → first_broken_header size 0 (header_of s ∷ header_of t ∷ []) ≡ None
headers_kept size s t law_s law_t ordered =
    let h : ProgramHeader = header_of s in
    let g : ProgramHeader = header_of t in
    broken_none (position is_missized (h ∷ g ∷ [])) Sizes _ (pair_none is_missized h g (not_missized size s law_s) (not_missized size t law_t)) (
    broken_none (position (is_outside size) (h ∷ g ∷ [])) Outside _ (pair_none (is_outside size) h g (not_outside size s law_s) (not_outside size t law_t)) (
    broken_none (first_disorder (h ∷ g ∷ [])) Order _ (in_order h g ordered) (
    broken_none (position (is_misplaced 0) (h ∷ g ∷ [])) Place _ (pair_none (is_misplaced 0) h g (not_misplaced size s law_s) (not_misplaced size t law_t)) (
    broken_none (position is_interpreter (h ∷ g ∷ [])) Interp None (pair_none is_interpreter h g refl refl) refl))))

-- ---- the whole file

abbrev faults : Option ElfFault → Bool → List ProgramHeader → Option ElfFault → Option ElfFault
faults identity bad headers rest =
    option_or identity (option_or (if bad then Some Table else if not (list_any is_segment headers) then Some NoLoad else None) rest)

no_faults : (identity : Option ElfFault) (bad : Bool) (headers : List ProgramHeader) (rest : Option ElfFault) → identity ≡ None → bad ≡ false → list_any is_segment headers ≡ true → rest ≡ None → faults identity bad headers rest ≡ None
no_faults identity bad headers rest none good some kept = rw (none, good, some, kept) refl

is_one : (s : Segment) → 0 < s.memory → is_segment (header_of s) ≡ true
is_one s some = grind (arith, nat_tests)

first_is_segment : (h g : ProgramHeader) → is_segment h ≡ true → list_any is_segment (h ∷ g ∷ []) ≡ true
first_is_segment h g segment = rw segment refl

pub accepted_file : (file : List ℕ) (s t : Segment) → Reads file s t → IsLawful (length file) s → IsLawful (length file) t → 0 < s.memory → div_ceil (s.at + s.memory) 4096 ≤ t.at / 4096 → first_broken file ≡ None
accepted_file file s t reads law_s law_t some ordered =
    let headers : List ProgramHeader = header_of s ∷ header_of t ∷ [] in
    let entries : entries_of (file_header file) file ≡ headers = ap (λ (h : FileHeader). entries_of h file) reads.header ∙ reads.entries in
    let moved : displacement (file_header file) ≡ 0 = ap displacement reads.header in
    let bad : is_bad_table (file_header file) (length file) ≡ false = ap (λ (h : FileHeader). is_bad_table h (length file)) reads.header ∙ not_less (length file) 176 reads.wide in
    no_faults (first_broken_identity file) (is_bad_table (file_header file) (length file)) (entries_of (file_header file) file) (first_broken_header (length file) (displacement (file_header file)) (entries_of (file_header file) file)) reads.identity bad
    (ap (λ (hs : List ProgramHeader). list_any is_segment hs) entries ∙ first_is_segment (header_of s) (header_of t) (is_one s some))
    (ap (λ (hs : List ProgramHeader). first_broken_header (length file) (displacement (file_header file)) hs) entries ∙ (ap (λ (m : ℕ). first_broken_header (length file) m headers) moved ∙ headers_kept (length file) s t law_s law_t ordered))

-- ---- its plan

pub entry_of_file : (file : List ℕ) (s t : Segment) → Reads file s t → (plan_of file).entry ≡ 0x10000
entry_of_file file s t reads = ap (λ (h : FileHeader). (h.e_entry + displacement h) % 18446744073709551616) reads.header

same_segment : (s : Segment) → segment_of 0 (header_of s) ≡ s
same_segment s = rw add-zero refl

picked : (s t : Segment) (y z : Bool) → y ≡ false → map (segment_of 0) (cond (not y) (header_of s ∷ cond (not z) (header_of t ∷ []) []) (cond (not z) (header_of t ∷ []) [])) ≡ s ∷ (if z then [] else t ∷ [])
picked s t true z none = cc
picked s t false true none = ap (λ (x : Segment). x ∷ []) (same_segment s)
picked s t false false none = ap (λ (x : Segment). x ∷ segment_of 0 (header_of t) ∷ []) (same_segment s) ∙ ap (λ (x : Segment). s ∷ x ∷ []) (same_segment t)

not_zero : (n : ℕ) → 0 < n → (n == 0) ≡ false
not_zero n some = grind (arith, nat_tests)

-- the segments that the loader reads
all_of_file : (file : List ℕ) (s t : Segment) → Reads file s t → 0 < s.memory → segments_of (displacement (file_header file)) (program_headers file) ≡ s ∷ (if t.memory == 0 then [] else t ∷ [])
all_of_file file s t reads some =
    let headers : segments_of (displacement (file_header file)) (program_headers file) ≡ segments_of (displacement (file_header file)) (header_of s ∷ header_of t ∷ []) = ap (λ (h : FileHeader). segments_of (displacement (file_header file)) (entries_of h file)) reads.header ∙ ap (λ (hs : List ProgramHeader). segments_of (displacement (file_header file)) hs) reads.entries in
    let moved : segments_of (displacement (file_header file)) (header_of s ∷ header_of t ∷ []) ≡ segments_of 0 (header_of s ∷ header_of t ∷ []) = ap (λ (h : FileHeader). segments_of (displacement h) (header_of s ∷ header_of t ∷ [])) reads.header in
    headers ∙ (moved ∙ picked s t (s.memory == 0) (t.memory == 0) (not_zero s.memory some))

pub segments_of_file : (file : List ℕ) (s t : Segment) → Reads file s t → 0 < s.memory → planned (plan_of file) ≡ s ∷ (if t.memory == 0 then [] else t ∷ [])
segments_of_file file s t reads some =
    let all : planned (plan_of file) ≡ segments_of (displacement (file_header file)) (program_headers file) = take_at _ _ _ refl in
    all ∙ all_of_file file s t reads some

-- the table lies before the parts of both segments
not_held : (s : Segment) → 64 < s.offset → holds 64 112 s ≡ false
not_held s behind = grind (arith, nat_tests)

in_none : (s t : Segment) (z : Bool) → holds 64 112 s ≡ false → holds 64 112 t ≡ false → address_in 64 112 (s ∷ (if z then [] else t ∷ [])) ≡ 0
in_none s t true first second = rw first refl
in_none s t false first second = rw (first, second) refl

pub table_of_file : (file : List ℕ) (s t : Segment) → Reads file s t → 0 < s.memory → 64 < s.offset → 64 < t.offset → (plan_of file).phdr ≡ 0
table_of_file file s t reads some behind_s behind_t =
    let all : List Segment = segments_of (displacement (file_header file)) (program_headers file) in
    ap (λ (h : FileHeader). address_in h.e_phoff (56 * h.e_phnum) all) reads.header
    ∙ (ap (λ (ss : List Segment). address_in 64 112 ss) (all_of_file file s t reads some)
    ∙ in_none s t (t.memory == 0) (not_held s behind_s) (not_held t behind_t))

pub count_of_file : (file : List ℕ) (s t : Segment) → Reads file s t → (plan_of file).phnum ≡ 2
count_of_file file s t reads = ap (λ (h : FileHeader). h.e_phnum) reads.header

-- ---- a written file

reads_written : (code init : List ℕ) (bss : ℕ) → length code + length init + bss ≤ 8388608 → Reads (written code init bss) (code_segment (length code)) (data_segment (length code) (length init) bss)
reads_written code init bss few =
    let s : Segment = code_segment (length code) in
    let t : Segment = data_segment (length code) (length init) bss in
    let before : List ℕ = headers (length code) (length init) bss in
    let filling : List ℕ = zeros (4096 - length before) in
    let more : List ℕ = zeros (data_offset (length code) - length (padded 4096 before ++ code)) in
    let rest : List ℕ = filling ++ (code ++ (more ++ init)) in
    let whole : written code init bss ≡ file_header_bytes ++ (program_header_bytes s ++ (program_header_bytes t ++ rest)) = simp append_assoc in
    let P : List ℕ → Type 0 = λ (f : List ℕ). Reads f s t in
    let bound : pages (length code) ≤ length code + 4095 = pages_few (length code) in
    let fits_s : Fits s = record { flags = omega arith; offset = omega arith; at = omega arith; file = omega arith; memory = omega arith } in
    let fits_t : Fits t = record { flags = omega arith; offset = omega arith; at = omega arith; file = omega arith; memory = omega arith } in
    subst P (sym whole) (reads s t rest fits_s fits_t)

lawful_code : (n size : ℕ) → n ≤ 8388608 → 4096 + n ≤ size → IsLawful size (code_segment n)
lawful_code n size few wide = record { sized = omega arith; congruent = refl; in_file = wide; above = omega arith; below = omega arith }

aligned : (k a b : ℕ) → (a * 4096 + k * 4096) % 4096 ≡ (b * 4096 + k * 4096) % 4096
aligned k a b = omega arith

lawful_data : (n i b size : ℕ) → n + i + b ≤ 8388608 → data_offset n + i ≤ size → IsLawful size (data_segment n i b)
lawful_data n i b size few wide =
    let bound : pages n ≤ n + 4095 = pages_few n in
    record { sized = omega arith; congruent = aligned (div_ceil n 4096) 1 16; in_file = wide; above = omega arith; below = omega arith }

apart : (n : ℕ) → div_ceil (0x10000 + n) 4096 ≤ (0x10000 + pages n) / 4096
apart n = omega arith

pub written_accepted : (code init : List ℕ) (bss : ℕ) → 0 < length code → length code + length init + bss ≤ 8388608 → first_broken (written code init bss) ≡ None
written_accepted code init bss some few =
    let size : length (written code init bss) ≡ data_offset (length code) + length init = length-written code init bss in
    let enough : length code ≤ pages (length code) = pages_enough (length code) in
    accepted_file (written code init bss) (code_segment (length code)) (data_segment (length code) (length init) bss) (reads_written code init bss few)
    (lawful_code (length code) (length (written code init bss)) (omega arith) (omega arith))
    (lawful_data (length code) (length init) bss (length (written code init bss)) few (omega arith))
    some (apart (length code))

pub written_entry : (code init : List ℕ) (bss : ℕ) → length code + length init + bss ≤ 8388608 → (plan_of (written code init bss)).entry ≡ 0x10000
written_entry code init bss few = entry_of_file (written code init bss) _ _ (reads_written code init bss few)

pub written_segments : (code init : List ℕ) (bss : ℕ) → 0 < length code → length code + length init + bss ≤ 8388608 → planned (plan_of (written code init bss)) ≡ segments (length code) (length init) bss
written_segments code init bss some few = segments_of_file (written code init bss) (code_segment (length code)) (data_segment (length code) (length init) bss) (reads_written code init bss few) some

pub written_table : (code init : List ℕ) (bss : ℕ) → 0 < length code → length code + length init + bss ≤ 8388608 → (plan_of (written code init bss)).phdr ≡ 0
written_table code init bss some few = table_of_file (written code init bss) (code_segment (length code)) (data_segment (length code) (length init) bss) (reads_written code init bss few) some (omega arith) (omega arith)

pub written_count : (code init : List ℕ) (bss : ℕ) → length code + length init + bss ≤ 8388608 → (plan_of (written code init bss)).phnum ≡ 2
written_count code init bss few = count_of_file (written code init bss) _ _ (reads_written code init bss few)
