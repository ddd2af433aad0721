-- What the rules give of a segment.
use Rattle.std.proofs.Common.{◌≡◌, ℕ, ◌+◌, ◌<◌, ◌≤◌, Bool, true, false, cond, List, [], ◌∷◌, get_or, arith, refl}
use Rattle.std.specs.Prelude.{None, All, map, filter, position}
use Rattle.std.proofs.lemmas.List.Elements.{All-nil, All-cons, All-head, All-tail}
use Rattle.elf_read.proofs.Positions.{position-None}
use Rattle.elf_read.specs.Plans.{segment_of, segments_of}
use Rattle.elf_read.specs.declared.plan.Segment.{Segment}
use Rattle.std.proofs.lemmas.Bool.Decides.{nat_tests}
use Rattle.elf_read.specs.Rules.{is_segment, is_missized, is_misplaced, lowest_address, address_limit}
use Rattle.elf_read.specs.declared.headers.ProgramHeader.{ProgramHeader}

pub above_lowest : (moved : ℕ) (h : ProgramHeader) → is_segment h ≡ true → is_misplaced moved h ≡ false → lowest_address ≤ h.p_vaddr + moved
above_lowest moved h segment placed = grind (arith, nat_tests)

pub below_limit : (moved : ℕ) (h : ProgramHeader) → is_segment h ≡ true → is_misplaced moved h ≡ false → h.p_vaddr + moved + h.p_memsz ≤ address_limit
below_limit moved h segment placed = grind (arith, nat_tests)

pub file_in_memory : (h : ProgramHeader) → is_segment h ≡ true → is_missized h ≡ false → h.p_filesz ≤ h.p_memsz
file_in_memory h segment fits = grind (arith, nat_tests)

-- what holds of the segment of each header that is one holds of each segment
all_of_case : (P : Segment → Type 0) (moved : ℕ) (h : ProgramHeader) (headers : List ProgramHeader) (b : Bool) → is_segment h ≡ b → (is_segment h ≡ true → P (segment_of moved h)) → All P (segments_of moved headers) → All P (map (segment_of moved) (cond b (h ∷ filter is_segment headers) (filter is_segment headers)))
all_of_case P moved h headers true segment here others = All-cons P (segment_of moved h) (segments_of moved headers) (here segment) others
all_of_case P moved h headers false other here others = others

pub all_segments : (P : Segment → Type 0) (moved : ℕ) (headers : List ProgramHeader) → All (λ h. is_segment h ≡ true → P (segment_of moved h)) headers → All P (segments_of moved headers)
all_segments P moved [] each = All-nil P
all_segments P moved (h ∷ headers) each =
    let Q : ProgramHeader → Type 0 = λ (g : ProgramHeader). is_segment g ≡ true → P (segment_of moved g) in
    all_of_case P moved h headers (is_segment h) refl (All-head Q h headers each) (all_segments P moved headers (All-tail Q h headers each))

-- the end of a segment's part in the file lies below the limit, seen from its address
pub ends_in_range : (moved : ℕ) (headers : List ProgramHeader) → position is_missized headers ≡ None → position (is_misplaced moved) headers ≡ None → All (λ s. s.at + s.file < 18446744073709551616) (segments_of moved headers)
ends_in_range moved headers sized placed =
    all_segments (λ s. s.at + s.file < 18446744073709551616) moved headers
    (λ k d within segment.
    let h : ProgramHeader = get_or headers k d in
    let fits : h.p_filesz ≤ h.p_memsz = file_in_memory h segment (position-None is_missized headers sized k d within) in
    let inside : h.p_vaddr + moved + h.p_memsz ≤ address_limit = below_limit moved h segment (position-None (is_misplaced moved) headers placed k d within) in
    omega arith)
