-- What the rules give of the segments of an accepted file.
use Rattle.std.proofs.Common.{◌≡◌, ℕ, ◌+◌, ◌*◌, ◌/◌, ◌%◌, ◌<◌, ◌≤◌, Bool, true, false, cond, not, ◌==◌, if◌then◌else◌, List, [], ◌∷◌, length, get_or, nat_lt, arith, refl}
use Rattle.std.specs.Prelude.{Option, None, Some, All, map, filter, position}
use Rattle.std.specs.Int.{div_ceil}
use Rattle.std.specs.Option.{option_or}
use Rattle.std.proofs.lemmas.Bool.Decides.{nat_tests}
use Rattle.std.proofs.lemmas.List.{take_at}
use Rattle.elf_read.specs.Headers.{file_header, program_headers}
use Rattle.elf_read.specs.Rules.{et_dyn, is_segment, is_missized, is_outside, is_misplaced, first_page, end_page, disorder_from, first_disorder, broken_at, first_broken, first_broken_identity, first_broken_table, first_broken_header, displacement}
use Rattle.elf_read.specs.Plans.{segment_of, segments_of, IsSound, IsInOrder, plan_of, planned}
use Rattle.elf_read.specs.declared.headers.FileHeader.{FileHeader}
use Rattle.elf_read.specs.declared.headers.ProgramHeader.{ProgramHeader}
use Rattle.elf_read.specs.declared.fault.ElfFault.{ElfFault}
use Rattle.elf_read.specs.declared.plan.Segment.{Segment}
use Rattle.elf_read.proofs.Positions.{position-None}
use Rattle.elf_read.proofs.Soundness.{above_lowest, below_limit, file_in_memory, all_segments}

-- ---- what it means that no rule is broken

broken_at-None : (first : Option ℕ) (fault : ℕ → ElfFault) (next : Option ElfFault) → broken_at first fault next ≡ None → (first ≡ None) × (next ≡ None)
broken_at-None None fault next none = (refl, none)
broken_at-None (Some k) fault next none = cc

option_or-None : (first next : Option ElfFault) → option_or first next ≡ None → (first ≡ None) × (next ≡ None)
option_or-None None next none = (refl, none)
option_or-None (Some fault) next none = cc

-- no rule on program headers is broken
record AllKept (size moved : ℕ) (headers : List ProgramHeader) : Type 0 where
  sized : position is_missized headers ≡ None
  inside : position (is_outside size) headers ≡ None
  in_order : first_disorder headers ≡ None
  placed : position (is_misplaced moved) headers ≡ None

all_kept : (size moved : ℕ) (headers : List ProgramHeader) → first_broken_header size moved headers ≡ None → AllKept size moved headers
all_kept size moved headers none =
    let a = broken_at-None _ _ _ none in
    let b = broken_at-None _ _ _ a.1 in
    let d = broken_at-None _ _ _ b.1 in
    let e = broken_at-None _ _ _ d.1 in
    record { sized = a.0; inside = b.0; in_order = d.0; placed = e.0 }

-- ---- each segment

in_memory : (h : ProgramHeader) → is_segment h ≡ true → 0 < h.p_memsz
in_memory h segment = grind (arith, nat_tests)

congruent : (h : ProgramHeader) → is_segment h ≡ true → is_missized h ≡ false → h.p_offset % 4096 ≡ h.p_vaddr % 4096
congruent h segment fits = grind (arith, nat_tests)

in_file : (size : ℕ) (h : ProgramHeader) → is_segment h ≡ true → is_outside size h ≡ false → h.p_offset + h.p_filesz ≤ size
in_file size h segment inside = grind (arith, nat_tests)

moved_congruent : (a q : ℕ) → (a + q * 4096) % 4096 ≡ a % 4096
moved_congruent a q = omega arith

moved_page : (a q : ℕ) → (a + q * 4096) / 4096 ≡ a / 4096 + q
moved_page a q = omega arith

moved_end : (a q : ℕ) → div_ceil (a + q * 4096) 4096 ≡ div_ceil a 4096 + q
moved_end a q = rw (moved_congruent, moved_page) (omega arith)

-- how many pages the addresses of a file are moved
pages_moved : (header : FileHeader) → (q : ℕ) × (displacement header ≡ q * 4096)
pages_moved header = elim (header.e_type == et_dyn) as (λ b. (q : ℕ) × ((if b then 0x10_0000_0000 else 0) ≡ q * 4096)) [ true ↦ (16777216, refl) | false ↦ (0, refl) ]

sound_segments : (size q : ℕ) (headers : List ProgramHeader) → AllKept size (q * 4096) headers → All (IsSound size) (segments_of (q * 4096) headers)
sound_segments size q headers kept =
    all_segments (IsSound size) (q * 4096) headers (λ k d within segment.
    let h : ProgramHeader = get_or headers k d in
    let sized : is_missized h ≡ false = position-None is_missized headers kept.sized k d within in
    let inside : is_outside size h ≡ false = position-None (is_outside size) headers kept.inside k d within in
    let placed : is_misplaced (q * 4096) h ≡ false = position-None (is_misplaced (q * 4096)) headers kept.placed k d within in
    record {
      above = above_lowest (q * 4096) h segment placed;
      below = below_limit (q * 4096) h segment placed;
      in_memory = in_memory h segment;
      sized = file_in_memory h segment sized;
      congruent = rw (moved_congruent h.p_vaddr q) (congruent h segment sized);
      in_file = in_file size h segment inside;
    })

-- ---- their order

ordered_case : (q k end : ℕ) (h : ProgramHeader) (headers : List ProgramHeader) (segment below : Bool) → nat_lt (first_page h) end ≡ below → (if not segment then disorder_from (k + 1) end headers else if below then Some k else disorder_from (k + 1) (end_page h) headers) ≡ None → (disorder_from (k + 1) end headers ≡ None → IsInOrder (end + q) (segments_of (q * 4096) headers)) → (disorder_from (k + 1) (end_page h) headers ≡ None → IsInOrder (end_page h + q) (segments_of (q * 4096) headers)) → IsInOrder (end + q) (map (segment_of (q * 4096)) (cond segment (h ∷ filter is_segment headers) (filter is_segment headers)))
ordered_case q k end h headers false below test none same next = same none
ordered_case q k end h headers true true test none same next = cc
ordered_case q k end h headers true false test none same next =
    let begins : end ≤ h.p_vaddr / 4096 = grind (arith, nat_tests) in
    let sum : h.p_vaddr + q * 4096 + h.p_memsz ≡ h.p_vaddr + h.p_memsz + q * 4096 = omega arith in
    let ends : div_ceil (h.p_vaddr + q * 4096 + h.p_memsz) 4096 ≡ end_page h + q = rw sum (moved_end (h.p_vaddr + h.p_memsz) q) in
    (rw (moved_page h.p_vaddr q) (omega arith), rw ends (next none))

ordered_segments : (q k end : ℕ) (headers : List ProgramHeader) → disorder_from k end headers ≡ None → IsInOrder (end + q) (segments_of (q * 4096) headers)
ordered_segments q k end [] none = tt
ordered_segments q k end (h ∷ headers) none =
    ordered_case q k end h headers (is_segment h) (nat_lt (first_page h) end) refl none (ordered_segments q (k + 1) end headers) (ordered_segments q (k + 1) (end_page h) headers)

from_the_first_page : (end : ℕ) (segments : List Segment) → IsInOrder end segments → IsInOrder 0 segments
from_the_first_page end [] ordered = tt
from_the_first_page end (s ∷ segments) ordered = (omega arith, ordered.1)

-- ---- of a whole file

planned_all : (file : List ℕ) → planned (plan_of file) ≡ segments_of (displacement (file_header file)) (program_headers file)
planned_all file = take_at _ _ _ refl

kept_of : (file : List ℕ) → first_broken file ≡ None → AllKept (length file) (displacement (file_header file)) (program_headers file)
kept_of file none =
    let table = option_or-None (first_broken_identity file) _ none in
    let headers = option_or-None (first_broken_table (file_header file) file) _ table.1 in
    all_kept _ _ _ headers.1

pub planned_sound : (file : List ℕ) → first_broken file ≡ None → All (IsSound (length file)) (planned (plan_of file))
planned_sound file none =
    let moved = pages_moved (file_header file) in
    let kept = rw moved.1 at (kept_of file none) in
    rw (planned_all file, moved.1) (sound_segments (length file) moved.0 (program_headers file) kept)

pub planned_in_order : (file : List ℕ) → first_broken file ≡ None → IsInOrder 0 (planned (plan_of file))
planned_in_order file none =
    let moved = pages_moved (file_header file) in
    rw (planned_all file, moved.1) (from_the_first_page (0 + moved.0) _ (ordered_segments moved.0 0 0 (program_headers file) (kept_of file none).in_order))
