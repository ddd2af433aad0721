-- The segments among the first program headers, one header after the other.
use Rattle.std.proofs.Common.{◌≡◌, ℕ, ◌+◌, ◌<◌, ◌≤◌, true, false, not, List, [], ◌∷◌, ◌++◌, length, take, drop, set, get_or, arith, refl, append_assoc, length-append, drop-cons, add-one}
use Rattle.std.specs.Prelude.{filter}
use Rattle.std.proofs.lemmas.List.{length-map, map-append, append-nil}
use Rattle.std.proofs.lemmas.List.Elements.{filter_more}
use Rattle.std.proofs.lemmas.List.Filters.{length-filter_both}
use Rattle.std.proofs.Math.Seq.{set-append_seam}
use Rattle.elf_read.specs.Rules.{is_segment}
use Rattle.elf_read.specs.Plans.{segment_of, segments_of}
use Rattle.elf_read.specs.declared.headers.ProgramHeader.{ProgramHeader}
use Rattle.elf_read.specs.declared.plan.Segment.{Segment}

pub segments_of-more : (moved : ℕ) (headers : List ProgramHeader) (i : ℕ) (d : ProgramHeader) → i < length headers → is_segment (get_or headers i d) ≡ true → segments_of moved (take (i + 1) headers) ≡ segments_of moved (take i headers) ++ segment_of moved (get_or headers i d) ∷ []
segments_of-more moved headers i d within segment =
    rw (filter_more is_segment headers i d within, segment) (map-append (segment_of moved) (filter is_segment (take i headers)) (get_or headers i d ∷ []))

pub segments_of-same : (moved : ℕ) (headers : List ProgramHeader) (i : ℕ) (d : ProgramHeader) → i < length headers → is_segment (get_or headers i d) ≡ false → segments_of moved (take (i + 1) headers) ≡ segments_of moved (take i headers)
segments_of-same moved headers i d within other =
    rw (filter_more is_segment headers i d within, other) (rw append-nil refl)

pub length-segments_of : (moved : ℕ) (headers : List ProgramHeader) → length (segments_of moved headers) ≤ length headers
length-segments_of moved headers =
    omega (arith, length-map (filter is_segment headers) (segment_of moved), length-filter_both is_segment (λ h. not (is_segment h)) (λ _. refl) headers)

-- a store right behind what is filled
pub filled_one_more : (done room : List Segment) (s : Segment) → length done < length room → set (done ++ drop (length done) room) (length done) s ≡ (done ++ s ∷ []) ++ drop (length (done ++ s ∷ [])) room
filled_one_more done room s free =
    let cut : drop (length done) room ≡ get_or room (length done) s ∷ drop (length done + 1) room = rw add-one (drop-cons room (length done) s free) in
    let longer : length (done ++ s ∷ []) ≡ length done + 1 = length-append done (s ∷ []) in
    rw (cut, set-append_seam, longer, append_assoc) refl
