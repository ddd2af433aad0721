-- What stands at each address, segment by segment.
use Rattle.std.specs.FinMap as map
use Rattle.std.proofs.Common.{◌≡◌, ◌≢◌, ◌⊎◌, inl, inr, ℕ, ◌+◌, ◌-◌, ◌/◌, ◌%◌, ◌≤◌, ◌<◌, zero, suc, false, List, [], ◌∷◌, length, take, drop, get_or, replicate, refl, ap, subst, ◌∙◌, arith, Some, is_some}
use Rattle.std.specs.Prelude.{All}
use Rattle.std.specs.Option.{option_map_or}
use Rattle.std.proofs.lemmas.List.{length-take, length-drop, get_or-take, get_or-drop}
use Rattle.std.proofs.lemmas.List.Elements.{All-nil, All-cons, All-head, All-tail}
use Rattle.rv_mem.specs.declared.rights.Rights.{Rights}
use Rattle.rv_mem.specs.Page.{fresh_page, zero_bytes, grants, page_written}
use Rattle.rv_mem.specs.Pages.{Pages, with_page, written, mapped, IsWhole}
use Rattle.rv_mem.proofs.pr_base.MapLemmas.{get-changed_other}
use Rattle.rv_mem.proofs.ChangeLemmas.{get-mapped_in, get-mapped_out}
use Rattle.rv_mem.proofs.SpaceLemmas.{IsWhole-mapped, IsWhole-written, IsWhole-empty}
use Rattle.rv_mem.proofs.AddressLemmas.{allows-written, byte_at-written_in, byte_at-written_other}
use Rattle.elf_read.specs.Plans.{IsSound, IsInOrder}
use Rattle.elf_read.specs.declared.plan.Segment.{Segment}
use Rattle.elf_load.specs.Image.{with_segment, with_segments, with_stack, end_page, first_page, file_bytes, rights_in, stack_rights}
use Rattle.elf_load.specs.Placed.{HoldsSegment, HoldsBytes}

-- ---- pages that a change leaves alone

get-written_out : (m : Pages) (at : ℕ) (bs : List ℕ) (q : ℕ) → ((k : ℕ) → k < length bs → q ≢ (at + k) / 4096) → map.get (written m at bs) q ≡ map.get m q
unfolding written
get-written_out m at [] q apart = refl
get-written_out m at (b ∷ bs) q apart =
    let here : q ≢ at / 4096 = λ e. apart 0 (omega arith) (omega arith) in
    get-written_out (with_page m (at / 4096) (page_written (at % 4096) (b ∷ []))) (at + 1) bs q (λ k l e. apart (k + 1) (omega arith) (omega arith))
    ∙ get-changed_other m (at / 4096) (page_written (at % 4096) (b ∷ [])) q here

length-file_bytes : (file : List ℕ) (s : Segment) → length (file_bytes file s) ≤ s.file
length-file_bytes file s = omega (arith, length-take s.file (drop s.offset file))

-- a page that isn't one of the segment's
pub get-with_segment_out : (file : List ℕ) (size : ℕ) (m : Pages) (s : Segment) (q : ℕ) → IsSound size s → (q < first_page s) ⊎ (end_page s ≤ q) → map.get (with_segment file m s) q ≡ map.get m q
unfolding with_segment
get-with_segment_out file size m s q sound apart =
    get-written_out (mapped m (first_page s) (end_page s - first_page s) (rights_in s.flags)) s.at (file_bytes file s) q (λ k l e. by_side k l e apart)
    ∙ get-mapped_out m (first_page s) (end_page s - first_page s) (rights_in s.flags) q (λ k l e. by_page k l e apart)
  where
    by_side : (k : ℕ) → k < length (file_bytes file s) → q ≡ (s.at + k) / 4096 → (q < first_page s) ⊎ (end_page s ≤ q) → ⊥
    by_side k l e (inl below) = omega arith
    by_side k l e (inr above) = omega (arith, length-file_bytes file s, sound.sized)

    by_page : (k : ℕ) → k < end_page s - first_page s → q ≡ first_page s + k → (q < first_page s) ⊎ (end_page s ≤ q) → ⊥
    by_page k l e (inl below) = omega arith
    by_page k l e (inr above) = omega arith

-- a page below those of all segments
get-with_segments_out : (file : List ℕ) (size : ℕ) (m : Pages) (segments : List Segment) (end q : ℕ) → All (IsSound size) segments → IsInOrder end segments → q < end → map.get (with_segments file m segments) q ≡ map.get m q
unfolding with_segments
get-with_segments_out file size m [] end q sound ordered below = refl
get-with_segments_out file size m (s ∷ segments) end q sound ordered below =
    let here = All-head (IsSound size) s segments sound in
    let next : q < end_page s = omega (arith, ordered.0, here.in_memory) in
    get-with_segments_out file size (with_segment file m s) segments (end_page s) q (All-tail (IsSound size) s segments sound) ordered.1 next
    ∙ get-with_segment_out file size m s q here (inl (omega (arith, ordered.0)))

-- ---- one segment

zero_byte : (n k : ℕ) → get_or {A = ℕ} (replicate {A = ℕ} n 0) k 0 ≡ 0
zero_byte zero k = refl
zero_byte (suc n) zero = refl
zero_byte (suc n) (suc k) = zero_byte n k

fresh_byte : (k : ℕ) → get_or {A = ℕ} zero_bytes k 0 ≡ 0
unfolding zero_bytes
fresh_byte k = zero_byte 4096 k

get_or-part : (xs : List ℕ) (from n k : ℕ) → k < n → get_or (take n (drop from xs)) k 0 ≡ get_or xs (from + k) 0
get_or-part xs from n k l = get_or-take n (drop from xs) k 0 l ∙ get_or-drop from xs k 0

mapped_page : (m : Pages) (first n : ℕ) (rights : Rights) (q : ℕ) → first ≤ q → q < first + n → map.get (mapped m first n rights) q ≡ Some (fresh_page rights)
mapped_page m first n rights q low high =
    let is : first + (q - first) ≡ q = omega arith in
    subst (λ p. map.get (mapped m first n rights) p ≡ Some (fresh_page rights)) is (get-mapped_in m first n rights (q - first) (omega arith))

holds_here : (file : List ℕ) (m : Pages) (s : Segment) → IsWhole m → IsSound (length file) s → HoldsSegment file (with_segment file m s) s
unfolding with_segment
holds_here file m s whole sound =
    let first : ℕ = first_page s in
    let n : ℕ = end_page s - first_page s in
    let pages = mapped m first n (rights_in s.flags) in
    let there = λ (q : ℕ) (low : first ≤ q) (high : q < end_page s). mapped_page m first n (rights_in s.flags) q low (omega arith) in
    let size : length (file_bytes file s) ≡ s.file = omega (arith, length-take s.file (drop s.offset file), length-drop s.offset file, sound.in_file) in
    record {
      bytes = λ k l.
          byte_at-written_in pages s.at (file_bytes file s) k (IsWhole-mapped m first n (rights_in s.flags) whole) (omega arith)
          (ap is_some (there ((s.at + k) / 4096) (omega arith) (omega (arith, sound.sized))))
          ∙ get_or-part file s.offset s.file k l;
      zeros = λ a low high apart.
          byte_at-written_other pages s.at (file_bytes file s) a (λ k l e. beside k a (omega arith) e apart)
          ∙ ap (λ o. option_map_or (λ p. get_or p.bytes (a % 4096) 0) o 0) (there (a / 4096) low high)
          ∙ fresh_byte (a % 4096);
      rights = λ a what low high.
          allows-written pages s.at (file_bytes file s) a what
          ∙ ap (λ o. option_map_or (λ p. grants p.rights what) o false) (there (a / 4096) low high);
    }
  where
    beside : (k a : ℕ) → k < s.file → a ≡ s.at + k → (a < s.at) ⊎ (s.at + s.file ≤ a) → ⊥
    beside k a l e (inl below) = omega arith
    beside k a l e (inr above) = omega arith

-- what changes other pages leaves it
holds_kept : (file : List ℕ) (m m' : Pages) (s : Segment) → IsSound (length file) s → ((q : ℕ) → first_page s ≤ q → q < end_page s → map.get m' q ≡ map.get m q) → HoldsSegment file m s → HoldsSegment file m' s
holds_kept file m m' s sound same holds =
    record {
      bytes = λ k l.
          ap (λ o. option_map_or (λ p. get_or p.bytes ((s.at + k) % 4096) 0) o 0) (same ((s.at + k) / 4096) (omega arith) (omega (arith, sound.sized)))
          ∙ holds.bytes k l;
      zeros = λ a low high apart. ap (λ o. option_map_or (λ p. get_or p.bytes (a % 4096) 0) o 0) (same (a / 4096) low high) ∙ holds.zeros a low high apart;
      rights = λ a what low high. ap (λ o. option_map_or (λ p. grants p.rights what) o false) (same (a / 4096) low high) ∙ holds.rights a what low high;
    }

IsWhole-with_segment : (file : List ℕ) (m : Pages) (s : Segment) → IsWhole m → IsWhole (with_segment file m s)
unfolding with_segment
IsWhole-with_segment file m s whole =
    IsWhole-written (mapped m (first_page s) (end_page s - first_page s) (rights_in s.flags)) s.at (file_bytes file s)
    (IsWhole-mapped m (first_page s) (end_page s - first_page s) (rights_in s.flags) whole)

-- ---- all of them

hold_all : (file : List ℕ) (m : Pages) (segments : List Segment) (end : ℕ) → IsWhole m → All (IsSound (length file)) segments → IsInOrder end segments
    → All (HoldsSegment file (with_segments file m segments)) segments
unfolding with_segments
hold_all file m [] end whole sound ordered = All-nil (HoldsSegment file m)
hold_all file m (s ∷ segments) end whole sound ordered =
    let here = All-head (IsSound (length file)) s segments sound in
    let others = All-tail (IsSound (length file)) s segments sound in
    let next = with_segment file m s in
    All-cons (HoldsSegment file (with_segments file next segments)) s segments
    (holds_kept file next (with_segments file next segments) s here
    (λ q low high. get-with_segments_out file (length file) next segments (end_page s) q others ordered.1 high)
    (holds_here file m s whole here))
    (hold_all file next segments (end_page s) (IsWhole-with_segment file m s whole) others ordered.1)

-- the stack lies above them
get-with_stack_out : (m : Pages) (sp : ℕ) (bytes : List ℕ) (q : ℕ) → 0x3F_FFEF_F000 ≤ sp → q < 67108607 → map.get (with_stack m sp bytes) q ≡ map.get m q
unfolding with_stack
get-with_stack_out m sp bytes q low below =
    get-written_out (mapped m 67108607 256 stack_rights) sp bytes q (λ k l e. omega arith)
    ∙ get-mapped_out m 67108607 256 stack_rights q (λ k l e. omega arith)

pub image_holds : (file : List ℕ) (segments : List Segment) (sp : ℕ) (bytes : List ℕ) → All (IsSound (length file)) segments → IsInOrder 0 segments → 0x3F_FFEF_F000 ≤ sp
    → All (HoldsSegment file (with_stack (with_segments file map.empty segments) sp bytes)) segments
image_holds file segments sp bytes sound ordered low = λ k d within.
    let s : Segment = get_or segments k d in
    let here = sound k d within in
    holds_kept file (with_segments file map.empty segments) (with_stack (with_segments file map.empty segments) sp bytes) s here
    (λ q first end. get-with_stack_out (with_segments file map.empty segments) sp bytes q low (omega (arith, here.below)))
    (hold_all file map.empty segments 0 IsWhole-empty sound ordered k d within)

IsWhole-with_segments : (file : List ℕ) (m : Pages) (segments : List Segment) → IsWhole m → IsWhole (with_segments file m segments)
unfolding with_segments
IsWhole-with_segments file m [] whole = whole
IsWhole-with_segments file m (s ∷ segments) whole = IsWhole-with_segments file (with_segment file m s) segments (IsWhole-with_segment file m s whole)

pub stack_holds : (file : List ℕ) (segments : List Segment) (sp : ℕ) (bytes : List ℕ) → 0x3F_FFEF_F000 ≤ sp → sp + length bytes ≤ 0x3F_FFFF_F000
    → HoldsBytes (with_stack (with_segments file map.empty segments) sp bytes) sp bytes
unfolding with_stack
stack_holds file segments sp bytes low high = λ k within.
    let m = with_segments file map.empty segments in
    byte_at-written_in (mapped m 67108607 256 stack_rights) sp bytes k (IsWhole-mapped m 67108607 256 stack_rights (IsWhole-with_segments file map.empty segments IsWhole-empty)) within
    (ap is_some (mapped_page m 67108607 256 stack_rights ((sp + k) / 4096) (omega arith) (omega arith)))
