-- The marks that words tell, word by word.
use Rattle.std.proofs.Common.{◌≡◌, ◌⊎◌, inl, inr, ℕ, zero, suc, ◌+◌, ◌-◌, ◌*◌, ◌/◌, ◌%◌, ◌^◌, ◌<◌, ◌≤◌, Bool, true, false, List, length, take, drop, replicate, get_or, min, max, refl, sym, ap, ◌∙◌, arith, cond, nat_eq, slice_index}
use Rattle.std.specs.Prelude.{slice_set}
use Rattle.std.specs.Int.{bit_at, bit_not, w64}
use Rattle.std.specs.Int.RustNames.{bit_and, bit_or}
use Rattle.std.specs.List.{list_any}
use Rattle.std.proofs.Math.Seq.{sets, length-sets}
use Rattle.std.proofs.lemmas.Bool.{cases_eq, cases_lt}
use Rattle.std.proofs.lemmas.List.{get_or-take, get_or-drop, get_or-set_same, get_or-set_other, length-set, length-take-le, length-drop, length-replicate}
use Rattle.std.proofs.lemmas.List.Folds.{list_any_none, list_any_at}
use Rattle.std.proofs.lemmas.List.FromFn.{fill_by_all, get_or-map-range_with_len, length-map-range_with_len}
use Rattle.std.proofs.lemmas.Nat.Bits.{bit_at-lt, bit_at-zero, bit_at_and, bit_at_or, bit_at_not, bit_at_ones, bit_at_ones_above, bit_at_mask_inside, bit_at_mask_below, ones_shl, ones_shr}
use Rattle.rv_mem.specs.declared.marks.Marks.{Marks}
use Rattle.rv_mem.specs.Marks.{no_marks, is_set, marks_in, marks_of}
use Rattle.rv_mem.proofs.PageLemmas.{sets-no_marks, list_any-no_marks}

-- ---- one word

min_one : (a b : ℕ) → a ≡ 1 → b ≡ 1 → min a b ≡ 1
min_one a b e f = omega (arith, e, f)

min_left : (a b : ℕ) → a ≡ 0 → min a b ≡ 0
min_left a b e = omega (arith, e)

min_right : (a b : ℕ) → b ≡ 0 → min a b ≡ 0
min_right a b e = omega (arith, e)

-- the bits of `(MAX << lowest) & (MAX >> (64 - end))`
abbrev pub mask_of : ℕ → ℕ → ℕ
mask_of lowest end = bit_and ((2 ^ 64 - 1) * 2 ^ lowest % 2 ^ 64) ((2 ^ 64 - 1) / 2 ^ (64 - end))

mask_bit : (lowest end k : ℕ) → lowest < 64 → 0 < end → end ≤ 64 → bit_at (mask_of lowest end) k ≡ min (bit_at (2 ^ 64 - 2 ^ lowest) k) (bit_at (2 ^ end - 1) k)
mask_bit lowest end k small some within =
    let back : 64 - (64 - end) ≡ end = omega (arith, within) in
    let low = ones_shl 64 lowest (omega (arith, small)) in
    let high = ones_shr 64 (64 - end) (omega arith) ∙ ap (λ n. 2 ^ n - 1) back in
    bit_at_and ((2 ^ 64 - 1) * 2 ^ lowest % 2 ^ 64) ((2 ^ 64 - 1) / 2 ^ (64 - end)) k ∙ (λ i. min (bit_at (low i) k) (bit_at (high i) k))

pub mask-inside : (lowest end k : ℕ) → lowest < 64 → 0 < end → end ≤ 64 → lowest ≤ k → k < end → bit_at (mask_of lowest end) k ≡ 1
mask-inside lowest end k small some within low high =
    mask_bit lowest end k small some within
    ∙ min_one (bit_at (2 ^ 64 - 2 ^ lowest) k) (bit_at (2 ^ end - 1) k) (bit_at_mask_inside lowest 64 k low (omega (arith, high, within))) (bit_at_ones end k high)

pub mask-below : (lowest end k : ℕ) → lowest < 64 → 0 < end → end ≤ 64 → k < lowest → bit_at (mask_of lowest end) k ≡ 0
mask-below lowest end k small some within low =
    mask_bit lowest end k small some within
    ∙ min_left (bit_at (2 ^ 64 - 2 ^ lowest) k) (bit_at (2 ^ end - 1) k) (bit_at_mask_below lowest 64 k low)

pub mask-above : (lowest end k : ℕ) → lowest < 64 → 0 < end → end ≤ 64 → end ≤ k → bit_at (mask_of lowest end) k ≡ 0
mask-above lowest end k small some within high =
    mask_bit lowest end k small some within
    ∙ min_right (bit_at (2 ^ 64 - 2 ^ lowest) k) (bit_at (2 ^ end - 1) k) (bit_at_ones_above end k high)

-- the bits of a word, set or cleared by a mask
pub set-inside : (word mask k : ℕ) → bit_at mask k ≡ 1 → nat_eq (bit_at (bit_or word mask) k) 1 ≡ true
set-inside word mask k e =
    ap (λ b. nat_eq b 1) (bit_at_or word mask k ∙ one (bit_at word k) (bit_at mask k) e (bit_at-lt word k))
  where
    one : (a b : ℕ) → b ≡ 1 → a < 2 → max a b ≡ 1
    one a b e h = omega (arith, e, h)

pub set-outside : (word mask k : ℕ) → bit_at mask k ≡ 0 → bit_at (bit_or word mask) k ≡ bit_at word k
set-outside word mask k e =
    bit_at_or word mask k ∙ same (bit_at word k) (bit_at mask k) e
  where
    same : (a b : ℕ) → b ≡ 0 → max a b ≡ a
    same a b e = omega (arith, e)

pub clear-inside : (word mask k : ℕ) → mask < 2 ^ 64 → k < 64 → bit_at mask k ≡ 1 → nat_eq (bit_at (bit_and word (bit_not w64 mask)) k) 1 ≡ false
clear-inside word mask k small within e =
    ap (λ b. nat_eq b 1) (bit_at_and word (bit_not w64 mask) k ∙ none (bit_at word k) (bit_at (bit_not w64 mask) k) (bit_at mask k) (bit_at_not w64 mask k small within) e)
  where
    none : (a b c : ℕ) → b ≡ 1 - c → c ≡ 1 → min a b ≡ 0
    none a b c e f = omega (arith, e, f)

pub clear-outside : (word mask k : ℕ) → mask < 2 ^ 64 → k < 64 → bit_at mask k ≡ 0 → bit_at (bit_and word (bit_not w64 mask)) k ≡ bit_at word k
clear-outside word mask k small within e =
    bit_at_and word (bit_not w64 mask) k ∙ same (bit_at word k) (bit_at (bit_not w64 mask) k) (bit_at mask k) (bit_at_not w64 mask k small within) e (bit_at-lt word k)
  where
    same : (a b c : ℕ) → b ≡ 1 - c → c ≡ 0 → a < 2 → min a b ≡ a
    same a b c e f h = omega (arith, e, f, h)

-- ---- a word in the place of another one

pub set-here : (words : List ℕ) (at w i : ℕ) → at < length words → i / 64 ≡ at → is_set (slice_set words at w) i ≡ nat_eq (bit_at w (i % 64)) 1
set-here words at w i within e =
    ap (λ n. nat_eq (bit_at n (i % 64)) 1) (ap (λ q. slice_index (slice_set words at w) q) e ∙ get_or-set_same words at w 0 within)

pub set-there : (words : List ℕ) (at w i : ℕ) → (i / 64 ≡ at → ⊥) → is_set (slice_set words at w) i ≡ is_set words i
set-there words at w i other = ap (λ n. nat_eq (bit_at n (i % 64)) 1) (get_or-set_other words at (i / 64) w 0 other)

-- the words up to an index have their bits from `from` up to, but without, `to` set or cleared
pub record IsPut (old words : List ℕ) (from to index : ℕ) (value : Bool) : Type 0 where
  pub inside : (i : ℕ) → from ≤ i → i < to → i / 64 < index → is_set words i ≡ value
  pub below : (i : ℕ) → i < from → is_set words i ≡ is_set old i
  pub above : (i : ℕ) → to ≤ i → is_set words i ≡ is_set old i
  pub ahead : (i : ℕ) → index ≤ i / 64 → is_set words i ≡ is_set old i
  pub long : length words ≡ length old

-- a word has them
pub record IsWordPut (word w start from to : ℕ) (value : Bool) : Type 0 where
  pub inside : (k : ℕ) → k < 64 → from ≤ start + k → start + k < to → nat_eq (bit_at w k) 1 ≡ value
  pub below : (k : ℕ) → k < 64 → start + k < from → bit_at w k ≡ bit_at word k
  pub above : (k : ℕ) → k < 64 → to ≤ start + k → bit_at w k ≡ bit_at word k

pub put-none : (old : List ℕ) (from to : ℕ) (value : Bool) → IsPut old old from to (from / 64) value
put-none old from to value = record {
  inside = λ i low high past. absurd (omega (arith, low, past));
  below = λ i low. refl;
  above = λ i high. refl;
  ahead = λ i far. refl;
  long = refl;
}

pub put-step : (old words : List ℕ) (from to index w : ℕ) (value : Bool) → IsPut old words from to index value → index < length words → IsWordPut (slice_index words index) w (index * 64) from to value
    → IsPut old (slice_set words index w) from to (index + 1) value
put-step old words from to index w value p within one = record {
  inside = λ i low high past. inside i low high past (cases_eq (i / 64) index);
  below = λ i low. below i low (cases_eq (i / 64) index);
  above = λ i high. above i high (cases_eq (i / 64) index);
  ahead = λ i far. set-there words index w i (λ e. absurd (omega (arith, e, far))) ∙ p.ahead i (omega (arith, far));
  long = length-set words index w ∙ p.long;
}
  where
    here : (i : ℕ) → i / 64 ≡ index → i ≡ index * 64 + i % 64
    here i e = omega (arith, e)

    small : (i : ℕ) → i % 64 < 64
    small i = omega arith

    kept : (i : ℕ) → i / 64 ≡ index → bit_at w (i % 64) ≡ bit_at (slice_index words index) (i % 64) → is_set (slice_set words index w) i ≡ is_set words i
    kept i e same =
        set-here words index w i within e ∙ ap (λ b. nat_eq b 1) same ∙ ap (λ q. nat_eq (bit_at (slice_index words q) (i % 64)) 1) (sym e)

    inside : (i : ℕ) → from ≤ i → i < to → i / 64 < index + 1 → (i / 64 ≡ index) ⊎ (i / 64 ≡ index → ⊥) → is_set (slice_set words index w) i ≡ value
    inside i low high past (inl e) =
        let h = here i e in
        set-here words index w i within e ∙ one.inside (i % 64) (small i) (omega (arith, h, low)) (omega (arith, h, high))
    inside i low high past (inr other) = set-there words index w i other ∙ p.inside i low high (omega (arith, past, other))

    below : (i : ℕ) → i < from → (i / 64 ≡ index) ⊎ (i / 64 ≡ index → ⊥) → is_set (slice_set words index w) i ≡ is_set old i
    below i low (inl e) =
        let h = here i e in
        kept i e (one.below (i % 64) (small i) (omega (arith, h, low))) ∙ p.below i low
    below i low (inr other) = set-there words index w i other ∙ p.below i low

    above : (i : ℕ) → to ≤ i → (i / 64 ≡ index) ⊎ (i / 64 ≡ index → ⊥) → is_set (slice_set words index w) i ≡ is_set old i
    above i high (inl e) =
        let h = here i e in
        kept i e (one.above (i % 64) (small i) (omega (arith, h, high))) ∙ p.above i high
    above i high (inr other) = set-there words index w i other ∙ p.above i high

-- ---- a list with a part written over by one value

sets-below : (l : List Bool) (i n k : ℕ) (v d : Bool) → k < i → get_or (sets l i (replicate n v)) k d ≡ get_or l k d
sets-below l i zero k v d low = refl
sets-below l i (suc n) k v d low =
    sets-below (slice_set l i v) (suc i) n k v d (omega (arith, low)) ∙ get_or-set_other l i k v d (λ e. absurd (omega (arith, e, low)))

sets-above : (l : List Bool) (i n k : ℕ) (v d : Bool) → i + n ≤ k → get_or (sets l i (replicate n v)) k d ≡ get_or l k d
sets-above l i zero k v d high = refl
sets-above l i (suc n) k v d high =
    sets-above (slice_set l i v) (suc i) n k v d (omega (arith, high)) ∙ get_or-set_other l i k v d (λ e. absurd (omega (arith, e, high)))

sets-inside : (l : List Bool) (i n k : ℕ) (v d : Bool) → i + n ≤ length l → i ≤ k → k < i + n → get_or (sets l i (replicate n v)) k d ≡ v
sets-inside l i zero k v d fits low high = absurd (omega (arith, low, high))
sets-inside l i (suc n) k v d fits low high =
    elim (cases_eq k i) [
      | inl e ↦ sets-below (slice_set l i v) (suc i) n k v d (omega (arith, e)) ∙ ap (λ q. get_or (slice_set l i v) q d) e ∙ get_or-set_same l i v d (omega (arith, fits))
      | inr other ↦ (let long = length-set l i v in sets-inside (slice_set l i v) (suc i) n k v d (omega (arith, long, fits)) (omega (arith, low, other)) (omega (arith, high)))
    ]

-- ---- the marks of a page

pub length-marks : (words : List ℕ) → length (marks_in words) ≡ 4096
unfolding marks_in
length-marks words = length-map-range_with_len (is_set words) 0 4096

get-marks : (words : List ℕ) (k : ℕ) (d : Bool) → k < 4096 → get_or (marks_in words) k d ≡ is_set words k
unfolding marks_in
get-marks words k d h = get_or-map-range_with_len (is_set words) 0 4096 k k d h (omega arith)

-- words without a bit
pub marks-zeros : (n : ℕ) → marks_in (replicate n 0) ≡ no_marks
unfolding marks_in no_marks
marks-zeros n = sym (fill_by_all (is_set (replicate n 0)) (replicate 4096 false) 4096 false (length-replicate 4096 false) each)
  where
    zeros : (n k : ℕ) → slice_index (replicate n 0) k ≡ 0
    zeros zero k = refl
    zeros (suc n) zero = refl
    zeros (suc n) (suc k) = zeros n k

    each : (k : ℕ) → k < 4096 → get_or (replicate 4096 false) k false ≡ is_set (replicate n 0) k
    each k h = none 4096 k ∙ sym (ap (λ w. nat_eq (bit_at w (k % 64)) 1) (zeros n (k / 64)) ∙ ap (λ b. nat_eq b 1) (bit_at-zero (k % 64)))
      where
        none : (m k : ℕ) → get_or (replicate m false) k false ≡ false
        none zero k = refl
        none (suc m) zero = refl
        none (suc m) (suc k) = none m k

-- marks by their indices
marks-are : (words : List ℕ) (l : List Bool) → length l ≡ 4096 → ((k : ℕ) → k < 4096 → get_or l k false ≡ is_set words k) → marks_in words ≡ l
unfolding marks_in
marks-are words l long each = sym (fill_by_all (is_set words) l 4096 false long each)

-- words whose bits from `from` up to, but without, `to` were set or cleared
pub marks-put : (old new : List ℕ) (from to : ℕ) (v : Bool) → from ≤ to → to ≤ 4096 → ((i : ℕ) → from ≤ i → i < to → is_set new i ≡ v) → ((i : ℕ) → i < from → is_set new i ≡ is_set old i)
    → ((i : ℕ) → to ≤ i → is_set new i ≡ is_set old i) → marks_in new ≡ sets (marks_in old) from (replicate (to - from) v)
marks-put old new from to v ordered within inside below above =
    let long = length-sets (marks_in old) from (replicate (to - from) v) ∙ length-marks old in
    marks-are new (sets (marks_in old) from (replicate (to - from) v)) long each
  where
    fits : from + (to - from) ≤ length (marks_in old)
    fits = let long = length-marks old in omega (arith, long, ordered, within)

    at : (k : ℕ) → k < 4096 → (k < from) ⊎ (from ≤ k) → (k < to) ⊎ (to ≤ k) → get_or (sets (marks_in old) from (replicate (to - from) v)) k false ≡ is_set new k
    at k h (inl low) end = sets-below (marks_in old) from (to - from) k v false low ∙ get-marks old k false h ∙ sym (below k low)
    at k h (inr low) (inl high) = sets-inside (marks_in old) from (to - from) k v false fits low (omega (arith, high, ordered)) ∙ sym (inside k low high)
    at k h (inr low) (inr high) = sets-above (marks_in old) from (to - from) k v false (omega (arith, high, ordered)) ∙ get-marks old k false h ∙ sym (above k high)

    each : (k : ℕ) → k < 4096 → get_or (sets (marks_in old) from (replicate (to - from) v)) k false ≡ is_set new k
    each k h = at k h (cases_lt k from) (cases_lt k to)

-- whether a byte in a part is marked
pub marks-any : (words : List ℕ) (from count : ℕ) (r : Bool) → from + count ≤ 4096 → (r ≡ false → (i : ℕ) → from ≤ i → i < from + count → is_set words i ≡ false)
    → (r ≡ true → (i : ℕ) × (from ≤ i) × (i < from + count) × (is_set words i ≡ true)) → r ≡ list_any (λ m. m) (take count (drop from (marks_in words)))
marks-any words from count r fits none some = by r none some
  where
    part : List Bool
    part = take count (drop from (marks_in words))

    long : length part ≡ count
    long =
        let whole = length-marks words in
        let rest = length-drop from (marks_in words) in
        length-take-le count (drop from (marks_in words)) (omega (arith, whole, rest, fits))

    at : (k : ℕ) (d : Bool) → k < count → get_or part k d ≡ is_set words (from + k)
    at k d h = get_or-take count (drop from (marks_in words)) k d h ∙ get_or-drop from (marks_in words) k d ∙ get-marks words (from + k) d (omega (arith, h, fits))

    by : (r : Bool) → (r ≡ false → (i : ℕ) → from ≤ i → i < from + count → is_set words i ≡ false) → (r ≡ true → (i : ℕ) × (from ≤ i) × (i < from + count) × (is_set words i ≡ true)) → r ≡ list_any (λ m. m) part
    by false none some = sym (list_any_none (λ m. m) part (λ k d h. let l : k < count = omega (arith, h, long) in at k d l ∙ none refl (from + k) (omega arith) (omega (arith, l))))
    by true none some =
        let x = some refl in
        let low : from ≤ x.0 = x.1 in
        let high : x.0 < from + count = x.2 in
        let here : x.0 - from < count = omega (arith, low, high) in
        let back : from + (x.0 - from) ≡ x.0 = omega (arith, low) in
        sym (list_any_at (λ m. m) part (x.0 - from) false (omega (arith, here, long)) (at (x.0 - from) false here ∙ ap (is_set words) back ∙ x.3))

-- ---- the marks of a page with room for some

pub of-some : (m : Marks) → m.some ≡ true → marks_of m ≡ marks_in m.words
of-some m e = ap (λ b. cond b (marks_in m.words) no_marks) e

pub of-none : (m : Marks) → m.some ≡ false → marks_of m ≡ no_marks
of-none m e = ap (λ b. cond b (marks_in m.words) no_marks) e

-- where the words' bits are set or cleared
pub of-put : (m : Marks) (old : List ℕ) (from to : ℕ) (v : Bool) → m.some ≡ true → from ≤ to → to ≤ 4096 → ((i : ℕ) → from ≤ i → i < to → is_set m.words i ≡ v)
    → ((i : ℕ) → i < from → is_set m.words i ≡ is_set old i) → ((i : ℕ) → to ≤ i → is_set m.words i ≡ is_set old i) → (was : List Bool) → was ≡ marks_in old
    → marks_of m ≡ sets was from (replicate (to - from) v)
of-put m old from to v some ordered within inside below above was is =
    of-some m some ∙ marks-put old m.words from to v ordered within inside below above ∙ ap (λ l. sets l from (replicate (to - from) v)) (sym is)

-- where there are none, taking some away leaves none
pub none-cleared : (was : List Bool) (from n : ℕ) → was ≡ no_marks → was ≡ sets was from (replicate n false)
none-cleared was from n is = is ∙ sym (sets-no_marks from n) ∙ ap (λ l. sets l from (replicate n false)) (sym is)

-- where there are none, none is found
pub none-found : (was : List Bool) (from n : ℕ) → was ≡ no_marks → false ≡ list_any (λ m. m) (take n (drop from was))
none-found was from n is = sym (ap (λ l. list_any (λ m. m) (take n (drop from l))) is ∙ list_any-no_marks n from)

-- where there may be some, those are found that the words tell
pub some-found : (words : List ℕ) (from count : ℕ) (r : Bool) (was : List Bool) → was ≡ marks_in words → from + count ≤ 4096 → (r ≡ false → (i : ℕ) → from ≤ i → i < from + count → is_set words i ≡ false)
    → (r ≡ true → (i : ℕ) × (from ≤ i) × (i < from + count) × (is_set words i ≡ true)) → r ≡ list_any (λ m. m) (take count (drop from was))
some-found words from count r was is fits none some = marks-any words from count r fits none some ∙ ap (λ l. list_any (λ m. m) (take count (drop from l))) (sym is)
