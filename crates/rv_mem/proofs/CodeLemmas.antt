-- What was decoded of a page, after a write.
use Rattle.std.proofs.Common.{◌≡◌, ◌≢◌, ◌⊎◌, inl, inr, subst, ℕ, zero, suc, ◌+◌, ◌-◌, ◌*◌, ◌/◌, ◌%◌, ◌<◌, ◌≤◌, List, [], ◌∷◌, length, take, drop, get_or, refl, sym, ap, ◌∙◌, arith, min, Option, Some, None}
use Rattle.std.specs.Prelude.{slice_set, slice_index_or, IfSome, IsSome}
use Rattle.std.proofs.Math.Seq.{sets, length-sets}
use Rattle.std.proofs.lemmas.Bool.{cases_eq, cases_lt}
use Rattle.std.proofs.lemmas.Option.{none-some}
use Rattle.std.proofs.lemmas.List.{same_lists, length-take, length-drop, get_or-take, get_or-drop, get_or-set_other, get_or-set_same, length-set}
use Rattle.rv_table.specs.pr_base.Fields.{little_endian}
use Rattle.rv_table.specs.declared.instr.Instr.{Instr}
use Rattle.rv_table.specs.declared.small.Small.{Small}
use Rattle.rv_table.specs.declared.small.Small.TheVariants.{Nothing}
use Rattle.rv_table.specs.Small.{instr_of}
use Rattle.rv_table.specs.Rows.{decoded}
use Rattle.rv_mem.specs.Code.{word_at, AreDecoded}

-- ---- a word apart from what is written

before : (l : List ℕ) (i : ℕ) (bs : List ℕ) (k d : ℕ) → k < i → get_or (sets l i bs) k d ≡ get_or l k d
before l i [] k d low = refl
before l i (b ∷ bs) k d low = before (slice_set l i b) (suc i) bs k d (omega (arith, low)) ∙ get_or-set_other l i k b d (λ e. absurd (omega (arith, e, low)))

behind : (l : List ℕ) (i : ℕ) (bs : List ℕ) (k d : ℕ) → i + length bs ≤ k → get_or (sets l i bs) k d ≡ get_or l k d
behind l i [] k d high = refl
behind l i (b ∷ bs) k d high = behind (slice_set l i b) (suc i) bs k d (omega (arith, high)) ∙ get_or-set_other l i k b d (λ e. absurd (omega (arith, e, high)))

apart : (l : List ℕ) (i : ℕ) (bs : List ℕ) (k d : ℕ) → (k < i) ⊎ (i + length bs ≤ k) → get_or (sets l i bs) k d ≡ get_or l k d
apart l i bs k d (inl low) = before l i bs k d low
apart l i bs k d (inr high) = behind l i bs k d high

word_apart : (l : List ℕ) (i : ℕ) (bs : List ℕ) (at : ℕ) → (at + 4 ≤ i) ⊎ (i + length bs ≤ at) → word_at (sets l i bs) at ≡ word_at l at
word_apart l i bs at h = ap little_endian (same_lists (take 4 (drop at (sets l i bs))) (take 4 (drop at l)) size each)
  where
    size : length (take 4 (drop at (sets l i bs))) ≡ length (take 4 (drop at l))
    size =
        length-take 4 (drop at (sets l i bs)) ∙ ap (min 4) (length-drop at (sets l i bs) ∙ ap (λ n. n - at) (length-sets l i bs) ∙ sym (length-drop at l))
        ∙ sym (length-take 4 (drop at l))

    place : (j : ℕ) → j < 4 → (at + 4 ≤ i) ⊎ (i + length bs ≤ at) → (at + j < i) ⊎ (i + length bs ≤ at + j)
    place j l (inl low) = inl (omega (arith, l, low))
    place j l (inr high) = inr (omega (arith, high))

    each : (j d : ℕ) → j < length (take 4 (drop at (sets l i bs))) → get_or (take 4 (drop at (sets l i bs))) j d ≡ get_or (take 4 (drop at l)) j d
    each j d low =
        let size = length-take 4 (drop at (sets l i bs)) in
        let small : j < 4 = omega (arith, low, size) in
        get_or-take 4 (drop at (sets l i bs)) j d small ∙ get_or-drop at (sets l i bs) j d ∙ apart l i bs (at + j) d (place j small h)
        ∙ sym (get_or-take 4 (drop at l) j d small ∙ get_or-drop at l j d)

-- what is still remembered after the places of what was written were forgotten
pub still_decoded : (old new : List Small) (bytes written : List ℕ) (from to first end : ℕ) → (4 * first ≤ from) → to ≤ 4 * end → length written ≡ to - from → from ≤ to → length new ≡ length old
    → ((k : ℕ) (d : Small) → first ≤ k → k < end → k < length new → slice_index_or new k d ≡ Nothing)
    → ((k : ℕ) (d : Small) → (k < first) ⊎ (end ≤ k) → slice_index_or new k d ≡ slice_index_or old k d)
    → AreDecoded old bytes → AreDecoded new (sets bytes from written)
still_decoded old new bytes written from to first end start stop size ordered long forgotten kept was k d i low here = by (cases_lt k first) (cases_lt k end)
  where
    same : (k < first) ⊎ (end ≤ k) → (4 * k + 4 ≤ from) ⊎ (from + length written ≤ 4 * k) → decoded (word_at (sets bytes from written) (4 * k)) ≡ Some i
    same outside away = ap decoded (word_apart bytes from written (4 * k) away) ∙ was k d i (omega (arith, low, long)) (sym (ap instr_of (kept k d outside)) ∙ here)

    by : (k < first) ⊎ (first ≤ k) → (k < end) ⊎ (end ≤ k) → decoded (word_at (sets bytes from written) (4 * k)) ≡ Some i
    by (inl l) e = same (inl l) (inl (omega (arith, l, start)))
    by (inr h) (inr e) = same (inr e) (inr (omega (arith, e, stop, size, ordered)))
    by (inr h) (inl l) = absurd (none-some i (sym (ap instr_of (forgotten k d h l low)) ∙ here))

-- ---- one more of them

-- what was decoded of a word put at its place
pub decoded-set : (old new : List Small) (bytes : List ℕ) (index : ℕ) (found : Small) → new ≡ slice_set old index found → index < length old → instr_of found ≡ decoded (word_at bytes (4 * index))
    → AreDecoded old bytes → AreDecoded new bytes
decoded-set old new bytes index found set low is was k d i within here = by (cases_eq k index)
  where
    size : length new ≡ length old
    size = ap length set ∙ length-set old index found

    by : (k ≡ index) ⊎ (k ≢ index) → decoded (word_at bytes (4 * k)) ≡ Some i
    by (inl e) =
        let put : slice_index_or new k d ≡ found = ap (λ l. slice_index_or l k d) set ∙ ap (λ j. slice_index_or (slice_set old index found) j d) e ∙ get_or-set_same old index found d low in
        ap (λ j. decoded (word_at bytes (4 * j))) e ∙ sym is ∙ sym (ap instr_of put) ∙ here
    by (inr n) =
        let other : slice_index_or new k d ≡ slice_index_or old k d = ap (λ l. slice_index_or l k d) set ∙ get_or-set_other old index k found d n in
        was k d i (omega (arith, within, size)) (sym (ap instr_of other) ∙ here)

-- nothing is remembered
pub decoded-none : (entries : List Small) (bytes : List ℕ) → ((k : ℕ) (d : Small) → k < length entries → slice_index_or entries k d ≡ Nothing) → AreDecoded entries bytes
decoded-none entries bytes none k d i low here = absurd (none-some i (sym (ap instr_of (none k d low)) ∙ here))

-- what is recalled
pub recalled_is : (entries : List Small) (bytes : List ℕ) (index : ℕ) (r : Small) → index < length entries → r ≡ slice_index_or entries index r → AreDecoded entries bytes
    → IfSome (instr_of r) (λ i. decoded (word_at bytes (4 * index)) ≡ Some i)
recalled_is entries bytes index r low is was = by (instr_of r) refl
  where
    by : (o : Option Instr) → instr_of r ≡ o → IfSome o (λ i. decoded (word_at bytes (4 * index)) ≡ Some i)
    by None e = tt
    by (Some i) e = was index r i low (sym (ap instr_of is) ∙ e)

-- what is recalled, where it is an instruction, is that of its word
pub recalled_whole : (found word : Option Instr) → IsSome found → IfSome found (λ i. word ≡ Some i) → found ≡ word
recalled_whole None word there is = absurd (let no : ⊥ = cc in no)
recalled_whole (Some i) word there is = sym is

-- one more place forgotten
pub forgotten_more : (entries : List Small) (first index : ℕ) → ((k : ℕ) (d : Small) → first ≤ k → k < index → k < length entries → slice_index_or entries k d ≡ Nothing) → index < length entries
    → (k : ℕ) (d : Small) → first ≤ k → k < index + 1 → k < length (slice_set entries index Nothing) → slice_index_or (slice_set entries index Nothing) k d ≡ Nothing
forgotten_more entries first index none low k d from to within = by (cases_eq k index)
  where
    by : (k ≡ index) ⊎ (k ≢ index) → slice_index_or (slice_set entries index Nothing) k d ≡ Nothing
    by (inl e) = ap (λ j. slice_index_or (slice_set entries index Nothing) j d) e ∙ get_or-set_same entries index Nothing d low
    by (inr n) = get_or-set_other entries index k Nothing d n ∙ none k d from (omega (arith, to, n)) (let size = length-set entries index Nothing in omega (arith, within, size))

pub kept_more : (entries old : List Small) (first end index : ℕ) → ((k : ℕ) (d : Small) → (k < first) ⊎ (end ≤ k) → slice_index_or entries k d ≡ slice_index_or old k d) → first ≤ index → index < end
    → (k : ℕ) (d : Small) → (k < first) ⊎ (end ≤ k) → slice_index_or (slice_set entries index Nothing) k d ≡ slice_index_or old k d
kept_more entries old first end index kept low high k d (inl h) = get_or-set_other entries index k Nothing d (λ e. absurd (omega (arith, e, h, low))) ∙ kept k d (inl h)
kept_more entries old first end index kept low high k d (inr h) = get_or-set_other entries index k Nothing d (λ e. absurd (omega (arith, e, h, high))) ∙ kept k d (inr h)

pub decoded-empty : (entries : List Small) (bytes : List ℕ) → length entries ≡ 0 → AreDecoded entries bytes
decoded-empty entries bytes none k d i low here = absurd (omega (arith, low, none))

-- a word's place among the words
pub whole_word : (offset : ℕ) → offset % 4 ≡ 0 → offset ≡ 4 * (offset / 4)
whole_word offset aligned = omega (arith, aligned)
