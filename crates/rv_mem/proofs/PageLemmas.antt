-- Lists of bytes and marks with a part written over.
use Rattle.std.proofs.Common.{◌≡◌, ℕ, ◌+◌, ◌≤◌, zero, suc, true, false, List, [], ◌∷◌, ◌++◌, length, take, drop, replicate, refl, sym, ap, ◌∙◌, arith, nat_eq, eq-eqb, cond}
use Rattle.std.specs.Prelude.{slice_set}
use Rattle.std.specs.List.{list_any}
use Rattle.std.proofs.Math.Seq.{sets, length-sets, sets-eq}
use Rattle.std.proofs.lemmas.List.{replicate_more, length-replicate, append_assoc, append-nil, drop-drop, take_all, drop_all}
use Rattle.std.proofs.lemmas.Bool.{ne_eqb}
use Rattle.rv_mem.specs.declared.marks.Marks.{Marks}
use Rattle.rv_mem.specs.Marks.{no_marks, marks_of, kept_marks}
use Rattle.rv_mem.specs.Page.{zero_bytes}

-- one more value written at the end of those written
pub sets-push : {A : Type 0} (l : List A) (i : ℕ) (vs : List A) (v : A) (j : ℕ) → j ≡ i + length vs → sets l i (vs ++ v ∷ []) ≡ slice_set (sets l i vs) j v
sets-push l i [] v j e = let k : i ≡ j = omega arith in ap (λ n. slice_set l n v) k
sets-push l i (w ∷ vs) v j e = sets-push (slice_set l i w) (suc i) vs v j (omega arith)

-- one more of the same values
pub sets_more : {A : Type 0} (l : List A) (i n : ℕ) (v : A) (j m : ℕ) → j ≡ i + n → m ≡ n + 1 → slice_set (sets l i (replicate n v)) j v ≡ sets l i (replicate m v)
sets_more l i n v j m e f =
    sym (sets-push l i (replicate n v) v j (omega (arith, length-replicate n v)))
    ∙ ap (sets l i) (replicate_more n v)
    ∙ ap (λ k. sets l i (replicate k v)) (sym f)

set-replicate : {A : Type 0} (n i : ℕ) (v : A) → slice_set (replicate n v) i v ≡ replicate n v
set-replicate zero i v = refl
set-replicate (suc n) zero v = refl
set-replicate (suc n) (suc i) v = ap (λ xs. v ∷ xs) (set-replicate n i v)

sets-replicate : {A : Type 0} (n i m : ℕ) (v : A) → sets (replicate n v) i (replicate m v) ≡ replicate n v
sets-replicate n i zero v = refl
sets-replicate n i (suc m) v = ap (λ xs. sets xs (suc i) (replicate m v)) (set-replicate n i v) ∙ sets-replicate n (suc i) m v

-- no mark stays none where marks are cleared
pub sets-no_marks : (i n : ℕ) → sets no_marks i (replicate n false) ≡ no_marks
unfolding no_marks
sets-no_marks i n = sets-replicate 4096 i n false

any_none : (k n i : ℕ) → list_any (λ m. m) (take n (drop i (replicate k false))) ≡ false
any_none zero zero zero = refl
any_none zero (suc n) zero = refl
any_none zero zero (suc i) = refl
any_none zero (suc n) (suc i) = refl
any_none (suc k) zero zero = refl
any_none (suc k) (suc n) zero = any_none k n zero
any_none (suc k) n (suc i) = any_none k n i

pub list_any-no_marks : (n i : ℕ) → list_any (λ m. m) (take n (drop i no_marks)) ≡ false
unfolding no_marks
list_any-no_marks n i = any_none 4096 n i

pub length-no_marks : length no_marks ≡ 4096
unfolding no_marks
length-no_marks = length-replicate 4096 false

pub length-zero_bytes : length zero_bytes ≡ 4096
unfolding zero_bytes
length-zero_bytes = length-replicate {A = ℕ} 4096 0

-- what a copy into the middle of a vector leaves
spliced : (old : List ℕ) (at k : ℕ) (bs : List ℕ) → k ≡ length bs → at + length bs ≤ length old → take at old ++ (bs ++ drop k (drop at old)) ≡ sets old at bs
spliced old at k bs e h =
    let f : at + k ≡ at + length bs = omega arith in
    ap (λ r. take at old ++ (bs ++ r)) (drop-drop k at old ∙ ap (λ n. drop n old) f)
    ∙ sym (append_assoc (take at old) bs (drop (at + length bs) old))
    ∙ sym (sets-eq bs old at h)

whole : (old ws : List ℕ) (n : ℕ) → length ws ≡ length old → n ≡ length old → take n (ws ++ drop (length ws) old) ≡ ws
whole old ws n e f =
    ap (λ r. take n (ws ++ r)) (drop_all (length ws) old (omega arith))
    ∙ ap (take n) (append-nil ws)
    ∙ take_all n ws (omega arith)

pub overwritten : (old xs new bs : List ℕ) (n at k : ℕ) → xs ≡ old → n ≡ length old → new ≡ bs → k ≡ length bs → at + length bs ≤ length old
    → take n ((take at xs ++ (new ++ drop k (drop at xs))) ++ drop (length (take at xs ++ (new ++ drop k (drop at xs)))) old) ≡ sets old at bs
overwritten old xs new bs n at k e f g h within =
    let ws : take at xs ++ (new ++ drop k (drop at xs)) ≡ sets old at bs
    = ap (λ ys. take at ys ++ (new ++ drop k (drop at ys))) e ∙ ap (λ ys. take at old ++ (ys ++ drop k (drop at old))) g ∙ spliced old at k bs h within
    in ap (λ zs. take n (zs ++ drop (length zs) old)) ws ∙ whole old (sets old at bs) n (length-sets old at bs) f

-- where none are kept
pub kept_marks-unkept : (marked : ℕ) (m : Marks) → marked ≡ 0 → kept_marks marked m ≡ no_marks
kept_marks-unkept marked m h = ap (λ b. cond b no_marks (marks_of m)) (eq-eqb marked 0 h)

-- where they are
pub kept_marks-kept : (marked : ℕ) (m : Marks) → (marked ≡ 0 → ⊥) → kept_marks marked m ≡ marks_of m
kept_marks-kept marked m h = ap (λ b. cond b no_marks (marks_of m)) (ne_eqb marked 0 h)

-- a page that has none
pub kept_marks-none : (marked : ℕ) (m : Marks) → marks_of m ≡ no_marks → kept_marks marked m ≡ no_marks
kept_marks-none marked m is = elim (nat_eq marked 0) as (λ b. cond b no_marks (marks_of m) ≡ no_marks) [ true ↦ refl | false ↦ is ]
