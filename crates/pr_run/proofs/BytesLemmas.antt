-- The bytes of turns that were put one after the other.
use Rattle.std.proofs.Common.{◌≡◌, inl, inr, ℕ, zero, suc, ◌≤◌, List, [], ◌∷◌, ◌++◌, take, drop, Some, refl, sym, ap, subst, ◌∙◌, arith, append_assoc, slice_get}
use Rattle.std.proofs.lemmas.List.{append-nil}
use Rattle.pr_sources.specs.pr_io.Faults.{Rose}
use Rattle.pr_sources.specs.pr_io.Moves.{Gets, GetsPrefix, Stays}
use Rattle.kr_loose.specs.kr_turns.Run.{Put}
use Rattle.pr_run.specs.Report.{gathered}

-- ---- what a sink got

pub stays-refl : (a : List ℕ) → Stays a a
stays-refl a = refl

pub gets-nil : (a : List ℕ) → Gets a a []
gets-nil a = sym (append-nil a)

-- what stays gets no byte
pub gets-none : (a b : List ℕ) → Stays a b → Gets a b []
gets-none a b kept = kept ∙ sym (append-nil a)

pub gets-trans : (a b c : List ℕ) (bs cs : List ℕ) → Gets a b bs → Gets b c cs → Gets a c (bs ++ cs)
gets-trans a b c bs cs first next = next ∙ ap (λ l. l ++ cs) first ∙ append_assoc a bs cs

pub gets-kept : (a b c : List ℕ) (bs : List ℕ) → Gets a b bs → Stays b c → Gets a c bs
gets-kept a b c bs got kept = kept ∙ got

-- ---- lists of turns

pub cons-parts : {A : Type 0} (x y : A) (xs ys : List A) → x ∷ xs ≡ y ∷ ys → (x ≡ y) × (xs ≡ ys)
cons-parts x y xs ys e = (cc, cc)

-- where a list goes on with an element, that is the next one, one more is taken, and one more is left away
pub record GoesOnWith {A : Type 0} (n : ℕ) (xs : List A) (y : A) (ys : List A) : Type 0 where
  pub got : slice_get xs n ≡ Some y
  pub taken : take (suc n) xs ≡ take n xs ++ y ∷ []
  pub left : drop (suc n) xs ≡ ys

pub goes-on : {A : Type 0} (n : ℕ) (xs : List A) (y : A) (ys : List A) → drop n xs ≡ y ∷ ys → GoesOnWith n xs y ys
goes-on zero [] y ys e = absurd cc
goes-on zero (x ∷ xs) y ys e = let p = cons-parts x y xs ys e in record { got = ap (λ z. Some z) p.0; taken = ap (λ z. z ∷ []) p.0; left = p.1 }
goes-on (suc n) [] y ys e = absurd cc
goes-on (suc n) (x ∷ xs) y ys e = let p = goes-on n xs y ys e in record { got = p.got; taken = ap (λ zs. x ∷ zs) p.taken; left = p.left }

-- ---- bytes of turns

pub gathered-append : (part : Put → List ℕ) (xs ys : List Put) → gathered part (xs ++ ys) ≡ gathered part xs ++ gathered part ys
gathered-append part [] ys = refl
gathered-append part (x ∷ xs) ys = ap (λ l. part x ++ l) (gathered-append part xs ys) ∙ sym (append_assoc (part x) (gathered part xs) (gathered part ys))

pub gathered-more : (part : Put → List ℕ) (n : ℕ) (puts : List Put) (put : Put) → take (suc n) puts ≡ take n puts ++ put ∷ [] → gathered part (take (suc n) puts) ≡ gathered part (take n puts) ++ part put
gathered-more part n puts put more =
    ap (gathered part) more ∙ gathered-append part (take n puts) (put ∷ []) ∙ ap (λ l. gathered part (take n puts) ++ l) (append-nil (part put))

-- what was put is followed by the next turn's bytes, or by a prefix of them
pub gets-next : (part : Put → List ℕ) (n : ℕ) (puts : List Put) (put : Put) (a b c : List ℕ) → take (suc n) puts ≡ take n puts ++ put ∷ [] → Gets a b (gathered part (take n puts)) → Gets b c (part put) → Gets a c (gathered part (take (suc n) puts))
gets-next part n puts put a b c more got next = subst (Gets a c) (sym (gathered-more part n puts put more)) (gets-trans a b c (gathered part (take n puts)) (part put) got next)

pub gets-past : (front part : List ℕ) (a b c : List ℕ) → Gets a b front → GetsPrefix b c part → (n : ℕ) × Gets a c (front ++ take n part)
gets-past front part a b c got next = (next.0, gets-trans a b c front (take next.0 part) got next.1)

-- ---- counts of faults

pub rose-since : (before mid now : ℕ) → before ≤ mid → Rose mid now → Rose before now
rose-since before mid now low (inl higher) = inl (omega (arith, low, higher))
rose-since before mid now low (inr stands) = inr stands
