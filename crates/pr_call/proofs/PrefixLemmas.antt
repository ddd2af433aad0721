-- What a sink got of a run that ended early begins what the whole run puts.
use Rattle.std.proofs.Common.{◌≡◌, ℕ, zero, suc, List, [], ◌∷◌, ◌++◌, take, length, Some, refl, sym, ap, subst, ◌∙◌, append_assoc, slice_get}
use Rattle.std.proofs.lemmas.List.{append-nil}
use Rattle.law_loosely.specs.law_machines.pr_io.Moves.{Gets, GetsPrefix, Stays}
use Rattle.law_loosely.specs.law_machines.kr_turns.Run.{Put}
use Rattle.law_loosely.specs.law_machines.pr_run.Report.{gathered}

-- these bytes begin others
abbrev pub Begins : List ℕ → List ℕ → Type 0
Begins xs ys = (rest : List ℕ) × (ys ≡ xs ++ rest)

pub begins-itself : (xs : List ℕ) → Begins xs xs
begins-itself xs = ([], sym (append-nil xs))

pub begins-more : (xs ys zs : List ℕ) → Begins xs ys → Begins xs (ys ++ zs)
begins-more xs ys zs b = (b.0 ++ zs, ap (λ l. l ++ zs) b.1 ∙ append_assoc xs b.0 zs)

pub begins-behind : (front xs ys : List ℕ) → Begins xs ys → Begins (front ++ xs) (front ++ ys)
begins-behind front xs ys b = (b.0, ap (λ l. front ++ l) b.1 ∙ sym (append_assoc front xs b.0))

pub begins-taken : (n : ℕ) (l : List ℕ) → Begins (take n l) l
begins-taken zero [] = ([], refl)
begins-taken zero (x ∷ l) = (x ∷ l, refl)
begins-taken (suc n) [] = ([], refl)
begins-taken (suc n) (x ∷ l) = let b = begins-taken n l in (b.0, ap (λ z. x ∷ z) b.1)

take-length : (xs zs : List ℕ) → take (length xs) (xs ++ zs) ≡ xs
take-length [] [] = refl
take-length [] (z ∷ zs) = refl
take-length (x ∷ xs) zs = ap (λ l. x ∷ l) (take-length xs zs)

-- ---- a sink

pub got-prefix : (before now xs ys : List ℕ) → Gets before now xs → Begins xs ys → GetsPrefix before now ys
got-prefix before now xs ys got b = (length xs, got ∙ ap (λ l. before ++ l) (sym (ap (take (length xs)) b.1 ∙ take-length xs b.0)))

pub kept-prefix : (before now ys : List ℕ) → Stays before now → GetsPrefix before now ys
kept-prefix before now ys kept = got-prefix before now [] ys (kept ∙ sym (append-nil before)) (ys, refl)

-- ---- the bytes of some turns

pub some-begin : (part : Put → List ℕ) (n : ℕ) (puts : List Put) → Begins (gathered part (take n puts)) (gathered part puts)
some-begin part zero [] = ([], refl)
some-begin part zero (x ∷ puts) = (gathered part (x ∷ puts), refl)
some-begin part (suc n) [] = ([], refl)
some-begin part (suc n) (x ∷ puts) = begins-behind (part x) (gathered part (take n puts)) (gathered part puts) (some-begin part n puts)

-- and behind them some of the next one's
pub past-begin : (part : Put → List ℕ) (n : ℕ) (puts : List Put) (put : Put) (k : ℕ) → slice_get puts n ≡ Some put
    → Begins (gathered part (take n puts) ++ take k (part put)) (gathered part puts)
past-begin part n [] put k e = absurd cc
past-begin part zero (x ∷ puts) put k e =
    let same : put ≡ x = cc in
    subst (λ w. Begins (take k (part put)) (part w ++ gathered part puts)) same (begins-more (take k (part put)) (part put) (gathered part puts) (begins-taken k (part put)))
past-begin part (suc n) (x ∷ puts) put k e =
    let taken : List ℕ = gathered part (take n puts) in
    let b : Begins (taken ++ take k (part put)) (gathered part puts) = past-begin part n puts put k e in
    subst (λ l. Begins l (part x ++ gathered part puts)) (sym (append_assoc (part x) taken (take k (part put))))
    (begins-behind (part x) (taken ++ take k (part put)) (gathered part puts) b)
