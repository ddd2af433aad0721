-- Bytes that stand one behind the other, and some of them written anew.
use Rattle.std.proofs.Common.{◌≡◌, ◌⊎◌, inl, inr, ℕ, zero, suc, ◌+◌, ◌*◌, ◌/◌, ◌≤◌, ◌<◌, true, ◌&&◌, List, [], ◌∷◌, ◌++◌, length, get_or, refl, sym, ap, subst, ◌∙◌, arith, append_assoc, length-append}
use Rattle.std.proofs.lemmas.List.{get_or_append_left, get_or-append-add}
use Rattle.std.specs.Int.{to_le_bytes, w64}
use Rattle.pt_ident.specs.rv_mem.Pages.{IsWhole, Pages, allows, allows_all, byte_at, bytes_from, written}
use Rattle.pt_ident.specs.rv_mem.declared.rights.Use.{Use}
use Rattle.pt_ident.specs.rv_mem.declared.rights.Use.TheVariants.{Write}
use Rattle.pt_ident.proofs.rv_mem.AccessLemmas.{contains_allowed}
use Rattle.pt_ident.proofs.rv_mem.AddressLemmas.{allows-written, byte_at-written_in, byte_at-written_other}
use Rattle.pt_ident.proofs.rv_mem.SpaceLemmas.{IsWhole-written}
use Rattle.elf_load.specs.Placed.{HoldsBytes}

-- ---- parts

pub holds-front : (m : Pages) (at : ℕ) (xs ys : List ℕ) → HoldsBytes m at (xs ++ ys) → HoldsBytes m at xs
holds-front m at xs ys holds = λ k l. holds k (omega (arith, length-append xs ys)) ∙ get_or_append_left xs ys 0 k l

pub holds-back : (m : Pages) (at : ℕ) (xs ys : List ℕ) → HoldsBytes m at (xs ++ ys) → HoldsBytes m (at + length xs) ys
holds-back m at xs ys holds = λ k l.
    let place : at + length xs + k ≡ at + (length xs + k) = omega arith in
    ap (byte_at m) place ∙ holds (length xs + k) (omega (arith, length-append xs ys)) ∙ get_or-append-add xs ys k 0

pub holds-both : (m : Pages) (at : ℕ) (xs ys : List ℕ) → HoldsBytes m at xs → HoldsBytes m (at + length xs) ys → HoldsBytes m at (xs ++ ys)
holds-both m at [] ys first second = λ k l. let place : at + k ≡ at + zero + k = omega arith in ap (byte_at m) place ∙ second k l
holds-both m at (x ∷ xs) ys first second =
    let rest : HoldsBytes m (at + 1) xs = λ j below. let next : at + 1 + j ≡ at + suc j = omega arith in ap (byte_at m) next ∙ first (suc j) (omega arith) in
    let behind : HoldsBytes m (at + 1 + length xs) ys = λ j below. let next : at + 1 + length xs + j ≡ at + suc (length xs) + j = omega arith in ap (byte_at m) next ∙ second j below in
    λ k l. by (holds-both m (at + 1) xs ys rest behind) k l
  where
    by : HoldsBytes m (at + 1) (xs ++ ys) → (k : ℕ) → k < length ((x ∷ xs) ++ ys) → byte_at m (at + k) ≡ get_or ((x ∷ xs) ++ ys) k 0
    by more zero l = first zero (omega arith)
    by more (suc k) l = let place : at + suc k ≡ at + 1 + k = omega arith in ap (byte_at m) place ∙ more k (omega arith)

pub bytes-held : (m : Pages) (at : ℕ) (xs : List ℕ) → HoldsBytes m at xs → bytes_from m at (length xs) ≡ xs
unfolding bytes_from
bytes-held m at [] holds = refl
bytes-held m at (x ∷ xs) holds =
    let place : at ≡ at + zero = omega arith in
    let rest : HoldsBytes m (at + 1) xs = λ j below. let next : at + 1 + j ≡ at + suc j = omega arith in ap (byte_at m) next ∙ holds (suc j) (omega arith) in
    ap (λ b. b ∷ bytes_from m (at + 1) (length xs)) (ap (byte_at m) place ∙ holds zero (omega arith)) ∙ ap (λ bs. x ∷ bs) (bytes-held m (at + 1) xs rest)

-- ---- a range that may be used

abbrev pub MayBeUsed : Pages → (from to : ℕ) → Use → Type 0
MayBeUsed m from to what = (a : ℕ) → from ≤ a → a < to → allows m a what ≡ true

pub all-used : (n : ℕ) (m : Pages) (from to at : ℕ) (what : Use) → MayBeUsed m from to what → from ≤ at → at + n ≤ to → allows_all m at n what ≡ true
unfolding allows_all
all-used zero m from to at what may low high = refl
all-used (suc n) m from to at what may low high =
    ap (λ b. b && allows_all m (at + 1) n what) (may at low (omega arith)) ∙ all-used n m from to (at + 1) what may (omega arith) (omega arith)

pub used-written : (m : Pages) (from to at : ℕ) (bytes : List ℕ) (what : Use) → MayBeUsed m from to what → MayBeUsed (written m at bytes) from to what
used-written m from to at bytes what may = λ a low high. allows-written m at bytes a what ∙ may a low high

-- ---- a part written anew

pub holds-anew : (m : Pages) (at here from to : ℕ) (xs old new ys : List ℕ) → IsWhole m → MayBeUsed m from to Write → here ≡ at + length xs → from ≤ here → here + length new ≤ to → length new ≡ length old
    → HoldsBytes m at (xs ++ (old ++ ys)) → HoldsBytes (written m here new) at (xs ++ (new ++ ys))
holds-anew m at here from to xs old new ys whole may place low high same holds =
    let behind : HoldsBytes m (at + length xs) (old ++ ys) = holds-back m at xs (old ++ ys) holds in
    let last : HoldsBytes m (at + length xs + length old) ys = holds-back m (at + length xs) old ys behind in
    let n = written m here new in
    let first : HoldsBytes n at xs = λ k l. byte_at-written_other m here new (at + k) (λ j below e. absurd (omega arith)) ∙ holds-front m at xs (old ++ ys) holds k l in
    let middle : HoldsBytes n (at + length xs) new = λ k l.
    let spot : at + length xs + k ≡ here + k = omega arith in
    ap (byte_at n) spot ∙ byte_at-written_in m here new k whole l (contains_allowed m ((here + k) / 4096) Write (may (here + k) (omega arith) (omega arith))) in
    let end : HoldsBytes n (at + length xs + length new) ys = λ k l.
    let spot : at + length xs + length new + k ≡ at + length xs + length old + k = omega arith in
    byte_at-written_other m here new (at + length xs + length new + k) (λ j below e. absurd (omega arith)) ∙ ap (byte_at m) spot ∙ last k l in
    holds-both n at xs (new ++ ys) first (holds-both n (at + length xs) new ys middle end)

-- ---- words at every second place written anew

-- words, each with another one behind it, and what follows
abbrev pub laced : (words others : List ℕ) → List ℕ → List ℕ
laced [] others rest = rest
laced (w ∷ words) [] rest = rest
laced (w ∷ words) (o ∷ others) rest = to_le_bytes w64 w ++ (to_le_bytes w64 o ++ laced words others rest)

abbrev pub with_words : (at : ℕ) → List ℕ → Pages → Pages
with_words at [] m = m
with_words at (w ∷ words) m = with_words (at + 16) words (written m at (to_le_bytes w64 w))

pub whole-with_words : (words : List ℕ) (at : ℕ) (m : Pages) → IsWhole m → IsWhole (with_words at words m)
whole-with_words [] at m whole = whole
whole-with_words (w ∷ words) at m whole = whole-with_words words (at + 16) (written m at (to_le_bytes w64 w)) (IsWhole-written m at (to_le_bytes w64 w) whole)

pub allows-with_words : (words : List ℕ) (at : ℕ) (m : Pages) (a : ℕ) (what : Use) → allows (with_words at words m) a what ≡ allows m a what
allows-with_words [] at m a what = refl
allows-with_words (w ∷ words) at m a what = allows-with_words words (at + 16) (written m at (to_le_bytes w64 w)) a what ∙ allows-written m at (to_le_bytes w64 w) a what

pub others-with_words : (words : List ℕ) (at : ℕ) (m : Pages) (a to : ℕ) → at + 16 * length words ≤ to + 8 → (a < at) ⊎ (to ≤ a) → byte_at (with_words at words m) a ≡ byte_at m a
others-with_words [] at m a to high apart = refl
others-with_words (w ∷ words) at m a to high apart =
    others-with_words words (at + 16) (written m at (to_le_bytes w64 w)) a to (omega arith) (further apart)
    ∙ byte_at-written_other m at (to_le_bytes w64 w) a (λ k l e. beside k l e apart)
  where
    further : (a < at) ⊎ (to ≤ a) → (a < at + 16) ⊎ (to ≤ a)
    further (inl below) = inl (omega arith)
    further (inr above) = inr above

    beside : (k : ℕ) → k < 8 → a ≡ at + k → (a < at) ⊎ (to ≤ a) → ⊥
    beside k l e (inl below) = omega arith
    beside k l e (inr above) = omega arith

regroup : (a b c d : List ℕ) → a ++ (b ++ (c ++ d)) ≡ (a ++ (b ++ c)) ++ d
regroup a b c d = simp append_assoc

pub holds-laced : (old new others : List ℕ) (m : Pages) (at here from to : ℕ) (front rest : List ℕ) → IsWhole m → MayBeUsed m from to Write → here ≡ at + length front → from ≤ here → here + 16 * length new ≤ to + 8
    → length old ≡ length new → length others ≡ length new → HoldsBytes m at (front ++ laced old others rest) → HoldsBytes (with_words here new m) at (front ++ laced new others rest)
holds-laced [] [] others m at here from to front rest whole may place low high same each holds = holds
holds-laced [] (v ∷ new) others m at here from to front rest whole may place low high same each holds = absurd (omega arith)
holds-laced (u ∷ old) [] others m at here from to front rest whole may place low high same each holds = absurd (omega arith)
holds-laced (u ∷ old) (v ∷ new) [] m at here from to front rest whole may place low high same each holds = absurd (omega arith)
holds-laced (u ∷ old) (v ∷ new) (o ∷ others) m at here from to front rest whole may place low high same each holds =
    let bytes : List ℕ = to_le_bytes w64 v in
    let beside : List ℕ = to_le_bytes w64 o in
    let eight : length bytes ≡ 8 = refl in
    let besides : length beside ≡ 8 = refl in
    let n : Pages = written m here bytes in
    let after : List ℕ = front ++ (bytes ++ beside) in
    let first : HoldsBytes n at (front ++ (bytes ++ (beside ++ laced old others rest))) =
    holds-anew m at here from to front (to_le_bytes w64 u) bytes (beside ++ laced old others rest) whole may place low (omega arith) refl holds in
    let size : length after ≡ length front + 16 = omega (arith, length-append front (bytes ++ beside), length-append bytes beside) in
    let grouped : HoldsBytes n at (after ++ laced old others rest) = subst (HoldsBytes n at) (regroup front bytes beside (laced old others rest)) first in
    let more : HoldsBytes (with_words (here + 16) new n) at (after ++ laced new others rest) =
    holds-laced old new others n at (here + 16) from to after rest (IsWhole-written m here bytes whole) (used-written m from to here bytes Write may) (omega arith) (omega arith) (omega arith) (omega arith) (omega arith) grouped in
    subst (HoldsBytes (with_words (here + 16) new n) at) (sym (regroup front bytes beside (laced new others rest))) more
