-- Bytes of a file after some were written.
use Rattle.std.proofs.Common.{◌≡◌, inl, inr, Bool, true, false, ℕ, zero, suc, ◌+◌, ◌-◌, ◌≤◌, ◌<◌, List, [], ◌∷◌, ◌++◌, length, take, drop, replicate, refl, sym, ap, ◌∙◌, arith, length-append, length-take, length-drop, max, nat_eq, eq-eqb, if◌then◌else◌}
use Rattle.std.proofs.lemmas.List.{take-replicate, drop-replicate, length-replicate}
use Rattle.std.proofs.lemmas.Bool.{cases_lt, ne_eqb}
use Rattle.kr_inode.specs.Changes.{sized, overwritten, size_written}

take-nil : (n : ℕ) → take {A = ℕ} n [] ≡ []
take-nil zero = refl
take-nil (suc n) = refl

drop-nil : (n : ℕ) → drop {A = ℕ} n [] ≡ []
drop-nil zero = refl
drop-nil (suc n) = refl

take-grown : (at m : ℕ) (bytes : List ℕ) → at ≤ length bytes + m → take at (bytes ++ replicate m 0) ≡ sized at bytes
take-grown at m [] h =
    let same : at ≡ at - 0 = omega arith in
    take-replicate at m 0 (omega arith) ∙ ap (λ n. replicate n 0) same ∙ ap (λ l. l ++ replicate (at - 0) 0) (sym (take-nil at))
take-grown zero m (x ∷ bytes) h = let none : 0 ≡ 0 - suc (length bytes) = omega arith in ap (λ n. replicate n 0) none
take-grown (suc at) m (x ∷ bytes) h =
    let same : at - length bytes ≡ suc at - suc (length bytes) = omega arith in
    ap (λ l. x ∷ l) (take-grown at m bytes (omega arith)) ∙ ap (λ n. x ∷ take at bytes ++ replicate n 0) same

drop-grown : (end : ℕ) (bytes : List ℕ) → drop end (bytes ++ replicate (end - length bytes) 0) ≡ drop end bytes
drop-grown end [] =
    let none : end - 0 - end ≡ 0 = omega arith in
    drop-replicate end (end - 0) 0 ∙ ap (λ n. replicate n 0) none ∙ sym (drop-nil end)
drop-grown zero (x ∷ bytes) = let none : 0 - suc (length bytes) ≡ 0 = omega arith in ap (λ n. x ∷ bytes ++ replicate n 0) none ∙ ap (λ l. x ∷ l) (append_none bytes)
  where
    append_none : (l : List ℕ) → l ++ [] ≡ l
    append_none [] = refl
    append_none (x ∷ l) = ap (λ r. x ∷ r) (append_none l)
drop-grown (suc end) (x ∷ bytes) =
    let same : suc end - suc (length bytes) ≡ end - length bytes = omega arith in
    ap (λ n. drop end (bytes ++ replicate n 0)) same ∙ drop-grown end bytes

-- bytes filled up with zeros to the end of what is written, and then written over
pub written-grown : (at : ℕ) (b bytes : List ℕ) → 0 < length b
    → take at (bytes ++ replicate (at + length b - length bytes) 0) ++ b ++ drop (at + length b) (bytes ++ replicate (at + length b - length bytes) 0) ≡ overwritten at b bytes
written-grown at [] bytes h = absurd (omega arith)
written-grown at (x ∷ b) bytes h =
    ap (λ l. l ++ x ∷ b ++ drop (at + length (x ∷ b)) (bytes ++ replicate (at + length (x ∷ b) - length bytes) 0)) (take-grown at (at + length (x ∷ b) - length bytes) bytes (omega arith))
    ∙ ap (λ l. sized at bytes ++ x ∷ b ++ l) (drop-grown (at + length (x ∷ b)) bytes)

pub length-sized : (size : ℕ) (bytes : List ℕ) → length (sized size bytes) ≡ size
length-sized size bytes =
    let one = length-append (take size bytes) (replicate (size - length bytes) 0) in
    let two = length-take size bytes in
    let three = length-replicate {A = ℕ} (size - length bytes) 0 in
    omega arith

pub length-overwritten : (at : ℕ) (b bytes : List ℕ) → length (overwritten at b bytes) ≡ size_written at (length b) (length bytes)
length-overwritten at [] bytes = refl
length-overwritten at (x ∷ b) bytes =
    let one : length (sized at bytes ++ x ∷ b ++ drop (at + length (x ∷ b)) bytes) ≡ length (sized at bytes ++ x ∷ b) + length (drop (at + length (x ∷ b)) bytes) = length-append (sized at bytes ++ x ∷ b) (drop (at + length (x ∷ b)) bytes) in
    let two : length (sized at bytes ++ x ∷ b) ≡ length (sized at bytes) + length (x ∷ b) = length-append (sized at bytes) (x ∷ b) in
    let three = length-sized at bytes in
    let four : length (drop (at + length (x ∷ b)) bytes) ≡ length bytes - (at + length (x ∷ b)) = length-drop (at + length (x ∷ b)) bytes in
    let all : at + length (x ∷ b) + (length bytes - (at + length (x ∷ b))) ≡ max (length bytes) (at + length (x ∷ b)) = omega arith in
    one ∙ ap (λ n. n + length (drop (at + length (x ∷ b)) bytes)) (two ∙ ap (λ n. n + length (x ∷ b)) three) ∙ ap (λ n. at + length (x ∷ b) + n) four ∙ all
    ∙ sym (ap (λ (c : Bool). if c then length bytes else max (length bytes) (at + length (x ∷ b))) (ne_eqb (length (x ∷ b)) 0 (λ e. absurd (omega arith))))

pub some_bytes : (b : List ℕ) (r : Bool) → r ≡ nat_eq (length b) 0 → r ≡ false → 0 < length b
some_bytes b r is not_so = elim (cases_lt 0 (length b)) [
  | inl l ↦ l
  | inr l ↦ let none : length b ≡ 0 = omega arith in let so : true ≡ false = sym (eq-eqb (length b) 0 none) ∙ sym is ∙ not_so in absurd cc
]
