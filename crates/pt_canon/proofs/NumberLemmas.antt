-- Numbers of digits.
use Rattle.std.proofs.Common.{◌≡◌, ℕ, ◌+◌, ◌*◌, ◌-◌, ◌^◌, ◌<◌, ◌≤◌, List, [], ◌∷◌, length, Bool, true, false, None, Some, Ok, Err, refl, sym, ap, ◌∙◌, arith, rules}
use Rattle.std.specs.Prelude.{nat_le, ◌==◌, ◌&&◌, IsUtf8, if◌then◌else◌}
use Rattle.std.specs.List.{list_all}
use Rattle.std.specs.Str.Parse.{digits_value, ParsesUnsigned}
use Rattle.std.proofs.lemmas.Bool.{leb-true, le-leb}
use Rattle.std.proofs.lemmas.Bool.Decides.{nat_tests}
use Rattle.std.proofs.lemmas.Str.{IsUtf8-from_ascii}
use Rattle.std.proofs.lemmas.Str.Parse.{IsNumeralModel, IsDigitsTest, numerals_by_fold, parse_digits}
use Rattle.std.proofs.lemmas.Fmt.{IsAscii-from_digits}
use Rattle.pt_canon.specs.ProcessLinks.{is_digit, number_in, largest}

abbrev AreDigits : List ℕ → Type 0
AreDigits ds = list_all is_digit ds ≡ true

digits_test : IsDigitsTest AreDigits
digits_test = search rules

abbrev read_on : ℕ → List ℕ → ℕ
read_on n [] = n
read_on n (c ∷ cs) = read_on (10 * n + (c - 48)) cs

own_by_fold : IsNumeralModel AreDigits (read_on 0)
own_by_fold = numerals_by_fold _ digits_test read_on (search rules)

own : IsNumeralModel AreDigits (digits_value 10)
own = record { to = own_by_fold.to; from = own_by_fold.from; same = λ ds all. refl }

-- digits are text
pub digits_text : (t : List ℕ) → list_all is_digit t ≡ true → IsUtf8 t
digits_text t h = IsUtf8-from_ascii t (IsAscii-from_digits t (own.to t h))

some_if : (a b c : Bool) (n : ℕ) → a ≡ true → b ≡ true → c ≡ true → Some n ≡ (if a && (b && c) then Some n else None)
some_if a b c n p q r = rw (p, q, r) refl

none_if : (a b c : Bool) (n : ℕ) → (a ≡ true → b ≡ true → c ≡ true → ⊥) → None ≡ (if a && (b && c) then Some n else None)
none_if true true true n never = absurd (never refl refl refl)
none_if true true false n never = refl
none_if true false c n never = refl
none_if false b c n never = refl

pub number_empty : (t : List ℕ) → t ≡ [] → None ≡ number_in t
number_empty t e = sym (ap number_in e)

pub number_other : (t : List ℕ) → list_all is_digit t ≡ false → None ≡ number_in t
number_other t h = none_if (nat_le 1 (length t)) (list_all is_digit t) (nat_le (digits_value 10 t) largest) (digits_value 10 t) (λ a b c. let clash : true ≡ false = sym b ∙ h in cc)

pub number_parsed : (E : Type 0) (t : List ℕ) (n : ℕ) → list_all is_digit t ≡ true → 1 ≤ length t → ParsesUnsigned {E = E} 32 10 t (Ok n) → Some n ≡ number_in t
number_parsed E t n all some p =
    let q = parse_digits own {E = E} 32 t (Ok n) p all in
    let low : nat_le (digits_value 10 t) largest ≡ true = let small = q.0.1 in let same = q.1 in le-leb _ _ (omega arith) in
    ap Some q.1 ∙ some_if (nat_le 1 (length t)) (list_all is_digit t) (nat_le (digits_value 10 t) largest) (digits_value 10 t) (le-leb _ _ some) all low

pub number_unparsed : {E : Type 0} (t : List ℕ) (e : E) → list_all is_digit t ≡ true → 1 ≤ length t → ParsesUnsigned {E = E} 32 10 t (Err e) → None ≡ number_in t
number_unparsed {E} t e all some p =
    let large : digits_value 10 t < 2 ^ 32 → ⊥ = λ low. parse_digits own {E = E} 32 t (Err e) p all (some, low) in
    none_if (nat_le 1 (length t)) (list_all is_digit t) (nat_le (digits_value 10 t) largest) (digits_value 10 t)
    (λ a b c. let bound = leb-true _ _ c in large (omega (arith, bound)))

pub some_bytes : (t : List ℕ) (r : Bool) → r ≡ (length t == 0) → r ≡ false → 1 ≤ length t
some_bytes t r e h = let other = sym e ∙ h in grind (arith, nat_tests)
