-- Numbers and their decimal texts.
use Rattle.std.proofs.Common.{◌≡◌, ℕ, ◌+◌, ◌*◌, ◌-◌, ◌^◌, ◌<◌, ◌≤◌, ◌⊎◌, inl, inr, List, [], ◌∷◌, length, get_or, Bool, true, false, None, Some, Result, Ok, Err, refl, sym, ap, ◌∙◌, subst, arith, rules, zero, suc}
use Rattle.std.specs.Prelude.{nat_le, bytes_eq, ◌&&◌, ◌||◌, not, ◌==◌, IsUtf8, if◌then◌else◌}
use Rattle.std.specs.List.{list_all}
use Rattle.std.specs.Fmt.{decimal}
use Rattle.std.specs.Cmp.Derive.{both_true}
use Rattle.std.specs.Str.Parse.{digits_value, ParsesUnsigned}
use Rattle.std.specs.Result.{OkIff}
use Rattle.std.proofs.Math.Bool.{or-true}
use Rattle.std.proofs.lemmas.Bool.{and_parts, or_cases, not-true, not_from_false, eqb-true, eq-eqb, leb-true, le-leb}
use Rattle.std.proofs.lemmas.Bool.Decides.{nat_tests}
use Rattle.std.proofs.lemmas.Str.{IsUtf8-from_ascii}
use Rattle.std.proofs.lemmas.Str.Parse.{IsNumeralModel, IsDigitsTest, numerals_by_fold, parse_digits}
use Rattle.std.proofs.lemmas.Fmt.{decimal-digits_value, digits_decimal, digits_value-decimal, first_decimal, decimal_nonempty, decimal_digit, IsAscii-from_digits}
use Rattle.std.proofs.lemmas.Slice.Eq.{bytes_eq-Decides}
use Rattle.kr_procfs.specs.Decimals.{is_digit, is_decimal, number_named, largest, NamesAndNumbersAreInverse}

abbrev AreDigits : List ℕ → Type 0
AreDigits ds = list_all is_digit ds ≡ true

digits_test : IsDigitsTest AreDigits
digits_test = search rules

abbrev read_on : ℕ → List ℕ → ℕ
read_on n [] = n
read_on n (c ∷ cs) = read_on (10 * n + (c - 48)) cs

own_by_fold : IsNumeralModel AreDigits (read_on 0)
own_by_fold = numerals_by_fold _ digits_test read_on (search rules)

own : IsNumeralModel AreDigits (digits_value 10)
own = record { to = own_by_fold.to; from = own_by_fold.from; same = λ ds all. refl }

pub clash : (b : Bool) → b ≡ true → b ≡ false → ⊥
clash b p q = cc

-- a zero in front stands alone
abbrev alone : List ℕ → Bool
alone t = (length t == 1) || (nat_le 1 (length t) && not (get_or t 0 0 == 48))

alone_parts : (t : List ℕ) → alone t ≡ true → (0 < length t) × (get_or t 0 0 ≡ 48 → length t ≡ 1)
alone_parts t h = by_case (or_cases _ _ h)
  where
    by_case : ((length t == 1) ≡ true) ⊎ ((nat_le 1 (length t) && not (get_or t 0 0 == 48)) ≡ true) → (0 < length t) × (get_or t 0 0 ≡ 48 → length t ≡ 1)
    by_case (inl one) = let e = eqb-true _ _ one in (omega (arith, e), λ _. e)
    by_case (inr more) =
        let p = and_parts _ _ more in
        let no = not-true _ p.1 in
        (leb-true _ _ p.0, λ e. absurd (clash (get_or t 0 0 == 48) (eq-eqb _ _ e) no))

-- a decimal text is the text of its value
pub decimal-value : (t : List ℕ) → is_decimal t ≡ true → digits_value 10 t < 2 ^ 64 → decimal (digits_value 10 t) ≡ t
decimal-value t h small =
    let p = and_parts _ _ h in
    let q = alone_parts t p.1 in
    decimal-digits_value own t p.0 q.0 q.1 small

alone-decimal : (n : ℕ) → n < 2 ^ 64 → (n ≡ 0) ⊎ (0 < n) → alone (decimal n) ≡ true
alone-decimal n small (inl none) = subst (λ k. alone (decimal k) ≡ true) (sym none) (rw (decimal_digit 0 (omega arith)) refl)
alone-decimal n small (inr some) =
    let first = first_decimal n some small in
    let differs : (get_or (decimal n) 0 0 == 48) ≡ false = grind (arith, nat_tests) in
    let long = le-leb 1 (length (decimal n)) (decimal_nonempty n small) in
    rw (both_true long (not_from_false _ differs), or-true (length (decimal n) == 1)) refl

pub digits-decimal : (n : ℕ) → n < 2 ^ 64 → list_all is_digit (decimal n) ≡ true
digits-decimal n small = digits_decimal own n small

-- the text of a number is a decimal text
pub is_decimal-decimal : (n : ℕ) → n < 2 ^ 64 → is_decimal (decimal n) ≡ true
is_decimal-decimal n small = both_true (digits_decimal own n small) (alone-decimal n small (zero_or n))
  where
    zero_or : (n : ℕ) → (n ≡ 0) ⊎ (0 < n)
    zero_or zero = inl refl
    zero_or (suc n) = inr (omega arith)

none_if : (a b : Bool) (n : ℕ) → (a ≡ true → b ≡ true → ⊥) → (if a && b then Some n else None) ≡ None
none_if true true n never = absurd (never refl refl)
none_if true false n never = refl
none_if false b n never = refl

same_if : (a b : Bool) (n : ℕ) → (a ≡ true → b ≡ true) → (if a && b then Some n else None) ≡ (if a then Some n else None)
same_if true true n tells = refl
same_if true false n tells = absurd (clash false (tells refl) refl)
same_if false b n tells = refl

some_if : (a b : Bool) (m n : ℕ) → (if a && b then Some m else None) ≡ Some n → (a ≡ true) × (b ≡ true) × (m ≡ n)
some_if true true m n e = (refl, refl, cc)
some_if true false m n e = cc
some_if false b m n e = cc

-- what isn't a decimal text is no number's
pub number_named-other : (t : List ℕ) → is_decimal t ≡ false → number_named t ≡ None
number_named-other t h =
    let n = digits_value 10 t in
    none_if (nat_le n largest) (bytes_eq (decimal n) t) n (λ low same.
    let bound = leb-true _ _ low in
    let text : decimal n ≡ t = (bytes_eq-Decides (decimal n) t).0 same in
    let P : List ℕ → Type 0 = λ u. is_decimal u ≡ true in
    clash (is_decimal t) (subst P text (is_decimal-decimal n (omega (arith, bound)))) h)

-- a decimal text is its value, up to the largest number
pub number_named-decimal : (t : List ℕ) → is_decimal t ≡ true → number_named t ≡ (if nat_le (digits_value 10 t) largest then Some (digits_value 10 t) else None)
number_named-decimal t h =
    let n = digits_value 10 t in
    same_if (nat_le n largest) (bytes_eq (decimal n) t) n (λ low.
    let bound = leb-true _ _ low in
    (bytes_eq-Decides (decimal n) t).1 (decimal-value t h (omega (arith, bound))))

pub number_named-text : (n : ℕ) → n ≤ largest → number_named (decimal n) ≡ Some n
number_named-text n low =
    let small : n < 2 ^ 64 = omega (arith, low) in
    let P : ℕ → Type 0 = λ k. (if nat_le k largest then Some k else None) ≡ Some n in
    let here : P n = rw (le-leb n largest low) refl in
    number_named-decimal (decimal n) (is_decimal-decimal n small) ∙ subst P (sym (digits_value-decimal own n small)) here

pub text-number_named : (t : List ℕ) (n : ℕ) → number_named t ≡ Some n → (t ≡ decimal n) × (n ≤ largest)
text-number_named t n h =
    let m = digits_value 10 t in
    let p = some_if (nat_le m largest) (bytes_eq (decimal m) t) m n h in
    let bound = leb-true _ _ p.0 in
    (sym ((bytes_eq-Decides (decimal m) t).0 p.1) ∙ ap decimal p.2, omega (arith, bound, p.2))

-- what `parse` makes of a decimal text
pub parsed : {E : Type 0} (t : List ℕ) (r : Result ℕ E) → is_decimal t ≡ true → ParsesUnsigned 32 10 t r → OkIff r (digits_value 10 t < 2 ^ 32) (digits_value 10 t)
parsed {E} t (Ok n) h p = let q = parse_digits own {E = E} 32 t (Ok n) p (and_parts _ _ h).0 in (q.0.1, q.1)
parsed {E} t (Err e) h p = λ low. parse_digits own {E = E} 32 t (Err e) p (and_parts _ _ h).0 ((alone_parts t (and_parts _ _ h).1).0, low)

-- the digits are text
pub text-decimal : (t : List ℕ) → is_decimal t ≡ true → IsUtf8 t
text-decimal t h = IsUtf8-from_ascii t (IsAscii-from_digits t (own.to t (and_parts _ _ h).0))

-- the last step: the number that `parse` gave, where it is in range
pub number_named-parsed : (E : Type 0) (t : List ℕ) (n : ℕ) → is_decimal t ≡ true → ParsesUnsigned {E = E} 32 10 t (Ok n) → number_named t ≡ (if nat_le n largest then Some n else None)
number_named-parsed E t n h p =
    let e : n ≡ digits_value 10 t = (parsed {E = E} t (Ok n) h p).1 in
    let P : ℕ → Type 0 = λ k. number_named t ≡ (if nat_le k largest then Some k else None) in
    subst P (sym e) (number_named-decimal t h)

pub number_named-unparsed : {E : Type 0} (t : List ℕ) (e : E) → is_decimal t ≡ true → ParsesUnsigned {E = E} 32 10 t (Err e) → number_named t ≡ None
number_named-unparsed {E} t e h p =
    let large : digits_value 10 t < 2 ^ 32 → ⊥ = parsed {E = E} t (Err e) h p in
    let no : nat_le (digits_value 10 t) largest ≡ false = grind (arith, nat_tests) in
    number_named-decimal t h ∙ rw no refl

-- what `parse` gave is in range
pub named-parsed : (E : Type 0) (t : List ℕ) (n : ℕ) → is_decimal t ≡ true → ParsesUnsigned {E = E} 32 10 t (Ok n) → number_named t ≡ Some n
named-parsed E t n h p =
    let low : n < 2 ^ 32 = let small = (parsed {E = E} t (Ok n) h p).0 in let same = (parsed {E = E} t (Ok n) h p).1 in omega arith in
    number_named-parsed E t n h p ∙ rw (le-leb n largest (omega arith)) refl

pub inverse : NamesAndNumbersAreInverse
inverse = record {
  number = λ n small. number_named-text n (omega arith);
  name = λ name n h. let both = text-number_named name n h in (both.0, let low = both.1 in omega arith);
}
