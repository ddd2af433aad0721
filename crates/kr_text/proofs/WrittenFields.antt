-- Fields that are written, read again.
use Rattle.std.proofs.Common.{◌≡◌, ℕ, zero, suc, ◌+◌, ◌-◌, ◌*◌, ◌/◌, ◌%◌, ◌<◌, ◌≤◌, true, false, cond, List, [], ◌∷◌, ◌++◌, length, Some, Ok, refl, ap, ◌∙◌, arith, slice_index, inl, inr}
use Rattle.std.specs.Prelude.{Bool, ◌&&◌, ◌==◌, not, nat_eq, nat_le, nat_lt, bytes_eq, codes, if◌then◌else◌}
use Rattle.std.specs.Char.{is_digit, digit_value}
use Rattle.std.specs.Fmt.{decimal, digits, digits_onto, digit_glyph}
use Rattle.std.specs.List.{AllByRecursion, list_all}
use Rattle.std.specs.Option.{option_map}
use Rattle.std.specs.Str.Parse.{AllDigits, IsNumeral, digits_value}
use Rattle.std.proofs.lemmas.Bool.{and_parts, cases_lt, ne_eqb, le-leb, leb-true, lt-ltb, false_from_ne_true}
use Rattle.std.proofs.lemmas.Slice.Eq.{bytes_eq-Decides}
use Rattle.std.proofs.lemmas.Bool.Decides.{nat_tests}
use Rattle.std.proofs.lemmas.Fmt.{decimal_is_IsNumeral, digits_is_IsNumeral}
use Rattle.hex.specs.Hex.{hex_digit_value, lower_digits, encode_with, encode_lower, IsBytes}
use Rattle.hex.proofs.HexLemmas.{IsDigits-lower_digits, length-encode_with, decode_of-encode_lower}
use Rattle.kr_text.specs.Fields.{is_plain, percent, byte_of, unescaped, numeral, id_of, mode_of, largest_id, largest_mode, path_limit, is_empty, bytes_of, or_form, text_of}
use Rattle.kr_text.specs.Canonical.{escape, escaped, octal, bytes_field}
use Rattle.kr_text.specs.Same.{AreTextBytes, EscapesAreReadBack}
use Rattle.kr_text.proofs.EscapeLemmas.{at_plain, at_percent, two_digits}

-- ---- escapes

digits_back : (b : ℕ) → 0 < b → b < 256 → byte_of (slice_index lower_digits (b / 16)) (slice_index lower_digits (b % 16)) ≡ Some b
digits_back b some fits =
    let high : hex_digit_value (slice_index lower_digits (b / 16)) ≡ Some (b / 16) = IsDigits-lower_digits (b / 16) (omega arith) in
    let low : hex_digit_value (slice_index lower_digits (b % 16)) ≡ Some (b % 16) = IsDigits-lower_digits (b % 16) (omega arith) in
    let whole : b / 16 * 16 + b % 16 ≡ b = omega arith in
    let differs : nat_eq b 0 ≡ false = ne_eqb b 0 (λ none. omega arith) in
    rw (high, low, whole, differs) refl

-- one byte
byte_back : (b : ℕ) (text : List ℕ) → 0 < b → b < 256 → unescaped (escape b ++ text) ≡ option_map (λ bytes. b ∷ bytes) (unescaped text)
unfolding encode_with
byte_back b text some fits =
    elim (is_plain b) as (λ p. is_plain b ≡ p → unescaped ((if p then b ∷ [] else percent ∷ encode_lower (b ∷ [])) ++ text) ≡ option_map (λ bytes. b ∷ bytes) (unescaped text)) [
      | true ↦ λ is. at_plain (b ∷ text) text b refl (λ same. let no : is_plain b ≡ false = ap is_plain same in cc) is
      | false ↦ λ is.
          at_percent (percent ∷ slice_index lower_digits (b / 16) ∷ slice_index lower_digits (b % 16) ∷ text) (slice_index lower_digits (b / 16) ∷ slice_index lower_digits (b % 16) ∷ text) percent refl refl
          ∙ two_digits (slice_index lower_digits (b / 16) ∷ slice_index lower_digits (b % 16) ∷ text) (slice_index lower_digits (b % 16) ∷ text) text (slice_index lower_digits (b / 16)) (slice_index lower_digits (b % 16)) b refl refl (digits_back b some fits)
    ] refl

pub escapes_read : EscapesAreReadBack
unfolding unescaped
escapes_read [] are = refl
escapes_read (b ∷ bytes) are = byte_back b (escaped bytes) are.0.0 are.0.1 ∙ ap (option_map (λ more. b ∷ more)) (escapes_read bytes are.1)

-- ---- fields have neither spaces nor newlines

abbrev pub IsGraphic : ℕ → Type 0
IsGraphic c = (33 ≤ c) × (c ≤ 126)

abbrev pub AreGraphic : List ℕ → Type 0
AreGraphic bytes = AllByRecursion IsGraphic bytes

pub graphic-append : (a b : List ℕ) → AreGraphic a → AreGraphic b → AreGraphic (a ++ b)
graphic-append [] b are more = more
graphic-append (c ∷ a) b are more = (are.0, graphic-append a b are.1 more)

-- a test of all numbers below one
abbrev all_below : (ℕ → Bool) → ℕ → Bool
all_below p zero = true
all_below p (suc n) = p n && all_below p n

below_at : (p : ℕ → Bool) (n d : ℕ) → all_below p n ≡ true → d < n → p d ≡ true
below_at p zero d all lt = absurd (omega arith)
below_at p (suc n) d all lt =
    let parts = and_parts (p n) (all_below p n) all in
    elim (cases_lt d n) [
      | inl below ↦ below_at p n d parts.1 below
      | inr top ↦ let e : d ≡ n = omega arith in rw e parts.0
    ]

hex_graphic : (d : ℕ) → d < 16 → IsGraphic (slice_index lower_digits d)
hex_graphic d lt =
    let at = and_parts (nat_le 33 (slice_index lower_digits d)) (nat_le (slice_index lower_digits d) 126) (below_at (λ e. nat_le 33 (slice_index lower_digits e) && nat_le (slice_index lower_digits e) 126) 16 d refl lt) in
    (leb-true 33 (slice_index lower_digits d) at.0, leb-true (slice_index lower_digits d) 126 at.1)

pub hex_graphics : (bytes : List ℕ) → AllByRecursion (λ b. b < 256) bytes → AreGraphic (encode_lower bytes)
unfolding encode_with
hex_graphics [] are = tt
hex_graphics (b ∷ bytes) are = let fits = are.0 in (hex_graphic (b / 16) (omega arith), (hex_graphic (b % 16) (omega arith), hex_graphics bytes are.1))

escape_graphic : (b : ℕ) → b < 256 → AreGraphic (escape b)
escape_graphic b fits =
    elim (is_plain b) as (λ p. is_plain b ≡ p → AreGraphic (if p then b ∷ [] else percent ∷ encode_lower (b ∷ []))) [
      | true ↦ λ is.
          let low = and_parts (nat_le 33 b) (nat_le b 126 && not (nat_eq b percent)) is in
          let high = and_parts (nat_le b 126) (not (nat_eq b percent)) low.1 in
          ((leb-true 33 b low.0, leb-true b 126 high.0), tt)
      | false ↦ λ is. ((omega arith, omega arith), hex_graphics (b ∷ []) (fits, tt))
    ] refl

pub escapes_graphic : (bytes : List ℕ) → AreTextBytes bytes → AreGraphic (escaped bytes)
escapes_graphic [] are = tt
escapes_graphic (b ∷ bytes) are = graphic-append (escape b) (escaped bytes) (escape_graphic b are.0.1) (escapes_graphic bytes are.1)

-- ---- numbers

digits_pass : (radix : ℕ) (ds : List ℕ) → AllDigits radix ds → list_all (λ c. is_digit c radix) ds ≡ true
digits_pass radix [] are = refl
digits_pass radix (c ∷ ds) are = let one : nat_lt (digit_value c) radix ≡ true = lt-ltb (digit_value c) radix are.0 in rw one (digits_pass radix ds are.1)

numeral_back : (radix most n : ℕ) (ds : List ℕ) → IsNumeral radix ds → digits_value radix ds ≡ n → n ≤ most → numeral radix most ds ≡ Ok n
numeral_back radix most n ds is value fits =
    let some : nat_le 1 (length ds) ≡ true = let l = is.0 in le-leb 1 (length ds) (omega arith) in
    let pass : list_all (λ c. is_digit c radix) ds ≡ true = digits_pass radix ds is.1 in
    let within : nat_le (digits_value radix ds) most ≡ true = le-leb (digits_value radix ds) most (omega arith) in
    rw (some, pass, within) (ap Ok value)

pub id_back : (n : ℕ) → n ≤ largest_id → id_of (decimal n) ≡ Ok n
id_back n fits = let digits_are = decimal_is_IsNumeral n (omega arith) in numeral_back 10 largest_id n (decimal n) digits_are.0 digits_are.1 fits

digit_graphic : (c : ℕ) → digit_value c < 10 → IsGraphic c
digit_graphic c is =
    elim (nat_lt c 48) as (λ p. nat_lt c 48 ≡ p → cond p 36 (cond (nat_lt c 58) (c - 48) (cond (nat_lt c 65) 36 (cond (nat_lt c 91) (c - 55) (cond (nat_lt c 97) 36 (cond (nat_lt c 123) (c - 87) 36))))) < 10 → IsGraphic c) [
      | true ↦ λ low h. absurd (omega (arith, h))
      | false ↦ λ low h. grind (arith, nat_tests)
    ] refl is

digits_graphic : (radix : ℕ) (ds : List ℕ) → radix ≤ 10 → AllDigits radix ds → AreGraphic ds
digits_graphic radix [] small are = tt
digits_graphic radix (c ∷ ds) small are = let one = are.0 in (digit_graphic c (omega arith), digits_graphic radix ds small are.1)

pub decimal_graphic : (n : ℕ) → n ≤ largest_id → AreGraphic (decimal n)
decimal_graphic n fits = let digits_are = decimal_is_IsNumeral n (omega arith) in digits_graphic 10 (decimal n) (omega arith) digits_are.0.1

-- eight times a limit for each digit more
abbrev eights : ℕ → ℕ
eights zero = 8
eights (suc k) = 8 * eights k

short : (k steps n : ℕ) (acc : List ℕ) → n < eights k → suc k ≤ steps → length (digits_onto steps 8 false n acc) ≤ suc k + length acc
short k zero n acc lt enough = absurd (omega arith)
short zero (suc steps) n acc lt enough = let none : n / 8 ≡ 0 = omega arith in rw none (omega arith)
short (suc k) (suc steps) n acc lt enough =
    elim (n / 8 == 0) as (λ p. length (if p then digit_glyph false (n % 8) ∷ acc else digits_onto steps 8 false (n / 8) (digit_glyph false (n % 8) ∷ acc)) ≤ suc (suc k) + length acc) [
      | true ↦ omega arith
      | false ↦ let rest = short k steps (n / 8) (digit_glyph false (n % 8) ∷ acc) (omega arith) (omega arith) in omega (arith, rest)
    ]

octal_short : (mode : ℕ) → mode ≤ largest_mode → length (octal mode) ≤ 4
unfolding digits
octal_short mode fits = short 3 64 mode [] (omega arith) (omega arith)

octal_numeral : (mode : ℕ) → mode ≤ largest_mode → IsNumeral 8 (octal mode) × (digits_value 8 (octal mode) ≡ mode)
octal_numeral mode fits = digits_is_IsNumeral 8 false (omega arith) (omega arith) mode (omega arith)

pub mode_back : (mode : ℕ) → mode ≤ largest_mode → mode_of (octal mode) ≡ Ok mode
mode_back mode fits =
    let few : nat_le (length (octal mode)) 4 ≡ true = le-leb (length (octal mode)) 4 (octal_short mode fits) in
    let is = octal_numeral mode fits in
    rw few (numeral_back 8 largest_mode mode (octal mode) is.0 is.1 fits)

pub octal_graphic : (mode : ℕ) → mode ≤ largest_mode → AreGraphic (octal mode)
octal_graphic mode fits = digits_graphic 8 (octal mode) (omega arith) (octal_numeral mode fits).0.1

-- ---- a file's bytes

pub bytes_graphic : (bytes : List ℕ) → AllByRecursion (λ b. b < 256) bytes → AreGraphic (bytes_field bytes)
bytes_graphic [] are = ((omega arith, omega arith), tt)
bytes_graphic (b ∷ bytes) are = hex_graphics (b ∷ bytes) are

are_bytes : (bytes : List ℕ) → AllByRecursion (λ b. b < 256) bytes → IsBytes bytes
are_bytes [] are k = omega arith
are_bytes (b ∷ bytes) are zero = are.0
are_bytes (b ∷ bytes) are (suc k) = are_bytes bytes are.1 k

pub bytes_back : (bytes : List ℕ) → AllByRecursion (λ b. b < 256) bytes → bytes_of (bytes_field bytes) ≡ Ok bytes
bytes_back [] are = refl
bytes_back (b ∷ bytes) are =
    let long = length-encode_with lower_digits (b ∷ bytes) in
    let not_dash : bytes_eq (encode_lower (b ∷ bytes)) (codes "-") ≡ false = false_from_ne_true _ (λ same. let one = ap length ((bytes_eq-Decides (encode_lower (b ∷ bytes)) (codes "-")).0 same) in omega (arith, long, one)) in
    let some : is_empty (encode_lower (b ∷ bytes)) ≡ false = ne_eqb (length (encode_lower (b ∷ bytes))) 0 (λ none. omega (arith, long, none)) in
    rw (not_dash, some) (ap or_form (decode_of-encode_lower (b ∷ bytes) (are_bytes (b ∷ bytes) are)))

-- ---- a link's text

pub text_back : (text : List ℕ) → AreTextBytes text → 1 ≤ length text → length text ≤ path_limit → text_of (escaped text) ≡ Ok text
text_back text are some fits =
    let low : nat_le 1 (length text) ≡ true = le-leb 1 (length text) some in
    let high : nat_le (length text) path_limit ≡ true = le-leb (length text) path_limit fits in
    rw (escapes_read text are) (rw (low, high) refl)
