-- The names and paths of a case, and the places of its lines.
use Rattle.std.proofs.Common.{◌≡◌, ℕ, ◌+◌, ◌*◌, ◌<◌, ◌≤◌, ◌^◌, true, false, List, [], ◌∷◌, length, drop, refl, ap, arith}
use Rattle.std.specs.Prelude.{◌||◌, not, codes, get_or, nat_eq, nat_le, nat_lt, if◌then◌else◌}
use Rattle.std.specs.List.{AllByRecursion, list_all}
use Rattle.std.specs.Fmt.{decimal}
use Rattle.std.specs.Str.Parse.{AllDigits, digits_value}
use Rattle.std.proofs.lemmas.Bool.{le-leb, lt-ltb, ne_eqb}
use Rattle.std.proofs.lemmas.Fmt.{decimal_is_IsNumeral, length-decimal-le}
use Rattle.std.proofs.lemmas.List.{length-append}
use Rattle.kr_text.specs.kr_inode.Names.{is_dots, is_name}
use Rattle.kr_text.specs.kr_tree.Lawful.{AreBytes}
use Rattle.rv_asm.specs.pr_base.Paths.{below_root}
use Rattle.kr_text.proofs.KeptBytes.{path_bytes}
use Rattle.kr_text.proofs.WrittenLines.{IsPath}
use Rattle.pr_gen.specs.Listing.{below_guest, directory_path, file_path, target_path}
use Rattle.pr_gen.proofs.TextLemmas.{digit_between}

-- ---- names

pub record IsGoodName (name : List ℕ) : Type 0 where
  pub well : is_name name ≡ true
  pub bytes : AreBytes name
  pub short : length name ≤ 30

digits_pass : (ds : List ℕ) → AllDigits 10 ds → list_all (λ b. not (nat_eq b 47 || nat_eq b 0)) ds ≡ true
digits_pass [] are = refl
digits_pass (c ∷ ds) are =
    let at = digit_between c are.0 in
    let low = at.0 in
    let slash : nat_eq c 47 ≡ false = ne_eqb c 47 (λ same. omega (arith, low, same)) in
    let none : nat_eq c 0 ≡ false = ne_eqb c 0 (λ same. omega (arith, low, same)) in
    rw (slash, none) (digits_pass ds are.1)

digits_bytes : (ds : List ℕ) → AllDigits 10 ds → AreBytes ds
digits_bytes [] are = tt
digits_bytes (c ∷ ds) are = let at = digit_between c are.0 in let high = at.1 in (omega (arith, high), digits_bytes ds are.1)

no_dots : (c : ℕ) (ds : List ℕ) → nat_eq c 46 ≡ false → is_dots (c ∷ ds) ≡ false
no_dots c [] is = is
no_dots c (a ∷ []) is = rw is refl
no_dots c (a ∷ b ∷ ds) is = refl

-- a small letter and a number
pub numbered_good : (c k : ℕ) → 97 ≤ c → c ≤ 122 → k < 2 ^ 32 → IsGoodName (c ∷ decimal k)
numbered_good c k low high fits =
    let numeral = decimal_is_IsNumeral k (omega (arith, fits)) in
    let size = length-decimal-le 20 k (omega arith) (omega (arith, fits)) (omega (arith, fits)) in
    let some : nat_lt 0 (length (c ∷ decimal k)) ≡ true = lt-ltb 0 (length (c ∷ decimal k)) (omega arith) in
    let few : nat_le (length (c ∷ decimal k)) 255 ≡ true = le-leb (length (c ∷ decimal k)) 255 (omega (arith, size)) in
    let slash : nat_eq c 47 ≡ false = ne_eqb c 47 (λ same. omega (arith, low, same)) in
    let none : nat_eq c 0 ≡ false = ne_eqb c 0 (λ same. omega (arith, low, same)) in
    let dots : is_dots (c ∷ decimal k) ≡ false = no_dots c (decimal k) (ne_eqb c 46 (λ same. omega (arith, low, same))) in
    record {
      well = rw (some, few, dots) (rw (slash, none) (rw (digits_pass (decimal k) numeral.0.1) refl));
      bytes = (omega (arith, high), digits_bytes (decimal k) numeral.0.1);
      short = omega (arith, size);
    }

pub letter_good : (c : ℕ) → 97 ≤ c → c ≤ 122 → IsGoodName (c ∷ [])
letter_good c low high =
    let slash : nat_eq c 47 ≡ false = ne_eqb c 47 (λ same. omega (arith, low, same)) in
    let none : nat_eq c 0 ≡ false = ne_eqb c 0 (λ same. omega (arith, low, same)) in
    let dot : nat_eq c 46 ≡ false = ne_eqb c 46 (λ same. omega (arith, low, same)) in
    record { well = rw (slash, none, dot) refl; bytes = (omega (arith, high), tt); short = omega arith }

-- ---- paths

short_below : (text : List (List ℕ)) → AllByRecursion IsGoodName text → length (below_root text) ≤ 31 * length text
short_below [] are = omega arith
short_below (name ∷ text) are =
    let rest = short_below text are.1 in
    let this = are.0.short in
    let joined = length-append (below_root text) (47 ∷ name) in
    omega (arith, rest, this, joined)

names_of : (text : List (List ℕ)) → AllByRecursion IsGoodName text → AllByRecursion (λ name. is_name name ≡ true) text
names_of [] are = tt
names_of (name ∷ text) are = (are.0.well, names_of text are.1)

bytes_of : (text : List (List ℕ)) → AllByRecursion IsGoodName text → AllByRecursion AreBytes text
bytes_of [] are = tt
bytes_of (name ∷ text) are = (are.0.bytes, bytes_of text are.1)

pub good_path : (name : List ℕ) (text : List (List ℕ)) → AllByRecursion IsGoodName (name ∷ text) → length text ≤ 3 → IsPath (name ∷ text)
good_path name text are few = record {
  names = names_of (name ∷ text) are;
  bytes = path_bytes (name ∷ text) (names_of (name ∷ text) are) (bytes_of (name ∷ text) are);
  short = let l = short_below (name ∷ text) are in omega (arith, l, few);
}

-- ---- the places of lines, the user's apart

-- the number in a name, behind its letter
number : List ℕ → ℕ
number name = digits_value 10 (drop 1 name)

letter : List ℕ → ℕ
letter name = get_or name 0 0

place_at_top : ℕ → ℕ
place_at_top c = if nat_eq c 103 then 1 else if nat_eq c 115 then 4115 else 4117

place_below : ℕ → List ℕ → List ℕ → ℕ
place_below c name above =
    if nat_eq c 100 then 2 + 257 * number name
    else if nat_eq c 102 then 3 + 257 * number above + number name
    else if nat_eq c 109 then 4114
    else if nat_eq c 110 then 4116
    else if nat_eq c 116 then 4118 + number name
    else 4374

pub place : List (List ℕ) → ℕ
place [] = 0
place (name ∷ []) = place_at_top (letter name)
place (name ∷ above ∷ text) = place_below (letter name) name above

number_back : (c k : ℕ) → k < 2 ^ 32 → number (c ∷ decimal k) ≡ k
unfolding number
number_back c k fits = (decimal_is_IsNumeral k (omega (arith, fits))).1

pub directory_place : (d : ℕ) → d < 2 ^ 32 → place (directory_path d) ≡ 2 + 257 * d
unfolding place place_below letter
directory_place d fits = ap (λ k. 2 + 257 * k) (number_back 100 d fits)

pub file_place : (d f : ℕ) → d < 2 ^ 32 → f < 2 ^ 32 → place (file_path d f) ≡ 3 + 257 * d + f
unfolding place place_below letter
file_place d f fits_d fits_f = λ i. 3 + 257 * number_back 100 d fits_d i + number_back 102 f fits_f i

pub target_place : (k : ℕ) → k < 2 ^ 32 → place (target_path k) ≡ 4118 + k
unfolding place place_below letter
target_place k fits = ap (λ j. 4118 + j) (number_back 116 k fits)

pub other_places :
    (place [] ≡ 0) × (place (codes "g" ∷ []) ≡ 1) × (place (codes "m" ∷ directory_path 1) ≡ 4114) × (place (codes "s" ∷ []) ≡ 4115)
    × (place (codes "n" ∷ codes "s" ∷ []) ≡ 4116) × (place (codes "t" ∷ []) ≡ 4117) × (place (below_guest (codes "p")) ≡ 4374)
unfolding place place_at_top place_below letter
other_places = (refl, refl, refl, refl, refl, refl, refl)
