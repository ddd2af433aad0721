-- Names with numbers in them, and their paths as fields of a line.
use Rattle.std.proofs.Common.{◌≡◌, ℕ, ◌-◌, ◌<◌, ◌≤◌, ◌^◌, true, false, cond, List, [], ◌∷◌, ◌++◌, refl, sym, ap, ◌∙◌, arith, append_assoc}
use Rattle.std.specs.Prelude.{codes, nat_lt, nat_le, nat_eq}
use Rattle.std.specs.Char.{digit_value}
use Rattle.std.specs.List.{AllByRecursion}
use Rattle.std.specs.Fmt.{decimal, digits}
use Rattle.std.specs.Str.Parse.{AllDigits, digits_value}
use Rattle.std.proofs.lemmas.Bool.{le-leb, ne_eqb}
use Rattle.std.proofs.lemmas.Bool.Decides.{nat_tests}
use Rattle.std.proofs.lemmas.Fmt.{decimal_is_IsNumeral}
use Rattle.std.proofs.lemmas.Grind.{flat_map-append}
use Rattle.kr_text.specs.Fields.{is_plain}
use Rattle.kr_text.specs.Canonical.{bytes_field, escape, escaped, line, octal, path_field}
use Rattle.pr_gen.specs.Listing.{below_guest, bound_lines, case_listing, directory_line, directory_lines, directory_mode, directory_path, elf_line, file_line, file_mode, head_lines, target_lines, file_path, owner_fields, target_path}

-- ---- bytes that stand for themselves

abbrev pub ArePlain : List ℕ → Type 0
ArePlain bytes = AllByRecursion (λ b. is_plain b ≡ true) bytes

pub plain_stays : (bytes : List ℕ) → ArePlain bytes → escaped bytes ≡ bytes
plain_stays [] are = refl
plain_stays (b ∷ bytes) are = rw are.0 (ap (λ more. b ∷ more) (plain_stays bytes are.1))

between_plain : (c : ℕ) → 48 ≤ c → c ≤ 57 → is_plain c ≡ true
between_plain c low high =
    let one : nat_le 33 c ≡ true = le-leb 33 c (omega (arith, low)) in
    let two : nat_le c 126 ≡ true = le-leb c 126 (omega (arith, high)) in
    let three : nat_eq c 37 ≡ false = ne_eqb c 37 (λ same. omega (arith, low, same)) in
    rw (one, two, three) refl

-- a decimal digit is a byte from 48 to 57
pub digit_between : (c : ℕ) → digit_value c < 10 → (48 ≤ c) × (c ≤ 57)
digit_between c is =
    elim (nat_lt c 48) as (λ p. nat_lt c 48 ≡ p → cond p 36 (cond (nat_lt c 58) (c - 48) (cond (nat_lt c 65) 36 (cond (nat_lt c 91) (c - 55) (cond (nat_lt c 97) 36 (cond (nat_lt c 123) (c - 87) 36))))) < 10 → (48 ≤ c) × (c ≤ 57)) [
      | true ↦ λ low h. absurd (omega (arith, h))
      | false ↦ λ low h. grind (arith, nat_tests)
    ] refl is

digits_plain : (ds : List ℕ) → AllDigits 10 ds → ArePlain ds
digits_plain [] are = tt
digits_plain (c ∷ ds) are = let at = digit_between c are.0 in (between_plain c at.0 at.1, digits_plain ds are.1)

pub decimal_plain : (n : ℕ) → n < 2 ^ 32 → ArePlain (decimal n)
decimal_plain n fits = let numeral = decimal_is_IsNumeral n (omega arith) in digits_plain (decimal n) numeral.0.1

pub decimal_once : (a b : ℕ) → a < 2 ^ 32 → b < 2 ^ 32 → decimal a ≡ decimal b → a ≡ b
decimal_once a b fits_a fits_b same =
    let one = decimal_is_IsNumeral a (omega arith) in
    let two = decimal_is_IsNumeral b (omega arith) in
    sym one.1 ∙ ap (digits_value 10) same ∙ two.1

-- ---- paths as fields

pub directory_field : (d : ℕ) → d < 2 ^ 32 → path_field (directory_path d) ≡ codes "/g/d" ++ decimal d
directory_field d fits = ap (λ more. codes "/g/d" ++ more) (plain_stays (decimal d) (decimal_plain d fits))

pub target_field : (k : ℕ) → k < 2 ^ 32 → path_field (target_path k) ≡ codes "/t/t" ++ decimal k
target_field k fits = ap (λ more. codes "/t/t" ++ more) (plain_stays (decimal k) (decimal_plain k fits))

pub file_field : (d f : ℕ) → d < 2 ^ 32 → f < 2 ^ 32 → path_field (file_path d f) ≡ (codes "/g/d" ++ decimal d) ++ (codes "/f" ++ decimal f)
file_field d f fits_d fits_f =
    flat_map-append escape (codes "/g/d" ++ decimal d) (codes "/f" ++ decimal f)
    ∙ ap (λ more. more ++ escaped (codes "/f" ++ decimal f)) (directory_field d fits_d)
    ∙ ap (λ more. (codes "/g/d" ++ decimal d) ++ more) (plain_stays (codes "/f" ++ decimal f) (refl, (refl, decimal_plain f fits_f)))

-- ---- numbers that are known

pub directory_octal : octal directory_mode ≡ codes "755"
unfolding digits
directory_octal = refl

pub file_octal : octal file_mode ≡ codes "644"
unfolding digits
file_octal = refl

pub user_decimal : decimal 1000 ≡ codes "1000"
unfolding digits
user_decimal = refl

-- ---- lines

directory_front : (field : List ℕ) → line (codes "d") (owner_fields directory_mode (field ∷ [])) ≡ codes "d 755 1000 1000 " ++ (field ++ 10 ∷ [])
directory_front field = rw (directory_octal, user_decimal) refl

file_front : (field bytes : List ℕ) → line (codes "f") (owner_fields file_mode (field ∷ bytes ∷ [])) ≡ codes "f 644 1000 1000 " ++ (field ++ 32 ∷ (bytes ++ 10 ∷ []))
file_front field bytes = rw (file_octal, user_decimal) refl

pub directory_text : (d : ℕ) → d < 2 ^ 32 → directory_line (directory_path d) ≡ codes "d 755 1000 1000 /g/d" ++ (decimal d ++ 10 ∷ [])
directory_text d fits = directory_front (path_field (directory_path d)) ∙ ap (λ field. codes "d 755 1000 1000 " ++ (field ++ 10 ∷ [])) (directory_field d fits)

pub target_text : (k : ℕ) → k < 2 ^ 32 → file_line (target_path k) [] ≡ codes "f 644 1000 1000 /t/t" ++ (decimal k ++ (codes " -" ++ 10 ∷ []))
target_text k fits = file_front (path_field (target_path k)) (codes "-") ∙ ap (λ field. codes "f 644 1000 1000 " ++ (field ++ 32 ∷ (codes "-" ++ 10 ∷ []))) (target_field k fits)

pub file_text : (d f : ℕ) (bytes : List ℕ) → d < 2 ^ 32 → f < 2 ^ 32 → file_line (file_path d f) bytes ≡ (codes "f 644 1000 1000 /g/d" ++ (decimal d ++ (codes "/f" ++ (decimal f ++ 32 ∷ [])))) ++ (bytes_field bytes ++ 10 ∷ [])
file_text d f bytes fits_d fits_f =
    file_front (path_field (file_path d f)) (bytes_field bytes)
    ∙ ap (λ field. codes "f 644 1000 1000 " ++ (field ++ 32 ∷ (bytes_field bytes ++ 10 ∷ []))) (file_field d f fits_d fits_f)
    ∙ joined (decimal d) (decimal f) (bytes_field bytes ++ 10 ∷ [])
  where
    joined : (a b more : List ℕ) → codes "f 644 1000 1000 " ++ (((codes "/g/d" ++ a) ++ (codes "/f" ++ b)) ++ 32 ∷ more) ≡ (codes "f 644 1000 1000 /g/d" ++ (a ++ (codes "/f" ++ (b ++ 32 ∷ [])))) ++ more
    joined a b more = ap (λ x. codes "f 644 1000 1000 /g/d" ++ x) (
        append_assoc a (codes "/f" ++ b) (32 ∷ more)
        ∙ ap (λ x. a ++ (codes "/f" ++ x)) (sym (append_assoc b (32 ∷ []) more))
        ∙ sym (append_assoc a (codes "/f" ++ (b ++ 32 ∷ [])) more))

-- ---- what is the same in all cases

pub head_text : head_lines ≡ (codes "user 1000 1000" ++ 10 ∷ []) ++ ((codes "d 755 1000 1000 /" ++ 10 ∷ []) ++ (codes "d 755 1000 1000 /g" ++ 10 ∷ []))
unfolding digits
head_text = refl

pub bound_text : bound_lines ≡ (codes "d 755 1000 1000 /g/d1/m" ++ 10 ∷ []) ++ ((codes "d 755 1000 1000 /s" ++ 10 ∷ []) ++ ((codes "d 755 1000 1000 /s/n" ++ 10 ∷ []) ++ (codes "d 755 1000 1000 /t" ++ 10 ∷ [])))
unfolding digits
bound_text = refl

pub guest_text : elf_line (below_guest (codes "p")) ≡ codes "x 755 1000 1000 /g/p" ++ 10 ∷ []
unfolding digits
guest_text = refl

pub whole_text : (n : ℕ) (head lines bound targets guest : List ℕ) → head ≡ head_lines → lines ≡ head ++ directory_lines 16 n → bound ≡ lines ++ bound_lines
    → targets ≡ bound ++ target_lines 256 → guest ≡ targets ++ elf_line (below_guest (codes "p")) → guest ≡ case_listing n
unfolding case_listing
whole_text n head lines bound targets guest first second third fourth fifth =
    fifth ∙ ap (λ l. l ++ elf_line (below_guest (codes "p"))) (fourth ∙ ap (λ l. l ++ target_lines 256) (third ∙ ap (λ l. l ++ bound_lines) (second ∙ ap (λ l. l ++ directory_lines 16 n) first)))

-- a line that is added in three parts
pub in_parts : (out front field : List ℕ) → ((out ++ front) ++ field) ++ 10 ∷ [] ≡ out ++ (front ++ (field ++ 10 ∷ []))
in_parts out front field = append_assoc (out ++ front) field (10 ∷ []) ∙ append_assoc out front (field ++ 10 ∷ [])
