-- Numbers and texts of fields.
use Rattle.std.proofs.Common.{◌≡◌, ◌≢◌, ℕ, ◌+◌, ◌*◌, ◌≤◌, ◌<◌, ◌^◌, Bool, true, false, List, [], ◌∷◌, refl, arith, Option, Some, None, Result, Ok, Err, length}
use Rattle.std.specs.Prelude.{◌&&◌, not, nat_eq, nat_le, IfSome, IfOk}
use Rattle.std.specs.Bool.{if◌then◌else◌}
use Rattle.std.specs.Char.{is_digit}
use Rattle.std.specs.List.{list_all}
use Rattle.std.specs.Option.{option_and_then, ok_or}
use Rattle.std.specs.Str.Parse.{digits_value}
use Rattle.std.proofs.lemmas.Bool.{and_parts}
use Rattle.std.proofs.lemmas.Bool.Decides.{nat_tests}
use Rattle.std.proofs.lemmas.List.Elements.{All-nil, All-cons}
use Rattle.hex.specs.Hex.{hex_digit_value}
use Rattle.kr_text.specs.declared.fault.TreeWhy.{TreeWhy}
use Rattle.kr_text.specs.declared.fault.TreeWhy.TheVariants.{Number, Name}
use Rattle.kr_text.specs.Fields.{◌>>=◌, is_numeral, numeral, largest_id, id_of, mode_of, percent, is_plain, plain, not_zero, byte_of, onto, unescaped, behind_percent, behind_digit, path_limit, link_text, text_of}
use Rattle.kr_text.specs.Lines.{owner_of}
use Rattle.kr_text.specs.Reading.{put}
use Rattle.law_allowed.specs.Texts.{IsText}

-- ---- one step behind the other

module _ {A B : Type 0} (Q : B → Type 0) where
  -- the second step knows what holds of the first one's value
  pub step : (r : Result A TreeWhy) (P : A → Type 0) (next : A → Result B TreeWhy) → IfOk r P → ((a : A) → P a → IfOk (next a) Q) → IfOk (r >>= next) Q
  step (Ok a) P next is on = on a is
  step (Err why) P next is on = tt

  pub any-step : (r : Result A TreeWhy) (next : A → Result B TreeWhy) → ((a : A) → IfOk (next a) Q) → IfOk (r >>= next) Q
  any-step (Ok a) next on = on a
  any-step (Err why) next on = tt

pub or-fault : {A : Type 0} (Q : A → Type 0) (why : TreeWhy) (b : Bool) (r : Result A TreeWhy) → IfOk r Q → IfOk (if b then Err why else r) Q
or-fault Q why true r is = tt
or-fault Q why false r is = is

-- ---- numbers

abbrev pub IsSmall : ℕ → Type 0
IsSmall n = n < 2 ^ 32

-- what a function takes first: kr_text gives its records no names for others
abbrev pub FirstOf : {A B : Type 0} → (A → B) → Type 0
FirstOf {A} f = A

abbrev pub Owner : Type 0
Owner = FirstOf put

abbrev pub IsSmallOwner : Owner → Type 0
IsSmallOwner owner = IsSmall owner.uid × IsSmall owner.gid

numeral-small : (radix most : ℕ) (text : List ℕ) → IfOk (numeral radix most text) (λ n. n ≤ most)
numeral-small radix most text = by (is_numeral radix most text) refl
  where
    within : is_numeral radix most text ≡ true → digits_value radix text ≤ most
    within is =
        let digits = and_parts (nat_le 1 (length text)) (list_all (λ c. is_digit c radix) text && nat_le (digits_value radix text) most) is in
        let small : nat_le (digits_value radix text) most ≡ true = (and_parts (list_all (λ c. is_digit c radix) text) (nat_le (digits_value radix text) most) digits.1).1 in
        grind (arith, nat_tests)

    by : (b : Bool) → is_numeral radix most text ≡ b → IfOk (if b then Ok (digits_value radix text) else Err Number) (λ n. n ≤ most)
    by true is = within is
    by false is = tt

pub id-small : (text : List ℕ) → IfOk (id_of text) IsSmall
id-small text = by (id_of text) (numeral-small 10 largest_id text)
  where
    by : (r : Result ℕ TreeWhy) → IfOk r (λ n. n ≤ largest_id) → IfOk r IsSmall
    by (Ok n) small = omega arith
    by (Err why) small = tt

pub owner-small : (mode uid gid : List ℕ) → IfOk (owner_of mode uid gid) IsSmallOwner
owner-small mode uid gid =
    any-step IsSmallOwner (mode_of mode) _ (λ m. step IsSmallOwner (id_of uid) IsSmall _ (id-small uid) (λ u one. step IsSmallOwner (id_of gid) IsSmall _ (id-small gid) (λ g two. (one, two))))

-- ---- texts

after-some : {A B : Type 0} (P : B → Type 0) (o : Option A) (f : A → Option B) → ((a : A) → IfSome (f a) P) → IfSome (option_and_then f o) P
after-some P None f on = tt
after-some P (Some a) f on = on a

abbrev IsNoZero : ℕ → Type 0
IsNoZero b = b ≢ 0

plain-no_zero : (b : ℕ) → IfSome (plain b) IsNoZero
plain-no_zero b = by (is_plain b) refl
  where
    high : is_plain b ≡ true → IsNoZero b
    high is =
        let first : nat_le 33 b ≡ true = (and_parts (nat_le 33 b) (nat_le b 126 && not (nat_eq b percent)) is).0 in
        let above : 33 ≤ b = grind (arith, nat_tests) in
        λ zero. omega arith

    by : (t : Bool) → is_plain b ≡ t → IfSome (if t then Some b else None) IsNoZero
    by true is = high is
    by false is = tt

tested-no_zero : (b : ℕ) → IfSome (not_zero b) IsNoZero
tested-no_zero b = by (nat_eq b 0) refl
  where
    by : (t : Bool) → nat_eq b 0 ≡ t → IfSome (if t then None else Some b) IsNoZero
    by true is = tt
    by false is = λ zero. grind (arith, nat_tests)

byte-no_zero : (high low : ℕ) → IfSome (byte_of high low) IsNoZero
byte-no_zero high low = after-some IsNoZero (hex_digit_value high) _ (λ h. after-some IsNoZero (hex_digit_value low) _ (λ l. tested-no_zero (h * 16 + l)))

onto-text : (b : Option ℕ) (bytes : Option (List ℕ)) → IfSome b IsNoZero → IfSome bytes IsText → IfSome (onto b bytes) IsText
onto-text None bytes first rest = tt
onto-text (Some b) None first rest = tt
onto-text (Some b) (Some bytes) first rest = All-cons IsNoZero b bytes first rest

-- what is read from a byte on, from behind a percent sign, and from behind one with a digit
all-texts : (text : List ℕ) → IfSome (unescaped text) IsText × IfSome (behind_percent text) IsText × ((high : ℕ) → IfSome (behind_digit high text) IsText)
unfolding unescaped
all-texts [] = (All-nil IsNoZero, tt, λ high. tt)
all-texts (b ∷ text) =
    let rest = all-texts text in
    (by (nat_eq b percent) rest.0 rest.1, rest.2 b, λ high. onto-text (byte_of high b) (unescaped text) (byte-no_zero high b) rest.0)
  where
    by : (t : Bool) → IfSome (unescaped text) IsText → IfSome (behind_percent text) IsText
        → IfSome (elim t as (λ _. Option (List ℕ)) [ true ↦ behind_percent text | false ↦ onto (plain b) (unescaped text) ]) IsText
    by true own behind = behind
    by false own behind = onto-text (plain b) (unescaped text) (plain-no_zero b) own

pub read-text : (field : List ℕ) → IfOk (text_of field) IsText
read-text field = by (unescaped field) (all-texts field).0
  where
    within : (bytes : List ℕ) → IsText bytes → IfOk (link_text bytes) IsText
    within bytes is = at (nat_le 1 (length bytes) && nat_le (length bytes) path_limit)
      where
        at : (b : Bool) → IfOk (if b then Ok bytes else Err Name) IsText
        at true = is
        at false = tt

    by : (o : Option (List ℕ)) → IfSome o IsText → IfOk (ok_or o Name >>= link_text) IsText
    by None is = tt
    by (Some bytes) is = within bytes is
