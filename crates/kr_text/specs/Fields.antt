-- What a field of a line stands for, or why it is bad.
use Rattle.std.specs.Prelude.{ℕ, ◌+◌, ◌*◌, Bool, true, false, ◌&&◌, ◌||◌, not, List, [], ◌∷◌, length, reverse, codes, Option, Some, None, Result, Ok, Err, ok_or, nat_eq, nat_le, bytes_eq, if◌then◌else◌}
use Rattle.std.specs.List.{list_all, slice_split}
use Rattle.std.specs.Option.{option_map, option_and_then}
use Rattle.std.specs.Char.{is_digit}
use Rattle.std.specs.Str.Parse.{digits_value}
use Rattle.hex.specs.Hex.{hex_digit_value, decode_of}
use Rattle.hex.specs.declared.error.FromHexError.{FromHexError}
use Rattle.kr_tree.specs.pr_base.Paths.{is_slash, parts_of}
use Rattle.kr_tree.specs.Names.{is_name}
use Rattle.kr_text.specs.declared.fault.TreeWhy.{TreeWhy}
use Rattle.kr_text.specs.declared.fault.TreeWhy.TheVariants.{Form, Number, Name}

-- the second step, where the first gave a value
infixl 10 ◌>>=◌
abbrev pub ◌>>=◌ : {A B : Type 0} → Result A TreeWhy → (A → Result B TreeWhy) → Result B TreeWhy
Ok x >>= next = next x
Err why >>= next = Err why

-- ---- numbers

-- one digit or more of a number up to the largest; zeros may lead
abbrev pub is_numeral : ℕ → ℕ → List ℕ → Bool
is_numeral radix most text =
    nat_le 1 (length text) && (list_all (λ c. is_digit c radix) text && nat_le (digits_value radix text) most)

abbrev pub numeral : ℕ → ℕ → List ℕ → Result ℕ TreeWhy
numeral radix most text = if is_numeral radix most text then Ok (digits_value radix text) else Err Number

-- the largest number of a user or group
abbrev pub largest_id : ℕ
largest_id = 4294967294

-- the largest mode, 07777
abbrev pub largest_mode : ℕ
largest_mode = 4095

-- a user's or a group's number, in decimal
abbrev pub id_of : List ℕ → Result ℕ TreeWhy
id_of text = numeral 10 largest_id text

-- a mode: one to four octal digits
abbrev pub mode_of : List ℕ → Result ℕ TreeWhy
mode_of text = if nat_le (length text) 4 then numeral 8 largest_mode text else Err Number

-- ---- bytes

abbrev pub percent : ℕ
percent = 37

-- a byte that stands for itself: a graphic character of ASCII other than `%`
abbrev pub is_plain : ℕ → Bool
is_plain b = nat_le 33 b && (nat_le b 126 && not (nat_eq b percent))

abbrev pub plain : ℕ → Option ℕ
plain b = if is_plain b then Some b else None

-- a name or text has no zero byte
abbrev pub not_zero : ℕ → Option ℕ
not_zero b = if nat_eq b 0 then None else Some b

-- the byte that two hex digits behind a `%` stand for
abbrev pub byte_of : ℕ → ℕ → Option ℕ
byte_of high low = option_and_then (λ h. option_and_then (λ l. not_zero (h * 16 + l)) (hex_digit_value low)) (hex_digit_value high)

-- a byte in front of others, where both are there
abbrev pub onto : Option ℕ → Option (List ℕ) → Option (List ℕ)
onto b bytes = option_and_then (λ x. option_map (λ xs. x ∷ xs) bytes) b

-- the bytes that a text stands for, whose escapes are a `%` with two hex digits; none where a byte
-- can't stand there
unfoldable mutual
  pub unescaped : List ℕ → Option (List ℕ)
  unescaped [] = Some []
  unescaped (b ∷ text) = elim (nat_eq b percent) as (λ _. Option (List ℕ)) [ true ↦ behind_percent text | false ↦ onto (plain b) (unescaped text) ]

  pub behind_percent : List ℕ → Option (List ℕ)
  behind_percent [] = None
  behind_percent (high ∷ text) = behind_digit high text

  pub behind_digit : ℕ → List ℕ → Option (List ℕ)
  behind_digit high [] = None
  behind_digit high (low ∷ text) = onto (byte_of high low) (unescaped text)

-- ---- paths and texts

-- the most bytes of a path, and of a link's text
abbrev pub path_limit : ℕ
path_limit = 4095

abbrev pub is_empty : List ℕ → Bool
is_empty text = nat_eq (length text) 0

-- `/`, or a slash before each of some names; `.` and `..` are none
abbrev pub is_path : List ℕ → Bool
is_path [] = false
is_path (b ∷ names) = is_slash b && (nat_le (length (b ∷ names)) path_limit && (is_empty names || list_all is_name (slice_split is_slash names)))

-- the names of a path, the deepest first
abbrev pub names_of : List ℕ → Result (List (List ℕ)) TreeWhy
names_of path = if is_path path then Ok (reverse (parts_of path)) else Err Name

abbrev pub path_of : List ℕ → Result (List (List ℕ)) TreeWhy
path_of field = ok_or (unescaped field) Name >>= names_of

abbrev pub link_text : List ℕ → Result (List ℕ) TreeWhy
link_text text = if nat_le 1 (length text) && nat_le (length text) path_limit then Ok text else Err Name

abbrev pub text_of : List ℕ → Result (List ℕ) TreeWhy
text_of field = ok_or (unescaped field) Name >>= link_text

-- ---- a file's bytes

abbrev pub or_form : Result (List ℕ) FromHexError → Result (List ℕ) TreeWhy
or_form (Ok bytes) = Ok bytes
or_form (Err error) = Err Form

-- hex digits of either case, and `-` for no bytes
abbrev pub bytes_of : List ℕ → Result (List ℕ) TreeWhy
bytes_of field = if bytes_eq field (codes "-") then Ok [] else (if is_empty field then Err Form else or_form (decode_of field))
