-- What the value of an option says.
use Rattle.std.specs.Prelude.{ℕ, ◌-◌, nat_eq, nat_le, Bool, true, false, ◌&&◌, List, [], ◌∷◌, length, take, codes, Option, Some, None, if◌then◌else◌}
use Rattle.std.specs.List.{list_all, ends_with, slice_split}
use Rattle.std.specs.Option.{option_map, option_map_or, option_and_then}
use Rattle.std.specs.Str.Parse.{digits_value}
pub use Rattle.pr_base.specs.Digits.{is_digit}
use Rattle.pr_words.specs.declared.options.Slot.{Slot}
use Rattle.pr_words.specs.Spelling.{cut_at}

-- one digit or more, but not more than `digits` of them; zeros may lead
abbrev pub is_numeral : ℕ → List ℕ → Bool
is_numeral digits text = nat_le 1 (length text) && (nat_le (length text) digits && list_all is_digit text)

-- a decimal number within a range
abbrev pub number_of : ℕ → ℕ → ℕ → List ℕ → Option ℕ
number_of digits least most text =
    let n = digits_value 10 text in
    if is_numeral digits text && (nat_le least n && nat_le n most) then Some n else None

abbrev pub turns_of : List ℕ → Option ℕ
turns_of text = number_of 8 1 10000000 text

abbrev pub case_of : List ℕ → Option ℕ
case_of text = number_of 8 0 65535 text

-- ---- two numbers

infixl 10 ◌>>=◌
abbrev pub ◌>>=◌ : {A B : Type 0} → Option A → (A → Option B) → Option B
o >>= next = option_and_then next o

-- the largest number of a user or group
abbrev pub largest_id : ℕ
largest_id = 4294967294

abbrev pub id_of : List ℕ → Option ℕ
id_of text = number_of 10 0 largest_id text

-- `U:G`
abbrev pub ids_of : List ℕ → Option (ℕ × ℕ)
ids_of text = cut_at 58 text >>= (λ parts. id_of parts.0 >>= (λ uid. id_of parts.1 >>= (λ gid. Some (uid, gid))))

-- ---- a schedule

-- `P*F`
abbrev pub slot_of : List ℕ → Option Slot
slot_of text = cut_at 42 text >>= (λ parts. number_of 8 0 255 parts.0 >>= (λ pick. number_of 8 1 100000 parts.1 >>= (λ fuel. Some (record { pick = pick; fuel = fuel }))))

-- all of them, where each is one
abbrev pub slots_of : List (List ℕ) → Option (List Slot)
slots_of [] = Some []
slots_of (text ∷ texts) = slot_of text >>= (λ slot. slots_of texts >>= (λ slots. Some (slot ∷ slots)))

-- 1 to 1,024 slots with a `,` between two
abbrev pub schedule_of : List ℕ → Option (List Slot)
schedule_of text =
    let texts = slice_split (λ b. nat_eq b 44) text in
    if nat_le (length texts) 1024 then slots_of texts else None

-- ---- a binding

-- a path without the final `!`, and whether it had one
abbrev pub without_mark : List ℕ → List ℕ × Bool
without_mark path = if ends_with nat_eq path (codes "!") then (take (length path - 1) path, true) else (path, false)

pub record Binding : Type 0 where
  pub host : List ℕ
  pub guest : List ℕ
  pub keep : Bool

-- `H:G`: the location is kept as it is where it ends with `!`
abbrev pub two_paths : List ℕ → List ℕ × Bool → Binding
two_paths host location = record { host = host; guest = location.0; keep = location.1 }

-- one path stands for both parts
abbrev pub one_path : List ℕ × Bool → Binding
one_path path = record { host = path.0; guest = path.0; keep = path.1 }

abbrev pub parts_of : List ℕ → Option (List ℕ × List ℕ) → Binding
parts_of text None = one_path (without_mark text)
parts_of text (Some parts) = two_paths parts.0 (without_mark parts.1)

-- both parts have a byte or more
abbrev pub if_whole : Binding → Option Binding
if_whole b = if nat_le 1 (length b.host) && nat_le 1 (length b.guest) then Some b else None

abbrev pub binding_of : List ℕ → Option Binding
binding_of text = if_whole (parts_of text (cut_at 58 text))

-- ---- a variable of the environment

-- the name before the first `=`, where there is one
abbrev pub variable_name : List ℕ → Option (List ℕ)
variable_name text = option_map (λ parts. parts.0) (cut_at 61 text)

-- `K=V`, of which V may be empty
abbrev pub is_variable : List ℕ → Bool
is_variable text = option_map_or (λ name. nat_le 1 (length name)) (variable_name text) false
