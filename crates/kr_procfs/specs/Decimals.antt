-- Numbers as names: decimal, without sign and leading zeros.
use Rattle.std.specs.Prelude.{◌≡◌, ℕ, ◌^◌, ◌<◌, nat_le, ◌==◌, bytes_eq, Bool, not, ◌&&◌, ◌||◌, List, length, slice_index, Option, Some, None, if◌then◌else◌}
use Rattle.std.specs.List.{list_all}
use Rattle.std.specs.Fmt.{decimal}
use Rattle.std.specs.Str.Parse.{digits_value}
pub use Rattle.kr_view.specs.kr_tree.pr_base.Digits.{is_digit}

-- digits without a leading zero, or the digit zero alone
abbrev pub is_decimal : List ℕ → Bool
is_decimal name = list_all is_digit name && ((length name == 1) || (nat_le 1 (length name) && not (slice_index name 0 == 48)))

-- the largest number of 32 bits
abbrev pub largest : ℕ
largest = 4294967295

-- the number of 32 bits whose decimal text this is
abbrev pub number_named : List ℕ → Option ℕ
number_named name = let n = digits_value 10 name in if nat_le n largest && bytes_eq (decimal n) name then Some n else None

-- a number is named by its decimal text alone, and that names it
pub record NamesAndNumbersAreInverse : Type 0 where
  pub number : (n : ℕ) → n < 2 ^ 32 → number_named (decimal n) ≡ Some n
  pub name : (name : List ℕ) (n : ℕ) → number_named name ≡ Some n → (name ≡ decimal n) × (n < 2 ^ 32)
