-- The name of an entry.
use Rattle.std.specs.Prelude.{ℕ, Bool, false, ◌&&◌, ◌||◌, not, List, [], ◌∷◌, length, nat_eq, nat_le, nat_lt}
use Rattle.std.specs.List.{list_all}

-- `.` and `..`
abbrev pub is_dots : List ℕ → Bool
is_dots [] = false
is_dots (a ∷ []) = nat_eq a 46
is_dots (a ∷ b ∷ []) = nat_eq a 46 && nat_eq b 46
is_dots (a ∷ b ∷ c ∷ rest) = false

-- a name that an entry may have: 1 to 255 bytes, none of them a slash or zero, and not `.` or `..`
abbrev pub is_name : List ℕ → Bool
is_name name =
    nat_lt 0 (length name) && nat_le (length name) 255 && list_all (λ b. not (nat_eq b 47 || nat_eq b 0)) name && not (is_dots name)
