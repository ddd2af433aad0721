-- Whether two values are the same, by their codes.
use Rattle.std.specs.Prelude.{Bool, true, false, ◌&&◌, ◌==◌}
use base.Stored.{Coded, Gv, gnil, gnum, gcons}

unfoldable pub same_codes : Gv → Gv → Bool
same_codes gnil gnil = true
same_codes gnil (gnum y) = false
same_codes gnil (gcons y ys) = false
same_codes (gnum x) gnil = false
same_codes (gnum x) (gnum y) = x == y
same_codes (gnum x) (gcons y ys) = false
same_codes (gcons x xs) gnil = false
same_codes (gcons x xs) (gnum y) = false
same_codes (gcons x xs) (gcons y ys) = same_codes x y && same_codes xs ys

-- values of which each has a code of its own
abbrev pub alike : {A : Type 0} → Coded A → A → A → Bool
alike coded x y = same_codes (coded.code x) (coded.code y)
