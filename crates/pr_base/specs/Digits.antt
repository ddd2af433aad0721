-- Decimal digits as bytes.
use Rattle.std.specs.Prelude.{ℕ, nat_le, Bool, ◌&&◌}

abbrev pub is_digit : ℕ → Bool
is_digit c = nat_le 48 c && nat_le c 57
