-- Numbers of several bytes in little-endian order: the lowest byte comes first.
use Rattle.std.specs.Prelude.{ℕ, ◌+◌, ◌*◌, ◌≤◌, List, [], ◌∷◌, length, take, drop, Option}
use Rattle.std.specs.Option.{SomeIff}

-- the number of these bytes, each of which counts 256 times as much as the one before it
abbrev pub little_endian : List ℕ → ℕ
little_endian [] = 0
little_endian (b ∷ bs) = b + 256 * little_endian bs

-- the number of the `width` bytes from `at` on, there exactly where the bytes reach that far
abbrev pub IsField : ℕ → List ℕ → ℕ → Option ℕ → Type 0
IsField width bytes at field =
    SomeIff field (at + width ≤ length bytes) (little_endian (take width (drop at bytes)))
