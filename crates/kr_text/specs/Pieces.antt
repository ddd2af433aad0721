-- What stands between bytes of one kind.
use Rattle.std.specs.Prelude.{ℕ, List, [], Option, Some, None, nat_eq}
use Rattle.std.specs.List.{slice_split}

-- the pieces of some bytes, which each byte c parts
abbrev pub pieces : ℕ → List ℕ → List (List ℕ)
pieces c bytes = slice_split (λ b. nat_eq b c) bytes

-- the pieces that are left, none once the last was read
abbrev pub pieces_left : ℕ → Option (List ℕ) → List (List ℕ)
pieces_left c None = []
pieces_left c (Some rest) = pieces c rest
