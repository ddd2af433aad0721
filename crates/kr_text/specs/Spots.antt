-- The place that a walk answers.
use Rattle.std.specs.Prelude.{◌≡◌, ℕ, List, Result, Ok, Err}
use Rattle.kr_text.specs.declared.fault.TreeWhy.{TreeWhy}
use Rattle.kr_text.specs.declared.walk.Spot.{Spot}

-- the answer is the expected one
abbrev pub IsSpot : Result (ℕ × List ℕ) TreeWhy → Result Spot TreeWhy → Type 0
IsSpot expected (Ok spot) = expected ≡ Ok (spot.dir, spot.name.now)
IsSpot expected (Err why) = expected ≡ Err why
