-- Where no element passes a test.
use Rattle.std.proofs.Common.{◌≡◌, ◌<◌, List, length, Bool, true, false, Some, None, refl, arith, All}
use Rattle.std.specs.Prelude.{nat_lt}
use Rattle.std.specs.List.{position, position_or_len}
use Rattle.std.proofs.lemmas.Bool.{lt-ltb}
use Rattle.std.proofs.lemmas.List.Sums.{fails_before_first}

abbrev passes : {X : Type 0} → (X → Bool) → List X → Bool
passes p xs = nat_lt (position_or_len p xs) (length xs)

found : {X : Type 0} (p : X → Bool) (xs : List X) → passes p xs ≡ true → position p xs ≡ Some (position_or_len p xs)
found p xs h = rw h refl

pub none_passes : {X : Type 0} (p : X → Bool) (xs : List X) → position p xs ≡ None → All (λ x. p x ≡ false) xs
none_passes {X} p xs e k d inside = fails_before_first p xs k d (by_case (passes p xs) refl)
  where
    by_case : (h : Bool) → passes p xs ≡ h → k < position_or_len p xs
    by_case true h = let yes = found p xs h in absurd (cc)
    by_case false h = let past : (position_or_len p xs < length xs) → ⊥ = λ m. let yes = lt-ltb _ _ m in cc in omega (arith, past, inside)
