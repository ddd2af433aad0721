-- What it means that no element is found.
use Rattle.std.proofs.Common.{◌≡◌, Bool, false, List, arith}
use Rattle.std.specs.Prelude.{None, All, position}
use Rattle.std.proofs.lemmas.List.Sums.{fails_before_first}
use Rattle.std.proofs.lemmas.Bool.Decides.{nat_tests}

-- where no element passes a test, each of them fails it
pub position-None : {X : Type 0} (p : X → Bool) (xs : List X) → position p xs ≡ None → All (λ x. p x ≡ false) xs
position-None p xs none = λ k d within. fails_before_first p xs k d (grind (arith, nat_tests))
