-- What the order of bindings is: by the number of names, without equal locations.
use Rattle.std.specs.Prelude.{◌≡◌, ◌≢◌, ◌≤◌, ◌⊎◌, List, [], ◌∷◌, length}
use Rattle.std.specs.List.{AllByRecursion}
use Rattle.kr_mounts.specs.MountTable.{Located, counting, in_order}

-- no two are located at one text
abbrev pub AreApart : List Located → Type 0
AreApart [] = Unit {0}
AreApart (one ∷ more) = AllByRecursion (λ (other : Located). one.location ≢ other.location) more × AreApart more

-- each has no more names than those that come behind it
abbrev pub AreByLength : List Located → Type 0
AreByLength [] = Unit {0}
AreByLength (one ∷ more) = AllByRecursion (λ (other : Located). length one.location ≤ length other.location) more × AreByLength more

abbrev pub IsAmong : Located → List Located → Type 0
IsAmong one [] = ⊥
IsAmong one (other ∷ more) = (other ≡ one) ⊎ IsAmong one more

pub record IsInOrder (all : List Located) : Type 0 where
  pub apart : AreApart (in_order (counting all))
  pub by_length : AreByLength (in_order (counting all))
  pub among : AllByRecursion (λ one. IsAmong one all) (in_order (counting all))

abbrev pub BindingsAreInOrder : Type 0
BindingsAreInOrder = (all : List Located) → IsInOrder all
