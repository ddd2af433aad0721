-- The changes of calls that break no calm rule keep all places standing.
use Rattle.std.specs.Prelude.{◌≡◌, ℕ, Bool, true, false, List, [], ◌∷◌}
use Rattle.std.specs.List.{list_all}
use Rattle.kr_calm.specs.Laws.{BreakNone}
use Rattle.kr_calm.specs.Rules.{are_parted}
use Rattle.kr_calm.specs.law_lawful.Laws.{CanAllBeMade}
use Rattle.law_walks.specs.kr_model.Applied.{Mounts, all_applied, applied, images}
use Rattle.law_walks.specs.kr_model.Change.{Change, MoveName}
use Rattle.law_walks.specs.kr_model.ProcessDirectory.{space_of}
use Rattle.law_walks.specs.kr_model.State.{Image, State}
use Rattle.law_walks.specs.kr_tree.declared.place.Host.TheVariants.{Node}
use Rattle.law_walks.specs.kr_view.View.{Row}
use Rattle.law_places.specs.Changes.{NewPlacesStand}
use Rattle.law_places.specs.Moving.{IsComeTo}
use Rattle.law_places.specs.Standing.{PlacesStand}

-- ---- names that move

-- a name moves between directories that no source and no mount point parts, and the user comes to the new one
pub record MovesInside (table : List Row) (s : State ℕ Image) (dir to : ℕ) : Type 0 where
  pub together : are_parted table s.tree (Node dir) (Node to) ≡ false
  pub come_to : IsComeTo (space_of table s) to

abbrev pub MoveStaysInside : List Row → State ℕ Image → Change → Type 0
MoveStaysInside table s (MoveName dir name to new) = MovesInside table s dir to
MoveStaysInside table s _ = Unit {0}

-- each of the changes of a call in its turn
abbrev pub MovesStayInside : List Row → Mounts ℕ → ℕ → State ℕ Image → List Change → Type 0
MovesStayInside table mounts pid s [] = Unit {0}
MovesStayInside table mounts pid s (c ∷ cs) = MoveStaysInside table s c × MovesStayInside table mounts pid (applied images mounts pid c s) cs

-- ---- laws

-- changes that break none of the rules on changes keep all places standing; a new place stands before it comes into use, and a name that
-- moves stays inside
abbrev pub CalmMovesKeepPlaces : Type 0
CalmMovesKeepPlaces =
    (table : List Row) (mounts : Mounts ℕ) (pid : ℕ) (cs : List Change) (s : State ℕ Image) → MovesStayInside table mounts pid s cs → BreakNone images mounts pid table cs s → CanAllBeMade (λ m. m) table mounts pid s cs → NewPlacesStand table mounts pid s cs
    → PlacesStand table s → PlacesStand table (all_applied images mounts pid cs s)

-- whether a change leaves entries in their directories
abbrev pub moves_nothing : Change → Bool
moves_nothing (MoveName dir name to new) = false
moves_nothing _ = true

abbrev pub move_nothing : List Change → Bool
move_nothing cs = list_all moves_nothing cs

-- so do those that move no name
abbrev pub CalmChangesKeepPlaces : Type 0
CalmChangesKeepPlaces =
    (table : List Row) (mounts : Mounts ℕ) (pid : ℕ) (cs : List Change) (s : State ℕ Image) → move_nothing cs ≡ true → BreakNone images mounts pid table cs s → CanAllBeMade (λ m. m) table mounts pid s cs → NewPlacesStand table mounts pid s cs
    → PlacesStand table s → PlacesStand table (all_applied images mounts pid cs s)
