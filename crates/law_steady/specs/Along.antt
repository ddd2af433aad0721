-- Changes one behind the other: whether they alter the shape of the tree, exactly, by what each finds before it.
use Rattle.std.specs.Prelude.{◌≡◌, ◌↔◌, ℕ, suc, Bool, true, false, ◌||◌, List, [], ◌∷◌, if◌then◌else◌}
use Rattle.law_lawful.specs.kr_tree.Lawful.{IsKept}
use Rattle.law_lawful.specs.kr_tree.Tree.{Tree}
use Rattle.law_lawful.specs.kr_view.View.{Row}
use Rattle.law_lawful.specs.kr_model.Applied.{Mounts, all_applied, applied, images}
use Rattle.law_lawful.specs.kr_model.Change.{Change}
use Rattle.law_lawful.specs.kr_model.Judged.{HasShape, alters_shape, leaves_shape}
use Rattle.law_lawful.specs.kr_model.Lawful.{IsLawful}
use Rattle.law_lawful.specs.kr_model.State.{Image, State}
use Rattle.law_lawful.specs.Laws.{CanAllBeMade}
use Rattle.law_steady.specs.Calls.{is_once}
use Rattle.law_steady.specs.Exact.{alters_shape_of}
use Rattle.law_steady.specs.Steady.{HaveOneShape}

module _ {M : Type 0} (test : Tree → Change → Bool) (mounts : Mounts M) (pid : ℕ) where
  -- whether one of some changes passes a test that reads the tree before it
  abbrev pub passes_along : State M Image → List Change → Bool
  passes_along s [] = false
  passes_along s (c ∷ cs) = test s.tree c || passes_along (applied images mounts pid c s) cs

  -- how many do
  abbrev pub times_along : State M Image → List Change → ℕ
  times_along s [] = 0
  times_along s (c ∷ cs) =
      if test s.tree c then suc (times_along (applied images mounts pid c s) cs) else times_along (applied images mounts pid c s) cs

-- what such a test tells of changes one behind the other: what they leave of the tree by a relation, exactly, and that to count those that pass is to
-- count whether one does
pub record IsToldAlong {M : Type 0} (test : Tree → Change → Bool) (Leaves : Tree → Tree → Type 0) (mounts : Mounts M) (pid : ℕ) (s : State M Image) (cs : List Change) : Type 0 where
  pub told : (passes_along test mounts pid s cs ≡ false) ↔ Leaves s.tree (all_applied images mounts pid cs s).tree
  pub times : times_along test mounts pid s cs ≡ (if passes_along test mounts pid s cs then 1 else 0)

-- lawful changes of which at most one can alter the shape leave it exactly where they aren't told to alter it
abbrev pub ShapeIsToldAlong : Type 0 → Type 0
ShapeIsToldAlong M =
    (number : M → ℕ) (table : List Row) (mounts : Mounts M) (pid : ℕ) (s : State M Image) (cs : List Change) → IsLawful number table s → CanAllBeMade number table mounts pid s cs
    → is_once alters_shape cs ≡ true → IsToldAlong alters_shape_of HasShape mounts pid s cs

-- changes none of which can alter the shape leave it, whether they can be made or not; and no change gives another user
abbrev pub ShapeStaysAlong : Type 0 → Type 0
ShapeStaysAlong M =
    (mounts : Mounts M) (pid : ℕ) (s : State M Image) (cs : List Change) → IsKept s.tree → leaves_shape cs ≡ true → HaveOneShape s (all_applied images mounts pid cs s)
