-- What holds of the places that a walk goes through, where each look keeps it.
use Rattle.std.proofs.Common.{◌≡◌, ℕ, Bool, List, Option, Some}
use Rattle.pr_base.specs.KeptWalks.{IsKeptByLooks}
pub use Rattle.pr_base.specs.KeptWalks.{GoesOn}
use Rattle.pr_base.specs.Paths.{Component, components_of}
use Rattle.pr_base.specs.WalkFrame.{Jumps, Landing, LookedAt, Looking, Target, begins_at, here, landed, target_at, walk_on}
use Rattle.pr_base.specs.WalkLaws.{Shows}
use Rattle.pr_base.specs.declared.path.WalkMode.{WalkMode}
use Rattle.pr_base.proofs.EndLemmas.{EndsSo}
use Rattle.pr_base.proofs.KeptWalkLemmas.{begins, walk_well}

module _ {S F : Type 0} (Good : S → Type 0) (looking : Looking S F) (P : Target S F → Type 0) (root : Good looking.root) (kept : (s : S) (c : Component) → Good s → GoesOn Good (looking.look s c))
    (at_beginning : (s : S) (slash : Bool) → Good s → P (here looking s slash))
    (at_component : (s : S) (c : Component) (slash : Bool) (found : Option F) → Good s → Shows (looking.look s c) found → P (target_at s c slash found))
    (at_landing : (s : S) (c : Component) (slash : Bool) (f : F) (l : Landing S F) → Good s → looking.look s c ≡ Jumps f (Some l) → P (landed l slash)) where
  -- all looks are fine
  abbrev Fine : LookedAt S → Type 0
  Fine l = Unit {0}

  by_looks : IsKeptByLooks Good Fine looking P
  by_looks = record {
    root = root;
    looks = λ l good fine. kept l.place l.component good;
    beginning = at_beginning;
    component = λ l slash found good fine shows. at_component l.place l.component slash found good shows;
    landing = λ l slash f to good fine looked. at_landing l.place l.component slash f to good looked;
  }

  -- along a path from a good place
  pub walk_keeps : (mode : WalkMode) (left : ℕ) (base : S) (path : List ℕ) (slash : Bool) → Good base → EndsSo looking P (walk_on looking mode left (begins_at looking base path) (components_of path) slash)
  walk_keeps mode left base path slash good =
      (walk_well Good Fine looking P by_looks mode left (begins_at looking base path) (components_of path) slash (begins Good Fine looking P by_looks base path good) (λ k d lt. tt)).target
