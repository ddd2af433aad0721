-- How long the texts are that a tracer hands to the plain kernel: what the walk of the kernel with mounts reaches bounds them.
use Rattle.std.specs.Prelude.{◌≡◌, ◌≤◌, ℕ, Bool, false, List, ◌∷◌, length, Some, None, Ok}
use Rattle.pt_tracer.specs.pr_base.Paths.{text_of}
use Rattle.pt_tracer.specs.pr_base.Texts.{Text}
use Rattle.pt_tracer.specs.pr_base.WalkFrame.{Target}
use Rattle.pt_tracer.specs.pr_base.declared.path.Last.TheVariants as last
use Rattle.pt_tracer.specs.pr_base.declared.path.WalkMode.{WalkMode}
use Rattle.pt_tracer.specs.pr_base.declared.path.WalkMode.TheVariants as modes
use Rattle.kr_turns.specs.kr_calm.Rules.{longest_name}
use Rattle.pt_tracer.specs.pt_args.Edits.{longest_path}
use Rattle.pt_tracer.specs.pt_args.Purposes.{purpose_of, swap_for}
use Rattle.law_walks.specs.pt_canon.Canon.{canon_of}
use Rattle.law_walks.specs.pt_canon.declared.canon.Canon.{Canon}
use Rattle.law_walks.specs.kr_tree.declared.place.Place.{Place}
use Rattle.law_walks.specs.kr_view.declared.target.Reach.{Reach}
use Rattle.law_walks.specs.kr_view.Reach.{reach_after}
use Rattle.law_walks.specs.kr_view.Walk.{PlaceTarget, place_walk}
use Rattle.law_walks.specs.Handed.{BothEnd}
use Rattle.law_walks.specs.Scene.{Scene, space_of, texts_in}
use Rattle.law_walks.specs.Settled.{host_text}

pub record AreShort (scene : Scene) (mode : WalkMode) (n : ℕ) (a : PlaceTarget) (b : Target Text Text) : Type 0 where
  -- the host text of what was found
  pub found : (p : Place ℕ) (u : Text) → a.found ≡ Some p → b.found ≡ Some u → length (text_of (host_text (space_of scene) u)) ≤ n
  -- that of the directory
  pub dir : a.jumped ≡ false → length (text_of (host_text (space_of scene) b.dir)) ≤ n
  -- that of a free name in it
  pub free : a.jumped ≡ false → a.found ≡ None → length (text_of (a.name ∷ host_text (space_of scene) b.dir)) ≤ n
  -- and that of a name in it to which a path leads that names an entry, also where a mount stands there
  pub entry : mode ≡ modes.Name → a.jumped ≡ false → a.last ≡ last.Name → length (text_of (a.name ∷ host_text (space_of scene) b.dir)) ≤ n

abbrev pub ReachedTextsAreShort : Type 0
ReachedTextsAreShort =
    (scene : Scene) (mode : WalkMode) (base : Place ℕ) (t : Text) (path : List ℕ) (a : PlaceTarget) (b : Target Text Text) (r : Reach) → BothEnd scene mode base t path a b
    → AreShort scene mode (reach_after scene.around mode (place_walk scene.around mode base path) r).longest a b

-- so a text in place of a path has at most 4,095 bytes, where the walk reaches no host name of more than 4,000
abbrev pub SwapsAreShort : Type 0
SwapsAreShort =
    (scene : Scene) (mode : WalkMode) (base : Place ℕ) (t : Text) (path : List ℕ) (a : PlaceTarget) (b : Target Text Text) (r : Reach) (opening : Bool) (canon : Canon) (text : List ℕ) → BothEnd scene mode base t path a b
    → (reach_after scene.around mode (place_walk scene.around mode base path) r).longest ≤ longest_name → canon_of (texts_in scene) mode t path ≡ Ok canon → swap_for (texts_in scene).bindings (purpose_of opening mode) canon ≡ Ok text → length text ≤ longest_path
