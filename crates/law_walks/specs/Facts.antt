-- What a call is told of its paths: the plain kernel, of what it is handed, the same as the kernel with mounts of the path.
use Rattle.std.specs.Prelude.{◌≡◌, ◌≢◌, ℕ, true, false, List, [], ◌∷◌, Some, None, Ok}
use Rattle.pt_canon.specs.pr_base.Paths.{dot, dot_dot, slash, text_of}
use Rattle.pt_canon.specs.pr_base.Texts.{Text}
use Rattle.pt_canon.specs.pr_base.WalkFrame.{Target, may_be_free}
use Rattle.pt_canon.specs.pr_base.declared.path.Last.TheVariants as last
use Rattle.pt_canon.specs.pr_base.declared.path.WalkMode.{WalkMode}
use Rattle.pt_canon.specs.pr_base.declared.path.WalkMode.TheVariants as modes
use Rattle.pt_canon.specs.pt_bind.Binding.{is_point}
use Rattle.pt_canon.specs.pt_bind.Tags.{TagTable}
use Rattle.kr_mounts.specs.kr_tree.declared.place.Place.{Place}
use Rattle.kr_mounts.specs.kr_view.View.{Row, plain}
use Rattle.kr_mounts.specs.kr_view.Walk.{PlaceTarget, place_walk}
use Rattle.kr_mounts.specs.Standing.{texts_of}
use Rattle.kr_model.specs.ProcessDirectory.{space_of}
use Rattle.kr_model.specs.Seen.{Looked, Seen, TakesCovered}
use Rattle.kr_model.specs.State.{State}
use Rattle.kr_model.specs.Walks.{created_at, if_found, made_at, taken_at}
use Rattle.law_walks.specs.Handed.{BothEnd, handed_path}
use Rattle.law_walks.specs.Settled.{host_text}
use Rattle.law_walks.specs.States.{host_around_of, scene_of}

-- two walks of a state's caller that end with these targets, and a base from which the plain kernel walks
pub record EndIn {X : Type 0} (table : List Row) (s : State ℕ X) (caller : ℕ) (mode : WalkMode) (a : PlaceTarget) (b : Target Text Text) : Type 0 where
  pub tags : TagTable
  pub base : Place ℕ
  pub text : Text
  pub path : List ℕ
  pub both : BothEnd (scene_of table s caller tags) mode base text path a b

-- where the plain kernel's walk along a path ends
pub record EndsOn {X : Type 0} (s : State ℕ X) (caller : ℕ) (mode : WalkMode) (other : Place ℕ) (path : List ℕ) (told : PlaceTarget → Type 0) : Type 0 where
  pub target : PlaceTarget
  pub answer : (place_walk (host_around_of s caller) mode other path).answer ≡ Ok target
  pub same : told target

module _ {X : Type 0} (table : List Row) (s : State ℕ X) (caller : ℕ) (a : PlaceTarget) where
  -- a path that is looked up is told alike
  abbrev pub LooksUpAlike : PlaceTarget → Type 0
  LooksUpAlike target = (next : Looked → Seen) → if_found plain caller s target next ≡ if_found table caller s a next

  -- so is one whose entry is taken away, one whose entry is made, and one that is opened and may be made
  abbrev pub TakesAlike : PlaceTarget → Type 0
  TakesAlike target = taken_at plain caller s target ≡ taken_at table caller s a

  abbrev pub MakesAlike : PlaceTarget → Type 0
  MakesAlike target = made_at plain caller s target ≡ made_at table caller s a

  abbrev pub CreatesAlike : PlaceTarget → Type 0
  CreatesAlike target = created_at plain caller s target ≡ created_at table caller s a

-- what was found, by its host text. The root of the host has no name there
pub record FactsOfFound {X : Type 0} (table : List Row) (s : State ℕ X) (caller : ℕ) (mode : WalkMode) (other : Place ℕ) (a : PlaceTarget) (u : Text) : Type 0 where
  pub looked : EndsOn s caller mode other (text_of (host_text (space_of table s) u)) (LooksUpAlike table s caller a)
  pub created : a.last ≡ last.Name → a.slash ≡ false → host_text (space_of table s) u ≢ [] → EndsOn s caller mode other (text_of (host_text (space_of table s) u)) (CreatesAlike table s caller a)

abbrev pub FoundIsToldAlike : Type 0 → Type 0
FoundIsToldAlike X =
    (table : List Row) (s : State ℕ X) (caller : ℕ) (mode : WalkMode) (other p : Place ℕ) (a : PlaceTarget) (b : Target Text Text) (u : Text) → EndIn table s caller mode a b → a.found ≡ Some p → b.found ≡ Some u
    → FactsOfFound table s caller mode other a u

-- an entry, by the host text of its directory and its name
pub record FactsOfName {X : Type 0} (table : List Row) (s : State ℕ X) (caller : ℕ) (mode : WalkMode) (other : Place ℕ) (a : PlaceTarget) (b : Target Text Text) : Type 0 where
  -- the name of a mount point is covered, and else the plain kernel is told of the same entry
  pub covered : is_point (texts_of table) (a.name ∷ host_text (space_of table s) b.dir) ≡ true → taken_at table caller s a ≡ TakesCovered
  pub taken : is_point (texts_of table) (a.name ∷ host_text (space_of table s) b.dir) ≡ false → EndsOn s caller modes.Name other (handed_path (space_of table s) b.dir a.name a.slash) (TakesAlike table s caller a)
  pub made : EndsOn s caller modes.Name other (handed_path (space_of table s) b.dir a.name a.slash) (MakesAlike table s caller a)
  pub created : a.found ≡ None → EndsOn s caller mode other (handed_path (space_of table s) b.dir a.name a.slash) (CreatesAlike table s caller a)

abbrev pub NamesAreToldAlike : Type 0 → Type 0
NamesAreToldAlike X =
    (table : List Row) (s : State ℕ X) (caller : ℕ) (mode : WalkMode) (other : Place ℕ) (a : PlaceTarget) (b : Target Text Text) → EndIn table s caller mode a b → may_be_free mode ≡ true → a.jumped ≡ false → a.last ≡ last.Name
    → FactsOfName table s caller mode other a b

-- what names no entry, by the host text of the directory and the last component, or by the root
pub record AlikeWithoutName {X : Type 0} (table : List Row) (s : State ℕ X) (caller : ℕ) (a target : PlaceTarget) : Type 0 where
  pub taken : TakesAlike table s caller a target
  pub made : MakesAlike table s caller a target
  pub created : CreatesAlike table s caller a target

pub record FactsOfLast {X : Type 0} (table : List Row) (s : State ℕ X) (caller : ℕ) (mode : WalkMode) (other : Place ℕ) (a : PlaceTarget) (b : Target Text Text) : Type 0 where
  pub dot : a.last ≡ last.Dot → EndsOn s caller mode other (handed_path (space_of table s) b.dir dot a.slash) (AlikeWithoutName table s caller a)
  pub dot_dot : a.last ≡ last.DotDot → EndsOn s caller mode other (handed_path (space_of table s) b.dir dot_dot a.slash) (AlikeWithoutName table s caller a)
  pub root : a.last ≡ last.Root → EndsOn s caller mode other (slash ∷ []) (AlikeWithoutName table s caller a)

abbrev pub LastsAreToldAlike : Type 0 → Type 0
LastsAreToldAlike X =
    (table : List Row) (s : State ℕ X) (caller : ℕ) (mode : WalkMode) (other : Place ℕ) (a : PlaceTarget) (b : Target Text Text) → EndIn table s caller mode a b → a.jumped ≡ false → FactsOfLast table s caller mode other a b
