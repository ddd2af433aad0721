-- What a tracer hands to the plain kernel in place of a path, and where that kernel's own walk along it ends.
use Rattle.std.specs.Prelude.{◌≡◌, ◌≢◌, ℕ, Bool, true, false, List, [], ◌∷◌, ◌++◌, Option, Some, None, Ok}
use Rattle.std.specs.Option.{option_map}
use Rattle.pt_canon.specs.pr_base.Paths.{dot, dot_dot, slash, text_of}
use Rattle.pt_canon.specs.pr_base.Texts.{Text}
use Rattle.pt_canon.specs.pr_base.WalkFrame.{Target, may_be_free}
use Rattle.pt_canon.specs.pr_base.declared.path.Last.TheVariants as last
use Rattle.pt_canon.specs.pr_base.declared.path.WalkMode.{WalkMode}
use Rattle.pt_canon.specs.pr_base.declared.path.WalkMode.TheVariants as modes
use Rattle.pt_canon.specs.pt_bind.Binding.{is_point, located}
use Rattle.pt_canon.specs.TextWalk.{text_walk}
use Rattle.kr_mounts.specs.kr_tree.declared.place.Host.{Host}
use Rattle.kr_mounts.specs.kr_tree.declared.place.Host.TheVariants.{Node, Proc}
use Rattle.kr_mounts.specs.kr_tree.declared.place.Place.{Place}
use Rattle.kr_mounts.specs.kr_tree.declared.place.ProcAt.{ProcAt}
use Rattle.kr_mounts.specs.kr_tree.Tree.{body_is, is_directory}
use Rattle.kr_mounts.specs.kr_view.Component.{Namespace, is_directory_at, may_search}
use Rattle.kr_mounts.specs.kr_view.HostReach.{host_place}
use Rattle.kr_mounts.specs.kr_view.ReachLaws.{name_target, slashed}
use Rattle.kr_mounts.specs.kr_view.View.{covered, source}
use Rattle.kr_mounts.specs.kr_view.Walk.{PlaceTarget, place_walk}
use Rattle.kr_mounts.specs.Standing.{texts_of}
use Rattle.law_walks.specs.Scene.{IsMatched, Scene, host_around, space_of, texts_in}
use Rattle.law_walks.specs.Settled.{IsSettled, host_text}
use Rattle.law_walks.specs.Standing.{StandsOn, place_in, reached_in}

-- a walk over places and the walk over guest texts, along one path, which isn't empty, end with these targets
pub record BothEnd (scene : Scene) (mode : WalkMode) (base : Place ℕ) (t : Text) (path : List ℕ) (a : PlaceTarget) (b : Target Text Text) : Type 0 where
  pub matched : IsMatched scene
  pub stands : StandsOn (space_of scene) base t
  pub some : path ≢ []
  pub place : (place_walk scene.around mode base path).answer ≡ Ok a
  pub text : (text_walk (texts_in scene) mode t path).answer ≡ Ok b

-- ---- what was found

-- the plain kernel's walk along the host text of what was found comes to the same object
pub record LeadsToFound (scene : Scene) (mode : WalkMode) (other : Place ℕ) (a : PlaceTarget) (p : Place ℕ) (u : Text) : Type 0 where
  pub target : PlaceTarget
  pub answer : (place_walk (host_around scene) mode other (text_of (host_text (space_of scene) u))).answer ≡ Ok target
  pub found : target.found ≡ Some (host_place p.host)
  -- under a name with no slash behind it, but where it is the host's root
  pub last : host_text (space_of scene) u ≢ [] → (target.last ≡ last.Name) × (target.slash ≡ false)
  -- what is no directory has the entry that the mounted walk came to; or, of a mount's source, that at which it was settled
  pub entry : is_directory_at (space_of scene).tree p.host ≡ false → source (space_of scene).table p.mount ≡ None → (target.dir ≡ host_place a.dir.host) × (target.name ≡ a.name)
  pub settled : (e : ℕ × List ℕ) → is_directory_at (space_of scene).tree p.host ≡ false → source (space_of scene).table p.mount ≡ Some e → (target.dir ≡ host_place (Node e.0)) × (target.name ≡ e.1)

abbrev pub FoundIsHandedOver : Type 0
FoundIsHandedOver =
    (scene : Scene) (mode : WalkMode) (base : Place ℕ) (t : Text) (path : List ℕ) (a : PlaceTarget) (b : Target Text Text) (other p : Place ℕ) (u : Text)
    → BothEnd scene mode base t path a b → a.found ≡ Some p → b.found ≡ Some u → LeadsToFound scene mode other a p u

-- ---- names of entries

-- the host text of a directory, a slash, a last component, and the slash behind that
abbrev pub handed_path : Namespace → Text → List ℕ → Bool → List ℕ
handed_path space t part behind = text_of (host_text space t) ++ slash ∷ slashed behind part

-- the plain kernel's walk along that path comes to the same name of the same directory, with the same slash
pub record LeadsToName (scene : Scene) (mode : WalkMode) (other : Place ℕ) (a : PlaceTarget) (b : Target Text Text) : Type 0 where
  -- and to the same entry, where no mount stands at the name
  pub entry : located (texts_in scene).bindings (a.name ∷ b.dir) ≡ None
      → (x : Option Host) × (a.found ≡ option_map (place_in a.dir.mount) x) × ((place_walk (host_around scene) modes.Name other (handed_path (space_of scene) b.dir a.name a.slash)).answer ≡ Ok (name_target a.dir.host a.name a.slash x))
  -- where one does, the host text of the name is that of a mount point, at which there is an entry
  pub point : (k : ℕ) → located (texts_in scene).bindings (a.name ∷ b.dir) ≡ Some k
      → (is_point (texts_in scene).bindings (a.name ∷ host_text (space_of scene) b.dir) ≡ true)
      × (x : Host) × ((place_walk (host_around scene) modes.Name other (handed_path (space_of scene) b.dir a.name a.slash)).answer ≡ Ok (name_target a.dir.host a.name a.slash (Some x)))
  -- a name that is free is free to it, in each mode in which it may be
  pub free : a.found ≡ None → (place_walk (host_around scene) mode other (handed_path (space_of scene) b.dir a.name a.slash)).answer ≡ Ok (name_target a.dir.host a.name a.slash None)

abbrev pub NamesAreHandedOver : Type 0
NamesAreHandedOver =
    (scene : Scene) (mode : WalkMode) (base : Place ℕ) (t : Text) (path : List ℕ) (a : PlaceTarget) (b : Target Text Text) (other : Place ℕ)
    → BothEnd scene mode base t path a b → may_be_free mode ≡ true → a.jumped ≡ false → a.last ≡ last.Name → LeadsToName scene mode other a b

-- what was found under a name stands at the directory's guest text and the name
abbrev pub NamedTextsAreFound : Type 0
NamedTextsAreFound =
    (scene : Scene) (mode : WalkMode) (base : Place ℕ) (t : Text) (path : List ℕ) (a : PlaceTarget) (b : Target Text Text) (u : Text)
    → BothEnd scene mode base t path a b → b.jumped ≡ false → b.last ≡ last.Name → b.found ≡ Some u → u ≡ b.name ∷ b.dir

-- ---- other endings

-- a path that ends with `.` or `..`, or at the root, ends so for the plain kernel
pub record LeadsToLast (scene : Scene) (mode : WalkMode) (other : Place ℕ) (a : PlaceTarget) (b : Target Text Text) : Type 0 where
  pub dot : a.last ≡ last.Dot → (target : PlaceTarget) × ((place_walk (host_around scene) mode other (handed_path (space_of scene) b.dir dot a.slash)).answer ≡ Ok target) × (target.last ≡ last.Dot)
  pub dot_dot : a.last ≡ last.DotDot → (target : PlaceTarget) × ((place_walk (host_around scene) mode other (handed_path (space_of scene) b.dir dot_dot a.slash)).answer ≡ Ok target) × (target.last ≡ last.DotDot)
  pub root : (target : PlaceTarget) × ((place_walk (host_around scene) mode other (slash ∷ [])).answer ≡ Ok target) × (target.last ≡ last.Root)

abbrev pub LastsAreHandedOver : Type 0
LastsAreHandedOver =
    (scene : Scene) (mode : WalkMode) (base : Place ℕ) (t : Text) (path : List ℕ) (a : PlaceTarget) (b : Target Text Text) (other : Place ℕ)
    → BothEnd scene mode base t path a b → a.jumped ≡ false → LeadsToLast scene mode other a b

-- ---- covered names

-- a name in a directory that is reached is that of a mount point exactly where its host text is one
pub record CoveredNamesArePoints : Type 0 where
  pub inode : (space : Namespace) (t : Text) (i : ℕ) (name : List ℕ) → IsSettled space → reached_in space (host_text space t) ≡ Some (Node i) → body_is is_directory space.tree i ≡ true
      → covered space.table i name ≡ is_point (texts_of space.table) (name ∷ host_text space t)
  pub process : (space : Namespace) (t : Text) (i : ℕ) (at : ProcAt) (name : List ℕ) → IsSettled space → reached_in space (host_text space t) ≡ Some (Proc i at) → is_point (texts_of space.table) (name ∷ host_text space t) ≡ false

-- ---- the directories of names

-- a walk that ends at a name, and not behind a link of the process directory, searched the directory, which stands at its guest text
pub record IsNamedIn (scene : Scene) (a : PlaceTarget) (b : Target Text Text) : Type 0 where
  pub on : StandsOn (space_of scene) a.dir b.dir
  pub search : may_search (space_of scene).tree (space_of scene).user a.dir.host ≡ true

abbrev pub DirectoriesOfNamesAreSearched : Type 0
DirectoriesOfNamesAreSearched =
    (scene : Scene) (mode : WalkMode) (base : Place ℕ) (t : Text) (path : List ℕ) (a : PlaceTarget) (b : Target Text Text) → BothEnd scene mode base t path a b → a.jumped ≡ false → a.last ≡ last.Name → IsNamedIn scene a b
