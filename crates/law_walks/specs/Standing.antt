-- When a place of the mounted view and a guest text are the same.
use Rattle.std.specs.Prelude.{◌≡◌, ℕ, true, false, List, [], ◌∷◌, ◌++◌, Option, Some}
use Rattle.pt_canon.specs.pr_base.Alike.{Likeness}
use Rattle.pt_canon.specs.pr_base.Paths.{IsComponent}
use Rattle.pt_canon.specs.pr_base.Texts.{Text}
use Rattle.pt_canon.specs.pr_base.WalkFrame.{is_followed}
use Rattle.pt_canon.specs.pr_base.declared.path.WalkMode.{WalkMode}
use Rattle.kr_mounts.specs.kr_tree.declared.place.Host.{Host}
use Rattle.kr_mounts.specs.kr_tree.declared.place.Place.{Place}
use Rattle.kr_mounts.specs.kr_view.Component.{Namespace, is_directory_at, may_search}
use Rattle.kr_mounts.specs.kr_view.HostReach.{is_link_at, reaches}
use Rattle.kr_mounts.specs.kr_view.View.{Point, Row, row}
use Rattle.law_walks.specs.Settled.{host_text, owning_mount}

-- what the user comes to by a host text, with search all along
abbrev pub reached_in : Namespace → Text → Option Host
reached_in space host = reaches space.tree space.user space.finds host

-- a host text is that of a directory which the user reaches and may search
pub record IsSearched (space : Namespace) (host : Text) : Type 0 where
  pub dir : Host
  pub way : reached_in space host ≡ Some dir
  pub is_dir : is_directory_at space.tree dir ≡ true
  pub search : may_search space.tree space.user dir ≡ true

-- so is the host text of each guest text above one
abbrev pub IsOpen : Namespace → Text → Type 0
IsOpen space [] = Unit {0}
IsOpen space (name ∷ t) = IsSearched space (host_text space t) × IsOpen space t

abbrev pub place_in : ℕ → Host → Place ℕ
place_in mount host = record { mount = mount; host = host }

-- a place stands at a guest text: the text belongs to its mount, and its host text reaches its object. Above a directory a
-- walk can go up
pub record Stands (space : Namespace) (p : Place ℕ) (t : Text) : Type 0 where
  pub mount : p.mount ≡ owning_mount space t
  pub way : reached_in space (host_text space t) ≡ Some p.host
  pub above : is_directory_at space.tree p.host ≡ true → IsOpen space t

-- a place from which a walk goes on is no link
pub record StandsOn (space : Namespace) (p : Place ℕ) (t : Text) : Type 0 where
  pub stands : Stands space p t
  pub firm : is_link_at space.tree p.host ≡ false

-- nor is what a walk finds, in a mode that follows a last link
pub record FoundStands (space : Namespace) (mode : WalkMode) (p : Place ℕ) (t : Text) : Type 0 where
  pub stands : Stands space p t
  pub firm : is_followed mode false ≡ true → is_link_at space.tree p.host ≡ false

-- the directory and name of an entry are a host text's last name and what is reached above it
pub record IsEntryAt (space : Namespace) (host : Text) (dir : Host) (name : List ℕ) : Type 0 where
  pub up : Text
  pub text : host ≡ name ∷ up
  pub way : reached_in space up ≡ Some dir

-- of what is no directory, at a guest text
abbrev pub IsEntryOf : Namespace → Place ℕ → List ℕ → Place ℕ → Text → Type 0
IsEntryOf space dir name p t = is_directory_at space.tree p.host ≡ false → IsEntryAt space (host_text space t) dir.host name

-- what ties a walk over places to one over guest texts
abbrev pub likeness : Namespace → WalkMode → Likeness (Place ℕ) (Place ℕ) Text Text
likeness space mode = record { places = StandsOn space; links = Stands space; found = FoundStands space mode; entries = IsEntryOf space; fine = IsComponent }

-- a host text doesn't lie at or below a name that a mount itself covers
abbrev pub IsUncovered : Namespace → ℕ → Text → Type 0
IsUncovered space k host =
    (j : ℕ) (r : Row) (p : Point) (point below : Text) → row space.table j ≡ Some r → r.point ≡ Some p → p.mount ≡ k → r.text.point ≡ Some point → host ≡ below ++ point → ⊥
