-- Laws of guest texts and host texts in a tree in which a settled table stands.
use Rattle.std.specs.Prelude.{◌≡◌, ◌≤◌, ℕ, true, false, List, ◌++◌, length, Some, None}
use Rattle.std.specs.Option.{option_map}
use Rattle.pt_canon.specs.pr_base.Paths.{AreNames}
use Rattle.pt_canon.specs.pr_base.Texts.{Text}
use Rattle.pt_canon.specs.pt_bind.Binding.{guest_of, index_of}
use Rattle.kr_mounts.specs.kr_tree.declared.place.Host.{Host}
use Rattle.kr_mounts.specs.kr_tree.declared.place.Host.TheVariants.{Node}
use Rattle.kr_mounts.specs.kr_tree.declared.place.Place.{Place}
use Rattle.kr_mounts.specs.kr_tree.declared.place.ProcAt.{ProcAt}
use Rattle.kr_mounts.specs.kr_tree.Names.{named}
use Rattle.kr_mounts.specs.kr_view.declared.procs.Lead.{Lead}
use Rattle.kr_mounts.specs.kr_view.Component.{Namespace, is_directory_at}
use Rattle.kr_mounts.specs.kr_view.Names.{directory_name, guest_name}
use Rattle.kr_mounts.specs.kr_view.Processes.{LawsOfProcesses}
use Rattle.kr_mounts.specs.kr_view.View.{Row, node_in, row}
use Rattle.kr_mounts.specs.Standing.{led, texts_of}
use Rattle.law_walks.specs.Settled.{IsSettled, host_text, owning_mount}
use Rattle.law_walks.specs.Standing.{IsEntryAt, IsOpen, IsUncovered, Stands, place_in, reached_in}

-- the names of a guest text lead from the guest's root to what its host text names, in the mount to which it belongs
abbrev pub TextsLeadAsTheirHostTexts : Type 0
TextsLeadAsTheirHostTexts = (space : Namespace) (t : Text) → IsSettled space → led space.table space.tree t ≡ option_map (node_in (owning_mount space t)) (named space.tree (host_text space t))

-- a guest text is what is left below the location of the mount to which it belongs, the longest with which it begins, and
-- its host text is the same below that mount's source
pub record IsOwned (space : Namespace) (t : Text) : Type 0 where
  pub mount : Row
  pub there : row space.table (owning_mount space t) ≡ Some mount
  pub index : index_of (texts_of space.table) t ≡ mount.text.index
  pub rest : Text
  pub parted : t ≡ rest ++ mount.text.location
  pub host : host_text space t ≡ rest ++ mount.text.source
  pub longest : (k : ℕ) (r : Row) (more : Text) → row space.table k ≡ Some r → t ≡ more ++ r.text.location → length r.text.location ≤ length mount.text.location

abbrev pub TextsAreOwned : Type 0
TextsAreOwned = (space : Namespace) (t : Text) → IsSettled space → IsOwned space t

-- what a place that stands at a guest text is called
pub record IsCalled (space : Namespace) (p : Place ℕ) (t : Text) : Type 0 where
  -- by the tag of its mount and its host text
  pub tagged : (r : Row) → row space.table p.mount ≡ Some r → guest_of (texts_of space.table) r.text.index (host_text space t) ≡ Some t
  -- by the kernel: a directory by itself, and another object by the entry at which it stands
  pub on_host : is_directory_at space.tree p.host ≡ true → directory_name space p.host ≡ Some (host_text space t)
  pub directory : is_directory_at space.tree p.host ≡ true → guest_name space p None ≡ Some t
  pub entry : (i dir : ℕ) (name : List ℕ) → p.host ≡ Node i → is_directory_at space.tree p.host ≡ false → IsEntryAt space (host_text space t) (Node dir) name → guest_name space p (Some (dir, name)) ≡ Some t

-- a place that stands at a guest text is called by it, and the text is one of well-formed names
abbrev pub StandingPlacesAreCalled : Type 0
StandingPlacesAreCalled =
    (space : Namespace) (leads : ProcAt → Lead ℕ) (p : Place ℕ) (t : Text) → IsSettled space → LawsOfProcesses space.finds leads → Stands space p t → IsCalled space p t × AreNames t

-- a directory stands at one guest text
abbrev pub DirectoriesStandOnce : Type 0
DirectoriesStandOnce =
    (space : Namespace) (leads : ProcAt → Lead ℕ) (p : Place ℕ) (t u : Text) → IsSettled space → LawsOfProcesses space.finds leads → is_directory_at space.tree p.host ≡ true → Stands space p t → Stands space p u → t ≡ u

-- a place of a mount stands at the guest text that the mount's tag and a host text give, if that reaches its object and
-- isn't covered by the mount itself
abbrev pub TaggedPlacesStand : Type 0
TaggedPlacesStand =
    (space : Namespace) (k : ℕ) (r : Row) (host guest : Text) (x : Host) → IsSettled space → row space.table k ≡ Some r → guest_of (texts_of space.table) r.text.index host ≡ Some guest → IsUncovered space k host
    → reached_in space host ≡ Some x → (is_directory_at space.tree x ≡ true → IsOpen space guest) → (host_text space guest ≡ host) × Stands space (place_in k x) guest

-- and what stands isn't covered
abbrev pub StandingPlacesAreUncovered : Type 0
StandingPlacesAreUncovered = (space : Namespace) (p : Place ℕ) (t : Text) → IsSettled space → Stands space p t → IsUncovered space p.mount (host_text space t)
