-- A state of a kernel with mounts as a scene: what the plain kernel tells of the same state, all places of which it sees in its
-- one mount.
use Rattle.std.specs.Prelude.{◌||◌, ◌==◌, not, length, ◌≡◌, ℕ, Bool, true, false, List, [], Some, None, if◌then◌else◌}
use Rattle.std.specs.Option.{option_map_or}
use Rattle.pt_canon.specs.pr_base.Paths.{text_of}
use Rattle.pt_canon.specs.pr_base.Texts.{Text}
use Rattle.pt_canon.specs.pr_base.WalkFrame.{Target, is_followed}
use Rattle.pt_canon.specs.pr_base.declared.path.WalkMode.{WalkMode}
use Rattle.pt_canon.specs.pt_bind.Binding.{guest_of, index_of}
use Rattle.pt_canon.specs.pt_bind.Tags.{TagTable, tag_of}
use Rattle.pt_canon.specs.pt_bind.declared.slot.Slot.TheVariants as slot
use Rattle.kr_mounts.specs.kr_tree.declared.place.Host.TheVariants.{Node}
use Rattle.kr_mounts.specs.kr_tree.declared.place.Place.{Place}
use Rattle.kr_mounts.specs.kr_tree.Tree.{Tree}
use Rattle.kr_mounts.specs.kr_view.Component.{Namespace, is_directory_at}
use Rattle.kr_mounts.specs.kr_view.HostReach.{host_place}
use Rattle.kr_mounts.specs.kr_view.Living.{Each, HasSmallNumbers}
use Rattle.kr_mounts.specs.kr_view.Names.{guest_name}
use Rattle.kr_mounts.specs.kr_view.View.{Row, row, source}
use Rattle.kr_mounts.specs.kr_view.Walk.{PlaceTarget}
use Rattle.kr_model.specs.kr_files.declared.opened.Opened.{Opened}
use Rattle.kr_mounts.specs.Standing.{texts_of}
pub use Rattle.kr_model.specs.HostView.{base_name, cwd_name, exe_name, host_around_of, host_leads, host_open, host_space, open_name}
pub use Rattle.kr_model.specs.Peeks.{answer_along, body_text, link_text_at, peeked_of, read_at, read_of}
use Rattle.kr_model.specs.ProcessDirectory.{around_of, living_of, name_text, space_of}
use Rattle.kr_model.specs.State.{Process, State, inode_of, opened, process}
use Rattle.law_walks.specs.Handed.{BothEnd}
use Rattle.law_walks.specs.Peeks.{ArePeeks}
use Rattle.law_walks.specs.Scene.{IsMatched, Scene}
use Rattle.law_walks.specs.Settled.{IsSettled, host_text}
use Rattle.law_walks.specs.Standing.{IsEntryAt, StandsOn}

-- what peeks of a state tell is what walks over the host's own view of it find
abbrev pub StatesArePeekedAt : Type 0 → Type 0
StatesArePeekedAt X = (s : State ℕ X) (caller : ℕ) → ArePeeks (peeked_of s caller) (host_around_of s caller)

-- ---- places in use

-- a place that a process has, with the entry that is remembered of it and its tag: it stands at a guest text, the tag is its
-- mount's index, and what is no directory has the entry of its host text
pub record IsInUse (space : Namespace) (p : Place ℕ) (dir : ℕ) (name : List ℕ) (tag : ℕ) : Type 0 where
  pub guest : Text
  pub stands : StandsOn space p guest
  pub mount : Row
  pub there : row space.table p.mount ≡ Some mount
  pub tagged : tag ≡ mount.text.index
  pub directory : is_directory_at space.tree p.host ≡ true → name ≡ []
  pub entry : is_directory_at space.tree p.host ≡ false → IsEntryAt space (host_text space guest) (Node dir) name

-- a directory, or what remembers an entry, as a file whose name wasn't taken away
abbrev pub is_called : Namespace → Place ℕ → List ℕ → Bool
is_called space p name = is_directory_at space.tree p.host || not (length name == 0)

-- a place with a name is in use so; another has no guest name
pub record IsPlaced (space : Namespace) (p : Place ℕ) (dir : ℕ) (name : List ℕ) (tag : ℕ) : Type 0 where
  pub called : is_called space p name ≡ true → IsInUse space p dir name tag
  pub nameless : is_called space p name ≡ false → guest_name space p None ≡ None

-- working directories, executables and what is open
pub record ArePlaced {X : Type 0} (table : List Row) (s : State ℕ X) (tags : TagTable) : Type 0 where
  pub cwd : (pid : ℕ) (p : Process ℕ X) → process pid s ≡ Some p → IsPlaced (space_of table s) p.cwd 0 [] (tag_of tags pid slot.Cwd)
  pub exe : (pid : ℕ) (p : Process ℕ X) → process pid s ≡ Some p → IsPlaced (space_of table s) p.exe p.exe_dir p.exe_name (tag_of tags pid slot.Exe)
  pub open_files : (pid fd : ℕ) (o : Opened ℕ) (p : Place ℕ) → opened pid fd s ≡ Some o → o.place ≡ Some p → IsPlaced (space_of table s) p o.dir o.name (tag_of tags pid (slot.Fd fd))

-- a state, as both walks of a caller see it
abbrev pub scene_of : {X : Type 0} → List Row → State ℕ X → ℕ → TagTable → Scene
scene_of table s caller tags = record { around = around_of table caller s; host_leads = host_leads s caller; peeked = peeked_of s caller; tags = tags }

-- where all places that have names stand with their tags, all that walks go by is matched
abbrev pub StatesAreMatched : Type 0 → Type 0
StatesAreMatched X =
    (table : List Row) (s : State ℕ X) (caller : ℕ) (tags : TagTable) → IsSettled (space_of table s) → Each HasSmallNumbers (living_of s) → ArePlaced table s tags
    → IsMatched (scene_of table s caller tags)

-- ---- what is told of places in use

-- the kernel tells its guest text; the plain kernel its host text, of which the tag gives the guest text
pub record IsTold {X : Type 0} (table : List Row) (s : State ℕ X) (p : Place ℕ) (dir : ℕ) (name : List ℕ) (tag : ℕ) (guest : Text) : Type 0 where
  pub to_guest : name_text (space_of table s) p dir name ≡ Some (text_of guest)
  pub on_host : name_text (host_space s) (host_place p.host) dir name ≡ Some (text_of (host_text (space_of table s) guest))
  pub tagged : guest_of (texts_of table) tag (host_text (space_of table s) guest) ≡ Some guest

abbrev pub PlacesInUseAreTold : Type 0 → Type 0
PlacesInUseAreTold X =
    (table : List Row) (s : State ℕ X) (p : Place ℕ) (dir : ℕ) (name : List ℕ) (tag : ℕ) → IsSettled (space_of table s) → Each HasSmallNumbers (living_of s) → (own : IsInUse (space_of table s) p dir name tag)
    → IsTold table s p dir name tag own.guest

-- what an opening remembers of what a walk found: of what is no directory the entry, and of a mount's source that at which it
-- was settled
abbrev pub remembered_of : List Row → Tree → PlaceTarget → Place ℕ → ℕ × List ℕ
remembered_of table t target p = if is_directory_at t p.host then (0, []) else option_map_or (λ e. e) (source table p.mount) (inode_of target.dir.host, target.name)

-- what both walks find, where they follow a last link, is such a place, by the index of its guest text
abbrev pub FoundIsInUse : Type 0
FoundIsInUse =
    (scene : Scene) (mode : WalkMode) (base : Place ℕ) (t : Text) (path : List ℕ) (a : PlaceTarget) (b : Target Text Text) (p : Place ℕ) (u : Text)
    → BothEnd scene mode base t path a b → is_followed mode false ≡ true → a.found ≡ Some p → b.found ≡ Some u
    → let e = remembered_of scene.around.space.table scene.around.space.tree a p in IsInUse scene.around.space p e.0 e.1 (index_of (texts_of scene.around.space.table) u)
