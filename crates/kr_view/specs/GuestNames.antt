-- What guest names are.
use Rattle.std.specs.Prelude.{ℕ, ◌≡◌, true, false, List, ◌++◌, Some, None}
use Rattle.kr_tree.specs.declared.place.Host.TheVariants.{Proc}
use Rattle.kr_tree.specs.declared.place.Place.{Place}
use Rattle.kr_tree.specs.declared.place.ProcAt.{ProcAt}
use Rattle.kr_tree.specs.Tree.{body_is, is_directory}
use Rattle.kr_tree.specs.Lawful.{IsSound}
use Rattle.kr_tree.specs.Names.{host_name}
use Rattle.kr_view.specs.View.{Row, row, node_in, plain}
use Rattle.kr_view.specs.Component.{Namespace, is_directory_at, is_process_directory}
use Rattle.kr_view.specs.Names.{Text, below, process_object_name, Remembered, object_name, guest_name}

-- in a mount whose source is a directory
pub record NamesInDirectoryMount (space : Namespace) (k : ℕ) (r : Row) : Type 0 where
  -- the source is called by the location; but one that was removed has no host name, and no guest name
  pub source : (remembered : Remembered) (top : Text) → host_name space.tree r.source ≡ Some top → guest_name space (node_in k r.source) remembered ≡ Some r.text.location
  pub removed : (remembered : Remembered) → body_is is_directory space.tree r.source ≡ true → host_name space.tree r.source ≡ None → guest_name space (node_in k r.source) remembered ≡ None
  -- a directory below the source is called by the location and the names from the source down, and one that isn't
  -- below it has no guest name
  pub below_source : (i : ℕ) (remembered : Remembered) (top names : Text) → host_name space.tree r.source ≡ Some top → host_name space.tree i ≡ Some (names ++ top)
      → guest_name space (node_in k i) remembered ≡ Some (names ++ r.text.location)
  pub only_below : (i : ℕ) (remembered : Remembered) (guest : Text) → body_is is_directory space.tree i ≡ true → guest_name space (node_in k i) remembered ≡ Some guest
      → (top : Text) × (names : Text) × (host_name space.tree r.source ≡ Some top) × (host_name space.tree i ≡ Some (names ++ top)) × (guest ≡ names ++ r.text.location)
  -- another inode is called by the directory and name that it remembers
  pub entries : (i dir : ℕ) (name : List ℕ) → body_is is_directory space.tree i ≡ false → body_is is_directory space.tree dir ≡ true
      → guest_name space (node_in k i) (Some (dir, name)) ≡ below name (guest_name space (node_in k dir) None)
  -- a directory below the process directory is called by that and its own names
  pub processes : (i : ℕ) (at : ProcAt) (remembered : Remembered) → body_is is_directory space.tree i ≡ true → is_process_directory at ≡ true
      → guest_name space (record { mount = k; host = Proc i at }) remembered ≡ process_object_name space at (guest_name space (node_in k i) None)

-- guest names go by places
pub record GuestNamesGoByPlaces : Type 0 where
  -- over the host's own view a place is called as its object is on the host
  pub plain_view : (space : Namespace) (p : Place ℕ) (remembered : Remembered) → IsSound space.tree → space.table ≡ plain → p.mount ≡ 0
      → guest_name space p remembered ≡ object_name space p.host remembered
  -- a source that is no directory is called by the location, whatever entry it remembers
  pub file_source : (space : Namespace) (k : ℕ) (r : Row) (e : ℕ × List ℕ) → row space.table k ≡ Some r → r.is_dir ≡ false
      → guest_name space (node_in k r.source) (Some e) ≡ Some r.text.location
  -- but what is no directory and remembers none has no guest name, in whatever mount
  pub nameless : (space : Namespace) (p : Place ℕ) → is_directory_at space.tree p.host ≡ false → guest_name space p None ≡ None
  pub directory_mount : (space : Namespace) (k : ℕ) (r : Row) → IsSound space.tree → row space.table k ≡ Some r → r.is_dir ≡ true → NamesInDirectoryMount space k r
