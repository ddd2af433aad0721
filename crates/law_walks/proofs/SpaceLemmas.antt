-- What places are called is the same over a tree with fewer holds.
use Rattle.std.proofs.Common.{◌≡◌, ℕ, List, ◌++◌, refl, Option, Some, None}
use Rattle.std.specs.Bool.{if◌then◌else◌}
use Rattle.std.specs.Option.{option_map, option_and_then}
use Rattle.pt_canon.specs.pr_base.Texts.{Text, below, names_below}
use Rattle.kr_mounts.specs.kr_inode.declared.user.User.{User}
use Rattle.kr_mounts.specs.kr_tree.Holds.{with_fewer}
use Rattle.kr_mounts.specs.kr_tree.Tree.{Tree, is_directory}
use Rattle.kr_mounts.specs.kr_tree.declared.place.Host.{Host}
use Rattle.kr_mounts.specs.kr_tree.declared.place.Host.TheVariants.{Node, Proc}
use Rattle.kr_mounts.specs.kr_tree.declared.place.Place.{Place}
use Rattle.kr_mounts.specs.kr_tree.declared.place.ProcAt.{ProcAt}
use Rattle.kr_mounts.specs.kr_tree.declared.place.ProcAt.TheVariants.{SelfLink, Dir, Cwd, Root, Exe, FdDir, Fd}
use Rattle.kr_mounts.specs.kr_view.Component.{Finds, Namespace, is_process_directory}
use Rattle.kr_mounts.specs.kr_view.Names.{Remembered, guest_below, guest_directory, guest_entry, guest_name, guest_node, guest_object, guest_process, guest_source, is_file_source, names_down, process_object_name}
use Rattle.kr_mounts.specs.kr_view.View.{Row, row}
use Rattle.law_walks.proofs.TreeLemmas.{same_host_name, same_test}

module _ (less : ℕ → ℕ) (t : Tree) where
  abbrev light : Tree
  light = with_fewer less t

  same_down : (top dir : ℕ) → names_down light top dir ≡ names_down t top dir
  same_down top dir = λ j. option_and_then (λ high. option_and_then (names_below high) (same_host_name less t dir j)) (same_host_name less t top j)

  same_directory : (r : Option Row) (i : ℕ) → guest_directory light r i ≡ guest_directory t r i
  same_directory (Some r) i = λ j. option_map (λ names. names ++ r.text.location) (same_down r.source i j)
  same_directory None i = refl

  same_entry_name : (r : Option Row) (remembered : Remembered) → guest_entry light r remembered ≡ guest_entry t r remembered
  same_entry_name r (Some e) = λ j. below e.1 (same_directory r e.0 j)
  same_entry_name r None = refl

  same_below : (r : Option Row) (i : ℕ) (remembered : Remembered) → guest_below light r i remembered ≡ guest_below t r i remembered
  same_below r i remembered = λ j. if same_test less t is_directory i j then same_directory r i j else same_entry_name r remembered j

  same_node : (r : Option Row) (i : ℕ) (remembered : Remembered) → guest_node light r i remembered ≡ guest_node t r i remembered
  same_node r i remembered = λ j. if is_file_source r i then guest_source r remembered else same_below r i remembered j

  module _ (table : List Row) (user : User) (finds : Finds) where
    abbrev space : Tree → Namespace
    space t = record { table = table; tree = t; user = user; finds = finds }

    same_process_name : (at : ProcAt) (top : Option Text) → process_object_name (space light) at top ≡ process_object_name (space t) at top
    same_process_name SelfLink top = refl
    same_process_name (Dir pid) top = refl
    same_process_name (Cwd pid) top = refl
    same_process_name (Root pid) top = refl
    same_process_name (Exe pid) top = refl
    same_process_name (FdDir pid) top = refl
    same_process_name (Fd pid fd) top = refl

    same_process : (r : Option Row) (i : ℕ) (at : ProcAt) (remembered : Remembered) → guest_process (space light) r i at remembered ≡ guest_process (space t) r i at remembered
    same_process r i at remembered =
        λ j. if is_process_directory at then same_process_name at (same_directory r i j) j else same_entry_name r remembered j

    same_object : (r : Option Row) (x : Host) (remembered : Remembered) → guest_object (space light) r x remembered ≡ guest_object (space t) r x remembered
    same_object r (Node i) remembered = same_node r i remembered
    same_object r (Proc i at) remembered = same_process r i at remembered

    pub same_guest_name : (p : Place ℕ) (remembered : Remembered) → guest_name (space light) p remembered ≡ guest_name (space t) p remembered
    same_guest_name p remembered = same_object (row table p.mount) p.host remembered
