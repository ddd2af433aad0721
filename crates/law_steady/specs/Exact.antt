-- Which changes alter the shape of a tree, exactly: a mode or an owner that is set alters it where the inode has a name and the numbers are
-- others, a name that is moved where what it names isn't there under the new name already, and a name that is made or taken away always.
use Rattle.std.specs.Prelude.{◌≡◌, ◌↔◌, ℕ, Bool, true, false, not, ◌&&◌, ◌==◌, List, Option, Some, None, nat_eq, nat_lt}
use Rattle.std.specs.Option.{option_map_or}
use Rattle.law_lawful.specs.kr_tree.Holds.{names_at}
use Rattle.law_lawful.specs.kr_tree.Lawful.{IsKept}
use Rattle.law_lawful.specs.kr_tree.Names.{named}
use Rattle.law_lawful.specs.kr_tree.Tree.{Tree, entry, node}
use Rattle.law_lawful.specs.kr_view.View.{Row}
use Rattle.law_lawful.specs.kr_model.Applied.{Mounts, applied, images}
use Rattle.law_lawful.specs.kr_model.Change.{Change, AddNode, LinkNode, RemoveName, MoveName, SetMode, SetOwner}
use Rattle.law_lawful.specs.kr_model.Conditions.{CanBeMade}
use Rattle.law_lawful.specs.kr_model.Judged.{HasShape, alters_shape}
use Rattle.law_lawful.specs.kr_model.State.{Image, State}

-- ---- tests

-- whether an inode has a name, of which the root has one
abbrev pub has_name : Tree → ℕ → Bool
has_name t i = nat_lt 0 (names_at t i)

-- whether it is there with this mode, and with these numbers of its owner and its group
abbrev pub has_mode : Tree → ℕ → ℕ → Bool
has_mode t i mode = option_map_or (λ n. n.mode == mode) (node t i) false

abbrev pub has_owner : Tree → ℕ → (uid gid : ℕ) → Bool
has_owner t i uid gid = option_map_or (λ n. (n.uid == uid) && (n.gid == gid)) (node t i) false

-- whether both are there and are one
abbrev pub are_one : Option ℕ → Option ℕ → Bool
are_one (Some i) (Some old) = nat_eq i old
are_one (Some i) None = false
are_one None _ = false

-- whether a change alters the shape of this tree
abbrev pub alters_shape_of : Tree → Change → Bool
alters_shape_of t (AddNode dir name mode uid gid body) = true
alters_shape_of t (LinkNode dir name inode) = true
alters_shape_of t (RemoveName dir name) = true
alters_shape_of t (MoveName dir name to new) = not (are_one (entry t dir name) (entry t to new))
alters_shape_of t (SetMode inode mode) = has_name t inode && not (has_mode t inode mode)
alters_shape_of t (SetOwner inode uid gid) = has_name t inode && not (has_owner t inode uid gid)
alters_shape_of t _ = false

-- ---- laws

-- an inode has a name exactly where a text names it
abbrev pub NamesAreTexts : Type 0
NamesAreTexts = (t : Tree) → IsKept t → (i : ℕ) → (has_name t i ≡ true) ↔ ((text : List (List ℕ)) × (named t text ≡ Some i))

-- a change that can be made leaves the shape exactly where it isn't told to alter it
abbrev pub ShapeIsTold : Type 0 → Type 0
ShapeIsTold M =
    (number : M → ℕ) (table : List Row) (mounts : Mounts M) (pid : ℕ) (c : Change) (s : State M Image) → IsKept s.tree → CanBeMade number table mounts pid s c
    → (alters_shape_of s.tree c ≡ false) ↔ HasShape s.tree (applied images mounts pid c s).tree

-- of a tree no more is told than of changes alone
abbrev pub LessIsTold : Type 0
LessIsTold = (t : Tree) (c : Change) → alters_shape c ≡ false → alters_shape_of t c ≡ false
