-- What both machines begin on, of a listing and of bindings.
use Rattle.std.specs.Prelude.{◌≡◌, ℕ, List, Ok}
use Rattle.std.specs.List.{AllByRecursion}
use Rattle.pr_top.specs.pr_base.declared.bind.Bind.{Bind}
use Rattle.pr_top.specs.kr_inode.declared.user.User.{User}
use Rattle.pr_top.specs.kr_tree.Lawful.{HasBytes, IsKept}
use Rattle.pr_top.specs.kr_tree.Tree.{Tree}
use Rattle.pr_top.specs.kr_view.View.{Row}
use Rattle.pr_top.specs.kr_mounts.Bounds.{AreNumbered}
use Rattle.pr_top.specs.kr_mounts.MountTable.{settling}
use Rattle.law_starts.specs.kr_start.Ready.{IsOfListing}
use Rattle.law_starts.specs.FirstStates.{IsOpening}
use Rattle.law_machines.specs.Asking.{IsOfByteParts}

-- bindings that settle in a tree that was read give what both machines can begin on. The tree that settling leaves has to be of bytes: it makes
-- the names of locations, which are lists of numbers here
abbrev pub SettledIsOpening : Type 0
SettledIsOpening =
    (t : Tree) (user : User) (root : List ℕ) (binds : List Bind) (table : List Row) → IsOfListing t user → IsKept t → AreNumbered binds → (settling t user root binds).answer ≡ Ok table
    → HasBytes (settling t user root binds).tree → IsOpening (settling t user root binds).tree user table

-- it is, where the bindings' paths are bytes
abbrev pub SettledTreesHaveBytes : Type 0
SettledTreesHaveBytes = (t : Tree) (user : User) (root : List ℕ) (binds : List Bind) → HasBytes t → AllByRecursion IsOfByteParts binds → HasBytes (settling t user root binds).tree
