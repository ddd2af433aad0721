-- What settling bindings leaves for a beginning, beside what makes it ready: each source's entry.
use Rattle.std.specs.Prelude.{◌≡◌, ℕ, List, Ok}
use Rattle.pr_start.specs.pr_base.declared.bind.Bind.{Bind}
use Rattle.pr_start.specs.kr_inode.declared.user.User.{User}
use Rattle.pr_start.specs.kr_mounts.MountTable.{settling}
use Rattle.pr_start.specs.kr_tree.Lawful.{IsCounted, IsSound}
use Rattle.pr_start.specs.kr_tree.Tree.{Tree}
use Rattle.pr_start.specs.kr_view.View.{Row}
use Rattle.law_turns.specs.law_places.Standing.{AreSourcesNamed}

-- the source of each mount is the entry at which it was settled, that of a directory too
abbrev pub SettledSourcesAreNamed : Type 0
SettledSourcesAreNamed =
    (t : Tree) (user : User) (root : List ℕ) (binds : List Bind) (table : List Row) → IsSound t → IsCounted t → (settling t user root binds).answer ≡ Ok table
    → AreSourcesNamed table (settling t user root binds).tree
