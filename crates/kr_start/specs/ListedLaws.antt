-- Trees that were read can last, and so can those in which bindings were settled.
use Rattle.std.specs.Prelude.{◌≡◌, ℕ, List, Ok}
use Rattle.elf_load.specs.pr_base.declared.bind.Bind.{Bind}
use Rattle.kr_text.specs.kr_inode.declared.user.User.{User}
use Rattle.kr_text.specs.kr_tree.Lawful.{IsCounted, IsSound}
use Rattle.kr_text.specs.kr_tree.Tree.{Tree}
use Rattle.kr_text.specs.Drawn.{IsDrawn}
use Rattle.kr_text.specs.Reading.{listing_of}
use Rattle.law_walks.specs.kr_mounts.Growth.{IsGrown}
use Rattle.law_walks.specs.kr_mounts.MountTable.{settling}
use Rattle.law_walks.specs.kr_mounts.Ways.{HasNumbers}
use Rattle.kr_start.specs.Beginning.{CanLast}

-- the tree and the user of a listing can last, where numbers were drawn as the reader of listings draws them; and bindings can be
-- settled over the tree
abbrev pub ReadTreesLast : Type 0
ReadTreesLast = (elf bytes : List ℕ) (t : Tree) (user : User) → listing_of elf bytes ≡ Ok (t, user) → IsDrawn t → IsSound t → CanLast t user × HasNumbers t

-- a tree in which the user made names can last, where what was there before could: what is made is the user's, and no link is
-- made. It has room for 1,048,576 names, and each takes an inode number and a serial
abbrev pub GrownTreesLast : Type 0
GrownTreesLast = (user : User) (t u : Tree) → IsSound t → IsCounted t → HasNumbers t → IsGrown user t u → CanLast t user → CanLast u user

-- and so can the tree that settling leaves, whatever it comes to
abbrev pub SettledTreesLast : Type 0
SettledTreesLast = (t : Tree) (user : User) (root : List ℕ) (binds : List Bind) → IsSound t → IsCounted t → HasNumbers t → CanLast t user → CanLast (settling t user root binds).tree user
