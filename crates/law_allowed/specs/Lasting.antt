-- What a kernel keeps of its state from call to call beside that it is lawful: texts in links, owners of 32 bits, and room for
-- numbers that are drawn.
use Rattle.std.specs.Prelude.{◌≡◌, ℕ, suc, ◌+◌, ◌<◌, ◌^◌, List, Some}
use Rattle.std.specs.List.{AllByRecursion}
use Rattle.law_lawful.specs.kr_inode.declared.user.User.{User}
use Rattle.law_lawful.specs.kr_tree.Changes.{next_serial}
use Rattle.law_lawful.specs.kr_tree.Lawful.{IsSound, IsIn}
use Rattle.law_lawful.specs.kr_tree.Tree.{Tree, Body, Directory, RegularFile, SymbolicLink, ProcessDirectory, Inode, Entry, inode, entries}
use Rattle.law_lawful.specs.kr_view.View.{Row}
use Rattle.law_lawful.specs.kr_model.Applied.{Mounts, all_applied, images}
use Rattle.law_lawful.specs.kr_model.Change.{Change, AddNode}
use Rattle.law_lawful.specs.kr_model.Lawful.{IsLawful}
use Rattle.law_lawful.specs.kr_model.State.{Image, State}
use Rattle.law_lawful.specs.Laws.{CanAllBeMade}
use Rattle.law_allowed.specs.Drawing.{DrawsOnce, HasDrawn}
use Rattle.law_allowed.specs.Texts.{IsText, LinksHaveTexts}

abbrev pub HaveOwners : Tree → Type 0
HaveOwners t = (i : ℕ) (x : Inode) → inode t i ≡ Some x → (x.node.uid < 2 ^ 32) × (x.node.gid < 2 ^ 32)

pub record Lasts {M X : Type 0} (calls : ℕ) (s : State M X) : Type 0 where
  pub texts : LinksHaveTexts s.tree
  pub owners : HaveOwners s.tree
  pub user : (s.user.uid < 2 ^ 32) × (s.user.gid < 2 ^ 32)
  pub drawn : HasDrawn calls s

-- ---- changes that keep it

abbrev pub HasText : Body → Type 0
HasText (Directory entries standing) = Unit {0}
HasText (RegularFile bytes) = Unit {0}
HasText (SymbolicLink text) = IsText text
HasText (ProcessDirectory standing) = Unit {0}

-- what is made belongs to the user, and a link that is made has a text
abbrev pub IsOfUser : User → Change → Type 0
IsOfUser user (AddNode dir name mode uid gid body) = (uid ≡ user.uid) × (gid ≡ user.gid) × HasText body
IsOfUser user _ = Unit {0}

-- the changes of a call that is replied
pub record AreModest (user : User) (cs : List Change) : Type 0 where
  pub users : AllByRecursion (IsOfUser user) cs
  pub drawn : DrawsOnce cs

-- they keep it, with a call more, where they can all be made
abbrev pub ModestChangesLast : Type 0 → Type 0
ModestChangesLast M =
    (number : M → ℕ) (table : List Row) (mounts : Mounts M) (pid calls : ℕ) (cs : List Change) (s : State M Image) → IsLawful number table s → CanAllBeMade number table mounts pid s cs
    → AreModest s.user cs → Lasts calls s → Lasts (suc calls) (all_applied images mounts pid cs s)

-- ---- the room that it leaves

-- each number that a call draws next is one of the machine's, and so are owners and the serials of entries
pub record HasRoomLeft {M X : Type 0} (s : State M X) : Type 0 where
  pub owners : HaveOwners s.tree
  pub inodes : s.tree.next + 1 < 2 ^ 32
  pub next_serials : (dir : ℕ) → next_serial s.tree dir + 1 < 2 ^ 64
  pub serials : (i : ℕ) (e : Entry) → IsIn e (entries s.tree i) → e.serial < 2 ^ 63
  pub files : s.files.last_file + 2 < 2 ^ 64
  pub pipes : s.files.last_pipe + 1 < 2 ^ 32
  pub pids : s.next_pid + 1 < 2 ^ 32

-- fewer than 2^31 calls leave it
abbrev pub LastingHasRoom : Type 0 → Type 0 → Type 0
LastingHasRoom M X = (calls : ℕ) (s : State M X) → calls < 2 ^ 31 → IsSound s.tree → Lasts calls s → HasRoomLeft s
