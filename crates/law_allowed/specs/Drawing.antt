-- Numbers that are drawn in order, each once: those of inodes, of a directory's serials, of open files, of pipes and of processes.
use Rattle.std.specs.Prelude.{◌≡◌, ℕ, ◌+◌, ◌*◌, ◌≤◌, ◌<◌, ◌^◌, List, [], ◌∷◌, Some}
use Rattle.law_lawful.specs.kr_tree.Tree.{Inode, inode}
use Rattle.law_lawful.specs.kr_model.Change.{Change, AddNode, LinkNode, MoveName, OpenFile, MakePipe, Fork}
use Rattle.law_lawful.specs.kr_model.State.{State}

-- ---- what changes draw

-- an inode, or a serial of a directory
abbrev pub names_drawn : Change → ℕ
names_drawn (AddNode dir name mode uid gid body) = 1
names_drawn (LinkNode dir name inode) = 1
names_drawn (MoveName dir name to new) = 1
names_drawn _ = 0

-- open files, two of a pipe, or a pipe
abbrev pub files_drawn : Change → ℕ
files_drawn (OpenFile fd cloexec from o) = 1
files_drawn (MakePipe first second cloexec) = 1
files_drawn _ = 0

abbrev pub pids_drawn : Change → ℕ
pids_drawn (Fork birth) = 1
pids_drawn _ = 0

abbrev pub drawn_by : (Change → ℕ) → List Change → ℕ
drawn_by drawn [] = 0
drawn_by drawn (c ∷ cs) = drawn c + drawn_by drawn cs

-- no call draws twice
pub record DrawsOnce (cs : List Change) : Type 0 where
  pub names : drawn_by names_drawn cs ≤ 1
  pub files : drawn_by files_drawn cs ≤ 1
  pub pids : drawn_by pids_drawn cs ≤ 1

-- ---- what was drawn

-- after `calls` calls, each of which draws once, from a start at which fewer than 2^31 numbers of each kind were drawn, and of
-- each directory's serials 2^63 - 2^31 at most
pub record HasDrawn {M X : Type 0} (calls : ℕ) (s : State M X) : Type 0 where
  pub inodes : s.tree.next < 2 ^ 31 + calls
  pub serials : (i : ℕ) (x : Inode) → inode s.tree i ≡ Some x → x.next_serial + 2 ^ 31 ≤ 2 ^ 63 + calls
  pub files : s.files.last_file < 2 ^ 31 + 2 * calls
  pub pipes : s.files.last_pipe < 2 ^ 31 + calls
  pub pids : s.next_pid < 2 ^ 31 + calls
