-- The state in which a run begins: a tree in which the sources of the mounts are held, the console, and one process.
use Rattle.std.specs.FinMap as map
use Rattle.std.specs.Prelude.{◌≡◌, ℕ, ◌≤◌, ◌==◌, ◌+◌, nat_lt, is_some, IsSome, Bool, true, false, List, [], ◌∷◌, None, if◌then◌else◌}
use Rattle.kr_text.specs.kr_inode.declared.user.User.{User}
use Rattle.kr_text.specs.kr_tree.Tree.{Tree}
use Rattle.kr_text.specs.kr_tree.Changes.{held}
use Rattle.kr_text.specs.kr_tree.Holds.{holds_at}
use Rattle.kr_text.specs.kr_tree.declared.place.Place.{Place}
use Rattle.law_walks.specs.kr_view.View.{Row}
use Rattle.law_walks.specs.kr_view.Component.{is_directory_at}
use Rattle.law_walks.specs.kr_view.InTree.{IsPlaceOf}
use Rattle.law_walks.specs.kr_view.Leads.{numbered}
use Rattle.law_walks.specs.kr_files.Files.{empty_table}
use Rattle.law_walks.specs.kr_files.declared.opened.Opened.{Opened}
use Rattle.law_walks.specs.kr_files.declared.opened.What.{What}
use Rattle.law_walks.specs.kr_files.declared.opened.What.TheVariants.{In, Out, Err}
use Rattle.law_walks.specs.kr_model.Applied.{open_in}
use Rattle.law_walks.specs.kr_model.Lawful.{IsLawful, IsNameOrNone, is_file_at}
use Rattle.law_walks.specs.kr_model.MemoryRows.{pages_end}
use Rattle.law_walks.specs.kr_model.State.{Image, Process, State, inode_of, process, named}
use Rattle.kr_ops.specs.declared.state.State as code
use Rattle.kr_ops.specs.Meaning.{meaning}
use Rattle.kr_ops.specs.Sound.{IsOfView, IsServed}
use Rattle.elf_load.specs.declared.image.Image as loaded

-- ---- the tree

-- an inode that isn't held yet is held once
abbrev pub held_once : ℕ → Tree → Tree
held_once i t = if holds_at t i == 0 then held i t else t

-- each inode that is the source of a mount is held once, also one that is the source of several
abbrev pub pinned : List Row → Tree → Tree
pinned [] t = t
pinned (r ∷ rows) t = pinned rows (held_once r.source t)

-- ---- the first process

-- what it computes on and where it stands
pub record First (T : Type 0) : Type 0 where
  pub image : Image
  pub brk : ℕ
  pub cwd : Place T
  pub exe : Place T
  -- the entry that the executable remembers; an empty name where it has none
  pub exe_dir : ℕ
  pub exe_name : List ℕ

-- the number of the first process, and that of its parent, which never lives
abbrev pub first_pid : ℕ
first_pid = 2

abbrev pub no_pid : ℕ
no_pid = 1

-- 022: what others and the group may not write
abbrev pub first_umask : ℕ
first_umask = 18

abbrev pub first_process : {T : Type 0} → First T → Process T Image
first_process first = record {
  pid = first_pid;
  parent = no_pid;
  image = first.image;
  brk_start = first.brk;
  brk = first.brk;
  descs = map.empty;
  cwd = first.cwd;
  exe = first.exe;
  exe_dir = first.exe_dir;
  exe_name = first.exe_name;
  umask = first_umask;
  waits = false;
}

-- ---- the state

-- before a process lives
abbrev pub without_processes : {T : Type 0} → Tree → User → List ℕ → State T Image
without_processes tree user input = record {
  tree = tree;
  user = user;
  files = empty_table;
  input = input;
  taken = 0;
  out = [];
  err = [];
  living = [];
  ended = [];
  next_pid = first_pid;
}

-- with the first process, which holds its working directory and its executable
abbrev pub with_first : {T : Type 0} → First T → State T Image → State T Image
with_first first s = record {
  tree = held (inode_of first.exe.host) (held (inode_of first.cwd.host) s.tree);
  user = s.user;
  files = s.files;
  input = s.input;
  taken = s.taken;
  out = s.out;
  err = s.err;
  living = first_process first ∷ [];
  ended = s.ended;
  next_pid = s.next_pid + 1;
}

-- a part of the console, which has no place
abbrev pub console : What → Bool → Bool → Opened (Unit {0})
console what read write = record {
  place = None;
  dir = 0;
  name = [];
  what = what;
  read = read;
  write = write;
  append = false;
  at = 0;
}

-- whether a part of the console is meant
abbrev pub is_console : What → Bool
is_console In = true
is_console Out = true
is_console Err = true
is_console what = false

-- descriptor 0 reads the input, 1 writes the output and 2 the error; no mount is in them
abbrev pub with_console : {T : Type 0} → T → State T Image → State T Image
with_console m s =
    open_in first_pid 2 false (console Err false true) m (open_in first_pid 1 false (console Out false true) m (open_in first_pid 0 false (console In true false) m s))

abbrev pub started : {T : Type 0} → First T → State T Image → State T Image
started first s = with_console first.cwd.mount (with_first first s)

-- ---- what it begins from

-- no process lives or ended, and nothing is open
pub record IsIdle {T : Type 0} (s : State T Image) : Type 0 where
  pub living : s.living ≡ []
  pub ended : s.ended ≡ []
  pub files : s.files ≡ empty_table
  pub next_pid : s.next_pid ≡ first_pid

-- nothing is held
abbrev pub HasNoHolds : Tree → Type 0
HasNoHolds t = (i : ℕ) → holds_at t i ≡ 0

-- the working directory is a directory of the view in the tree, the executable a file, and the break within the range of pages
pub record CanBegin {T : Type 0} (number : T → ℕ) (table : List Row) (tree : Tree) (first : First T) : Type 0 where
  pub cwd : IsPlaceOf tree table (numbered number first.cwd) × (is_directory_at tree first.cwd.host ≡ true)
  pub exe : IsPlaceOf tree table (numbered number first.exe) × (is_file_at tree first.exe.host ≡ true)
  pub exe_name : IsNameOrNone first.exe_name
  pub break : first.brk ≤ pages_end

-- ---- of the code's values

abbrev pub first_of : {T : Type 0} {M : ℕ} → loaded.Image M → Place T → Place T → ℕ → List ℕ → First T
first_of image cwd exe exe_dir exe_name = record {
  image = record { regs = image.regs; memory = image.mem };
  brk = image.brk;
  cwd = cwd;
  exe = exe;
  exe_dir = exe_dir;
  exe_name = exe_name;
}

-- the descriptors that are open in the first process are those below a number
abbrev pub AreOpenBelow : {T : Type 0} → ℕ → State T Image → Type 0
AreOpenBelow n s = (fd : ℕ) → is_some (named first_pid fd s) ≡ nat_lt fd n

module _ {T : Type 0} {M : ℕ} where
  -- a lawful state before a process lives, and a process that can begin in it
  pub record IsReady (first : First T) (s : code.State T M) : Type 0 where
    pub number : T → ℕ
    pub table : List Row
    pub lawful : IsLawful number table (meaning s)
    pub served : IsServed s
    pub idle : IsIdle (meaning s)
    pub begins : CanBegin number table s.tree first

  -- n parts of the console are open, and nothing else
  pub record IsOpenTo (n : ℕ) (s : code.State T M) : Type 0 where
    pub view : IsOfView s
    pub lives : IsSome (process first_pid (meaning s))
    pub below : AreOpenBelow n (meaning s)
    pub last : s.files.table.last_file ≡ n
