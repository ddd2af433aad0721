-- The state of a kernel as plain data. M is the type of its mounts, and X that of what a process computes
-- on; both are left open, so that a machine and what two machines share of it are one record.
use Rattle.std.specs.FinMap as map
use Rattle.std.specs.Prelude.{ℕ, Bool, false, List, ◌==◌, Option, map as map_list, if◌then◌else◌}
use Rattle.std.specs.List.{find}
use Rattle.std.specs.Option.{option_and_then}
use Rattle.kr_calls.specs.rv_mem.declared.regs.Regs.{Regs}
use Rattle.kr_calls.specs.rv_mem.Memory.{Memory}
pub use Rattle.kr_calls.specs.rv_mem.Layout.{Layout, layout_of}
use Rattle.kr_files.specs.kr_inode.declared.user.User.{User}
use Rattle.kr_files.specs.kr_tree.Tree.{Tree}
use Rattle.kr_files.specs.kr_tree.declared.place.Host.{Host}
use Rattle.kr_files.specs.kr_tree.declared.place.Host.TheVariants.{Node, Proc}
use Rattle.kr_files.specs.kr_tree.declared.place.Place.{Place}
use Rattle.kr_files.specs.declared.opened.Opened.{Opened}
use Rattle.kr_files.specs.Descriptors.{Meanings, Named}
use Rattle.kr_files.specs.Files.{Table, file_at}

-- ---- what a process computes on

-- its registers and its memory
pub record Image : Type 0 where
  pub regs : Regs
  pub memory : Memory

abbrev pub image_layout : Image → Layout
image_layout image = layout_of image.memory.pages

-- the memory of a process that doesn't live; a caller always does
abbrev pub no_memory : Memory
no_memory = record { pages = map.empty; read_marked = false }

-- ---- processes

pub record Process (M X : Type 0) : Type 0 where
  pub pid : ℕ
  pub parent : ℕ
  pub image : X
  pub brk_start : ℕ
  pub brk : ℕ
  pub descs : Meanings
  pub cwd : Place M
  pub exe : Place M
  pub exe_dir : ℕ
  pub exe_name : List ℕ
  pub umask : ℕ
  pub waits : Bool

-- `status` is the word that wait4(2) writes
pub record Ended : Type 0 where
  pub pid : ℕ
  pub parent : ℕ
  pub status : ℕ

-- both lists of processes stand in order of pids
pub record State (M X : Type 0) : Type 0 where
  pub tree : Tree
  pub user : User
  pub files : Table M
  pub input : List ℕ
  pub taken : ℕ
  pub out : List ℕ
  pub err : List ℕ
  pub living : List (Process M X)
  pub ended : List Ended
  pub next_pid : ℕ

-- the inode of an object of the host; what stands in the process directory has that directory's
abbrev pub inode_of : Host → ℕ
inode_of (Node i) = i
inode_of (Proc i at) = i

-- the place of an open file
abbrev pub place_of : {M : Type 0} → Table M → ℕ → Option (Place M)
place_of files number = option_and_then (λ o. o.place) (file_at files number)

module _ {M X : Type 0} where
  abbrev pub is_pid : ℕ → Process M X → Bool
  is_pid pid p = p.pid == pid

  -- the living process of a number
  abbrev pub process : ℕ → State M X → Option (Process M X)
  process pid s = find (is_pid pid) s.living

  -- what a descriptor of a process means
  abbrev pub named : ℕ → ℕ → State M X → Option Named
  named pid fd s = option_and_then (λ p. map.get p.descs fd) (process pid s)

  -- what is open under a descriptor of a process
  abbrev pub opened : ℕ → ℕ → State M X → Option (Opened M)
  opened pid fd s = option_and_then (λ x. file_at s.files x.number) (named pid fd s)

  -- the processes with f done to that of a number
  abbrev pub at_pid : ℕ → (Process M X → Process M X) → Process M X → Process M X
  at_pid pid f p = if p.pid == pid then f p else p

  abbrev pub with_process : ℕ → (Process M X → Process M X) → List (Process M X) → List (Process M X)
  with_process pid f ps = map_list (at_pid pid f) ps

  abbrev pub with_descs : (Meanings → Meanings) → Process M X → Process M X
  with_descs f p = record {
    pid = p.pid;
    parent = p.parent;
    image = p.image;
    brk_start = p.brk_start;
    brk = p.brk;
    descs = f p.descs;
    cwd = p.cwd;
    exe = p.exe;
    exe_dir = p.exe_dir;
    exe_name = p.exe_name;
    umask = p.umask;
    waits = p.waits;
  }
