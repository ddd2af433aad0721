-- What stands in the process directory, as proc(5) has it: names, texts, inode numbers, and serials among the
-- entries of a directory.
use Rattle.std.specs.Prelude.{◌≡◌, ℕ, ◌+◌, ◌*◌, ◌^◌, ◌<◌, List, ◌++◌, codes, Option, Some}
use Rattle.std.specs.Fmt.{decimal}
use Rattle.kr_view.specs.kr_tree.declared.place.ProcAt.{ProcAt}
use Rattle.kr_view.specs.kr_tree.declared.place.ProcAt.TheVariants.{SelfLink, Dir, Cwd, Root, Exe, FdDir, Fd}
use Rattle.kr_view.specs.declared.procs.Lead.{Lead}
use Rattle.kr_view.specs.Component.{Finds}
use Rattle.kr_view.specs.Processes.{LawsOfProcesses, holder}

-- the name under which an object stands in its directory
abbrev pub own_name : ProcAt → List ℕ
own_name SelfLink = codes "self"
own_name (Dir pid) = decimal pid
own_name (Cwd pid) = codes "cwd"
own_name (Root pid) = codes "root"
own_name (Exe pid) = codes "exe"
own_name (FdDir pid) = codes "fd"
own_name (Fd pid fd) = decimal fd

-- the text of a descriptor's link that leads to a pipe, and to the console
abbrev pub pipe_text : ℕ → List ℕ
pipe_text number = codes "pipe:[" ++ (decimal number ++ codes "]")

abbrev pub console_text : List ℕ
console_text = codes "console"

-- ---- inode numbers

-- each process has 8,192 of them
abbrev pub base : ℕ → ℕ
base pid = 2 ^ 41 + 8192 * pid

abbrev pub inode_number : ProcAt → ℕ
inode_number SelfLink = 2 ^ 40
inode_number (Dir pid) = base pid
inode_number (Cwd pid) = base pid + 1
inode_number (Root pid) = base pid + 2
inode_number (Exe pid) = base pid + 3
inode_number (FdDir pid) = base pid + 4
inode_number (Fd pid fd) = base pid + 16 + fd

-- ---- serials

-- `.` has 1 and `..` has 2
abbrev pub serial : ProcAt → ℕ
serial SelfLink = 3
serial (Dir pid) = 8 + pid
serial (Cwd pid) = 3
serial (Root pid) = 4
serial (Exe pid) = 5
serial (FdDir pid) = 6
serial (Fd pid fd) = 3 + fd

-- ---- laws

-- numbers of processes and of descriptors have 32 bits
abbrev pub HasSmallNumbers : ProcAt → Type 0
HasSmallNumbers SelfLink = Unit {0}
HasSmallNumbers (Dir pid) = pid < 2 ^ 32
HasSmallNumbers (Cwd pid) = pid < 2 ^ 32
HasSmallNumbers (Root pid) = pid < 2 ^ 32
HasSmallNumbers (Exe pid) = pid < 2 ^ 32
HasSmallNumbers (FdDir pid) = pid < 2 ^ 32
HasSmallNumbers (Fd pid fd) = (pid < 2 ^ 32) × (fd < 2 ^ 32)

-- a name in a directory stands for one object
abbrev pub NamesStandForOne : Type 0
NamesStandForOne = (at other : ProcAt) → HasSmallNumbers at → HasSmallNumbers other → holder at ≡ holder other → own_name at ≡ own_name other → at ≡ other

-- what a process directory shows has its own name
abbrev pub FoundUnderOwnNames : Type 0
FoundUnderOwnNames =
    (finds : Finds) (leads : ProcAt → Lead ℕ) → LawsOfProcesses finds leads → (at : Option ProcAt) (name : List ℕ) (found : ProcAt) → finds at name ≡ Some found → (holder found ≡ at) × (own_name found ≡ name)

-- a process's numbers of descriptors end below the numbers of the next process
abbrev pub FitsNumbers : ProcAt → Type 0
FitsNumbers SelfLink = Unit {0}
FitsNumbers (Dir pid) = Unit {0}
FitsNumbers (Cwd pid) = Unit {0}
FitsNumbers (Root pid) = Unit {0}
FitsNumbers (Exe pid) = Unit {0}
FitsNumbers (FdDir pid) = Unit {0}
FitsNumbers (Fd pid fd) = fd < 1024

-- no two objects have one inode number, and none has that of an inode of a tree
pub record InodesAreApart : Type 0 where
  pub apart : (at other : ProcAt) → FitsNumbers at → FitsNumbers other → inode_number at ≡ inode_number other → at ≡ other
  pub above : (at : ProcAt) → 2 ^ 32 < inode_number at

-- serials rise along each directory, behind those of `.` and `..`
pub record SerialsRise : Type 0 where
  pub behind : (at : ProcAt) → 2 < serial at
  pub processes : (pid later : ℕ) → pid < later → (serial SelfLink < serial (Dir pid)) × (serial (Dir pid) < serial (Dir later))
  pub process : (pid : ℕ) → (serial (Cwd pid) < serial (Root pid)) × (serial (Root pid) < serial (Exe pid)) × (serial (Exe pid) < serial (FdDir pid))
  pub descriptors : (pid fd later : ℕ) → fd < later → serial (Fd pid fd) < serial (Fd pid later)
  pub one : (at other : ProcAt) → holder at ≡ holder other → serial at ≡ serial other → at ≡ other
