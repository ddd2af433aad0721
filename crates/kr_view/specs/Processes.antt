-- What every process directory keeps, as proc(5) tells it, whatever it shows to a caller.
use Rattle.std.specs.Prelude.{ℕ, ◌≡◌, ◌≤◌, true, List, [], ◌∷◌, length, Option, Some, None, codes}
use Rattle.kr_tree.specs.declared.place.ProcAt.{ProcAt}
use Rattle.kr_tree.specs.declared.place.ProcAt.TheVariants.{SelfLink, Dir, Cwd, Root, Exe, FdDir, Fd}
use Rattle.kr_tree.specs.Names.{process_names}
use Rattle.kr_view.specs.declared.procs.Lead.{Lead}
use Rattle.kr_view.specs.declared.procs.Lead.TheVariants.{Text, NoLink}
use Rattle.kr_view.specs.View.{is_there}
use Rattle.kr_view.specs.Component.{Finds}

-- the directory of the process directory in which something stands; none where that is the process
-- directory itself
abbrev pub holder : ProcAt → Option ProcAt
holder SelfLink = None
holder (Dir pid) = None
holder (Cwd pid) = Some (Dir pid)
holder (Root pid) = Some (Dir pid)
holder (Exe pid) = Some (Dir pid)
holder (FdDir pid) = Some (Dir pid)
holder (Fd pid fd) = Some (FdDir pid)

-- the names from that of the process directory down to a directory in it
abbrev pub names_down_to : Option ProcAt → List (List ℕ)
names_down_to None = []
names_down_to (Some at) = process_names at

pub record LawsOfProcesses (finds : Finds) (leads : ProcAt → Lead ℕ) : Type 0 where
  -- what is found in a directory stands in it: `self` and processes in the process directory, a process's
  -- own links and its `fd` in its directory, its own descriptors in that
  pub stands : (at : Option ProcAt) (name : List ℕ) (found : ProcAt) → finds at name ≡ Some found → holder found ≡ at
  -- it is found by its own name: a process and a descriptor by its decimal number
  pub named : (at : Option ProcAt) (name : List ℕ) (found : ProcAt) → finds at name ≡ Some found → process_names found ≡ name ∷ names_down_to at
  pub short : (at : Option ProcAt) (name : List ℕ) (found : ProcAt) → finds at name ≡ Some found → length name ≤ 255
  -- a process that is found shows its working directory
  pub shown : (name : List ℕ) (pid : ℕ) → finds None name ≡ Some (Dir pid) → is_there (finds (Some (Dir pid)) (codes "cwd")) ≡ true
  -- only `self` leads by a text
  pub texts : (at : ProcAt) (text : List ℕ) → leads at ≡ Text text → at ≡ SelfLink

-- ---- before a process lives

abbrev pub no_finds : Finds
no_finds at name = None

abbrev pub no_leads : ProcAt → Lead ℕ
no_leads at = NoLink
