-- A process directory of living processes, as proc(5) has it: `self`, a directory for each process with the
-- links `cwd`, `root` and `exe` and the directory `fd`, and there a link for each open descriptor.
use Rattle.std.specs.Prelude.{ℕ, ◌≡◌, ◌<◌, ◌^◌, Bool, List, [], ◌∷◌, Option, Some, None, nat_eq, bytes_eq, codes, if◌then◌else◌}
use Rattle.std.specs.Fmt.{decimal}
use Rattle.std.specs.Option.{option_map, option_and_then}
use Rattle.kr_tree.specs.declared.place.ProcAt.{ProcAt}
use Rattle.kr_tree.specs.declared.place.ProcAt.TheVariants.{SelfLink, Dir, Cwd, Root, Exe, FdDir, Fd}
use Rattle.kr_view.specs.declared.procs.Lead.{Lead}
use Rattle.kr_view.specs.declared.procs.Lead.TheVariants.{Text}
use Rattle.kr_view.specs.Component.{Finds}
use Rattle.kr_view.specs.Processes.{LawsOfProcesses}

-- a living process: its number and its open descriptors
pub record Living : Type 0 where
  pub pid : ℕ
  pub fds : List ℕ

abbrev pub Each : {A : Type 0} → (A → Type 0) → List A → Type 0
Each P [] = Unit {0}
Each P (x ∷ xs) = P x × Each P xs

abbrev pub first : {A : Type 0} → (A → Bool) → List A → Option A
first test [] = None
first test (x ∷ xs) = if test x then Some x else first test xs

-- numbers have 32 bits
abbrev pub IsSmall : ℕ → Type 0
IsSmall n = n < 2 ^ 32

abbrev pub HasSmallNumbers : Living → Type 0
HasSmallNumbers l = IsSmall l.pid × Each IsSmall l.fds

-- whether a name is the decimal of a number
abbrev pub names_number : List ℕ → ℕ → Bool
names_number name n = bytes_eq name (decimal n)

abbrev pub process : List Living → ℕ → Option Living
process living pid = first (λ l. nat_eq l.pid pid) living

-- what stands in a process's directory
abbrev pub in_directory : ℕ → List ℕ → Option ProcAt
in_directory pid name =
    if bytes_eq name (codes "cwd") then Some (Cwd pid)
    else if bytes_eq name (codes "root") then Some (Root pid)
    else if bytes_eq name (codes "exe") then Some (Exe pid)
    else if bytes_eq name (codes "fd") then Some (FdDir pid)
    else None

abbrev pub finds_among : List Living → Finds
finds_among living None name =
    if bytes_eq name (codes "self") then Some SelfLink else option_map (λ l. Dir l.pid) (first (λ l. names_number name l.pid) living)
finds_among living (Some (Dir pid)) name = option_and_then (λ l. in_directory pid name) (process living pid)
finds_among living (Some (FdDir pid)) name = option_and_then (λ l. option_map (Fd pid) (first (names_number name) l.fds)) (process living pid)
finds_among living (Some SelfLink) name = None
finds_among living (Some (Cwd pid)) name = None
finds_among living (Some (Root pid)) name = None
finds_among living (Some (Exe pid)) name = None
finds_among living (Some (Fd pid fd)) name = None

-- it keeps the laws of process directories, wherever its links lead without a text
abbrev pub LivingProcessesKeepLaws : Type 0
LivingProcessesKeepLaws =
    (living : List Living) (leads : ProcAt → Lead ℕ) → Each HasSmallNumbers living → ((at : ProcAt) (text : List ℕ) → leads at ≡ Text text → at ≡ SelfLink) → LawsOfProcesses (finds_among living) leads
