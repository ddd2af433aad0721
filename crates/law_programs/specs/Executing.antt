-- What execve(2) comes to on a kernel with mounts, and on a plain one that is handed what a tracer found.
use Rattle.std.specs.Prelude.{◌≡◌, ℕ, false, List, Option, Some, Result, Ok, Err}
use Rattle.kr_first.specs.pr_base.declared.errno.Errno.{Errno}
use Rattle.kr_first.specs.pr_base.declared.path.WalkMode.TheVariants.{Look}
use Rattle.kr_first.specs.rv_mem.Actions.{AreEqualUnmarked, CarriedOut, carried_out}
use Rattle.kr_first.specs.rv_mem.Memory.{Memory}
use Rattle.kr_first.specs.pt_bind.Tags.{TagTable}
use Rattle.law_edits.specs.pt_script.Expanding.{expanded_from}
use Rattle.law_edits.specs.pt_script.declared.expansion.Expanded.{Expanded}
use Rattle.kr_first.specs.kr_calls.Expansion.{bytes_with_ends}
use Rattle.kr_first.specs.kr_tree.declared.place.Host.{Host}
use Rattle.kr_first.specs.kr_tree.declared.place.Place.{Place}
use Rattle.kr_first.specs.kr_view.View.{Row, plain}
use Rattle.kr_first.specs.kr_view.Walk.{place_walk}
use Rattle.kr_first.specs.kr_exec.Exec.{are_too_big}
use Rattle.kr_first.specs.kr_exec.Finding.{is_program}
use Rattle.kr_first.specs.kr_exec.Interpreters.{bytes_at}
use Rattle.kr_first.specs.kr_exec.Lists.{lists_at}
use Rattle.kr_first.specs.kr_exec.declared.lists.Lists.{Lists}
use Rattle.kr_first.specs.kr_execve.Execution.{Program, execution}
use Rattle.law_edits.specs.kr_model.Applied.{cwd_of}
use Rattle.law_edits.specs.kr_model.HostView.{host_around_of}
use Rattle.law_edits.specs.kr_model.Known.{pages_in_all}
use Rattle.law_edits.specs.kr_model.ProcessDirectory.{around_of}
use Rattle.law_edits.specs.kr_model.State.{Image, State, image_layout}
use Rattle.law_edits.specs.law_walks.Scene.{IsMatched}
use Rattle.law_edits.specs.law_walks.States.{IsInUse}
use Rattle.law_programs.specs.Finding.{WorksAt, scene_here, space_here, texts_here}

-- ---- the lists

abbrev pub read_by_kernel : ℕ → ℕ → Memory → CarriedOut (Result Lists Errno)
read_by_kernel args env m = carried_out (lists_at args env) m

-- what is read is within the limits of a program's lists
abbrev pub ListsFit : Type 0
ListsFit = (args env : ℕ) (m : Memory) (lists : Lists) → (read_by_kernel args env m).reply ≡ Ok lists → are_too_big lists.args lists.env ≡ false

-- ---- two states

-- what a plain kernel sees of its own state is what the host's own view of another one shows, and all processes have as many pages
pub record IsShownAlike (s w : State ℕ Image) (caller : ℕ) : Type 0 where
  pub walks : (base : Place ℕ) (path : List ℕ) → (place_walk (around_of plain caller w) Look base path).answer ≡ (place_walk (host_around_of s caller) Look base path).answer
  pub programs : (x : Host) → is_program w.tree w.user x ≡ is_program s.tree s.user x
  pub files : (x : Host) → bytes_at w.tree x ≡ bytes_at s.tree x
  pub user : w.user ≡ s.user
  pub pages : pages_in_all image_layout w.living ≡ pages_in_all image_layout s.living

-- ---- two programs

-- they differ in the mount of their file alone
pub record IsSameLoaded (p q : Program) : Type 0 where
  pub image : p.image ≡ q.image
  pub brk : p.brk ≡ q.brk
  pub host : p.exe.host ≡ q.exe.host
  pub mount : q.exe.mount ≡ 0
  pub dir : p.dir ≡ q.dir
  pub name : p.name ≡ q.name

module _ (table : List Row) (s : State ℕ Image) (caller : ℕ) (tags : TagTable) where
  -- of an index that is that of the file's mount, where the file is a place in use
  pub data LoadedAlike (index : ℕ) : Result Program Errno → Result Program Errno → Type 0 where
    none_loaded : (e : Errno) → LoadedAlike index (Err e) (Err e)
    one_loaded : {p q : Program} → IsSameLoaded p q → IsInUse (space_here table s caller tags) p.exe p.dir p.name index → LoadedAlike index (Ok p) (Ok q)

-- ---- the call

-- a call of a process in both states, whose lists are read of its memory in the first
module _ (table : List Row) (s w : State ℕ Image) (pid : ℕ) (tags : TagTable) (path : List ℕ) (args env : ℕ) (m : Memory) where
  pub record IsCalled (working : Option (List ℕ)) (lists : Lists) : Type 0 where
    pub matched : IsMatched (scene_here table s pid tags)
    pub shown : IsShownAlike s w pid
    pub base : Place ℕ
    pub at : cwd_of pid s ≡ Some base
    pub works : WorksAt table s pid tags base working
    pub other : Place ℕ
    pub also_at : cwd_of pid w ≡ Some other
    pub read : (read_by_kernel args env m).reply ≡ Ok lists

  abbrev pub done_with_mounts : CarriedOut (Result Program Errno)
  done_with_mounts = carried_out (execution table pid s path args env) m

  -- what a tracer makes of it
  abbrev pub ended_by_tracer : Option (List ℕ) → Lists → Result Expanded Errno
  ended_by_tracer working lists = expanded_from (texts_here table s pid tags) working (bytes_with_ends lists.env) path lists.args

-- where the plain kernel reads the arguments that the tracer found, and the same environment
abbrev pub ExecutionsAgree : Type 0
ExecutionsAgree =
    (table : List Row) (s w : State ℕ Image) (pid : ℕ) (tags : TagTable) (path : List ℕ) (args env : ℕ) (m : Memory) (working : Option (List ℕ)) (lists : Lists) (x : Expanded) (put : ℕ) (n : Memory)
    → IsCalled table s w pid tags path args env m working lists → ended_by_tracer table s w pid tags path args env m working lists ≡ Ok x
    → (read_by_kernel put env n).reply ≡ Ok (record { args = x.args; env = lists.env })
    → LoadedAlike table s pid tags x.index (done_with_mounts table s w pid tags path args env m).reply (carried_out (execution plain pid w x.host put env) n).reply

abbrev pub RefusedExecutionsAgree : Type 0
RefusedExecutionsAgree =
    (table : List Row) (s w : State ℕ Image) (pid : ℕ) (tags : TagTable) (path : List ℕ) (args env : ℕ) (m : Memory) (working : Option (List ℕ)) (lists : Lists) (e : Errno)
    → IsCalled table s w pid tags path args env m working lists → ended_by_tracer table s w pid tags path args env m working lists ≡ Err e
    → (done_with_mounts table s w pid tags path args env m).reply ≡ Err e

-- of a program that is no script, which is handed the call's own lists, from a memory that is equal but for marked bytes, none of which is
-- read
abbrev pub PlainExecutionsAgree : Type 0
PlainExecutionsAgree =
    (table : List Row) (s w : State ℕ Image) (pid : ℕ) (tags : TagTable) (path : List ℕ) (args env : ℕ) (m : Memory) (working : Option (List ℕ)) (lists : Lists) (x : Expanded) (n : Memory)
    → IsCalled table s w pid tags path args env m working lists → ended_by_tracer table s w pid tags path args env m working lists ≡ Ok x → x.scripts ≡ 0
    → AreEqualUnmarked m.pages n.pages → (read_by_kernel args env m).memory.read_marked ≡ false
    → LoadedAlike table s pid tags x.index (done_with_mounts table s w pid tags path args env m).reply (carried_out (execution plain pid w x.host args env) n).reply
