-- What the code leaves of a state where a process called execve(2), and what its steps leave.
use Rattle.std.specs.Prelude.{◌≡◌, ◌≢◌, ◌+◌, ℕ, suc, Bool, true, false, List, [], ◌∷◌, Some, None, Result, Ok, Err, IsSome}
use Rattle.std.specs.Option.{option_map}
use Rattle.elf_load.specs.pr_base.declared.errno.Errno.{Errno}
use Rattle.elf_load.specs.pr_base.declared.errno.Errno.TheVariants.{ENOMEM}
use Rattle.elf_load.specs.rv_mem.Actions.{CarriedOut, carried_out}
use Rattle.elf_load.specs.elf_read.Plans.{plan_of}
use Rattle.elf_load.specs.elf_read.Rules.{first_broken}
use Rattle.elf_load.specs.rv_mem.Memory.{Memory, page_count}
use Rattle.elf_load.specs.Image.{image_exceeds, program_break}
use Rattle.elf_load.specs.declared.image.Image as loaded
use Rattle.kr_perform.specs.kr_inode.declared.user.User.{User}
use Rattle.kr_exec.specs.kr_tree.declared.place.Host.TheVariants.{Node}
use Rattle.kr_exec.specs.kr_tree.Tree.{Tree}
use Rattle.kr_exec.specs.kr_view.declared.target.Reach.{Reach}
use Rattle.kr_exec.specs.kr_view.declared.target.WalkFault.{WalkFault}
use Rattle.kr_exec.specs.kr_view.declared.target.WalkFault.TheVariants as fault
use Rattle.kr_exec.specs.kr_view.InTree.{IsPlaceOf}
use Rattle.kr_exec.specs.kr_view.Leads.{numbered}
use Rattle.kr_exec.specs.kr_view.View.{Row}
use Rattle.kr_perform.specs.kr_model.Applied.{Mounts, all_applied, images}
use Rattle.kr_perform.specs.kr_model.Change.{Change, CloseOnExec, OfFound, ReplaceExecutable, ReplaceImage}
use Rattle.kr_perform.specs.kr_model.Conditions.{CanLoad, OfCaller}
use Rattle.kr_perform.specs.kr_model.Lawful.{IsLawful, IsNameOrNone, is_file_at}
use Rattle.kr_perform.specs.kr_model.State as model
use Rattle.kr_perform.specs.kr_model.State.{process}
use Rattle.kr_perform.specs.kr_ops.declared.state.State.{State}
use Rattle.kr_perform.specs.kr_ops.Making.{Makes}
use Rattle.kr_perform.specs.kr_ops.Meaning.{meaning}
use Rattle.kr_perform.specs.kr_ops.Sound.{IsServed}
use Rattle.kr_perform.specs.kr_seen.Carrying.{memory_of}
use Rattle.kr_perform.specs.Lawful.{LastsLawful}
use Rattle.kr_perform.specs.kr_seen.Using.{HasMemory}
use Rattle.kr_perform.specs.kr_seen.Numbered.{state_numbered}
use Rattle.kr_exec.specs.Exec.{are_too_big}
use Rattle.kr_exec.specs.Interpreters.{bytes_at}
use Rattle.kr_exec.specs.Lists.{lists_at}
use Rattle.kr_exec.specs.declared.lists.Lists.{Lists}
use Rattle.kr_exec.specs.declared.plan.ExecPlan.{ExecPlan}
use Rattle.kr_execve.specs.Execution.{Program, after_execution, exceeds, execution, execution_reach, ids_of, image_of, mount_of}
use Rattle.kr_execve.specs.declared.executing.Executed.{Executed}
use Rattle.kr_execve.specs.declared.executing.Executed.TheVariants.{Replaced, Refused, NoMemory}

-- ---- a whole call

-- the answer; and, of a memory that is gone, whether a marked byte of it was read
abbrev pub IsTold : CarriedOut (Result Program Errno) → Executed → Type 0
IsTold d (Replaced marks_read) = (p : Program) × (d.reply ≡ Ok p) × (marks_read ≡ d.memory.read_marked)
IsTold d (Refused e) = d.reply ≡ Err e
IsTold d NoMemory = ⊥

-- what is told of a step that failed, or of the last one
abbrev pub told_of : Result Bool WalkFault → Executed
told_of (Ok marks_read) = Replaced marks_read
told_of (Err (fault.Err e)) = Refused e
told_of (Err fault.NoMemory) = NoMemory

module _ {T : Type 0} (number : T → ℕ) (table : List Row) (pid : ℕ) (path : List ℕ) (args env : ℕ) where
  -- the definition on the caller's memory
  abbrev pub done : model.State T model.Image → CarriedOut (Result Program Errno)
  done s = carried_out (execution table pid (state_numbered number s) path args env) (memory_of pid s)

  -- an execve came to what the definition says, and left the state that it says
  pub record IsExecuted {M : ℕ} (old new : State T M) (result : Executed) : Type 0 where
    pub mounts : Mounts T
    pub placed : option_map number mounts.found ≡ mount_of (done (meaning old)).reply
    pub told : IsTold (done (meaning old)) result
    pub state : meaning new ≡ after_execution mounts pid (done (meaning old)) (meaning old)

  -- with what its walks reached; what lasts of a lawful state lasts, with a call more
  pub record IsLeft {M : ℕ} (old new : State T M) (old_reach new_reach : Reach) (result : Executed) : Type 0 where
    pub executed : IsExecuted old new result
    pub reach : new_reach ≡ execution_reach table pid (state_numbered number (meaning old)) path args env (memory_of pid (meaning old)) old_reach
    pub lasts : (calls : ℕ) → LastsLawful number table calls (meaning old) → LastsLawful number table (suc calls) (meaning new)
    pub served : IsServed new

  -- after want of memory nothing is promised
  abbrev pub Leaves : {M : ℕ} → (old new : State T M) → (old_reach new_reach : Reach) → Executed → Type 0
  Leaves old new old_reach new_reach result = result ≢ NoMemory → IsLeft old new old_reach new_reach result

-- ---- its steps

-- the lists that were read of a memory, or the error
abbrev pub lists_in : (args env : ℕ) → Memory → CarriedOut (Result Lists Errno)
lists_in args env memory = carried_out (lists_at args env) memory

module _ {T : Type 0} {M : ℕ} (pid args env : ℕ) where
  -- the lists were read, and what was read of the caller's memory is noted there
  abbrev pub ReadsLists : State T M → State T M → Result Lists WalkFault → Type 0
  ReadsLists old new (Ok lists) = ((lists_in args env (memory_of pid (meaning old))).reply ≡ Ok lists) × HasMemory pid (lists_in args env (memory_of pid (meaning old))).memory old new
  ReadsLists old new (Err (fault.Err e)) = ((lists_in args env (memory_of pid (meaning old))).reply ≡ Err e) × HasMemory pid (lists_in args env (memory_of pid (meaning old))).memory old new
  ReadsLists old new (Err fault.NoMemory) = Unit {0}

-- a plan that the loader accepts: of a file of the tree that breaks no rule, with lists within their limits
pub record IsLoadable {T : Type 0} (t : Tree) (plan : ExecPlan T) : Type 0 where
  pub file : plan.place.host ≡ Node plan.file
  pub accepted : first_broken (bytes_at t plan.place.host) ≡ None
  pub read : plan.plan ≡ plan_of (bytes_at t plan.place.host)
  pub fit : are_too_big plan.args plan.env ≡ false

-- a plan was loaded, with its pages counted, or there are too many, and then none is
abbrev pub Gives : {T : Type 0} {M : ℕ} → Tree → User → ExecPlan T → (old new : ℕ) → Result (loaded.Image M) WalkFault → Type 0
Gives t user plan old new (Ok image) =
    let own = image_of t user plan in
    (image_exceeds old (bytes_at t plan.place.host) plan.plan plan.args plan.env (ids_of user) ≡ false)
    × (image.regs ≡ own.regs) × (image.mem ≡ own.memory) × (image.brk ≡ program_break plan.plan) × (new ≡ old + page_count image.mem.pages)
Gives t user plan old new (Err (fault.Err e)) =
    (e ≡ ENOMEM) × (image_exceeds old (bytes_at t plan.place.host) plan.plan plan.args plan.env (ids_of user) ≡ true) × (new ≡ old)
Gives t user plan old new (Err fault.NoMemory) = new ≡ old

module _ {T : Type 0} where
  -- the image that a plan loads takes the place of the caller's
  abbrev pub image_change : model.State T model.Image → ExecPlan T → Change
  image_change s plan = ReplaceImage (image_of s.tree s.user plan) (program_break plan.plan)

  -- and its file that of the caller's executable
  abbrev pub program_changes : model.State T model.Image → ExecPlan T → List Change
  program_changes s plan = image_change s plan ∷ ReplaceExecutable OfFound plan.place.host plan.dir plan.name ∷ CloseOnExec ∷ []

  abbrev pub CanBeLoaded : ℕ → model.State T model.Image → ExecPlan T → Type 0
  CanBeLoaded pid s plan = OfCaller pid s (CanLoad (image_of s.tree s.user plan) (program_break plan.plan) s)

module _ {T : Type 0} {M : ℕ} (pid : ℕ) (plan : ExecPlan T) where
  -- the image was put there, or there are too many pages, and then nothing was changed
  abbrev pub Loads : State T M → State T M → Result (Unit {0}) WalkFault → Type 0
  Loads old new (Ok x) = (exceeds (meaning old) plan ≡ false) × CanBeLoaded pid (meaning old) plan × Makes pid (image_change (meaning old) plan) old new × IsServed new
  Loads old new (Err (fault.Err e)) = (e ≡ ENOMEM) × (exceeds (meaning old) plan ≡ true) × (meaning new ≡ meaning old) × IsServed new
  Loads old new (Err fault.NoMemory) = Unit {0}

  -- the whole program was put there
  abbrev pub Puts : State T M → State T M → Result (Unit {0}) WalkFault → Type 0
  Puts old new (Ok x) =
      (exceeds (meaning old) plan ≡ false) × CanBeLoaded pid (meaning old) plan
      × ((mounts : Mounts T) → mounts.found ≡ Some plan.place.mount → meaning new ≡ all_applied images mounts pid (program_changes (meaning old) plan) (meaning old)) × IsServed new
  Puts old new (Err (fault.Err e)) = (e ≡ ENOMEM) × (exceeds (meaning old) plan ≡ true) × (meaning new ≡ meaning old) × IsServed new
  Puts old new (Err fault.NoMemory) = Unit {0}

  -- what a program is put into: a lawful state of some view, in which its file stands
  pub record IsReadyFor (s : State T M) : Type 0 where
    pub number : T → ℕ
    pub table : List Row
    pub lawful : IsLawful number table (meaning s)
    pub served : IsServed s
    pub lives : IsSome (process pid (meaning s))
    pub loadable : IsLoadable s.tree plan
    pub stands : IsPlaceOf s.tree table (numbered number plan.place)
    pub is_file : is_file_at s.tree plan.place.host ≡ true
    pub named : IsNameOrNone plan.name
