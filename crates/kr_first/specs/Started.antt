-- What the code answers of a start, over the mounts as a machine calls them, and what its steps give.
use Rattle.std.specs.Prelude.{◌≡◌, ℕ, true, false, List, Result, Ok, Err, IsSome}
use Rattle.std.specs.Borrow.{RattleType}
use Rattle.std.specs.Mem.{FitsInMemory}
use Rattle.kr_start.specs.pr_base.declared.errno.Errno.{Errno}
use Rattle.kr_start.specs.pr_base.declared.errno.Errno.TheVariants.{ENOMEM}
use Rattle.kr_start.specs.rv_mem.Memory.{page_count}
use Rattle.kr_start.specs.elf_load.Image.{program_break}
use Rattle.kr_start.specs.elf_load.declared.image.Image as loaded
use Rattle.kr_start.specs.kr_inode.declared.user.User.{User}
use Rattle.kr_start.specs.kr_tree.Tree.{Tree}
use Rattle.kr_execve.specs.kr_view.declared.target.WalkFault.{WalkFault}
use Rattle.kr_execve.specs.kr_view.declared.target.WalkFault.TheVariants as walk
use Rattle.kr_execve.specs.kr_view.View.{Row}
use Rattle.kr_start.specs.kr_model.State as model
use Rattle.kr_start.specs.kr_ops.contracts.state.Process.{the_row}
use Rattle.kr_start.specs.kr_ops.Meaning.{meaning}
use Rattle.kr_execve.specs.kr_seen.Numbered.{state_numbered}
use Rattle.kr_execve.specs.kr_exec.declared.plan.ExecPlan.{ExecPlan}
use Rattle.kr_first.specs.declared.starting.Started.{Started}
use Rattle.kr_first.specs.declared.starting.StartFault.{StartFault}
use Rattle.kr_first.specs.declared.starting.StartFault.TheVariants as fault
use Rattle.kr_first.specs.Starting.{directory_at, exceeds, image_of}

-- a path leads from the root to a directory
abbrev pub LeadsToDirectory : List Row → Tree → User → List ℕ → Type 0
LeadsToDirectory table tree user path = IsSome (directory_at table tree user path)

-- what a state keeps of one process has a size, as it has for each kind of mounts that is written down
abbrev pub HasSizedProcesses : (mount marked : RattleType) → Type 0
HasSizedProcesses mount marked = FitsInMemory (the_row mount marked)

-- the state of a start, told by the numbers of the mounts
abbrev pub state_of : {T : Type 0} {M : ℕ} → (T → ℕ) → Started T M → model.State ℕ model.Image
state_of number started = state_numbered number (meaning started.state)

-- the answer is the definition's, but for want of memory
abbrev pub IsStarted : {T : Type 0} {M : ℕ} → (T → ℕ) → Result (model.State ℕ model.Image) Errno → Result (Started T M) StartFault → Type 0
IsStarted number answer (Ok started) = answer ≡ Ok (state_of number started)
IsStarted number answer (Err (fault.Err e)) = answer ≡ Err e
IsStarted number answer (Err fault.NoMemory) = Unit {0}

-- a plan was loaded with its pages alone in the room, or there are too many
abbrev pub Gives : {T : Type 0} {M : ℕ} → Tree → List ℕ → ExecPlan T → ℕ → Result (loaded.Image M) WalkFault → Type 0
Gives tree ids plan room (Ok image) =
    (exceeds tree ids plan ≡ false) × (image.regs ≡ (image_of tree ids plan).regs) × (image.mem ≡ (image_of tree ids plan).memory) × (image.brk ≡ program_break plan.plan) × (room ≡ page_count image.mem.pages)
Gives tree ids plan room (Err (walk.Err e)) = (e ≡ ENOMEM) × (exceeds tree ids plan ≡ true)
Gives tree ids plan room (Err walk.NoMemory) = Unit {0}
