-- What execve(2) comes to in a running process: an error, or the changes that put a new program in place of the caller's. The walk
-- comes first, then EACCES, the lists, the scripts and the rules on ELF files, and ENOMEM last.
use Rattle.std.specs.Prelude.{ℕ, Bool, List, [], ◌∷◌, Option, Some, None, Result, Ok, Err, if◌then◌else◌}
use Rattle.std.specs.Option.{option_map_or}
use Rattle.elf_load.specs.pr_base.declared.errno.Errno.{Errno}
use Rattle.elf_load.specs.pr_base.declared.errno.Errno.TheVariants.{ENOENT, ENOMEM}
use Rattle.elf_load.specs.pr_base.declared.path.WalkMode.TheVariants.{Look}
use Rattle.elf_load.specs.rv_mem.Actions.{CarriedOut, Done, carried_out}
use Rattle.elf_load.specs.rv_mem.Memory.{Memory}
use Rattle.elf_load.specs.Image.{first_regs, image_exceeds, image_memory, program_break}
use Rattle.kr_perform.specs.kr_inode.declared.user.User.{User}
use Rattle.kr_exec.specs.kr_tree.declared.place.Place.{Place}
use Rattle.kr_exec.specs.kr_tree.Tree.{Tree}
use Rattle.kr_exec.specs.kr_view.declared.target.Reach.{Reach}
use Rattle.kr_exec.specs.kr_view.Answers.{told}
use Rattle.kr_exec.specs.kr_view.Reach.{reach_after}
use Rattle.kr_exec.specs.kr_view.View.{Row}
use Rattle.kr_exec.specs.kr_view.Walk.{PlaceTarget}
use Rattle.kr_perform.specs.kr_model.Applied.{Mounts, all_applied, cwd_of, images}
use Rattle.kr_perform.specs.kr_model.Change.{Change, CloseOnExec, OfFound, ReplaceExecutable, ReplaceImage}
use Rattle.kr_perform.specs.kr_model.Known.{pages_in_all}
use Rattle.kr_perform.specs.kr_model.ProcessDirectory.{around_of}
use Rattle.kr_perform.specs.kr_model.State.{Image, State, image_layout}
use Rattle.kr_perform.specs.kr_model.Walks as results
use Rattle.kr_perform.specs.kr_seen.Carrying.{with_memory_of}
use Rattle.kr_exec.specs.Exec.{exec_plan, exec_reach}
use Rattle.kr_exec.specs.Finding.{program_at, program_walk}
use Rattle.kr_exec.specs.Interpreters.{bytes_at}
use Rattle.kr_exec.specs.Lists.{Trying, and_then, lists_at}
use Rattle.kr_exec.specs.declared.lists.Lists.{Lists}
use Rattle.kr_exec.specs.declared.plan.ExecPlan.{ExecPlan}

-- ---- a new program

-- what is put in place of the caller's program: what it computes on, where its break begins, its file, and the entry that the
-- executable remembers
pub record Program : Type 0 where
  pub image : Image
  pub brk : ℕ
  pub exe : Place ℕ
  pub dir : ℕ
  pub name : List ℕ

-- the real and the effective user, and the real and the effective group, of a program that it is told of itself
abbrev pub ids_of : User → List ℕ
ids_of user = user.uid ∷ user.uid ∷ user.gid ∷ user.gid ∷ []

abbrev pub image_of : {M : Type 0} → Tree → User → ExecPlan M → Image
image_of tree user plan = record {
  regs = first_regs plan.plan plan.args plan.env;
  memory = image_memory (bytes_at tree plan.place.host) plan.plan plan.args plan.env (ids_of user);
}

abbrev pub program_of : Tree → User → ExecPlan ℕ → Program
program_of tree user plan = record {
  image = image_of tree user plan;
  brk = program_break plan.plan;
  exe = plan.place;
  dir = plan.dir;
  name = plan.name;
}

-- whether its pages are more than a process may have, or, with those of all processes, more than there may be. Those of the program
-- in whose place it comes still count among them
abbrev pub exceeds : {M N : Type 0} → State M Image → ExecPlan N → Bool
exceeds s plan = image_exceeds (pages_in_all image_layout s.living) (bytes_at s.tree plan.place.host) plan.plan plan.args plan.env (ids_of s.user)

abbrev pub loaded : State ℕ Image → ExecPlan ℕ → Result Program Errno
loaded s plan = if exceeds s plan then Err ENOMEM else Ok (program_of s.tree s.user plan)

-- ---- the call

module _ (table : List Row) (pid : ℕ) (s : State ℕ Image) (path : List ℕ) (args env : ℕ) where
  abbrev pub found_from : Place ℕ → Result PlaceTarget Errno
  found_from base = program_at (around_of table pid s) base path

  abbrev pub planned_from : Place ℕ → PlaceTarget → Lists → Result (ExecPlan ℕ) Errno
  planned_from base target lists = exec_plan (around_of table pid s) base (told target) path lists.args lists.env

  -- a path begins in the working directory, and that of an interpreter too; a walk along an absolute one begins at the root
  abbrev pub execution_from : Place ℕ → Trying Program
  execution_from base =
      and_then (Done (found_from base)) (λ target.
      and_then (lists_at args env) (λ lists.
      Done (results.and_then (planned_from base target lists) (loaded s))))

  -- a caller that lives has a working directory
  abbrev pub execution : Trying Program
  execution = option_map_or execution_from (cwd_of pid s) (Done (Err ENOENT))

  -- ---- what its walks reach

  abbrev pub planned_reach : Place ℕ → PlaceTarget → Result Lists Errno → Reach → Reach
  planned_reach base target (Ok lists) r = exec_reach (around_of table pid s) base (told target) path lists.args lists.env r
  planned_reach base target (Err e) r = r

  -- interpreters are looked for where the lists were read
  abbrev pub found_reach : Memory → Place ℕ → Result PlaceTarget Errno → Reach → Reach
  found_reach memory base (Ok target) r = planned_reach base target (carried_out (lists_at args env) memory).reply r
  found_reach memory base (Err e) r = r

  abbrev pub reach_from : Memory → Reach → Place ℕ → Reach
  reach_from memory r base = found_reach memory base (found_from base) (reach_after (around_of table pid s) Look (program_walk (around_of table pid s) base path) r)

  abbrev pub execution_reach : Memory → Reach → Reach
  execution_reach memory r = option_map_or (reach_from memory r) (cwd_of pid s) r

-- ---- what is left

-- the new image, then the executable, which is held before descriptors go that may hold it too; umask, working directory and all
-- other descriptors stay. What is refused changes nothing
abbrev pub changes_of : Result Program Errno → List Change
changes_of (Ok p) = ReplaceImage p.image p.brk ∷ ReplaceExecutable OfFound p.exe.host p.dir p.name ∷ CloseOnExec ∷ []
changes_of (Err e) = []

-- the mount that the changes name
abbrev pub mount_of : Result Program Errno → Option ℕ
mount_of (Ok p) = Some p.exe.mount
mount_of (Err e) = None

-- the state after a call that came to this, with what was read of the caller's memory noted there
abbrev pub after_execution : {T : Type 0} → Mounts T → ℕ → CarriedOut (Result Program Errno) → State T Image → State T Image
after_execution mounts pid done s = all_applied images mounts pid (changes_of done.reply) (with_memory_of pid done.memory s)
