-- How the first process comes to be: execve(2) of a program before a process lives, and the state that begins with it, or an error.
-- The walk to the working directory comes first; then the tests of the path, and what execve(2) tests in its order.
use Rattle.std.specs.Prelude.{ℕ, ◌==◌, Bool, List, length, Option, Some, None, Result, Ok, Err, if◌then◌else◌}
use Rattle.std.specs.Option.{option_and_then, option_map_or}
use Rattle.kr_start.specs.pr_base.declared.errno.Errno.{Errno}
use Rattle.kr_start.specs.pr_base.declared.errno.Errno.TheVariants.{ENAMETOOLONG, ENOENT, ENOMEM}
use Rattle.kr_start.specs.pr_base.declared.path.WalkMode.TheVariants.{Look}
pub use Rattle.kr_start.specs.pr_base.Paths.{is_walked}
use Rattle.kr_start.specs.elf_load.Image.{first_regs, image_exceeds, image_memory, program_break}
use Rattle.kr_start.specs.kr_inode.declared.user.User.{User}
use Rattle.kr_start.specs.kr_tree.declared.place.Place.{Place}
use Rattle.kr_start.specs.kr_tree.Tree.{Tree}
use Rattle.kr_execve.specs.kr_view.declared.target.Reach.{Reach}
use Rattle.kr_execve.specs.kr_view.Answers.{told}
use Rattle.kr_execve.specs.kr_view.Component.{Surroundings, is_directory_at}
use Rattle.kr_execve.specs.kr_view.Processes.{no_finds, no_leads}
use Rattle.kr_execve.specs.kr_view.Reach.{reach_after}
use Rattle.kr_execve.specs.kr_view.View.{Row, root_place}
use Rattle.kr_execve.specs.kr_view.Walk.{PlaceTarget, PlaceTrail, place_walk}
use Rattle.kr_start.specs.kr_model.State.{Image, State}
use Rattle.kr_start.specs.kr_model.Walks.{and_then}
use Rattle.kr_execve.specs.kr_exec.Exec.{exec_plan, exec_reach}
use Rattle.kr_execve.specs.kr_exec.Finding.{program_at, program_walk}
use Rattle.kr_execve.specs.kr_exec.Interpreters.{bytes_at}
use Rattle.kr_execve.specs.kr_exec.Lists.{at_least_one}
use Rattle.kr_execve.specs.kr_exec.declared.plan.ExecPlan.{ExecPlan}
use Rattle.kr_start.specs.Start as beginning
use Rattle.kr_start.specs.Start.{pinned, started, without_processes}
use Rattle.kr_first.specs.declared.starting.First.{First}

-- ---- the path

-- why a path isn't walked
abbrev pub path_errno : List ℕ → Errno
path_errno path = if length path == 0 then ENOENT else ENAMETOOLONG

-- ---- the program in memory

-- what the first process computes on, with the real and the effective user and the real and the effective group that it is told
abbrev pub image_of : {M : Type 0} → Tree → List ℕ → ExecPlan M → Image
image_of tree ids plan = record {
  regs = first_regs plan.plan plan.args plan.env;
  memory = image_memory (bytes_at tree plan.place.host) plan.plan plan.args plan.env ids;
}

-- whether its pages are more than a process may have; there are no others
abbrev pub exceeds : {M : Type 0} → Tree → List ℕ → ExecPlan M → Bool
exceeds tree ids plan = image_exceeds 0 (bytes_at tree plan.place.host) plan.plan plan.args plan.env ids

-- where it stands, and the entry that its executable remembers
abbrev pub process_of : {M : Type 0} → Tree → List ℕ → Place M → ExecPlan M → beginning.First M
process_of tree ids cwd plan = record {
  image = image_of tree ids plan;
  brk = program_break plan.plan;
  cwd = cwd;
  exe = plan.place;
  exe_dir = plan.dir;
  exe_name = plan.name;
}

-- ---- a directory

abbrev pub if_directory : Tree → Place ℕ → Option (Place ℕ)
if_directory tree p = if is_directory_at tree p.host then Some p else None

abbrev pub directory_found : Tree → Result PlaceTarget Errno → Option (Place ℕ)
directory_found tree (Ok target) = option_and_then (if_directory tree) target.found
directory_found tree (Err e) = None

-- ---- before a process lives

module _ (table : List Row) (tree : Tree) (user : User) where
  -- what walks go through: the process directory has no names yet
  abbrev pub around : Surroundings
  around = record { space = record { table = table; tree = tree; user = user; finds = no_finds }; leads = no_leads }

  -- ---- the working directory

  -- the walk to it begins at the root
  abbrev pub directory_walk : List ℕ → PlaceTrail
  directory_walk path = place_walk around Look (root_place table) path

  -- the directory to which a path leads, if it leads to one
  abbrev pub directory_at : List ℕ → Option (Place ℕ)
  directory_at path = directory_found tree (directory_walk path).answer

  -- ---- the program

  -- a path that isn't absolute begins in the working directory, and that of an interpreter too
  abbrev pub found_from : Place ℕ → List ℕ → Result PlaceTarget Errno
  found_from base path = if is_walked path then program_at around base path else Err (path_errno path)

  abbrev pub plan_of : Place ℕ → List ℕ → List (List ℕ) → List (List ℕ) → Result (ExecPlan ℕ) Errno
  plan_of base path args env = and_then (found_from base path) (λ target. exec_plan around base (told target) path args env)

  -- ---- the state

  -- each inode that is a source of mounts is held once, and the input is known whole
  abbrev pub idle_state : List ℕ → State ℕ Image
  idle_state input = without_processes (pinned table tree) user input

  abbrev pub started_with : List ℕ → List ℕ → Place ℕ → ExecPlan ℕ → Result (State ℕ Image) Errno
  started_with input ids base plan = if exceeds tree ids plan then Err ENOMEM else Ok (started (process_of tree ids base plan) (idle_state input))

  -- a program without arguments is given an empty one
  abbrev pub start_from : List ℕ → First → Place ℕ → Result (State ℕ Image) Errno
  start_from input first base = and_then (plan_of base first.path (at_least_one first.args) first.env) (started_with input first.ids base)

  -- a start has a working directory
  abbrev pub start_of : List ℕ → First → Result (State ℕ Image) Errno
  start_of input first = option_map_or (start_from input first) (directory_at first.cwd) (Err ENOENT)

  -- ---- what its walks reach

  -- interpreters are looked for where a program was found
  abbrev pub found_reach : Place ℕ → List ℕ → List (List ℕ) → List (List ℕ) → Result PlaceTarget Errno → Reach → Reach
  found_reach base path args env (Ok target) r = exec_reach around base (told target) path args env r
  found_reach base path args env (Err e) r = r

  abbrev pub plan_reach : Place ℕ → List ℕ → List (List ℕ) → List (List ℕ) → Reach → Reach
  plan_reach base path args env r =
      if is_walked path then found_reach base path args env (program_at around base path) (reach_after around Look (program_walk around base path) r)
      else r

  -- also of a start that is refused
  abbrev pub start_reach : First → Reach
  start_reach first =
      let walked = reach_after around Look (directory_walk first.cwd) first.reach in
      option_map_or (λ base. plan_reach base first.path (at_least_one first.args) first.env walked) (directory_at first.cwd) walked
