-- The start of a run over mounts: the working directory, the command, and then the first process, which is that of execve(2).
use Rattle.std.specs.Prelude.{◌≡◌, ℕ, false, List, [], ◌∷◌, Option, Some, None, Result, Ok, Err}
use Rattle.std.specs.List.{All}
use Rattle.pt_tracer.specs.pr_base.declared.errno.Errno.{Errno}
use Rattle.pt_tracer.specs.pr_base.declared.errno.Errno.TheVariants.{ENOENT}
use Rattle.pt_tracer.specs.kr_inode.declared.user.User.{User}
use Rattle.kr_core.specs.kr_tree.Tree.{Tree}
use Rattle.kr_core.specs.kr_view.declared.target.Reach.{Reach}
use Rattle.kr_core.specs.kr_view.View.{Row}
use Rattle.kr_core.specs.kr_model.State.{Image, State}
use Rattle.kr_core.specs.kr_model.Walks.{and_then}
use Rattle.kr_core.specs.law_allowed.Texts.{IsText}
use Rattle.kr_core.specs.kr_first.declared.starting.First.{First}
use Rattle.kr_core.specs.kr_first.declared.starting.StartFault.{StartFault}
use Rattle.kr_core.specs.kr_first.declared.starting.StartFault.TheVariants as fault
use Rattle.kr_core.specs.kr_first.Starting.{start_of, start_reach}
use Rattle.kr_core.specs.kr_turns.kr_calm.declared.rule.Rule.{Rule}
use Rattle.kr_core.specs.Runs.{Machine}
use Rattle.kr_core.specs.Kernel as kernel
use Rattle.kr_core.specs.Kernel.{HasNoTurn, first_rule, machine}
use Rattle.kr_core.specs.kr_mounts.declared.mount.Mount.{Mount}
use Rattle.kr_core.specs.kr_mounts.declared.mounted.MountNumber.{MountNumber}
use Rattle.pt_tracer.specs.pt_faker.declared.watch.Watch.{Watch}
use Rattle.pr_start.specs.Directory.{At, directory_reach, working_directory}
use Rattle.pt_first.specs.pr_words.Command.{arguments, ids_of, word_of}
use Rattle.pr_start.specs.Command.{chosen}
use Rattle.pr_start.specs.Numbers.{number_of}
use Rattle.pt_first.specs.pr_words.declared.launch.Launch.{Launch}

-- what a process is launched with are texts
pub record HasTexts (launch : Launch) : Type 0 where
  pub command : All IsText launch.command
  pub env : All IsText launch.env

-- nothing is reached before the first walk
abbrev pub nowhere : Reach
nowhere = record { longest = 0; met_proc = false }

-- a state before its first turn, with the calm rule that the walks of the start broke
abbrev pub fresh : Watch → Reach → State ℕ Image → Machine Watch
fresh watch reach s = record { state = s; watcher = watch; tally = record { status = 0; broken = first_rule 1 reach } }

module _ (table : List Row) (tree : Tree) (user : User) (watch : Watch) where
  abbrev pub first_of : Launch → At → List ℕ → Reach → First
  first_of launch at path reach = record { path = path; args = arguments launch.command; env = launch.env; cwd = at.path; ids = ids_of launch.ids; reach = reach }

  abbrev pub begun : First → List ℕ → Result (Machine Watch) Errno
  begun first input = and_then (start_of table tree user input first) (λ s. Ok (fresh watch (start_reach table tree user first) s))

  abbrev pub begun_at : Launch → List ℕ → At → Reach → Option (List ℕ) → Result (Machine Watch) Errno
  begun_at launch input at reach None = Err ENOENT
  begun_at launch input at reach (Some path) = begun (first_of launch at path reach) input

  abbrev pub begun_in : Launch → List ℕ → At → Reach → Result (Machine Watch) Errno
  begun_in launch input at reach =
      let found = chosen table tree user at.place launch.env (word_of launch.command) reach in
      begun_at launch input at found.reach found.path

  abbrev pub beginning : Launch → List ℕ → Result (Machine Watch) Errno
  beginning launch input = begun_in launch input (working_directory table tree user launch.cwd) (directory_reach table tree user launch.cwd nowhere)

-- a kernel begins as the definition says, before its first turn, or its error is answered, but for want of memory
abbrev pub Begins : Result (Machine Watch) Errno → Result (kernel.Kernel (List Mount) Watch MountNumber 1) StartFault → Type 0
Begins answer (Ok k) = (answer ≡ Ok (machine number_of k)) × HasNoTurn k
Begins answer (Err (fault.Err e)) = answer ≡ Err e
Begins answer (Err fault.NoMemory) = Unit {0}

-- ---- its steps, and a kernel that keeps no marks

-- a first process is prepared, with which begins whatever begins, whoever watches and whatever the input is; or the error is that
abbrev pub Prepares : List Row → Tree → User → Launch → Result First StartFault → Type 0
Prepares table tree user launch (Ok first) = (watch : Watch) (input : List ℕ) → beginning table tree user watch launch input ≡ begun table tree user watch first input
Prepares table tree user launch (Err (fault.Err e)) = (watch : Watch) (input : List ℕ) → beginning table tree user watch launch input ≡ Err e
Prepares table tree user launch (Err fault.NoMemory) = Unit {0}

-- a machine of a kernel that keeps no marks, and the rule that was told beside it
abbrev pub told_with : kernel.Kernel (List Mount) Watch MountNumber 0 → Option Rule → Machine Watch
told_with k rule = let m = machine number_of k in record { state = m.state; watcher = m.watcher; tally = record { status = m.tally.status; broken = rule } }

-- together they begin as the definition says
abbrev pub BeginsUnmarked : Result (Machine Watch) Errno → Result (kernel.Kernel (List Mount) Watch MountNumber 0 × Option Rule) StartFault → Type 0
BeginsUnmarked answer (Ok started) = (answer ≡ Ok (told_with started.0 started.1)) × HasNoTurn started.0
BeginsUnmarked answer (Err (fault.Err e)) = answer ≡ Err e
BeginsUnmarked answer (Err fault.NoMemory) = Unit {0}
