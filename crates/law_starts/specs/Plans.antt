-- What the plain kernel makes of what it is handed: the working directory and the program of the kernel with mounts, on the host alone.
use Rattle.std.specs.Prelude.{◌≡◌, ◌<◌, ℕ, true, false, List, Some, Result, Ok, Err}
use Rattle.pr_start.specs.pr_base.Paths.{text_limit, text_of}
use Rattle.pr_start.specs.pr_base.Texts.{Text}
use Rattle.pr_start.specs.pr_base.declared.errno.Errno.{Errno}
use Rattle.pr_start.specs.pt_script.declared.program.Program.{Program}
use Rattle.pr_start.specs.kr_calls.Expansion.{is_script}
use Rattle.pr_start.specs.kr_exec.Exec.{are_too_big, target_plan}
use Rattle.pr_start.specs.kr_exec.declared.plan.ExecPlan.{ExecPlan}
use Rattle.law_programs.specs.kr_first.Starting.{directory_at, plan_of}
use Rattle.pr_start.specs.kr_inode.declared.user.User.{User}
use Rattle.pr_start.specs.kr_tree.Tree.{Tree}
use Rattle.pr_start.specs.kr_tree.declared.place.Place.{Place}
use Rattle.pr_start.specs.kr_view.Component.{is_directory_at}
use Rattle.pr_start.specs.kr_view.HostReach.{host_place}
use Rattle.pr_start.specs.kr_view.View.{Row, plain}
use Rattle.pr_start.specs.kr_view.declared.target.Target.{Target}
use Rattle.law_turns.specs.law_walks.Settled.{IsSettled, host_text}
use Rattle.law_turns.specs.law_walks.Standing.{StandsOn}
use Rattle.law_starts.specs.Programs.{IsSameProgram}
use Rattle.law_starts.specs.Spaces.{first_space}

-- a plan whose program is seen on the host alone
abbrev pub plan_on_host : ExecPlan ℕ → ExecPlan ℕ
plan_on_host plan = record {
  file = plan.file;
  place = host_place plan.place.host;
  dir = plan.dir;
  name = plan.name;
  plan = plan.plan;
  args = plan.args;
  env = plan.env;
}

abbrev pub planned_on_host : Result (ExecPlan ℕ) Errno → Result (ExecPlan ℕ) Errno
planned_on_host (Ok plan) = Ok (plan_on_host plan)
planned_on_host (Err e) = Err e

-- by the host text of a directory it comes to that directory
abbrev pub DirectoriesAreHandedOver : Type 0
DirectoriesAreHandedOver =
    (table : List Row) (tree : Tree) (user : User) (p : Place ℕ) (t : Text) → IsSettled (first_space table tree user) → StandsOn (first_space table tree user) p t → is_directory_at tree p.host ≡ true
    → directory_at plain tree user (text_of (host_text (first_space table tree user) t)) ≡ Some (host_place p.host)

-- by the host text of a program that is no script it plans to run that, from wherever it is
abbrev pub ProgramsAreHandedOver : Type 0
ProgramsAreHandedOver =
    (table : List Row) (tree : Tree) (user : User) (most : ℕ) (target : Target ℕ) (program : Program) (args env : List (List ℕ)) (other : Place ℕ) → IsSettled (first_space table tree user) → most < text_limit
    → IsSameProgram table tree user most target program → is_script program.head ≡ false → are_too_big args env ≡ false
    → plan_of plain tree user other program.host args env ≡ planned_on_host (target_plan table tree env target args)
