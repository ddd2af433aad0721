-- What is planned of execve(2): a kernel with mounts plans by its own walks. A tracer expands the scripts, and hands the plain kernel
-- the program that runs in the end, which is none, with its arguments; of these that kernel makes a plan of its own.
use Rattle.std.specs.Prelude.{◌≡◌, ℕ, false, List, Option, Result, Ok, Err}
use Rattle.kr_first.specs.pr_base.declared.errno.Errno.{Errno}
use Rattle.kr_first.specs.pt_bind.Tags.{TagTable}
use Rattle.law_edits.specs.pt_script.Expanding.{expanded_from}
use Rattle.law_edits.specs.pt_script.declared.expansion.Expanded.{Expanded}
use Rattle.kr_first.specs.kr_calls.Expansion.{bytes_with_ends}
use Rattle.kr_first.specs.kr_tree.declared.place.Place.{Place}
use Rattle.kr_first.specs.kr_view.Answers.{told}
use Rattle.kr_first.specs.kr_view.Component.{Surroundings}
use Rattle.kr_first.specs.kr_view.View.{Row}
use Rattle.kr_first.specs.kr_exec.Exec.{are_too_big, exec_plan}
use Rattle.kr_first.specs.kr_exec.Finding.{program_at}
use Rattle.kr_first.specs.kr_exec.declared.plan.ExecPlan.{ExecPlan}
use Rattle.law_edits.specs.kr_model.HostView.{host_around_of}
use Rattle.law_edits.specs.kr_model.ProcessDirectory.{around_of}
use Rattle.law_edits.specs.kr_model.State.{State}
use Rattle.law_edits.specs.kr_model.Walks.{and_then}
use Rattle.law_edits.specs.law_walks.Scene.{IsMatched}
use Rattle.law_edits.specs.law_walks.States.{IsInUse}
use Rattle.law_programs.specs.Finding.{WorksAt, scene_here, space_here, texts_here}

-- the plan of a path, where both lists have been read
abbrev pub planned : Surroundings → Place ℕ → List ℕ → List (List ℕ) → List (List ℕ) → Result (ExecPlan ℕ) Errno
planned around base path args env = and_then (program_at around base path) (λ target. exec_plan around base (told target) path args env)

-- plans of one file: they differ in its mount alone
pub record IsSamePlan (p q : ExecPlan ℕ) : Type 0 where
  pub file : p.file ≡ q.file
  pub host : p.place.host ≡ q.place.host
  pub mount : q.place.mount ≡ 0
  pub dir : p.dir ≡ q.dir
  pub name : p.name ≡ q.name
  pub plan : p.plan ≡ q.plan
  pub args : p.args ≡ q.args
  pub env : p.env ≡ q.env

module _ {X : Type 0} (table : List Row) (s : State ℕ X) (caller : ℕ) (tags : TagTable) where
  -- of an index that is that of the file's mount, where the file is a place in use
  pub data PlansAlike (index : ℕ) : Result (ExecPlan ℕ) Errno → Result (ExecPlan ℕ) Errno → Type 0 where
    no_plan : (e : Errno) → PlansAlike index (Err e) (Err e)
    one_plan : {p q : ExecPlan ℕ} → IsSamePlan p q → IsInUse (space_here table s caller tags) p.place p.dir p.name index → PlansAlike index (Ok p) (Ok q)

  -- a tracer answers the kernel's own error, or the plain kernel plans the same of what it is handed, from wherever it begins
  abbrev pub PlannedAlike : List (List ℕ) → Result (ExecPlan ℕ) Errno → Result Expanded Errno → Type 0
  PlannedAlike env plan (Ok x) = (other : Place ℕ) → PlansAlike x.index plan (planned (host_around_of s caller) other x.host x.args env)
  PlannedAlike env plan (Err e) = plan ≡ Err e

-- lists within a program's limits
abbrev pub ProgramsArePlannedAlike : Type 0 → Type 0
ProgramsArePlannedAlike X =
    (table : List Row) (s : State ℕ X) (caller : ℕ) (tags : TagTable) (base : Place ℕ) (working : Option (List ℕ)) (path : List ℕ) (args env : List (List ℕ))
    → IsMatched (scene_here table s caller tags) → WorksAt table s caller tags base working → are_too_big args env ≡ false
    → PlannedAlike table s caller tags env (planned (around_of table caller s) base path args env) (expanded_from (texts_here table s caller tags) working (bytes_with_ends env) path args)
