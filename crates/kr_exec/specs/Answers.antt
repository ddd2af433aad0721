-- What the code answers, over the mounts as a machine calls them.
use Rattle.std.specs.Prelude.{ℕ, ◌≡◌, List, Option, Result, Ok, Err}
use Rattle.elf_read.specs.pr_base.declared.errno.Errno.{Errno}
use Rattle.kr_walk.specs.kr_tree.declared.place.ProcAt.{ProcAt}
use Rattle.kr_walk.specs.kr_view.declared.procs.Lead.{Lead}
use Rattle.kr_walk.specs.kr_view.declared.target.Target.{Target}
use Rattle.kr_walk.specs.kr_view.declared.target.WalkFault.{WalkFault}
use Rattle.kr_walk.specs.kr_view.declared.target.WalkFault.TheVariants as fault
use Rattle.kr_walk.specs.kr_view.declared.target.Reach.{Reach}
use Rattle.kr_walk.specs.kr_view.Answers.{target_numbered}
use Rattle.kr_walk.specs.kr_view.Component.{Surroundings}
use Rattle.kr_walk.specs.kr_view.Leads.{numbered}
use Rattle.kr_walk.specs.kr_view.Reach.{Covers}
use Rattle.kr_walk.specs.kr_view.View.{Row}
use Rattle.kr_walk.specs.kr_view.Walk.{surroundings}
use Rattle.kr_calls.specs.Expansion.{Expanded}
use Rattle.kr_exec.specs.Interpreters.{Running}
use Rattle.kr_exec.specs.declared.plan.ExecPlan.{ExecPlan}
use Rattle.kr_exec.specs.declared.scripts.Command.{Command}
use Rattle.kr_exec.specs.declared.scripts.Search.{Search}

abbrev pub plan_numbered : {M : Type 0} → (M → ℕ) → ExecPlan M → ExecPlan ℕ
plan_numbered number p = record {
  file = p.file;
  place = numbered number p.place;
  dir = p.dir;
  name = p.name;
  plan = p.plan;
  args = p.args;
  env = p.env;
}

-- the answer is the definition's, but for want of memory
abbrev pub Answers : {A B : Type 0} → (A → B) → Result B Errno → Result A WalkFault → Type 0
Answers meaning answer (Ok x) = answer ≡ Ok (meaning x)
Answers meaning answer (Err (fault.Err errno)) = answer ≡ Err errno
Answers meaning answer (Err fault.NoMemory) = Unit {0}

-- what was reached is all of it, and for want of memory a part of that
abbrev pub Reaches : {T : Type 0} → (whole old new : Reach) → Result T WalkFault → Type 0
Reaches whole old new (Ok x) = new ≡ whole
Reaches whole old new (Err (fault.Err errno)) = new ≡ whole
Reaches whole old new (Err fault.NoMemory) = Covers new old × Covers whole new

-- a file that is to be run, with the numbers of the mounts
abbrev pub running : {M : Type 0} → (M → ℕ) → Command M → Running (Target ℕ)
running number c = record { file = target_numbered number c.file; path = c.path; args = c.args }

-- the file that runs in the end, and its arguments
abbrev pub IsExpanded : {M : Type 0} → (M → ℕ) → Result (Expanded (Target ℕ)) Errno → Result (Command M) WalkFault → Type 0
IsExpanded number answer (Ok c) = (x : Expanded (Target ℕ)) × (answer ≡ Ok x) × (x.file ≡ target_numbered number c.file) × (x.args ≡ c.args)
IsExpanded number answer (Err (fault.Err errno)) = answer ≡ Err errno
IsExpanded number answer (Err fault.NoMemory) = Unit {0}

-- what interpreters are looked for in
abbrev pub around_of : {M P Q : Type 0} → (M → ℕ) → (P → List Row) → (Q → ℕ → Option ProcAt → List ℕ → Option ProcAt) → (Q → ℕ → ProcAt → Lead M) → Search P Q → Surroundings
around_of number mounts finds leads s = surroundings number (mounts s.places.now) s.tree.now s.user (finds s.procs.now s.caller) (leads s.procs.now s.caller)
