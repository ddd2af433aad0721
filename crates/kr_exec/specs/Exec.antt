-- What execve(2) comes to: E2BIG of the lists, then the scripts, then the rules on ELF files. The lists were read before, or
-- come from words.
use Rattle.std.specs.Prelude.{ℕ, Bool, ◌||◌, nat_lt, List, length, Option, Some, None, Result, Ok, Err, if◌then◌else◌}
use Rattle.std.specs.Option.{option_map_or}
use Rattle.elf_read.specs.pr_base.declared.errno.Errno.{Errno}
use Rattle.elf_read.specs.pr_base.declared.errno.Errno.TheVariants.{E2BIG, ENOEXEC}
use Rattle.elf_read.specs.Plans.{plan_of}
use Rattle.elf_read.specs.Rules.{first_broken}
use Rattle.elf_read.specs.declared.fault.ElfFault.{ElfFault}
use Rattle.kr_walk.specs.kr_tree.declared.place.Host.{Host}
use Rattle.kr_walk.specs.kr_tree.declared.place.Host.TheVariants.{Node, Proc}
use Rattle.kr_walk.specs.kr_tree.declared.place.Place.{Place}
use Rattle.kr_walk.specs.kr_tree.Tree.{Tree}
use Rattle.kr_walk.specs.kr_view.declared.target.Target.{Target}
use Rattle.kr_walk.specs.kr_view.declared.target.Reach.{Reach}
use Rattle.kr_walk.specs.kr_view.Component.{Surroundings}
use Rattle.kr_walk.specs.kr_view.View.{Row, source}
use Rattle.kr_calls.specs.Expansion.{Expanded, bytes_with_ends, is_too_big, expanded, most_scripts}
use Rattle.kr_exec.specs.Interpreters.{bytes_at, programs, interpreters, walks_reach}
use Rattle.kr_exec.specs.declared.plan.ExecPlan.{ExecPlan}

-- ---- the entry that is remembered

-- the inode of an object; what is in the process directory has that of the process directory
abbrev pub inode_at : Host → ℕ
inode_at (Node i) = i
inode_at (Proc i at) = i

-- the directory and name of a file: of the source of a mount those at which it was settled, and else those by which it was
-- found
abbrev pub entry_of : List Row → Target ℕ → Place ℕ → ℕ × List ℕ
entry_of table target place = option_map_or (λ e. e) (source table place.mount) (inode_at target.dir.host, target.name)

-- ---- the plan

abbrev pub unless_broken : Option ElfFault → ExecPlan ℕ → Result (ExecPlan ℕ) Errno
unless_broken None plan = Ok plan
unless_broken (Some fault) plan = Err ENOEXEC

abbrev pub plan_at : List Row → Tree → Target ℕ → List (List ℕ) → List (List ℕ) → Place ℕ → ExecPlan ℕ
plan_at table tree target args env place = record {
  file = inode_at place.host;
  place = place;
  dir = (entry_of table target place).0;
  name = (entry_of table target place).1;
  plan = plan_of (bytes_at tree place.host);
  args = args;
  env = env;
}

-- a file without bytes stands for what isn't there
abbrev pub file_plan : List Row → Tree → Target ℕ → List (List ℕ) → List (List ℕ) → Option (Place ℕ) → Result (ExecPlan ℕ) Errno
file_plan table tree target args env None = Err ENOEXEC
file_plan table tree target args env (Some place) = unless_broken (first_broken (bytes_at tree place.host)) (plan_at table tree target args env place)

abbrev pub target_plan : List Row → Tree → List (List ℕ) → Target ℕ → List (List ℕ) → Result (ExecPlan ℕ) Errno
target_plan table tree env target args = file_plan table tree target args env target.found

abbrev pub after_scripts : Surroundings → List (List ℕ) → Result (Expanded (Target ℕ)) Errno → Result (ExecPlan ℕ) Errno
after_scripts around env (Ok x) = target_plan around.space.table around.space.tree env x.file x.args
after_scripts around env (Err errno) = Err errno

-- more texts in a list, or more bytes in both, than a program may be given
abbrev pub are_too_big : List (List ℕ) → List (List ℕ) → Bool
are_too_big args env = nat_lt 4096 (length env) || is_too_big (bytes_with_ends env) args

-- the file that runs in the end, and how
abbrev pub exec_plan : Surroundings → Place ℕ → Target ℕ → List ℕ → List (List ℕ) → List (List ℕ) → Result (ExecPlan ℕ) Errno
exec_plan around base found path args env =
    if are_too_big args env then Err E2BIG
    else after_scripts around env (expanded (programs around base) (bytes_with_ends env) most_scripts found path args)

-- what the walks to interpreters reach
abbrev pub exec_reach : Surroundings → Place ℕ → Target ℕ → List ℕ → List (List ℕ) → List (List ℕ) → Reach → Reach
exec_reach around base found path args env r =
    if are_too_big args env then r
    else walks_reach around base (interpreters (programs around base) (bytes_with_ends env) most_scripts found path args) r
