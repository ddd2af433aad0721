-- The program that runs in the end, with its arguments, behind the tests of execve(2) in their order: on both machines the same one.
use Rattle.std.specs.Prelude.{◌≡◌, ◌≢◌, ◌≤◌, ◌<◌, ℕ, false, List, [], Result, Err, if◌then◌else◌}
use Rattle.pr_start.specs.pr_base.Paths.{text_limit}
use Rattle.pr_start.specs.pr_base.declared.errno.Errno.{Errno}
use Rattle.pr_start.specs.pr_base.declared.errno.Errno.TheVariants.{E2BIG}
use Rattle.pr_start.specs.pt_bind.Tags.{TagTable}
use Rattle.pr_start.specs.pt_script.declared.expansion.Expanded.{Expanded as Shown}
use Rattle.pr_start.specs.pt_script.declared.program.Program.{Program}
use Rattle.pr_start.specs.kr_calls.Expansion.{Expanded, bytes_with_ends, expanded, is_script, most_scripts}
use Rattle.pr_start.specs.kr_exec.Exec.{are_too_big}
use Rattle.pr_start.specs.kr_exec.Interpreters.{programs}
use Rattle.law_programs.specs.kr_first.Starting.{around, found_from, plan_reach}
use Rattle.pr_start.specs.kr_inode.declared.user.User.{User}
use Rattle.law_turns.specs.kr_model.Walks.{and_then}
use Rattle.pr_start.specs.kr_tree.Tree.{Tree}
use Rattle.pr_start.specs.kr_tree.declared.place.Place.{Place}
use Rattle.pr_start.specs.kr_view.Answers.{told}
use Rattle.pr_start.specs.kr_view.View.{Row}
use Rattle.pr_start.specs.kr_view.declared.target.Reach.{Reach}
use Rattle.pr_start.specs.kr_view.declared.target.Target.{Target}
use Rattle.pr_start.specs.pt_first.GuestStart.{run_from}
use Rattle.pr_start.specs.pt_first.Laws.{first_texts}
use Rattle.law_turns.specs.law_walks.Settled.{IsSettled}
use Rattle.law_programs.specs.Ending.{ResultsAlike}
use Rattle.law_starts.specs.Programs.{IsSameProgram}
use Rattle.law_starts.specs.Spaces.{first_space}
use Rattle.law_starts.specs.Working.{StandsAt}

module _ (table : List Row) (tree : Tree) (user : User) where
  -- of a program that was found
  abbrev pub run_at : Place ℕ → List ℕ → List (List ℕ) → List (List ℕ) → Target ℕ → Result (Expanded (Target ℕ)) Errno
  run_at base path args env target =
      if are_too_big args env then Err E2BIG else expanded (programs (around table tree user) base) (bytes_with_ends env) most_scripts target path args

  -- of a path from a directory, on a kernel with mounts
  abbrev pub run_of : Place ℕ → List ℕ → List (List ℕ) → List (List ℕ) → Result (Expanded (Target ℕ)) Errno
  run_of base path args env = and_then (found_from table tree user base path) (λ target. run_at base path args env (told target))

  -- what a tracer shows the plain kernel is that program, which is no script, with those arguments, which fit
  pub record IsSameRun (most : ℕ) (env : List (List ℕ)) (x : Expanded (Target ℕ)) (e : Shown) : Type 0 where
    pub program : Program
    pub same : IsSameProgram table tree user most x.file program
    pub host : e.host ≡ program.host
    pub index : e.index ≡ program.index
    pub args : e.args ≡ x.args
    pub plain : is_script program.head ≡ false
    pub fit : are_too_big x.args env ≡ false
    pub some : x.args ≢ []

abbrev pub RunsAgree : Type 0
RunsAgree =
    (table : List Row) (tree : Tree) (user : User) (tags : TagTable) (base : Place ℕ) (working path : List ℕ) (args env : List (List ℕ)) (most : ℕ) (r : Reach) → IsSettled (first_space table tree user) → StandsAt table tree user base working
    → most < text_limit → args ≢ [] → (plan_reach table tree user base path args env r).longest ≤ most
    → ResultsAlike (IsSameRun table tree user most env) (run_of table tree user base path args env) (run_from (first_texts table tree user tags) working args env path)
