-- What runs in the end, behind the scripts of a program: the same program on both machines, with the same arguments.
use Rattle.std.specs.Prelude.{◌≡◌, ◌≤◌, ℕ, List, Some}
use Rattle.pr_start.specs.pt_bind.Tags.{TagTable}
use Rattle.pr_start.specs.pt_script.Programs as texts
use Rattle.pr_start.specs.pt_script.declared.program.Program.{Program}
use Rattle.pr_start.specs.kr_calls.Expansion.{expanded, most_scripts}
use Rattle.pr_start.specs.kr_exec.Interpreters.{interpreters, programs, walks_reach}
use Rattle.law_programs.specs.kr_first.Starting.{around}
use Rattle.pr_start.specs.kr_inode.declared.user.User.{User}
use Rattle.pr_start.specs.kr_tree.Tree.{Tree}
use Rattle.pr_start.specs.kr_tree.declared.place.Place.{Place}
use Rattle.pr_start.specs.kr_view.View.{Row}
use Rattle.pr_start.specs.kr_view.declared.target.Reach.{Reach}
use Rattle.pr_start.specs.kr_view.declared.target.Target.{Target}
use Rattle.pr_start.specs.pt_first.Laws.{first_texts}
use Rattle.law_turns.specs.law_walks.Settled.{IsSettled}
use Rattle.law_programs.specs.Ending.{EndAlike, ResultsAlike}
use Rattle.law_starts.specs.Programs.{IsSameProgram}
use Rattle.law_starts.specs.Spaces.{first_space}
use Rattle.law_starts.specs.Working.{StandsAt}

-- where the walks to all interpreters stay within a length
abbrev pub ScriptsAgree : Type 0
ScriptsAgree =
    (table : List Row) (tree : Tree) (user : User) (tags : TagTable) (base : Place ℕ) (working : List ℕ) (most env_bytes : ℕ) (target : Target ℕ) (program : Program) (path : List ℕ) (args : List (List ℕ)) (r : Reach)
    → IsSettled (first_space table tree user) → StandsAt table tree user base working → IsSameProgram table tree user most target program
    → (walks_reach (around table tree user) base (interpreters (programs (around table tree user) base) env_bytes most_scripts target path args) r).longest ≤ most
    → ResultsAlike (EndAlike (IsSameProgram table tree user most)) (expanded (programs (around table tree user) base) env_bytes most_scripts target path args)
    (expanded (texts.programs (first_texts table tree user tags) (Some working)) env_bytes most_scripts program path args)
