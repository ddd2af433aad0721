-- What both machines find of a program: the kernel with mounts a place, and a tracer its guest text.
use Rattle.std.specs.Prelude.{◌≡◌, ◌≤◌, ℕ, true, List, Some, Result, Ok, Err}
use Rattle.pr_start.specs.pr_base.Paths.{text_of}
use Rattle.pr_start.specs.pr_base.Texts.{Text}
use Rattle.pr_start.specs.pr_base.declared.errno.Errno.{Errno}
use Rattle.pr_start.specs.pr_base.declared.path.WalkMode.TheVariants.{Look}
use Rattle.pr_start.specs.pt_bind.Binding.{index_of}
use Rattle.pr_start.specs.pt_bind.Tags.{TagTable}
use Rattle.pr_start.specs.pt_script.Programs.{program_from}
use Rattle.pr_start.specs.pt_script.declared.program.Program.{Program}
use Rattle.pr_start.specs.kr_exec.Exec.{entry_of}
use Rattle.pr_start.specs.kr_exec.Finding.{is_program, program_at, program_walk}
use Rattle.pr_start.specs.kr_exec.Interpreters.{head_of, told_program}
use Rattle.law_programs.specs.kr_first.Starting.{around}
use Rattle.pr_start.specs.kr_inode.declared.user.User.{User}
use Rattle.pr_start.specs.kr_mounts.Standing.{texts_of}
use Rattle.pr_start.specs.kr_tree.Tree.{Tree}
use Rattle.pr_start.specs.kr_tree.declared.place.Host.TheVariants.{Node}
use Rattle.pr_start.specs.kr_tree.declared.place.Place.{Place}
use Rattle.pr_start.specs.kr_view.Reach.{reach_after, text_length}
use Rattle.pr_start.specs.kr_view.View.{Row}
use Rattle.pr_start.specs.kr_view.declared.target.Reach.{Reach}
use Rattle.pr_start.specs.kr_view.declared.target.Target.{Target}
use Rattle.pr_start.specs.pt_first.Laws.{first_texts}
use Rattle.law_programs.specs.Ending.{ResultsAlike}
use Rattle.law_turns.specs.law_walks.Settled.{IsSettled, host_text}
use Rattle.law_turns.specs.law_walks.Standing.{IsEntryAt, StandsOn}
use Rattle.law_starts.specs.Spaces.{first_space}
use Rattle.law_starts.specs.Working.{StandsAt}

-- a program that stands at a guest text. A tracer has the host text and the index of that, and the same first bytes; the host text is no longer
-- than the walk reached
pub record IsSameProgram (table : List Row) (tree : Tree) (user : User) (most : ℕ) (target : Target ℕ) (program : Program) : Type 0 where
  pub place : Place ℕ
  pub guest : Text
  pub found : target.found ≡ Some place
  pub stands : StandsOn (first_space table tree user) place guest
  pub may_run : is_program tree user place.host ≡ true
  pub entry : IsEntryAt (first_space table tree user) (host_text (first_space table tree user) guest) (Node (entry_of table target place).0) (entry_of table target place).1
  pub short : text_length (host_text (first_space table tree user) guest) ≤ most
  pub host : program.host ≡ text_of (host_text (first_space table tree user) guest)
  pub index : program.index ≡ index_of (texts_of table) guest
  pub head : program.head ≡ head_of tree target.found

-- along one path from the working directory
abbrev pub ProgramsAgree : Type 0
ProgramsAgree =
    (table : List Row) (tree : Tree) (user : User) (tags : TagTable) (base : Place ℕ) (working path : List ℕ) (most : ℕ) (r : Reach) → IsSettled (first_space table tree user) → StandsAt table tree user base working
    → (reach_after (around table tree user) Look (program_walk (around table tree user) base path) r).longest ≤ most
    → ResultsAlike (IsSameProgram table tree user most) (told_program (program_at (around table tree user) base path)) (program_from (first_texts table tree user tags) (Some working) path)
