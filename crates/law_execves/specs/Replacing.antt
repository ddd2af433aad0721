-- A program that execve(2) came to, and states in which it is put in place of a caller's.
use Rattle.std.specs.Prelude.{◌≡◌, ℕ, true, false, IsSome, List, Some, None, Ok}
use Rattle.law_programs.specs.kr_tree.Lawful.{AreBytes}
use Rattle.law_programs.specs.rv_mem.Actions.{carried_out}
use Rattle.law_programs.specs.rv_mem.Memory.{Memory}
use Rattle.law_programs.specs.elf_load.Image.{image_exceeds}
use Rattle.law_programs.specs.elf_read.Plans.{plan_of}
use Rattle.law_programs.specs.elf_read.Rules.{first_broken}
use Rattle.law_stops.specs.pt_bind.Tags.{TagTable, with_tag}
use Rattle.law_stops.specs.pt_bind.declared.slot.Slot.TheVariants.{Exe}
use Rattle.law_stops.specs.kr_inode.declared.user.User.{User}
use Rattle.law_programs.specs.kr_tree.Tree.{Tree}
use Rattle.law_stops.specs.kr_view.InTree.{IsPlaceOf}
use Rattle.law_stops.specs.kr_view.View.{Row, plain}
use Rattle.law_programs.specs.kr_exec.Interpreters.{bytes_at}
use Rattle.law_programs.specs.kr_exec.declared.plan.ExecPlan.{ExecPlan}
use Rattle.law_programs.specs.kr_execve.Execution.{Program, changes_of, execution, ids_of, program_of}
use Rattle.law_programs.specs.law_allowed.Texts.{IsText, LinksHaveTexts}
use Rattle.law_programs.specs.law_lawful.Laws.{CanAllBeMade}
use Rattle.law_programs.specs.law_allowed.Told.{SourcesAreNamed}
use Rattle.law_stops.specs.kr_model.Applied.{Mounts, all_applied, images}
use Rattle.law_stops.specs.kr_model.Known.{pages_in_all}
use Rattle.law_stops.specs.kr_model.Lawful.{IsLawful, IsNameOrNone, is_file_at}
use Rattle.law_stops.specs.kr_model.ProcessDirectory.{space_of}
use Rattle.law_stops.specs.kr_model.State.{Image, Process, State, image_layout, process}
use Rattle.law_stops.specs.kr_steps.Answering.{resumed}
use Rattle.law_stops.specs.law_walks.Scene.{IsMatched}
use Rattle.law_stops.specs.law_walks.States.{IsInUse, scene_of}
use Rattle.law_plans.specs.law_places.Matching.{IsMatch}
use Rattle.law_programs.specs.Executing.{IsSameLoaded}

-- ---- programs

-- the file was accepted, its pages are within the limits beside those of all processes, and it stands in the view
pub record IsReady (table : List Row) (tree : Tree) (user : User) (pages : ℕ) (program : Program) : Type 0 where
  pub plan : ExecPlan ℕ
  pub is : program ≡ program_of tree user plan
  pub within : image_exceeds pages (bytes_at tree plan.place.host) plan.plan plan.args plan.env (ids_of user) ≡ false
  pub accepted : first_broken (bytes_at tree plan.place.host) ≡ None
  pub read : plan.plan ≡ plan_of (bytes_at tree plan.place.host)
  pub stands : IsPlaceOf tree table plan.place
  pub is_file : is_file_at tree plan.place.host ≡ true
  pub named : IsNameOrNone plan.name

-- in a state
abbrev pub IsReadyIn : List Row → State ℕ Image → Program → Type 0
IsReadyIn table s program = IsReady table s.tree s.user (pages_in_all image_layout s.living) program

abbrev pub LoadedProgramsAreReady : Type 0
LoadedProgramsAreReady =
    (table : List Row) (pid : ℕ) (s : State ℕ Image) (p : Process ℕ Image) (path : List ℕ) (args env : ℕ) (m : Memory) (program : Program) → IsLawful (λ k. k) table s → LinksHaveTexts s.tree → SourcesAreNamed table
    → process pid s ≡ Some p → IsText path → AreBytes path → (carried_out (execution table pid s path args env) m).reply ≡ Ok program → IsReadyIn table s program

-- the mount that the changes of a program name
abbrev pub mounts_of : Program → Mounts ℕ
mounts_of program = record { found = Some program.exe.mount; directory = None }

abbrev pub ReadyProgramsCanBePut : Type 0
ReadyProgramsCanBePut =
    (table : List Row) (pid : ℕ) (s : State ℕ Image) (program : Program) → IsLawful (λ k. k) table s → IsSome (process pid s) → IsReadyIn table s program → CanAllBeMade (λ k. k) table (mounts_of program) pid s (changes_of (Ok program))

-- ---- in place of a caller's

-- a caller that goes on with a program
abbrev pub gone_on_with : ℕ → Program → State ℕ Image → State ℕ Image
gone_on_with pid program s = resumed pid (all_applied images (mounts_of program) pid (changes_of (Ok program)) s)

-- one program, but for the mount of its file. The file is a place in use, with the index of its mount
pub record ArePutAlike (table : List Row) (pid : ℕ) (s w : State ℕ Image) (program other : Program) (index : ℕ) : Type 0 where
  pub lives : IsSome (process pid s)
  pub lawful : IsLawful (λ k. k) plain w
  pub same : IsSameLoaded program other
  pub used : IsInUse (space_of table s) program.exe program.dir program.name index
  pub is_file : is_file_at s.tree program.exe.host ≡ true
  pub made : CanAllBeMade (λ k. k) table (mounts_of program) pid s (changes_of (Ok program))
  pub also_made : CanAllBeMade (λ k. k) plain (mounts_of other) pid w (changes_of (Ok other))

abbrev pub ProgramsKeepMatches : Type 0
ProgramsKeepMatches =
    (table : List Row) (pid : ℕ) (s w : State ℕ Image) (tags : TagTable) (program other : Program) (index : ℕ) → IsMatch table tags s w → IsMatched (scene_of table s pid tags) → ArePutAlike table pid s w program other index
    → IsMatch table (with_tag tags pid Exe index) (gone_on_with pid program s) (gone_on_with pid other w)
