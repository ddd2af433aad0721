-- Memories in which no byte is marked, as those of new programs are: nothing that is read in them counts as read of a mark.
use Rattle.std.specs.FinMap as map
use Rattle.std.specs.Prelude.{◌≡◌, ℕ, false, List, Some, Ok}
use Rattle.pt_tracer.specs.rv_mem.Actions.{Action, carried_out}
use Rattle.pt_tracer.specs.rv_mem.Marks.{no_marks}
use Rattle.pt_tracer.specs.rv_mem.Memory.{Memory}
use Rattle.pt_tracer.specs.rv_mem.Page.{PageState}
use Rattle.pt_tracer.specs.rv_mem.Pages.{Pages}
use Rattle.pt_tracer.specs.elf_load.Image.{image_memory}
use Rattle.pt_tracer.specs.elf_read.declared.plan.Plan.{Plan}
use Rattle.kr_turns.specs.kr_execve.Execution.{Program, execution}
use Rattle.law_walks.specs.kr_model.State.{Image, State}
use Rattle.law_walks.specs.kr_view.View.{Row}
use Rattle.pt_tracer.specs.pt_ident.Identity.{Identity}
use Rattle.pt_tracer.specs.pt_faker.Faking.{show_identity}

abbrev pub HasNoMark : Pages → Type 0
HasNoMark m = (k : ℕ) (p : PageState) → map.get m k ≡ Some p → p.marks ≡ no_marks

-- and no marked byte was read
pub record IsFresh (m : Memory) : Type 0 where
  pub unmarked : HasNoMark m.pages
  pub unread : m.read_marked ≡ false

-- whatever is done in such a memory leaves it as such
abbrev pub FreshMemoriesStay : Type 0 → Type 0
FreshMemoriesStay A = (action : Action A) (m : Memory) → IsFresh m → IsFresh (carried_out action m).memory

-- each image of a program is one
abbrev pub ImagesAreFresh : Type 0
ImagesAreFresh = (file : List ℕ) (plan : Plan) (args env : List (List ℕ)) (ids : List ℕ) → IsFresh (image_memory file plan args env ids)

-- and so is that of each program that an execve(2) comes to
abbrev pub ProgramsAreFresh : Type 0
ProgramsAreFresh =
    (table : List Row) (pid : ℕ) (s : State ℕ Image) (path : List ℕ) (args env : ℕ) (memory : Memory) (program : Program) → (carried_out (execution table pid s path args env) memory).reply ≡ Ok program → IsFresh program.image.memory

-- so whoever it is told that it is, no marked byte is read for that
abbrev pub BeginningsReadNoMark : Type 0
BeginningsReadNoMark = (m : Memory) (i : Identity) (stack : ℕ) → IsFresh m → (carried_out (show_identity i stack) m).memory.read_marked ≡ false
