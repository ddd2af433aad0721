-- A call with a path that breaks no calm rule has a shelf, on a machine with mounts and so on a plain one with a tracer.
use Rattle.std.specs.Prelude.{◌≡◌, ℕ, true, List, None, Some, Ok}
use Rattle.pt_tracer.specs.rv_mem.Actions.{AreEqualUnmarked, carried_out}
use Rattle.pt_tracer.specs.rv_mem.Memory.{Memory}
use Rattle.pt_tracer.specs.rv_mem.Pages.{Pages}
use Rattle.pt_tracer.specs.rv_mem.declared.regs.Regs.{Regs}
use Rattle.law_walks.specs.kr_view.View.{Row}
use Rattle.law_walks.specs.kr_calls.Arguments.{number}
use Rattle.law_walks.specs.kr_calls.Decoding.{decoding}
use Rattle.law_walks.specs.kr_calls.PathTable.{PathUse, path_at}
use Rattle.law_walks.specs.kr_calls.declared.request.Request.{Request}
use Rattle.law_walks.specs.kr_model.State.{Image, Process, State, process}
use Rattle.kr_turns.specs.kr_calm.Shelf.{has_path, is_usable, stack_pointer}
use Rattle.kr_turns.specs.Breaking.{plain_rule}
use Rattle.kr_turns.specs.Shelving.{lacks_in, shelved_in}
use Rattle.kr_turns.specs.kr_stops.Stopped.{Stopped, image_at}
use Rattle.pt_tracer.specs.pt_faker.Stopping.{memory_at}
use Rattle.pt_tracer.specs.Planning.{has_shelf}

-- a request with a path has the number of a call with one
abbrev pub PathsHaveNumbers : Type 0
PathsHaveNumbers =
    (regs : Regs) (m : Memory) (r : Request) (k : ℕ) (u : PathUse) → (carried_out (decoding regs) m).reply ≡ Ok r → path_at r k ≡ Some u → has_path (number regs) ≡ true

-- such a call has a shelf, where it breaks no calm rule
abbrev pub CalmCallsHaveShelves : Type 0
CalmCallsHaveShelves =
    (table : List Row) (pid : ℕ) (s : State ℕ Image) (p : Process ℕ Image) → process pid s ≡ Some p → has_path (number p.image.regs) ≡ true → plain_rule 1 table pid (lacks_in 1 pid s) (shelved_in 1 pid s) ≡ None
    → is_usable (stack_pointer p.image.regs) p.image.memory.pages ≡ true

-- a process with the same registers, whose memory has pages of the same rights, has the same shelf
abbrev pub ShelvesAreSeen : Type 0
ShelvesAreSeen = (regs : Regs) (m : Pages) (t : Stopped) → (image_at t).regs ≡ regs → AreEqualUnmarked m (memory_at t).pages → is_usable (stack_pointer regs) m ≡ true → has_shelf t ≡ true
