-- Links of the process directory that a tracer answers itself: readlinkat(2) of one is answered as the kernel with mounts answers it.
use Rattle.std.specs.Prelude.{◌≡◌, ℕ, ℤ, pos, List, Some}
use Rattle.law_edits.specs.pt_args.declared.edit.Edit.{Edit}
use Rattle.law_edits.specs.pt_bind.Tags.{TagTable}
use Rattle.law_edits.specs.pt_results.Answers.{link_answer}
use Rattle.law_edits.specs.pt_faker.Stopping.{memory_at}
use Rattle.law_edits.specs.pt_tracer.Watched.{applied}
use Rattle.law_edits.specs.rv_mem.Actions.{AreEqualUnmarked, carried_out}
use Rattle.law_edits.specs.rv_mem.Memory.{Memory}
use Rattle.law_edits.specs.kr_calls.declared.request.Request.TheVariants as call
use Rattle.law_places.specs.kr_view.View.{Row}
use Rattle.law_places.specs.kr_model.Known.{known}
use Rattle.law_places.specs.kr_model.Operation.{operation}
use Rattle.law_places.specs.kr_model.State.{Image, State, image_layout}
use Rattle.law_places.specs.kr_model.Walks.{seen}
use Rattle.law_edits.specs.kr_stops.Stopped.{IsThere, Stopped}
use Rattle.law_plans.specs.Begins.{StandTogether, told_texts}
use Rattle.law_edits.specs.Answers.{AreAnsweredAlike}

-- of a process whose memory is equal but for marked bytes to that of one at its first stop. The size is a positive number, as decoding
-- gives it
abbrev pub LinksAreAnsweredAlike : Type 0
LinksAreAnsweredAlike =
    (table : List Row) (tags : TagTable) (s w : State ℕ Image) (pid : ℕ) (m : Memory) (t : Stopped) (dirfd : ℤ) (path : List ℕ) (buf count : ℕ) (edit : Edit) → StandTogether table tags s w
    → IsThere t → AreEqualUnmarked m.pages (memory_at t).pages → link_answer (told_texts table s pid tags) pid (call.Readlinkat dirfd path buf (pos count)) ≡ Some edit
    → AreAnsweredAlike (carried_out (operation pid (call.Readlinkat dirfd path buf (pos count)) (seen table pid s (call.Readlinkat dirfd path buf (pos count))) (known image_layout pid s)) m) (applied edit t)
