-- Calls that a tracer answers itself: what it answers and writes is what the kernel with mounts answers and writes.
use Rattle.std.specs.Prelude.{◌≡◌, ℕ, ℤ, true, List, [], Some}
use Rattle.std.specs.Option.{option_and_then}
use Rattle.pt_tracer.specs.pr_base.declared.errno.Errno.{Errno}
use Rattle.pt_tracer.specs.rv_mem.Actions.{AreEqualUnmarked, CarriedOut, carried_out}
use Rattle.pt_tracer.specs.rv_mem.Memory.{Memory}
use Rattle.law_walks.specs.kr_view.Component.{is_directory_at}
use Rattle.law_walks.specs.kr_view.Living.{Each, HasSmallNumbers}
use Rattle.law_walks.specs.kr_view.View.{Row}
use Rattle.law_walks.specs.kr_calls.declared.request.Request.TheVariants as call
use Rattle.law_walks.specs.kr_model.Applied.{cwd_of}
use Rattle.law_walks.specs.kr_model.Known.{known}
use Rattle.law_walks.specs.kr_model.Operation.{operation}
use Rattle.law_walks.specs.kr_model.ProcessDirectory.{living_of, name_text, space_of}
use Rattle.law_walks.specs.kr_model.AttributeRows.{tell_text}
use Rattle.law_walks.specs.kr_model.Reply.{Reply, refuse}
use Rattle.law_walks.specs.kr_model.State.{Image, Process, State, image_layout, process}
use Rattle.law_walks.specs.kr_model.Walks.{seen}
use Rattle.law_walks.specs.kr_model.declared.outcome.Outcome.TheVariants.{Answer}
use Rattle.kr_turns.specs.kr_stops.Stopped.{IsThere, Stopped}
use Rattle.pt_tracer.specs.pt_args.Bases.{working_text}
use Rattle.pt_tracer.specs.pt_bind.Tags.{TagTable}
use Rattle.law_walks.specs.pt_canon.TextWalk.{TextSurroundings}
use Rattle.pt_tracer.specs.pt_args.declared.edit.Edit.TheVariants.{Cancel}
use Rattle.pt_tracer.specs.pt_results.Answers.{cwd_answer, lead_answer}
use Rattle.pt_tracer.specs.pt_faker.Stopping.{memory_at}
use Rattle.pt_tracer.specs.Watched.{Applied, applied}
use Rattle.law_walks.specs.Scene.{texts_in}
use Rattle.law_walks.specs.Settled.{IsSettled}
use Rattle.law_walks.specs.States.{ArePlaced, scene_of}

-- a call that a kernel carried out on a memory, and that a tracer answered: the same answer, nothing else changed, and the same bytes
-- written
pub record AreAnsweredAlike (done : CarriedOut Reply) (kept : Applied) : Type 0 where
  pub answer : ℤ
  pub carried : done.reply ≡ record { outcome = Answer answer; changes = [] }
  pub told : kept.answer ≡ Some answer
  pub memories : AreEqualUnmarked done.memory.pages (memory_at kept.stopped).pages

-- a state in which all places that have names stand with their tags
pub record CanBeTold {X : Type 0} (table : List Row) (s : State ℕ X) (tags : TagTable) : Type 0 where
  pub settled : IsSettled (space_of table s)
  pub small : Each HasSmallNumbers (living_of s)
  pub placed : ArePlaced table s tags

-- what a tracer goes by in it
abbrev pub told_texts : {X : Type 0} → List Row → State ℕ X → ℕ → TagTable → TextSurroundings
told_texts table s pid tags = texts_in (scene_of table s pid tags)

-- a process whose working directory is one, as all are
pub record IsIn {X : Type 0} (s : State ℕ X) (pid : ℕ) (p : Process ℕ X) : Type 0 where
  pub lives : process pid s ≡ Some p
  pub directory : is_directory_at s.tree p.cwd.host ≡ true

-- the guest text of a working directory is its guest name
abbrev pub WorkingTextsAreNames : Type 0 → Type 0
WorkingTextsAreNames X =
    (table : List Row) (s : State ℕ X) (tags : TagTable) (pid : ℕ) (p : Process ℕ X) → CanBeTold table s tags → IsIn s pid p
    → (name : List ℕ) × (option_and_then (λ p. name_text (space_of table s) p 0 []) (cwd_of pid s) ≡ Some name) × (working_text (told_texts table s pid tags) pid ≡ Some name)

-- getcwd(2), of a process whose memory is equal but for marked bytes to that of one at its first stop
abbrev pub CwdsAreAnsweredAlike : Type 0
CwdsAreAnsweredAlike =
    (table : List Row) (s : State ℕ Image) (tags : TagTable) (pid : ℕ) (p : Process ℕ Image) (m : Memory) (t : Stopped) (buf size : ℕ) → CanBeTold table s tags → IsIn s pid p → IsThere t → AreEqualUnmarked m.pages (memory_at t).pages
    → AreAnsweredAlike (carried_out (operation pid (call.Getcwd buf size) (seen table pid s (call.Getcwd buf size)) (known image_layout pid s)) m) (applied (cwd_answer (told_texts table s pid tags) pid size buf) t)

-- the text of a link of the process directory, where a tracer answers with its first bytes
abbrev pub LinkTextsAreToldAlike : Type 0
LinkTextsAreToldAlike =
    (m : Memory) (t : Stopped) (text : List ℕ) (buf count : ℕ) → IsThere t → AreEqualUnmarked m.pages (memory_at t).pages
    → AreAnsweredAlike (carried_out (tell_text buf count text) m) (applied (lead_answer text (record { buf = buf; count = count })) t)

-- and where it answers with an error
abbrev pub ErrorsAreToldAlike : Type 0
ErrorsAreToldAlike = (m : Memory) (t : Stopped) (e : Errno) → IsThere t → AreEqualUnmarked m.pages (memory_at t).pages → AreAnsweredAlike (carried_out (refuse e) m) (applied (Cancel e) t)
