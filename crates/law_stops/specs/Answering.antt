-- A call along paths that the tracer answers at its first stop, where the kernel with mounts answers the same and writes the same bytes.
use Rattle.std.specs.Prelude.{◌≡◌, ℤ, true, [], Some, Ok}
use Rattle.law_edits.specs.rv_mem.Actions.{AreEqualUnmarked}
use Rattle.law_turns.specs.pt_results.Notes.{noted, tags_after}
use Rattle.law_turns.specs.kr_calls.CallTable.{line}
use Rattle.law_turns.specs.kr_calls.declared.request.Request.{Request}
use Rattle.law_edits.specs.kr_model.declared.outcome.Outcome.TheVariants.{Answer}
use Rattle.law_turns.specs.kr_turns.Target.{LooksUpOne}
use Rattle.law_edits.specs.pt_faker.Stopping.{memory_at}
use Rattle.law_edits.specs.pt_tracer.Planning.{led_of}
use Rattle.law_edits.specs.pt_tracer.Watched.{applied}
use Rattle.law_turns.specs.law_kept.ImagePaths.{is_told_of_paths}
use Rattle.law_stops.specs.Noting.{told_answer}
use Rattle.law_stops.specs.Scene.{IsCalm, Scene, asked, at_first_stop, edit_there, texts_there}
use Rattle.law_stops.specs.Swapping.{at_entry, carried_here}
use Rattle.law_stops.specs.Turning.{ComeToCall, StayTogether}

-- the tracer tells an answer in the kernel's place; the row of the kernel with mounts tells it, too, and changes nothing but memory
pub record IsAnsweredAlike {S : Type 0} (scene : Scene S) (r : Request) (answer : ℤ) : Type 0 where
  pub decoded : asked scene ≡ Ok r
  pub kind : is_told_of_paths r ≡ true
  -- it is none that looks up one path
  pub apart : LooksUpOne (line r).told → ⊥
  pub answers : (applied (edit_there scene r) (at_first_stop scene)).answer ≡ Some answer
  pub replies : (carried_here scene r).reply ≡ record { outcome = Answer answer; changes = [] }
  -- what both have written is the same, but for marked bytes
  pub alike : AreEqualUnmarked (carried_here scene r).memory.pages (memory_at (at_entry scene r)).pages
  -- and of such an answer no tag is noted
  pub silent : tags_after scene.traced.watcher.tags scene.pid (noted r (led_of (texts_there scene) scene.pid r).index (told_answer answer)) ≡ scene.traced.watcher.tags

-- such a call and its stops keep the match, where it breaks no calm rule
abbrev pub AnsweredCallsGoTogether : Type 0 → Type 0
AnsweredCallsGoTogether S = (scene : Scene S) (r : Request) (answer : ℤ) → ComeToCall scene → IsAnsweredAlike scene r answer → IsCalm scene → StayTogether scene
