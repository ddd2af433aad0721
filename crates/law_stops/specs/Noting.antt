-- What a tracer notes of calls without a path is what their changes make of the tags.
use Rattle.std.specs.Prelude.{◌≡◌, ℕ, ℤ, List, Option, Some, None}
use Rattle.std.specs.Int.{cast_signed, cast_unsigned, w64}
use Rattle.law_edits.specs.rv_mem.Actions.{carried_out}
use Rattle.law_edits.specs.rv_mem.Memory.{Memory}
use Rattle.law_edits.specs.pt_bind.Tags.{TagTable, dropped, forked}
use Rattle.law_turns.specs.pt_results.Notes.{noted, tags_after}
use Rattle.law_edits.specs.kr_view.View.{Row}
use Rattle.law_turns.specs.kr_calls.declared.request.Request.{Request}
use Rattle.law_edits.specs.kr_model.Applied.{Mounts}
use Rattle.law_edits.specs.kr_model.Known.{known}
use Rattle.law_edits.specs.kr_model.Operation.{operation}
use Rattle.law_edits.specs.kr_model.Seen.{NoPath}
use Rattle.law_edits.specs.kr_model.State.{Image, State, image_layout}
use Rattle.law_edits.specs.kr_model.declared.outcome.Outcome.{Outcome}
use Rattle.law_edits.specs.kr_model.declared.outcome.Outcome.TheVariants.{Answer, Wait, Ended, NoMemory}
use Rattle.law_turns.specs.kr_turns.PlainCall.{child_of}
use Rattle.law_turns.specs.law_places.Matching.{AreTagged}
use Rattle.law_turns.specs.Changing.{all_tags_made}
use Rattle.law_turns.specs.Pathless.{IsPathless}

-- the tags with those of a child, if one was made
abbrev pub with_child : ℕ → Option ℕ → TagTable → TagTable
with_child pid None tags = tags
with_child pid (Some child) tags = forked tags pid child

-- an answer as it stands in a0 and is read with its sign
abbrev pub told_answer : ℤ → ℤ
told_answer value = cast_signed w64 (cast_unsigned w64 value)

-- by the outcome of a call: behind the birth of a child the note of an answer is taken, and a caller that ended has no tags
abbrev pub tags_told : ℕ → ℕ → Request → Outcome → TagTable → TagTable
tags_told pid next r (Answer value) tags = tags_after (with_child pid (child_of next r (Answer value)) tags) pid (noted r 0 (told_answer value))
tags_told pid next r Wait tags = tags
tags_told pid next r Ended tags = dropped tags pid
tags_told pid next r NoMemory tags = tags

-- in a state where each slot's tag is the index of its mount
abbrev pub NotesFollow : Type 0
NotesFollow =
    (table : List Row) (mounts : Mounts ℕ) (pid : ℕ) (t : State ℕ Image) (tags : TagTable) (r : Request) (memory : Memory) → IsPathless r → mounts.found ≡ None → mounts.directory ≡ None → AreTagged table t tags
    → let reply = (carried_out (operation pid r NoPath (known image_layout pid t)) memory).reply in
    all_tags_made table mounts pid t reply.changes tags ≡ tags_told pid t.next_pid r reply.outcome tags
