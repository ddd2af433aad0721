-- The tracer at the stops of a call without a path, where no identity is told: it lets the process be.
use Rattle.std.specs.FinMap as map
use Rattle.std.specs.Prelude.{◌≡◌, false, None, Some, Ok}
use Rattle.law_turns.specs.kr_calls.declared.request.Request.{Request}
use Rattle.law_turns.specs.pt_results.Notes.{noted, tags_after}
use Rattle.law_edits.specs.pt_faker.Stopping.{IsThere, Stopped, after_request, decoded_at}
use Rattle.law_edits.specs.pt_tracer.Planning.{nowhere}
use Rattle.law_edits.specs.pt_tracer.Registers.{arguments_at}
use Rattle.law_edits.specs.pt_tracer.Watched.{Tracing, answer_at, awaiting, entered, exited, is_execve, with_pending, with_tags, without_pending}
use Rattle.law_edits.specs.pt_tracer.declared.pending.Pending.{Pending}
use Rattle.law_turns.specs.Pathless.{IsPathless}

-- at the first stop only what decoding reads is noted; what stands in the arguments is kept for the second
abbrev pub EntriesPass : Type 0
EntriesPass =
    (x : Tracing) (t : Stopped) (r : Request) → x.identities ≡ None → (decoded_at t).reply ≡ Ok r → IsPathless r
    → entered x t ≡ (with_pending (map.insert x.pending t.pid (awaiting (arguments_at (after_request t)) r nowhere None)) x, after_request t)

-- at the second one, of a call that begins no program, the process is left as it is, where its arguments are as they were, and tags are set as its answer says
abbrev pub ExitsPass : Type 0
ExitsPass =
    (x : Tracing) (t : Stopped) (p : Pending) → x.identities ≡ None → map.get x.pending t.pid ≡ Some p → is_execve p.request ≡ false → p.answer ≡ None → p.passed ≡ arguments_at t → IsThere t
    → exited x t ≡ (with_tags (tags_after x.tags t.pid (noted p.request p.led.index (answer_at t))) (without_pending t.pid x), t)
