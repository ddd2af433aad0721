-- The second stop of a call, where no identity is told: the registers are given back, all but a0, which has the answer.
use Rattle.std.specs.FinMap as map
use Rattle.std.specs.Prelude.{◌≡◌, ℕ, ℤ, false, List, Option, None, Some, Ok, slice_set}
use Rattle.std.specs.Int.{cast_signed, w64}
use Rattle.pt_tracer.specs.rv_mem.Memory.{Memory}
use Rattle.law_walks.specs.kr_calls.declared.request.Request.{Request}
use Rattle.kr_turns.specs.kr_stops.Stopped.{IsThere, Stopped, edited, image_at}
use Rattle.pt_tracer.specs.pt_results.Notes.{noted, tags_after}
use Rattle.pt_tracer.specs.pt_faker.Faking.{word_of}
use Rattle.pt_tracer.specs.pt_faker.Stopping.{after_request, decoded_at, memory_at, with_memory}
use Rattle.pt_tracer.specs.Planning.{stack_at}
use Rattle.pt_tracer.specs.Registers.{arguments_at}
use Rattle.pt_tracer.specs.Watched.{Tracing, awaiting, exited, is_execve, with_tags, without_pending}
use Rattle.pt_tracer.specs.declared.plan.Led.{Led}
use Rattle.law_edits.specs.NoCalls.{without_call}
use Rattle.law_edits.specs.Requests.{AreOfPaths, NewText}
use Rattle.law_edits.specs.Shelves.{registers_behind}

-- what is left: the tags that the answer asks for, and the registers of the first stop with the answer
abbrev pub left_with : Tracing → Stopped → Request → Led → ℕ → List ℕ → Tracing × Stopped
left_with x v r led word old = (
  with_tags (tags_after x.tags v.pid (noted r led.index (cast_signed w64 word))) (without_pending v.pid x),
  edited (record { x = slice_set old 10 word; pc = (image_at v).regs.pc }) (memory_at v) v,
)

-- behind a swap the kernel's answer stays
abbrev pub ExitsBehindSwaps : Type 0
ExitsBehindSwaps =
    (x : Tracing) (t v : Stopped) (r : Request) (first : NewText) (second : Option NewText) (led : Led) (word : ℕ) → x.identities ≡ None
    → map.get x.pending v.pid ≡ Some (awaiting (arguments_at (after_request t)) r led None) → is_execve r ≡ false → (decoded_at t).reply ≡ Ok r → AreOfPaths r first second → IsThere t → IsThere v
    → (image_at v).regs.x ≡ slice_set (registers_behind (stack_at (after_request t)) first second (image_at t).regs).x 10 word
    → exited x v ≡ left_with x v r led word (image_at t).regs.x

-- a call that was answered at the first stop is told that answer, whatever the kernel told it
abbrev pub ExitsBehindAnswers : Type 0
ExitsBehindAnswers =
    (x : Tracing) (t v : Stopped) (memory : Memory) (r : Request) (led : Led) (answer : ℤ) (word : ℕ) → x.identities ≡ None
    → map.get x.pending v.pid ≡ Some (awaiting (arguments_at (with_memory memory t)) r led (Some answer)) → (decoded_at t).reply ≡ Ok r → IsThere t → IsThere v
    → (image_at v).regs.x ≡ slice_set (without_call (image_at t).regs).x 10 word
    → exited x v ≡ left_with x v r led (word_of answer) (image_at t).regs.x
