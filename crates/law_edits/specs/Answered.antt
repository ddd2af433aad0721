-- A call that a tracer answers at its first stop: the plain kernel finds none, and refuses it.
use Rattle.std.specs.Prelude.{◌≡◌, List, ℤ, Some, Ok, Err}
use Rattle.pt_tracer.specs.pr_base.declared.errno.Errno.TheVariants.{ENOSYS}
use Rattle.pt_tracer.specs.rv_mem.Memory.{Memory}
use Rattle.law_walks.specs.kr_calls.declared.request.Request.{Request}
use Rattle.law_walks.specs.kr_view.View.{Row}
use Rattle.kr_turns.specs.PlainCall.{after_decoding, plain_call, refusal_told}
use Rattle.kr_turns.specs.kr_stops.Stopped.{IsThere, Stopped, image_at}
use Rattle.pt_tracer.specs.pt_args.declared.edit.Edit.{Edit}
use Rattle.pt_tracer.specs.pt_faker.Stopping.{after_request, decoded_at, memory_at, with_memory}
use Rattle.pt_tracer.specs.Watched.{applied}
use Rattle.law_edits.specs.NoCalls.{without_call}

-- what the kernel makes of a stopped process goes by what is decoded of it
abbrev pub PlainCallsAreDecoded : Type 0
PlainCallsAreDecoded = (table : List Row) (t : Stopped) → IsThere t → plain_call table t.pid t.state ≡ after_decoding table t.pid (decoded_at t).reply (after_request t).state

-- it has the number of no call, so that the kernel tells it ENOSYS in a0, and does nothing else
pub record StandsAtNoCall (t v : Stopped) : Type 0 where
  pub there : IsThere v
  pub pid : v.pid ≡ t.pid
  pub registers : (image_at v).regs ≡ without_call (image_at t).regs
  pub decodes : (decoded_at v).reply ≡ Err ENOSYS
  pub memory : (decoded_at v).memory ≡ memory_at v
  pub refuses : (table : List Row) → plain_call table v.pid v.state ≡ refusal_told v.pid ENOSYS v.state

-- so it is of each edit that answers the call, whatever memory a plan left: where it is cancelled, where it is carried out here, and
-- where bytes can't be written
abbrev pub AnsweredCallsAreNone : Type 0
AnsweredCallsAreNone =
    (t : Stopped) (memory : Memory) (r : Request) (edit : Edit) (answer : ℤ) → IsThere t → (decoded_at t).reply ≡ Ok r → (applied edit (with_memory memory t)).answer ≡ Some answer
    → StandsAtNoCall t (applied edit (with_memory memory t)).stopped
