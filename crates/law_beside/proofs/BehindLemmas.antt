-- What lasts behind each change and each turn of registers lasts behind a call.
use Rattle.std.proofs.Common.{◌≡◌, ℕ, Bool, true, false, List, Option, Some, None, Result, Ok, Err, refl}
use Rattle.std.specs.Prelude.{neg_ℤ, pos}
use Rattle.std.specs.Option.{option_map_or}
use Rattle.kr_core.specs.pr_base.declared.errno.Errno.{Errno}
use Rattle.kr_core.specs.pr_base.Errno.{errno_number}
use Rattle.kr_core.specs.rv_mem.Actions.{CarriedOut, carried_out}
use Rattle.kr_core.specs.rv_mem.Memory.{Memory}
use Rattle.kr_core.specs.rv_mem.declared.regs.Regs.{Regs}
use Rattle.kr_core.specs.kr_calls.Decoding.{Decoded, decoding}
use Rattle.kr_core.specs.kr_calls.declared.request.Request.{Request}
use Rattle.kr_core.specs.kr_calls.declared.request.Request.TheVariants as call
use Rattle.kr_core.specs.kr_execve.Execution.{Program, after_execution, changes_of, execution, mount_of}
use Rattle.kr_core.specs.kr_view.View.{Row}
use Rattle.kr_core.specs.kr_model.Applied.{Mounts, all_applied, images, with_image, with_living}
use Rattle.kr_core.specs.kr_model.Change.{Change}
use Rattle.kr_core.specs.kr_model.Reply.{Reply}
use Rattle.kr_core.specs.kr_model.State.{Image, Process, State, process, with_process}
use Rattle.kr_core.specs.kr_model.Walks.{targets_of}
use Rattle.kr_core.specs.kr_model.declared.outcome.Outcome.{Outcome}
use Rattle.kr_core.specs.kr_model.declared.outcome.Outcome.TheVariants.{Answer, Wait, Ended, NoMemory}
use Rattle.kr_core.specs.kr_seen.Carrying.{after_row, memory_of, with_memory, with_memory_of}
use Rattle.kr_core.specs.kr_steps.Answering.{going, with_answer}
use Rattle.kr_core.specs.kr_steps.Settling.{settled}
use Rattle.kr_core.specs.kr_stops.Stopped.{computed, nothing_handed}
use Rattle.kr_core.specs.kr_turns.PlainCall.{after_decoding, executed, operated, plain_call, plain_call_of, refusal_told, replaced, requested, row_on}
use Rattle.kr_core.specs.kr_turns.declared.plain.CallEnd.TheVariants as end
use Rattle.kr_core.specs.law_allowed.Told.{mounts_walked}

abbrev States : Type 0
States = State ℕ Image

abbrev Lives : Type 0
Lives = Process ℕ Image

-- something lasts where one process alone is given other registers, another memory, or stays at a call, and behind changes of some kind
pub record Lasts (Q : States → Type 0) (Fine : List Change → Type 0) : Type 0 where
  pub alone : (pid : ℕ) (f : Lives → Lives) → ((p : Lives) → (f p).cwd ≡ p.cwd) → (s : States) → Q s → Q (with_living (with_process pid f) s)
  pub changes : (mounts : Mounts ℕ) (pid : ℕ) (cs : List Change) (s : States) → Fine cs → Q s → Q (all_applied images mounts pid cs s)

module _ (Q : States → Type 0) (Fine : List Change → Type 0) (lasts : Lasts Q Fine) (programs : (result : Result Program Errno) → Fine (changes_of result)) (table : List Row) (pid : ℕ) where
  going-lasts : (regs : Regs → Regs) (waits : Bool) (s : States) → Q s → Q (with_living (with_process pid (going regs waits)) s)
  going-lasts regs waits s is = lasts.alone pid (going regs waits) (λ p. refl) s is

  noted-lasts : (memory : Memory) (s : States) → Q s → Q (with_memory_of pid memory s)
  noted-lasts memory s is = lasts.alone pid (with_image (with_memory memory)) (λ p. refl) s is

  pub computed-lasts : (regs : Regs) (memory : Memory) (s : States) → Q s → Q (computed pid regs memory s)
  computed-lasts regs memory s is = lasts.alone pid (with_image (λ (image : Image). record { regs = regs; memory = memory })) (λ p. refl) s is

  settled-lasts : (outcome : Outcome) (s : States) → Q s → Q (settled pid outcome s)
  settled-lasts (Answer value) s is = going-lasts (with_answer value) false s is
  settled-lasts Wait s is = going-lasts (λ regs. regs) true s is
  settled-lasts Ended s is = is
  settled-lasts NoMemory s is = is

  refusal-lasts : (e : Errno) (s : States) → Q s → Q (refusal_told pid e s).state
  refusal-lasts e s is = going-lasts (with_answer (neg_ℤ (pos (errno_number e)))) false s is

  operated-lasts : (r : Request) (s : States) → Fine (row_on table pid r s).reply.changes → Q s → Q (operated table pid r s).state
  operated-lasts r s fine is =
      let done : CarriedOut Reply = row_on table pid r s in
      let mounts : Mounts ℕ = mounts_walked (targets_of table pid s r) in
      settled-lasts done.reply.outcome (after_row mounts pid done s) (lasts.changes mounts pid done.reply.changes (with_memory_of pid done.memory s) fine (noted-lasts done.memory s is))

  replaced-lasts : (result : Result Program Errno) (s : States) → Q s → Q (replaced pid result s).state
  replaced-lasts (Ok program) s is = going-lasts (λ regs. regs) false s is
  replaced-lasts (Err e) s is = refusal-lasts e s is

  executed-lasts : (path : List ℕ) (args env : ℕ) (s : States) → Q s → Q (executed table pid path args env s).state
  executed-lasts path args env s is =
      let done : CarriedOut (Result Program Errno) = carried_out (execution table pid s path args env) (memory_of pid s) in
      let mounts : Mounts ℕ = record { found = mount_of done.reply; directory = None } in
      replaced-lasts done.reply (after_execution mounts pid done s) (lasts.changes mounts pid (changes_of done.reply) (with_memory_of pid done.memory s) (programs done.reply) (noted-lasts done.memory s is))

  requested-lasts : (r : Request) (s : States) → Fine (row_on table pid r s).reply.changes → Q s → Q (requested table pid r s).state
  requested-lasts (call.Execve path args env) s fine is = executed-lasts path args env s is
  requested-lasts r s fine is = operated-lasts r s fine is

  decoded-lasts : (reply : Decoded) (s : States) → ((r : Request) → reply ≡ Ok r → Fine (row_on table pid r s).reply.changes) → Q s → Q (after_decoding table pid reply s).state
  decoded-lasts (Ok r) s fine is = requested-lasts r s (fine r refl) is
  decoded-lasts (Err e) s fine is = refusal-lasts e s is

  -- where the changes of its row are of that kind, whatever is decoded
  pub call-lasts : (s : States)
      → ((p : Lives) → process pid s ≡ Some p → (r : Request) → (carried_out (decoding p.image.regs) p.image.memory).reply ≡ Ok r
      → Fine (row_on table pid r (computed pid p.image.regs (carried_out (decoding p.image.regs) p.image.memory).memory s)).reply.changes)
      → Q s → Q (plain_call table pid s).state
  call-lasts s fine is = by (process pid s) refl
    where
      by : (o : Option Lives) → process pid s ≡ o → Q (option_map_or (plain_call_of table pid s) o (record { state = s; end = end.Waits; child = None; handed = nothing_handed })).state
      by None at = is
      by (Some p) at =
          let done : CarriedOut Decoded = carried_out (decoding p.image.regs) p.image.memory in
          decoded-lasts done.reply (computed pid p.image.regs done.memory s) (fine p at) (computed-lasts p.image.regs done.memory s is)
