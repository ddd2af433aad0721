-- What calls leave of a state, by their replies.
use Rattle.std.proofs.Common.{◌≡◌, ℕ, [], refl, sym, ap, ◌∙◌}
use Rattle.kr_ops.specs.rv_mem.Actions.{Done}
use Rattle.kr_ops.specs.kr_model.Applied.{Mounts, all_applied, images}
use Rattle.kr_ops.specs.kr_model.Known.{Known, known}
use Rattle.kr_ops.specs.kr_model.Lawful.{ArePids}
use Rattle.kr_ops.specs.kr_model.Reply.{Reply, Replying, refusal, refuse}
use Rattle.kr_ops.specs.kr_model.State as model
use Rattle.kr_ops.specs.kr_model.declared.outcome.Outcome.{Outcome}
use Rattle.kr_ops.specs.pr_base.declared.errno.Errno.{Errno}
use Rattle.kr_ops.specs.declared.state.State.{State}
use Rattle.kr_ops.specs.Meaning.{meaning}
pub use Rattle.kr_seen.proofs.CarryLemmas.{own-memory, pages-alike}
use Rattle.kr_seen.specs.PerformedRows.{IsPerformed, after_row, carried, unchanged}

module _ {T : Type 0} {M : ℕ} (pid : ℕ) (row : Known → Replying) (old new : State T M) (result : Outcome) (pids : ArePids (meaning old)) where
  -- a row that doesn't use the memory
  pub by-reply : (reply : Reply) → row (known model.image_layout pid (meaning old)) ≡ Done reply → result ≡ reply.outcome
      → ((mounts : Mounts T) → meaning new ≡ all_applied images mounts pid reply.changes (meaning old)) → IsPerformed pid row old new result
  by-reply reply e outcome state = record {
    outcome = outcome ∙ sym (ap (λ (r : Replying). (carried pid r (meaning old)).reply.outcome) e);
    state = λ mounts.
        state mounts
        ∙ ap (λ s. all_applied images mounts pid reply.changes s) (sym (own-memory pid (meaning old) pids))
        ∙ sym (ap (λ (r : Replying). after_row mounts pid (carried pid r (meaning old)) (meaning old)) e);
  }

  -- a refusal
  pub by-refusal : (e : Errno) → row (known model.image_layout pid (meaning old)) ≡ refuse e → result ≡ (refusal e).outcome → meaning new ≡ meaning old → IsPerformed pid row old new result
  by-refusal e is outcome same = by-reply (refusal e) is outcome (λ mounts. same)

  -- a row that is another one on what is known
  pub by-row : (other : Known → Replying) → row (known model.image_layout pid (meaning old)) ≡ other (known model.image_layout pid (meaning old)) → IsPerformed pid other old new result → IsPerformed pid row old new result
  by-row other e done = record {
    outcome = done.outcome ∙ sym (ap (λ (r : Replying). (carried pid r (meaning old)).reply.outcome) e);
    state = λ mounts. done.state mounts ∙ sym (ap (λ (r : Replying). after_row mounts pid (carried pid r (meaning old)) (meaning old)) e);
  }

  -- a reply that changes nothing
  pub by-unchanged : row (known model.image_layout pid (meaning old)) ≡ unchanged result → meaning new ≡ meaning old → IsPerformed pid row old new result
  by-unchanged e same = by-reply (record { outcome = result; changes = [] }) e refl (λ mounts. same)
