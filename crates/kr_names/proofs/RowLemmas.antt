-- One row in place of another.
use Rattle.std.proofs.Common.{◌≡◌, ℕ, sym, ap, ◌∙◌}
use Rattle.kr_seen.specs.kr_model.Applied.{Mounts}
use Rattle.kr_seen.specs.kr_model.Known.{Known, known}
use Rattle.kr_seen.specs.kr_model.Reply.{Replying}
use Rattle.kr_seen.specs.kr_model.State as model
use Rattle.kr_seen.specs.kr_model.declared.outcome.Outcome.{Outcome}
use Rattle.kr_seen.specs.kr_ops.declared.state.State.{State}
use Rattle.kr_seen.specs.kr_ops.Meaning.{meaning}
use Rattle.kr_seen.specs.Carrying.{IsCarriedOut, after_row, carried}

pub by-row : {T : Type 0} {M : ℕ} (mounts : Mounts T) (pid : ℕ) (row other : Known → Replying) (old new : State T M) (result : Outcome)
    → row (known model.image_layout pid (meaning old)) ≡ other (known model.image_layout pid (meaning old)) → IsCarriedOut mounts pid other old new result → IsCarriedOut mounts pid row old new result
by-row mounts pid row other old new result e h = record {
  outcome = h.outcome ∙ ap (λ (r : Replying). (carried pid r (meaning old)).reply.outcome) (sym e);
  state = h.state ∙ ap (λ (r : Replying). after_row mounts pid (carried pid r (meaning old)) (meaning old)) (sym e);
}
