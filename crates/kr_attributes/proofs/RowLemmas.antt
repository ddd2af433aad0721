-- One row in place of another.
use Rattle.std.proofs.Common.{◌≡◌, ℕ, sym, ap, ◌∙◌, None}
use Rattle.kr_seen.specs.kr_model.Applied.{Mounts}
use Rattle.kr_seen.specs.kr_model.Known.{Known, known}
use Rattle.kr_seen.specs.kr_model.Reply.{Replying}
use Rattle.kr_seen.specs.kr_model.State as model
use Rattle.kr_seen.specs.kr_model.declared.outcome.Outcome.{Outcome}
use Rattle.kr_seen.specs.kr_ops.declared.state.State.{State}
use Rattle.kr_seen.specs.kr_ops.Meaning.{meaning}
use Rattle.kr_seen.specs.Carrying.{IsCarriedOut, after_row, carried}
use Rattle.kr_seen.specs.PerformedRows.{IsPerformed}

module _ {T : Type 0} {M : ℕ} (pid : ℕ) (row : Known → Replying) (old new : State T M) (result : Outcome) where
  -- a row that is another one on what is known
  pub by-row : (mounts : Mounts T) (other : Known → Replying) → row (known model.image_layout pid (meaning old)) ≡ other (known model.image_layout pid (meaning old))
      → IsCarriedOut mounts pid other old new result → IsCarriedOut mounts pid row old new result
  by-row mounts other e h = record {
    outcome = h.outcome ∙ ap (λ (r : Replying). (carried pid r (meaning old)).reply.outcome) (sym e);
    state = h.state ∙ ap (λ (r : Replying). after_row mounts pid (carried pid r (meaning old)) (meaning old)) (sym e);
  }

  -- what was carried out whatever the mounts are
  pub at-all : ((mounts : Mounts T) → IsCarriedOut mounts pid row old new result) → IsPerformed pid row old new result
  at-all h = let none : Mounts T = record { found = None; directory = None } in record { outcome = (h none).outcome; state = λ mounts. (h mounts).state }

  pub at-mounts : (mounts : Mounts T) → IsPerformed pid row old new result → IsCarriedOut mounts pid row old new result
  at-mounts mounts h = record { outcome = h.outcome; state = h.state mounts }
