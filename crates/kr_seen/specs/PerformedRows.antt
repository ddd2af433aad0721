-- What is left of a state where a call without a path was carried out, by the definition of its row.
use Rattle.std.specs.Prelude.{◌≡◌, ◌≢◌, ℕ, ℤ, [], Option}
use Rattle.std.specs.Option.{option_map, option_and_then}
use Rattle.kr_ops.specs.rv_mem.Actions.{Done}
use Rattle.kr_ops.specs.kr_model.Applied.{Mounts}
use Rattle.kr_ops.specs.kr_model.Asking.{descriptor_number}
use Rattle.kr_ops.specs.kr_model.Known.{Known, known}
use Rattle.kr_ops.specs.kr_model.Reply.{Replying}
use Rattle.kr_ops.specs.kr_model.State as model
use Rattle.kr_ops.specs.kr_model.declared.outcome.Outcome.{Outcome}
use Rattle.kr_ops.specs.kr_model.declared.outcome.Outcome.TheVariants.{NoMemory}
use Rattle.kr_ops.specs.declared.state.State.{State}
use Rattle.kr_ops.specs.Meaning.{meaning}
pub use Rattle.kr_seen.specs.Carrying.{no_memory, with_memory, memory_of, with_memory_of, carried, after_row}

-- a reply that changes nothing
abbrev pub unchanged : Outcome → Replying
unchanged outcome = Done (record { outcome = outcome; changes = [] })

module _ {T : Type 0} {M : ℕ} where
  -- the row of what the caller knows gave this outcome, and left this state, whatever the mounts of the call's path are
  pub record IsPerformed (pid : ℕ) (row : Known → Replying) (old new : State T M) (result : Outcome) : Type 0 where
    pub outcome : result ≡ (carried pid (row (known model.image_layout pid (meaning old))) (meaning old)).reply.outcome
    pub state : (mounts : Mounts T) → meaning new ≡ after_row mounts pid (carried pid (row (known model.image_layout pid (meaning old))) (meaning old)) (meaning old)

  -- after want of memory nothing is promised
  abbrev pub Performs : ℕ → (Known → Replying) → State T M → State T M → Outcome → Type 0
  Performs pid row old new result = result ≢ NoMemory → IsPerformed pid row old new result

-- the number of an open descriptor
abbrev pub open_number : Known → ℤ → Option ℕ
open_number k fd = option_and_then (λ n. option_map (λ o. n) (k.opened n)) (descriptor_number fd)
