-- What is left of a state where a call was carried out, by the definition of its row: the caller's memory as the row left it,
-- and then the changes of the row's reply.
use Rattle.std.specs.Prelude.{◌≡◌, ◌≢◌, ℕ}
use Rattle.std.specs.Option.{option_map_or}
use Rattle.kr_ops.specs.rv_mem.Actions.{CarriedOut, carried_out}
use Rattle.kr_ops.specs.rv_mem.Memory.{Memory}
use Rattle.kr_ops.specs.kr_model.Applied.{Mounts, all_applied, images, with_image, with_living}
use Rattle.kr_ops.specs.kr_model.Known.{Known, known}
use Rattle.kr_ops.specs.kr_model.Reply.{Reply, Replying}
use Rattle.kr_ops.specs.kr_model.State as model
pub use Rattle.kr_ops.specs.kr_model.State.{no_memory}
use Rattle.kr_ops.specs.kr_model.declared.outcome.Outcome.{Outcome}
use Rattle.kr_ops.specs.kr_model.declared.outcome.Outcome.TheVariants.{NoMemory}
use Rattle.kr_ops.specs.declared.state.State.{State}
use Rattle.kr_ops.specs.Meaning.{meaning}

abbrev pub with_memory : Memory → model.Image → model.Image
with_memory memory image = record { regs = image.regs; memory = memory }

module _ {T : Type 0} where
  abbrev pub memory_of : ℕ → model.State T model.Image → Memory
  memory_of pid s = option_map_or (λ p. p.image.memory) (model.process pid s) no_memory

  -- the state with another memory of the caller
  abbrev pub with_memory_of : ℕ → Memory → model.State T model.Image → model.State T model.Image
  with_memory_of pid memory s = with_living (model.with_process pid (with_image (with_memory memory))) s

  -- a row on the caller's memory
  abbrev pub carried : ℕ → Replying → model.State T model.Image → CarriedOut Reply
  carried pid row s = carried_out row (memory_of pid s)

  abbrev pub after_row : Mounts T → ℕ → CarriedOut Reply → model.State T model.Image → model.State T model.Image
  after_row mounts pid done s = all_applied images mounts pid done.reply.changes (with_memory_of pid done.memory s)

module _ {T : Type 0} {M : ℕ} where
  -- the row of what the caller knows gave this outcome, and left this state; `mounts` are those that its changes may name
  pub record IsCarriedOut (mounts : Mounts T) (pid : ℕ) (row : Known → Replying) (old new : State T M) (result : Outcome) : Type 0 where
    pub outcome : result ≡ (carried pid (row (known model.image_layout pid (meaning old))) (meaning old)).reply.outcome
    pub state : meaning new ≡ after_row mounts pid (carried pid (row (known model.image_layout pid (meaning old))) (meaning old)) (meaning old)

  -- after want of memory nothing is promised
  abbrev pub CarriesOut : Mounts T → ℕ → (Known → Replying) → State T M → State T M → Outcome → Type 0
  CarriesOut mounts pid row old new result = result ≢ NoMemory → IsCarriedOut mounts pid row old new result
