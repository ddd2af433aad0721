-- A call of a process, to its end.
use Rattle.std.specs.Prelude.{◌≡◌, ℕ, List}
use Rattle.kr_perform.specs.kr_calls.declared.request.Request.{Request}
use Rattle.kr_perform.specs.kr_view.View.{Row}
use Rattle.kr_perform.specs.kr_model.State.{Image, State as Model}
use Rattle.kr_perform.specs.kr_model.declared.outcome.Outcome.{Outcome}
use Rattle.kr_perform.specs.kr_model.declared.outcome.Outcome.TheVariants.{Answer, Wait, Ended, NoMemory}
use Rattle.kr_perform.specs.kr_ops.declared.state.State.{State}
use Rattle.kr_perform.specs.kr_ops.Meaning.{meaning}
use Rattle.kr_perform.specs.Calling.{IsCalled}
use Rattle.kr_steps.specs.Answering.{answered, waiting}
use Rattle.kr_steps.specs.declared.calling.Called.{Called}
use Rattle.kr_steps.specs.declared.calling.Called.TheVariants as called

-- what becomes of the caller by the outcome: it is told an answer, or stays where its call waits; one that ended is gone already
abbrev pub settled : {T : Type 0} → ℕ → Outcome → Model T Image → Model T Image
settled pid (Answer value) s = answered pid value s
settled pid Wait s = waiting pid s
settled pid Ended s = s
settled pid NoMemory s = s

abbrev pub Tells : Outcome → Called → Type 0
Tells (Answer value) told = told ≡ called.Answered
Tells Wait told = told ≡ called.Waits
Tells Ended told = told ≡ called.Ended
Tells NoMemory told = ⊥

-- a call with its walks came to an outcome, by which the caller was settled
pub record IsSettled {T : Type 0} {M : ℕ} (number : T → ℕ) (table : List Row) (pid : ℕ) (request : Request) (old new : State T M) (told : Called) : Type 0 where
  pub after : State T M
  pub outcome : Outcome
  pub called : IsCalled number table pid request old after outcome
  pub settles : meaning new ≡ settled pid outcome (meaning after)
  pub tells : Tells outcome told
