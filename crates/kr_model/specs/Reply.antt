-- What a call comes to: an outcome, and the changes that it makes.
use Rattle.std.specs.Prelude.{ℕ, Bool, true, false, List, [], ◌∷◌, pos, negsuc, neg_ℤ}
use Rattle.kr_calls.specs.pr_base.declared.errno.Errno.{Errno}
use Rattle.kr_calls.specs.pr_base.declared.errno.Errno.TheVariants.{ENOSYS}
use Rattle.kr_calls.specs.pr_base.Errno.{errno_number}
use Rattle.kr_calls.specs.rv_mem.Actions.{Action, Done}
use Rattle.kr_model.specs.declared.outcome.Outcome.{Outcome}
use Rattle.kr_model.specs.declared.outcome.Outcome.TheVariants.{Answer, Wait, Ended, NoMemory}
use Rattle.kr_model.specs.Change.{Change, End}

pub record Reply : Type 0 where
  pub outcome : Outcome
  pub changes : List Change

abbrev pub Replying : Type 0
Replying = Action Reply

abbrev pub answers : ℕ → List Change → Reply
answers n changes = record { outcome = Answer (pos n); changes = changes }

-- a refused call answers the negated number of the error, and changes nothing
abbrev pub refusal : Errno → Reply
refusal e = record { outcome = Answer (neg_ℤ (pos (errno_number e))); changes = [] }

abbrev pub done : ℕ → List Change → Replying
done n changes = Done (answers n changes)

abbrev pub refuse : Errno → Replying
refuse e = Done (refusal e)

abbrev pub waits : Replying
waits = Done (record { outcome = Wait; changes = [] })

abbrev pub ends : ℕ → Replying
ends status = Done (record { outcome = Ended; changes = End status ∷ [] })

-- whether an outcome is an error
abbrev pub is_refusal : Outcome → Bool
is_refusal (Answer (pos n)) = false
is_refusal (Answer (negsuc n)) = true
is_refusal Wait = false
is_refusal Ended = false
is_refusal NoMemory = false

-- ENOSYS, which no call that is decoded answers
abbrev pub unbuilt : Outcome
unbuilt = (refusal ENOSYS).outcome
