-- What calls leave of lawful states.
use Rattle.std.specs.Prelude.{◌≡◌, ◌≢◌, ◌<◌, ◌^◌, ℕ, suc, List, Option, Some}
use Rattle.law_allowed.specs.Allowed.{HoldsBytes}
use Rattle.law_allowed.specs.kr_calls.declared.request.Request.{Request}
use Rattle.law_allowed.specs.kr_view.View.{Row}
use Rattle.law_allowed.specs.kr_view.declared.target.Target.{Target}
use Rattle.law_allowed.specs.kr_model.Lawful.{IsLawful}
use Rattle.law_allowed.specs.kr_model.Operation.{IsNoExec}
use Rattle.law_allowed.specs.kr_model.State as model
use Rattle.law_allowed.specs.kr_model.Walks.{told}
use Rattle.law_allowed.specs.kr_model.declared.outcome.Outcome.{Outcome}
use Rattle.law_allowed.specs.kr_model.declared.outcome.Outcome.TheVariants.{NoMemory}
use Rattle.law_allowed.specs.Lasting.{Lasts}
use Rattle.law_allowed.specs.Calls.{IsGivable, IsToldIn}
use Rattle.kr_rows.specs.kr_ops.declared.state.State.{State}
use Rattle.kr_rows.specs.kr_ops.Meaning.{meaning}
use Rattle.kr_transfer.specs.kr_seen.Numbered.{state_numbered}
use Rattle.kr_perform.specs.Operating.{OperatesAt, mounts_at, placed_targets}

-- a lawful state in which lasts what calls keep, after `calls` of them
pub record LastsLawful {T : Type 0} (number : T → ℕ) (table : List Row) (calls : ℕ) (s : model.State T model.Image) : Type 0 where
  pub lawful : IsLawful number table s
  pub lasts : Lasts calls s

-- a call, other than execve, that was carried out on such a state left one, a call later: of a caller whose memory holds bytes, a
-- request that decoding can give, and targets that are told as they are
abbrev pub PerformedLast : Type 0 → ℕ → Type 0
PerformedLast T M =
    (number : T → ℕ) (table : List Row) (calls pid : ℕ) (request : Request) (first second : Option (Target T)) (old new : State T M) (result : Outcome) (caller : model.Process T model.Image)
    → IsNoExec request → OperatesAt number table pid request first second old new result → result ≢ NoMemory → calls < 2 ^ 31 → LastsLawful number table calls (meaning old) → model.process pid (meaning old) ≡ Some caller
    → HoldsBytes caller.image.memory.pages → IsGivable request
    → IsToldIn number table (mounts_at first) (meaning old).tree (told table pid (state_numbered number (meaning old)) request (placed_targets number first second))
    → LastsLawful number table (suc calls) (meaning new)
