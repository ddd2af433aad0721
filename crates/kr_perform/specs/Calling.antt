-- A call with its walks: what is asked of a state between calls, and what a call makes of it.
use Rattle.std.specs.Prelude.{◌≡◌, ◌≢◌, ◌<◌, ◌^◌, ℕ, List, IsSome}
use Rattle.std.specs.Option.{option_map}
use Rattle.law_allowed.specs.kr_calls.declared.request.Request.{Request}
use Rattle.law_allowed.specs.kr_view.View.{Row}
use Rattle.law_allowed.specs.kr_model.Applied.{Mounts}
use Rattle.law_allowed.specs.kr_model.Operation.{operation}
use Rattle.law_allowed.specs.kr_model.State.{process}
use Rattle.law_allowed.specs.kr_model.Walks.{targets_of, seen}
use Rattle.law_allowed.specs.kr_model.declared.outcome.Outcome.{Outcome}
use Rattle.law_allowed.specs.Calls.{HasTextPaths, IsGivable}
use Rattle.law_allowed.specs.Told.{SourcesAreNamed, mounts_walked}
use Rattle.kr_rows.specs.kr_ops.declared.state.State.{State}
use Rattle.kr_rows.specs.kr_ops.Meaning.{meaning}
use Rattle.kr_rows.specs.kr_ops.Sound.{IsServed}
use Rattle.kr_transfer.specs.kr_seen.Numbered.{state_numbered}
use Rattle.kr_transfer.specs.kr_seen.Carrying.{IsCarriedOut}
use Rattle.kr_perform.specs.Lawful.{LastsLawful}

-- a request whose arguments can be given, and whose paths are texts
pub record CanBeMade (request : Request) : Type 0 where
  pub given : IsGivable request
  pub paths : HasTextPaths request

-- mounts by their numbers in a view
abbrev pub mounts_numbered : {T : Type 0} → (T → ℕ) → Mounts T → Mounts ℕ
mounts_numbered number mounts = record { found = option_map number mounts.found; directory = option_map number mounts.directory }

module _ {T : Type 0} {M : ℕ} (number : T → ℕ) (table : List Row) where
  -- a state after `calls` calls: lawful, with what lasts, and served by what the code keeps beside it
  pub record Runs (calls : ℕ) (s : State T M) : Type 0 where
    pub lasts : LastsLawful number table calls (meaning s)
    pub served : IsServed s

  -- one after which a call can be made: fewer than 2^31 were
  pub record MayCall (s : State T M) : Type 0 where
    pub calls : ℕ
    pub few : calls < 2 ^ 31
    pub runs : Runs calls s

  -- one in which a process can make it
  pub record CanCall (pid : ℕ) (s : State T M) : Type 0 where
    pub named : SourcesAreNamed table
    pub may : MayCall s
    pub lives : IsSome (process pid (meaning s))

  -- the paths of a call were walked, and then its row was carried out, of what it is told of where they lead
  pub record IsCalled (pid : ℕ) (request : Request) (old new : State T M) (result : Outcome) : Type 0 where
    -- the mounts that the changes of the call name, those to which its first path led
    pub mounts : Mounts T
    pub walked : mounts_numbered number mounts ≡ mounts_walked (targets_of table pid (state_numbered number (meaning old)) request)
    pub carried : IsCarriedOut mounts pid (operation pid request (seen table pid (state_numbered number (meaning old)) request)) old new result
