-- Calls of a process that computes on the same in two states, which are equal but for what others compute on.
use Rattle.std.specs.Prelude.{◌≡◌, ℕ, Bool, true, false, ◌||◌, ◌==◌, List, Option}
use Rattle.std.specs.Option.{option_map_or}
use Rattle.kr_core.specs.kr_calls.declared.request.Request.{Request}
use Rattle.kr_core.specs.kr_view.View.{Row}
use Rattle.kr_core.specs.kr_view.declared.target.Reach.{Reach}
use Rattle.kr_core.specs.kr_model.Known.{known}
use Rattle.kr_core.specs.kr_model.Lawful.{ArePids}
use Rattle.kr_core.specs.kr_model.ProcessDirectory.{around_of}
use Rattle.kr_core.specs.kr_model.State.{Image, State, image_layout}
use Rattle.kr_core.specs.kr_model.Walks.{seen, targets_of}
use Rattle.kr_core.specs.kr_turns.PlainCall.{Came, plain_call, plain_reach}
use Rattle.law_beside.specs.Beside.{AreBeside, laid}

-- of what processes compute on a call knows the layouts alone, and its walks go by nothing of it
pub record CallsKnowLayouts : Type 0 where
  pub known : (pid : ℕ) (s : State ℕ Image) → known image_layout pid s ≡ known (λ layout. layout) pid (laid s)
  pub around : (table : List Row) (caller : ℕ) (s : State ℕ Image) → around_of table caller s ≡ around_of table caller (laid s)
  pub targets : (table : List Row) (pid : ℕ) (s : State ℕ Image) (r : Request) → targets_of table pid s r ≡ targets_of table pid (laid s) r
  pub seen : (table : List Row) (pid : ℕ) (s : State ℕ Image) (r : Request) → seen table pid s r ≡ seen table pid (laid s) r

-- whether a process is the child that a call bore
abbrev pub is_child : Option ℕ → ℕ → Bool
is_child child q = option_map_or (λ pid. q == pid) child false

-- what two calls came to is the same but for what some processes compute on; a child that is born computes on the same
pub record ComeBeside (among : ℕ → Bool) (c d : Came) : Type 0 where
  pub end : c.end ≡ d.end
  pub child : c.child ≡ d.child
  pub handed : c.handed ≡ d.handed
  pub state : AreBeside (λ q. among q || is_child c.child q) c.state d.state

-- so it is of a process that computes on the same, from its decoding on
pub record PlainCallsComeBeside : Type 0 where
  pub call : (among : ℕ → Bool) (table : List Row) (pid : ℕ) (s t : State ℕ Image) → ArePids s → among pid ≡ true → AreBeside among s t
      → ComeBeside among (plain_call table pid s) (plain_call table pid t)
  -- and its walks reach the same
  pub reach : (among : ℕ → Bool) (table : List Row) (pid : ℕ) (s t : State ℕ Image) (before : Reach) → among pid ≡ true → AreBeside among s t
      → plain_reach table pid s before ≡ plain_reach table pid t before
