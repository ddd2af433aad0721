-- What is done on the memory of a stopped process in place of its call.
use Rattle.std.specs.Prelude.{◌≡◌, ℕ, ℤ, Option, Some, None}
use Rattle.pt_ident.specs.rv_mem.Actions.{Action, carried_out}
use Rattle.kr_stops.specs.Editing.{memory_at, with_memory}
use Rattle.kr_stops.specs.Stopped.{Stopped}
use Rattle.pt_ident.specs.Identity.{Effect, Identity, on_memory}

-- an action was carried out on its memory, with this reply
pub record CarriesOut {A : Type 0} (action : Action A) (reply : A) (old new : Stopped) : Type 0 where
  pub tells : (carried_out action (memory_at old)).reply ≡ reply
  pub leaves : new ≡ with_memory (carried_out action (memory_at old)).memory old

abbrev pub on_its_memory : Action (Unit {0}) → Stopped → Stopped
on_its_memory action t = with_memory (carried_out action (memory_at t)).memory t

-- an action that hands a number on, if it comes to one: it came to this number, and what follows is done on what it left; or it ended
abbrev pub GoesOn : ((ℕ → Action (Unit {0})) → Action (Unit {0})) → Option ℕ → (old new : Stopped) → Type 0
GoesOn action None old new = (next : ℕ → Action (Unit {0})) → new ≡ on_its_memory (action next) old
GoesOn action (Some n) old new = (next : ℕ → Action (Unit {0})) → on_its_memory (next n) new ≡ on_its_memory (action next) old

-- a call was carried out in place of the kernel, with this answer, if it is one on users and groups; else nothing was done
abbrev pub AnswersAny : (i : Identity) → Option Effect → Option ℤ → (j : Identity) → (old new : Stopped) → Type 0
AnswersAny i None None j old new = (j ≡ i) × (new ≡ old)
AnswersAny i (Some e) (Some answer) j old new = CarriesOut (on_memory i e) (record { answer = answer; identity = j }) old new
AnswersAny i None (Some answer) j old new = ⊥
AnswersAny i (Some e) None j old new = ⊥
