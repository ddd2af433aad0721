-- The call of a turn is its three steps.
use Rattle.std.proofs.Common.{◌≡◌, ℕ, List, Option, Some, None, refl, sym, ap, subst, ◌∙◌}
use Rattle.kr_execve.specs.kr_view.View.{Row}
use Rattle.kr_steps.specs.kr_model.State.{Image, Process, State, process}
use Rattle.kr_turns.specs.Breaking.{plain_rule}
use Rattle.kr_turns.specs.PlainCall.{Came, plain_call}
use Rattle.kr_turns.specs.Shelving.{lacks_in}
use Rattle.kr_turns.specs.Turn.{ExitsIfAny, IsAfterPlain, IsWatchedCall, Leaves, Machine, Tally, after_born, after_end, after_exit, called, with_broken}
use Rattle.kr_steps.specs.kr_stops.Watching.{Watcher, Watching}
use Rattle.kr_turns.specs.declared.plain.CallEnd.{CallEnd}
use Rattle.kr_turns.specs.declared.plain.CallEnd.TheVariants as end
use Rattle.kr_turns.specs.declared.steps.After.{After}
use Rattle.kr_turns.specs.declared.steps.After.TheVariants.{Gone}
use Rattle.kr_turns.specs.CallSteps.{AreThreeSteps, Carried, IsCarriedBy, IsExitedIf, answered_call, behind_if, carried_by, entered, exited_if, waiting_call}
use Rattle.kr_turns.specs.Laws.{CallsAreThreeSteps, WatchedCallsAreThreeSteps}

module _ {S : Type 0} (watcher : Watcher S) (pid : ℕ) (came : Came) (x : S) (tally : Tally) where
  exit-is-step : (o : Option (Process ℕ Image)) → after_exit watcher (called pid came) x tally o ≡ exited_if watcher pid (behind_if came.handed o) (record { state = came.state; watcher = x; tally = tally })
  exit-is-step None = refl
  exit-is-step (Some p) = refl

  end-is-steps : (e : CallEnd) → after_end watcher pid e (called pid came) x tally ≡ exited_if watcher pid (carried_by watcher pid e came x tally).after (carried_by watcher pid e came x tally).machine
  end-is-steps end.Answered = exit-is-step (process pid came.state)
  end-is-steps end.Replaced = exit-is-step (process pid came.state)
  end-is-steps end.Waits = refl
  end-is-steps (end.Ended told) = refl

pub calls-are-three-steps : (S : Type 0) → CallsAreThreeSteps S
calls-are-three-steps S watcher marks table pid m =
    let mid : Machine S = entered watcher marks pid m in
    let came : Came = plain_call table pid mid.state in
    end-is-steps watcher pid came (after_born watcher pid came.child mid.watcher) (with_broken (plain_rule marks table pid (lacks_in marks pid m.state) mid.state) m.tally) came.end

-- ---- where the watcher is a relation

module _ {S : Type 0} (w : Watching S) (pid : ℕ) (came : Came) (x : S) (tally : Tally) where
  -- a call that was answered, by whether its caller lives
  abbrev behind : Option (Process ℕ Image) → Carried S
  behind o = record { machine = record { state = came.state; watcher = x; tally = tally }; after = behind_if came.handed o }

  exit-parted : (m : Machine S) (o : Option (Process ℕ Image)) → ExitsIfAny w (called pid came) x tally m o → IsExitedIf w pid (behind o).after (behind o).machine m
  exit-parted m None is = is
  exit-parted m (Some p) is = is

  exit-joined : (m : Machine S) (o : Option (Process ℕ Image)) → IsExitedIf w pid (behind o).after (behind o).machine m → ExitsIfAny w (called pid came) x tally m o
  exit-joined m None is = is
  exit-joined m (Some p) is = is

  abbrev Parted : CallEnd → Machine S → Type 0
  Parted e m = (c : Carried S) × IsCarriedBy w pid e came x tally c × IsExitedIf w pid c.after c.machine m

  end-parted : (m : Machine S) (e : CallEnd) → Leaves w pid e (called pid came) x tally m → Parted e m
  end-parted m end.Answered is = (answered_call pid came x tally, refl, exit-parted m (process pid came.state) is)
  end-parted m end.Replaced is = (answered_call pid came x tally, refl, exit-parted m (process pid came.state) is)
  end-parted m end.Waits is = (waiting_call came x tally, refl, is)
  end-parted m (end.Ended told) is = (record { machine = m; after = Gone }, (is.0, is.1, is.2, refl), refl)

  abbrev ExitsTo : Machine S → Carried S → Type 0
  ExitsTo m c = IsExitedIf w pid c.after c.machine m

  -- one that ended is gone
  gone-joined : (m : Machine S) (told : ℕ) (c : Carried S) → IsCarriedBy w pid (end.Ended told) came x tally c → ExitsTo m c → Leaves w pid (end.Ended told) (called pid came) x tally m
  gone-joined m told c is exits =
      let same : m ≡ c.machine = subst (λ (a : After). IsExitedIf w pid a c.machine m) is.3 exits in
      (ap (λ (n : Machine S). n.state) same ∙ is.0, subst (λ (n : Machine S). w.forgets x pid n.watcher) (sym same) is.1, ap (λ (n : Machine S). n.tally) same ∙ is.2)

  end-joined : (m : Machine S) (e : CallEnd) (c : Carried S) → IsCarriedBy w pid e came x tally c → ExitsTo m c → Leaves w pid e (called pid came) x tally m
  end-joined m end.Answered c is exits = exit-joined m (process pid came.state) (subst (ExitsTo m) is exits)
  end-joined m end.Replaced c is exits = exit-joined m (process pid came.state) (subst (ExitsTo m) is exits)
  end-joined m end.Waits c is exits = subst (ExitsTo m) is exits
  end-joined m (end.Ended told) c is exits = gone-joined m told c is exits

module _ {S : Type 0} (w : Watching S) (marks : ℕ) (table : List Row) (pid : ℕ) (old new : Machine S) where
  -- what the watcher left at the first stop
  abbrev left_by : IsWatchedCall w marks table pid old new → Machine S
  left_by is = record { state = is.entered.state; watcher = is.entering; tally = old.tally }

  steps-parted : IsWatchedCall w marks table pid old new → AreThreeSteps w marks table pid old new
  steps-parted is =
      let came : Came = plain_call table pid is.entered.state in
      let tally : Tally = with_broken (plain_rule marks table pid (lacks_in marks pid old.state) is.entered.state) old.tally in
      let parts = end-parted w pid came is.after.bearing tally new came.end is.after.leaves in
      record {
        between = left_by is;
        behind = parts.0;
        enters = record { stopped = is.entered; enters = is.enters; state = refl; same = refl };
        calls = record { bearing = is.after.bearing; born = is.after.born; carried = parts.1 };
        exits = parts.2;
      }

  abbrev IsAfter : S → State ℕ Image → Tally → Type 0
  IsAfter x s tally = IsAfterPlain w pid (plain_call table pid s) x (with_broken (plain_rule marks table pid (lacks_in marks pid old.state) s) tally) new

  steps-joined : AreThreeSteps w marks table pid old new → IsWatchedCall w marks table pid old new
  steps-joined is =
      let mid : Machine S = is.between in
      let came : Came = plain_call table pid mid.state in
      let tally : Tally = with_broken (plain_rule marks table pid (lacks_in marks pid old.state) mid.state) mid.tally in
      let after : IsAfter mid.watcher mid.state mid.tally = record { bearing = is.calls.bearing; born = is.calls.born; leaves = end-joined w pid came is.calls.bearing tally new came.end is.behind is.calls.carried is.exits } in
      record {
        entering = mid.watcher;
        entered = is.enters.stopped;
        enters = is.enters.enters;
        after = subst (λ (t : Tally). IsAfter mid.watcher is.enters.stopped.state t) is.enters.same (subst (λ (s : State ℕ Image). IsAfter mid.watcher s mid.tally) is.enters.state after);
      }

pub watched-calls-are-three-steps : {S : Type 0} (w : Watching S) → WatchedCallsAreThreeSteps w
watched-calls-are-three-steps w = record {
  parted = λ marks table pid old new is. steps-parted w marks table pid old new is;
  joined = λ marks table pid old new is. steps-joined w marks table pid old new is;
}
