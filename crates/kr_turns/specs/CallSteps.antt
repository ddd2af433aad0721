-- The three steps of a call, each by itself: its first stop, the call as the kernel carries it out, and its second stop.
use Rattle.std.specs.Prelude.{◌≡◌, ℕ, Bool, List, Option, Some, None}
use Rattle.kr_execve.specs.kr_view.View.{Row}
use Rattle.kr_steps.specs.kr_model.State.{Image, Process, process}
use Rattle.kr_turns.specs.Breaking.{plain_rule}
use Rattle.kr_turns.specs.PlainCall.{Came, plain_call}
use Rattle.kr_turns.specs.Shelving.{lacks_in}
use Rattle.kr_turns.specs.Turn.{Exits, IsBorn, Machine, Tally, after_born, calling, with_broken, with_status}
use Rattle.kr_steps.specs.kr_stops.Stopped.{Stopped}
use Rattle.kr_steps.specs.kr_stops.Watching.{Watcher, Watching}
use Rattle.kr_steps.specs.kr_stops.declared.handed.Handed.{Handed}
use Rattle.kr_turns.specs.declared.plain.CallEnd.{CallEnd}
use Rattle.kr_turns.specs.declared.plain.CallEnd.TheVariants as end
use Rattle.kr_turns.specs.declared.steps.After.{After}
use Rattle.kr_turns.specs.declared.steps.After.TheVariants.{Waiting, Behind, Gone}

-- a machine in which a call was carried out
pub record Carried (S : Type 0) : Type 0 where
  pub machine : Machine S
  pub after : After

-- one that lives comes to the second stop
abbrev pub behind_if : Handed → Option (Process ℕ Image) → After
behind_if handed None = Gone
behind_if handed (Some p) = Behind handed

-- a call that was answered, and one that waits
abbrev pub answered_call : {S : Type 0} → ℕ → Came → S → Tally → Carried S
answered_call pid came x tally = record { machine = record { state = came.state; watcher = x; tally = tally }; after = behind_if came.handed (process pid came.state) }

abbrev pub waiting_call : {S : Type 0} → Came → S → Tally → Carried S
waiting_call came x tally = record { machine = record { state = came.state; watcher = x; tally = tally }; after = Waiting }

-- ---- with a watcher that is a function

module _ {S : Type 0} (watcher : Watcher S) where
  -- the first stop, before which the shelf of a call with a path is marked
  abbrev pub entered : (marks pid : ℕ) → Machine S → Machine S
  entered marks pid m = let left = watcher.entry m.watcher (calling marks pid m.state) in record { state = left.1.state; watcher = left.0; tally = m.tally }

  -- the second one
  abbrev pub exited : ℕ → Handed → Machine S → Machine S
  exited pid handed m =
      let left = watcher.exit m.watcher (record { state = m.state; pid = pid; handed = handed }) in
      record { state = left.1.state; watcher = left.0; tally = m.tally }

  -- between the two, by how the call ended
  abbrev pub carried_by : ℕ → CallEnd → Came → S → Tally → Carried S
  carried_by pid end.Answered came x tally = answered_call pid came x tally
  carried_by pid end.Replaced came x tally = answered_call pid came x tally
  carried_by pid end.Waits came x tally = waiting_call came x tally
  carried_by pid (end.Ended told) came x tally = record { machine = record { state = came.state; watcher = watcher.gone x pid; tally = with_status told tally }; after = Gone }

  -- the second stop, where the caller comes to it
  abbrev pub exited_if : ℕ → After → Machine S → Machine S
  exited_if pid Waiting m = m
  exited_if pid (Behind handed) m = exited pid handed m
  exited_if pid Gone m = m

module _ {S : Type 0} (watcher : Watcher S) (marks : ℕ) (table : List Row) where
  -- the call itself, of a caller of which is told whether it has a path and no shelf
  abbrev pub carried_out : ℕ → Bool → Machine S → Carried S
  carried_out pid no_shelf m =
      let came = plain_call table pid m.state in
      carried_by watcher pid came.end came (after_born watcher pid came.child m.watcher) (with_broken (plain_rule marks table pid no_shelf m.state) m.tally)

  -- one after the other
  abbrev pub three_steps : ℕ → Machine S → Machine S
  three_steps pid m =
      let carried = carried_out pid (lacks_in marks pid m.state) (entered watcher marks pid m) in
      exited_if watcher pid carried.after carried.machine

-- ---- the same with one that is a relation

module _ {S : Type 0} (watching : Watching S) where
  pub record IsEntered (marks pid : ℕ) (old new : Machine S) : Type 0 where
    pub stopped : Stopped
    pub enters : watching.enters old.watcher (calling marks pid old.state) new.watcher stopped
    pub state : new.state ≡ stopped.state
    pub same : new.tally ≡ old.tally

  abbrev pub IsExited : ℕ → Handed → Machine S → Machine S → Type 0
  IsExited pid handed old new = Exits watching (record { state = old.state; pid = pid; handed = handed }) old.watcher old.tally new

  abbrev pub IsCarriedBy : ℕ → CallEnd → Came → S → Tally → Carried S → Type 0
  IsCarriedBy pid end.Answered came x tally c = c ≡ answered_call pid came x tally
  IsCarriedBy pid end.Replaced came x tally c = c ≡ answered_call pid came x tally
  IsCarriedBy pid end.Waits came x tally c = c ≡ waiting_call came x tally
  IsCarriedBy pid (end.Ended told) came x tally c =
      (c.machine.state ≡ came.state) × watching.forgets x pid c.machine.watcher × (c.machine.tally ≡ with_status told tally) × (c.after ≡ Gone)

  abbrev pub IsExitedIf : ℕ → After → Machine S → Machine S → Type 0
  IsExitedIf pid Waiting old new = new ≡ old
  IsExitedIf pid (Behind handed) old new = IsExited pid handed old new
  IsExitedIf pid Gone old new = new ≡ old

module _ {S : Type 0} (watching : Watching S) (marks : ℕ) (table : List Row) where
  pub record IsCarriedOut (pid : ℕ) (no_shelf : Bool) (old : Machine S) (new : Carried S) : Type 0 where
    pub bearing : S
    pub born : IsBorn watching pid (plain_call table pid old.state).child old.watcher bearing
    pub carried : IsCarriedBy watching pid (plain_call table pid old.state).end (plain_call table pid old.state) bearing
        (with_broken (plain_rule marks table pid no_shelf old.state) old.tally) new

  pub record AreThreeSteps (pid : ℕ) (old new : Machine S) : Type 0 where
    pub between : Machine S
    pub behind : Carried S
    pub enters : IsEntered watching marks pid old between
    pub calls : IsCarriedOut pid (lacks_in marks pid old.state) between behind
    pub exits : IsExitedIf watching pid behind.after behind.machine new
