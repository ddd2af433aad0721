-- A turn of a machine: the process that is picked runs until its instructions are used up, or it is killed, or it has called; what a
-- watcher does at the stops of the call is part of it.
use Rattle.std.specs.Prelude.{◌≡◌, ℕ, ◌+◌, false, List, Option, Some, None}
use Rattle.kr_steps.specs.rv_cpu.Run.{ran}
use Rattle.kr_steps.specs.rv_cpu.declared.event.Event.{Event}
use Rattle.kr_steps.specs.rv_cpu.declared.event.Event.TheVariants.{Next, Call, Killed}
use Rattle.kr_execve.specs.kr_view.View.{Row}
use Rattle.kr_steps.specs.kr_model.Applied.{applied, images}
use Rattle.kr_steps.specs.kr_model.Change.{End}
use Rattle.kr_steps.specs.kr_model.State.{Image, Process, State, process}
use Rattle.kr_steps.specs.Computing.{computed}
use Rattle.kr_steps.specs.Waiting.{picked_process}
use Rattle.kr_calm.specs.Calm.{kept}
use Rattle.kr_calm.specs.declared.rule.Rule.{Rule}
use Rattle.kr_turns.specs.Breaking.{idle_rule, killed_rule, no_mounts, plain_rule}
use Rattle.kr_turns.specs.PlainCall.{Came, plain_call}
use Rattle.kr_turns.specs.Shelving.{lacks_in, shelved_in}
use Rattle.kr_steps.specs.kr_stops.Stopped.{Stopped, nothing_handed}
use Rattle.kr_steps.specs.kr_stops.Watching.{Watcher, Watching}
use Rattle.kr_turns.specs.declared.plain.CallEnd.{CallEnd}
use Rattle.kr_turns.specs.declared.plain.CallEnd.TheVariants as end

-- what is told of the turns so far: the status of the process that ended last, and the calm rule that was broken first
pub record Tally : Type 0 where
  pub status : ℕ
  pub broken : Option Rule

abbrev pub with_status : ℕ → Tally → Tally
with_status status t = record { status = status; broken = t.broken }

-- the first that is broken counts
abbrev pub with_broken : Option Rule → Tally → Tally
with_broken rule t = record { status = t.status; broken = kept t.broken rule }

-- a machine between turns: its kernel's state, what the watcher keeps, and what is told of its turns
pub record Machine (S : Type 0) : Type 0 where
  pub state : State ℕ Image
  pub watcher : S
  pub tally : Tally

-- the same with a part of what the watcher keeps
abbrev pub with_part : {S Q : Type 0} → (S → Q) → Machine S → Machine Q
with_part part m = record { state = m.state; watcher = part m.watcher; tally = m.tally }

-- a process that dies of a signal
abbrev pub killed : ℕ → ℕ → State ℕ Image → State ℕ Image
killed pid signal s = applied images no_mounts pid (End signal) s

-- a process that comes to a call, before its first stop: its shelf is marked
abbrev pub calling : (marks pid : ℕ) → State ℕ Image → Stopped
calling marks pid s = record { state = shelved_in marks pid s; pid = pid; handed = nothing_handed }

-- and behind it, at the second one
abbrev pub called : ℕ → Came → Stopped
called pid came = record { state = came.state; pid = pid; handed = came.handed }

-- ---- a turn with a watcher that is a function

module _ {S : Type 0} (watcher : Watcher S) where
  abbrev pub after_born : ℕ → Option ℕ → S → S
  after_born pid None x = x
  after_born pid (Some child) x = watcher.born x pid child

  -- a process that lives comes to the second stop where its call was answered, or it begins a new program; one whose call waits doesn't
  abbrev pub after_exit : Stopped → S → Tally → Option (Process ℕ Image) → Machine S
  after_exit t x tally None = record { state = t.state; watcher = x; tally = tally }
  after_exit t x tally (Some p) = let left = watcher.exit x t in record { state = left.1.state; watcher = left.0; tally = tally }

  abbrev pub after_end : ℕ → CallEnd → Stopped → S → Tally → Machine S
  after_end pid end.Answered t x tally = after_exit t x tally (process pid t.state)
  after_end pid end.Replaced t x tally = after_exit t x tally (process pid t.state)
  after_end pid end.Waits t x tally = record { state = t.state; watcher = x; tally = tally }
  after_end pid (end.Ended told) t x tally = record { state = t.state; watcher = watcher.gone x pid; tally = with_status told tally }

  abbrev pub after_plain : ℕ → Came → S → Tally → Machine S
  after_plain pid came x tally = after_end pid came.end (called pid came) (after_born pid came.child x) tally

module _ {S : Type 0} (watcher : Watcher S) (marks : ℕ) (table : List Row) where
  -- a call with its stops
  abbrev pub watched_call : ℕ → Machine S → Machine S
  watched_call pid m =
      let entered = watcher.entry m.watcher (calling marks pid m.state) in
      after_plain watcher pid (plain_call table pid entered.1.state) entered.0
      (with_broken (plain_rule marks table pid (lacks_in marks pid m.state) entered.1.state) m.tally)

  abbrev pub after_event : ℕ → Event → Machine S → Machine S
  after_event pid Next m = record { state = m.state; watcher = m.watcher; tally = with_broken (idle_rule marks table pid false m.state) m.tally }
  after_event pid Call m = watched_call pid m
  after_event pid (Killed signal) m = record {
    state = killed pid signal m.state;
    watcher = watcher.gone m.watcher pid;
    tally = with_status (128 + signal) (with_broken (killed_rule marks table pid signal m.state) m.tally);
  }

  abbrev pub turn_of : ℕ → Process ℕ Image → Machine S → Machine S
  turn_of fuel p m =
      let end = ran fuel p.image.regs p.image.memory in
      after_event p.pid end.event (record { state = computed p.pid end.regs end.memory m.state; watcher = m.watcher; tally = m.tally })

  -- where none is ready nothing changes
  abbrev pub by_pick : ℕ → Option (Process ℕ Image) → Machine S → Machine S
  by_pick fuel None m = m
  by_pick fuel (Some p) m = turn_of fuel p m

  abbrev pub turn : (pick fuel : ℕ) → Machine S → Machine S
  turn pick fuel m = by_pick fuel (picked_process m.state pick) m

-- ---- the same with one that is a relation

module _ {S : Type 0} (watching : Watching S) where
  abbrev pub IsBorn : ℕ → Option ℕ → S → S → Type 0
  IsBorn pid None x y = y ≡ x
  IsBorn pid (Some child) x y = watching.bears x pid child y

  pub record Exits (t : Stopped) (x : S) (tally : Tally) (m : Machine S) : Type 0 where
    pub left : Stopped
    pub exits : watching.exits x t m.watcher left
    pub state : m.state ≡ left.state
    pub same : m.tally ≡ tally

  abbrev pub ExitsIfAny : Stopped → S → Tally → Machine S → Option (Process ℕ Image) → Type 0
  ExitsIfAny t x tally m None = m ≡ record { state = t.state; watcher = x; tally = tally }
  ExitsIfAny t x tally m (Some p) = Exits t x tally m

  abbrev pub Leaves : ℕ → CallEnd → Stopped → S → Tally → Machine S → Type 0
  Leaves pid end.Answered t x tally m = ExitsIfAny t x tally m (process pid t.state)
  Leaves pid end.Replaced t x tally m = ExitsIfAny t x tally m (process pid t.state)
  Leaves pid end.Waits t x tally m = m ≡ record { state = t.state; watcher = x; tally = tally }
  Leaves pid (end.Ended told) t x tally m = (m.state ≡ t.state) × watching.forgets x pid m.watcher × (m.tally ≡ with_status told tally)

  -- behind the first stop
  pub record IsAfterPlain (pid : ℕ) (came : Came) (x : S) (tally : Tally) (m : Machine S) : Type 0 where
    pub bearing : S
    pub born : IsBorn pid came.child x bearing
    pub leaves : Leaves pid came.end (called pid came) bearing tally m

module _ {S : Type 0} (watching : Watching S) (marks : ℕ) (table : List Row) where
  pub record IsWatchedCall (pid : ℕ) (old new : Machine S) : Type 0 where
    pub entering : S
    pub entered : Stopped
    pub enters : watching.enters old.watcher (calling marks pid old.state) entering entered
    pub after : IsAfterPlain watching pid (plain_call table pid entered.state) entering
        (with_broken (plain_rule marks table pid (lacks_in marks pid old.state) entered.state) old.tally) new

  abbrev pub IsAfterEvent : ℕ → Event → Machine S → Machine S → Type 0
  IsAfterEvent pid Next old new = new ≡ record { state = old.state; watcher = old.watcher; tally = with_broken (idle_rule marks table pid false old.state) old.tally }
  IsAfterEvent pid Call old new = IsWatchedCall pid old new
  IsAfterEvent pid (Killed signal) old new =
      (new.state ≡ killed pid signal old.state) × watching.forgets old.watcher pid new.watcher
      × (new.tally ≡ with_status (128 + signal) (with_broken (killed_rule marks table pid signal old.state) old.tally))

  abbrev pub IsTurnOf : ℕ → Process ℕ Image → Machine S → Machine S → Type 0
  IsTurnOf fuel p old new =
      let end = ran fuel p.image.regs p.image.memory in
      IsAfterEvent p.pid end.event (record { state = computed p.pid end.regs end.memory old.state; watcher = old.watcher; tally = old.tally }) new
