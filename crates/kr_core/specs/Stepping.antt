-- The steps of a kernel, and the parts of a turn that are made of them.
use Rattle.std.specs.Prelude.{◌≡◌, ◌≤◌, ◌||◌, ℕ, suc, Bool, true, false, List, [], Some, None, IsSome}
use Rattle.kr_turns.specs.rv_cpu.Run.{ran}
use Rattle.kr_turns.specs.rv_cpu.declared.event.Event.{Event}
use Rattle.kr_turns.specs.rv_cpu.declared.event.Event.TheVariants.{Next, Call, Killed}
use Rattle.kr_turns.specs.kr_view.View.{Row}
use Rattle.kr_first.specs.kr_model.State.{Image, Process, process}
use Rattle.kr_turns.specs.Breaking.{nothing_reached}
use Rattle.kr_turns.specs.CallSteps.{IsCarriedOut, IsEntered}
use Rattle.kr_turns.specs.Making.{EndsAs}
use Rattle.kr_turns.specs.PlainCall.{plain_reach}
use Rattle.kr_turns.specs.Turn.{IsTurnOf, IsWatchedCall, Machine, calling}
use Rattle.kr_turns.specs.declared.steps.After.{After}
use Rattle.kr_turns.specs.declared.steps.After.TheVariants as after
use Rattle.kr_turns.specs.declared.steps.Stretch.{Stretch}
use Rattle.kr_turns.specs.kr_stops.Stopped.{Stopped}
use Rattle.kr_turns.specs.kr_stops.Watching.{Watching}
use Rattle.kr_core.specs.Between.{between_of, unpaused}
use Rattle.kr_turns.specs.Steps.{picked_process}
use Rattle.kr_core.specs.Kernel.{Kernel, machine, phase_of}
use Rattle.kr_core.specs.declared.kernel.Turned.{Turned}
use Rattle.kr_core.specs.declared.kernel.Turned.TheVariants.{Ran, Deadlock, Over}
use Rattle.kr_core.specs.Moving.{Entry, Exit, Instructions, IsMoved, Plain, StepKind, computing, paused_after, paused_by}
use Rattle.kr_core.specs.declared.paused.Begun.{Begun}
use Rattle.kr_core.specs.declared.paused.Between.TheVariants.{Entered}
use Rattle.kr_core.specs.declared.paused.Phase.TheVariants as phase

-- calls that were carried out, by what a step did
abbrev pub calls_after : StepKind → ℕ → ℕ
calls_after (Instructions done) calls = calls
calls_after Entry calls = calls
calls_after (Plain exec) calls = suc calls
calls_after Exit calls = calls

-- whether a call is done, so that it doesn't wait
abbrev pub is_done : After → Bool
is_done after.Waiting = false
is_done (after.Behind handed) = true
is_done after.Gone = true

module _ {P S T : Type 0} {M : ℕ} (number : T → ℕ) where
  -- each process that didn't live before runs
  pub record BornRun (old new : Kernel P S T M) : Type 0 where
    pub runs : (q : ℕ) → process q (machine number old).state ≡ None → IsSome (process q (machine number new).state) → phase_of number q new ≡ Some phase.Running

  -- where a call leaves a caller that it doesn't end
  abbrev pub IsLeftAt : ℕ → Kernel P S T M → After → Type 0
  IsLeftAt pid k after.Waiting = phase_of number pid k ≡ Some phase.Entered
  IsLeftAt pid k (after.Behind handed) = phase_of number pid k ≡ Some phase.Done
  IsLeftAt pid k after.Gone = Unit {0}

  -- a process runs, wherever it stood, and all else is the same
  pub record RunsAgain (pid : ℕ) (old new : Kernel P S T M) : Type 0 where
    pub stays : machine number new ≡ machine number old
    pub paused : new.paused ≡ unpaused pid old.paused
    pub calls : new.calls ≡ old.calls
    pub met : new.met ≡ old.met
    pub places : new.places ≡ old.places
    pub turns : new.turns ≡ old.turns
    pub whole : new.whole ≡ old.whole

module _ {P S T : Type 0} {M : ℕ} (number : T → ℕ) (w : Watching S) (table : List Row) where
  -- a living process made a step, with so much fuel where it did instructions
  pub record HasMoved (fuel pid : ℕ) (kind : StepKind) (old new : Kernel P S T M) : Type 0 where
    pub own : Process ℕ Image
    pub lives : process pid (machine number old).state ≡ Some own
    pub moves : IsMoved w M table fuel own (between_of own.pid old.paused) (machine number old) old.paused (record { kind = kind; machine = machine number new; paused = new.paused })
    pub calls : new.calls ≡ calls_after kind old.calls
    pub places : new.places ≡ old.places
    pub turns : new.turns ≡ old.turns

  -- ---- with what is told of the steps

  -- some instructions
  pub record HasRunFor (fuel pid : ℕ) (old new : Kernel P S T M) (told : Stretch) : Type 0 where
    pub own : Process ℕ Image
    pub lives : process pid (machine number old).state ≡ Some own
    pub ends : EndsAs w M table own.pid (ran fuel own.image.regs own.image.memory).done (ran fuel own.image.regs own.image.memory).event
        (computing own (ran fuel own.image.regs own.image.memory).regs (ran fuel own.image.regs own.image.memory).memory (machine number old)) (machine number new) told
    pub paused : new.paused ≡ paused_by pid told.halt old.paused
    pub calls : new.calls ≡ old.calls
    pub places : new.places ≡ old.places
    pub turns : new.turns ≡ old.turns

  -- a call behind its first stop
  pub record HasCalled (pid : ℕ) (old new : Kernel P S T M) (told : After) : Type 0 where
    pub own : Process ℕ Image
    pub lives : process pid (machine number old).state ≡ Some own
    pub begun : Begun
    pub stood : between_of pid old.paused ≡ Some (Entered begun)
    pub carried : IsCarriedOut w M table pid begun.no_shelf (machine number old) (record { machine = machine number new; after = told })
    pub paused : new.paused ≡ paused_after pid told old.paused
    pub calls : new.calls ≡ suc old.calls
    pub places : new.places ≡ old.places
    pub turns : new.turns ≡ old.turns

  -- ---- parts of a turn of a kernel all of whose other processes run

  -- a whole call
  pub record HasMadeCall (pid : ℕ) (old new : Kernel P S T M) : Type 0 where
    pub call : IsWatchedCall w M table pid (machine number old) (machine number new)
    pub running : new.paused ≡ []
    pub calls : new.calls ≡ suc old.calls
    pub places : new.places ≡ old.places
    pub turns : new.turns ≡ old.turns

  -- and what comes before it
  pub record HasTurned (fuel pid : ℕ) (old new : Kernel P S T M) : Type 0 where
    pub own : Process ℕ Image
    pub lives : process pid (machine number old).state ≡ Some own
    pub turn : IsTurnOf w M table fuel own (machine number old) (machine number new)
    pub running : new.paused ≡ []
    pub calls : new.calls ≤ suc old.calls
    pub places : new.places ≡ old.places
    pub turns : new.turns ≡ old.turns

-- ---- whether the process directory was met

module _ {S : Type 0} (marks : ℕ) (w : Watching S) (table : List Row) (asks : S → Stopped → Bool) where
  -- in a whole call: at its first stop, or as it was carried out behind that
  pub record HasMetAt (pid : ℕ) (m : Machine S) (before now : Bool) : Type 0 where
    pub entered : Machine S
    pub enters : IsEntered w marks pid m entered
    pub met : now ≡ ((before || asks m.watcher (calling marks pid m.state)) || (plain_reach table pid entered.state nothing_reached).met_proc)

  abbrev pub MetBehind : Event → (pid : ℕ) → Machine S → (before now : Bool) → Type 0
  MetBehind Next pid m before now = now ≡ before
  MetBehind Call pid m before now = HasMetAt pid m before now
  MetBehind (Killed signal) pid m before now = now ≡ before

module _ {P S T : Type 0} {M : ℕ} (number : T → ℕ) (w : Watching S) (table : List Row) (asks : S → Stopped → Bool) where
  -- in a turn, whose instructions meet it nowhere
  pub record HasMetIn (fuel pid : ℕ) (old : Kernel P S T M) (now : Bool) : Type 0 where
    pub own : Process ℕ Image
    pub lives : process pid (machine number old).state ≡ Some own
    pub met : let end = ran fuel own.image.regs own.image.memory in MetBehind M w table asks end.event own.pid (computing own end.regs end.memory (machine number old)) old.met now

  abbrev pub TurnMeets : (pick fuel : ℕ) → Kernel P S T M → Kernel P S T M → Turned → Type 0
  TurnMeets pick fuel old new Ran = (p : Process ℕ Image) × (picked_process (machine number old).state pick ≡ Some p) × HasMetIn fuel p.pid old new.met
  TurnMeets pick fuel old new Deadlock = new.met ≡ old.met
  TurnMeets pick fuel old new Over = new.met ≡ old.met
