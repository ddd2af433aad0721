-- A loose run and the machine that makes the turns for which it stands. Both have the same state but for registers and bytes of processes between the
-- stops of their calls: there the loose run is ahead by a first stop, or behind by a second one.
use Rattle.std.specs.Prelude.{◌≡◌, ℕ, suc, Bool, true, false, List, Option, Some, None, IsSome}
use Rattle.std.specs.List.{All}
use Rattle.std.specs.Option.{option_map_or}
use Rattle.kr_loose.specs.kr_turns.rv_cpu.Run.{ran}
use Rattle.kr_loose.specs.kr_turns.rv_cpu.declared.event.Event.TheVariants.{Call}
use Rattle.kr_loose.specs.kr_model.State.{Image, State, process}
use Rattle.kr_loose.specs.kr_stops.Stopped.{Stopped, image_at, image_in}
use Rattle.kr_loose.specs.kr_stops.Watching.{Watcher}
use Rattle.kr_loose.specs.kr_stops.declared.handed.Handed.{Handed}
use Rattle.kr_loose.specs.kr_turns.Turn.{Machine, calling}
use Rattle.kr_loose.specs.kr_core.Between.{between_of}
use Rattle.kr_loose.specs.kr_core.Moving.{calls_execve}
use Rattle.kr_loose.specs.kr_core.declared.paused.Begun.{Begun}
use Rattle.kr_loose.specs.kr_core.declared.paused.Between.{Between}
use Rattle.kr_loose.specs.kr_core.declared.paused.Between.TheVariants.{AtCall, Entered, Done}
use Rattle.kr_loose.specs.LooseRun.{Loose, Step}
use Rattle.kr_loose.specs.Quiet.{LeavesFor, others_since_entry}
use Rattle.kr_loose.specs.Local.{Locality}
use Rattle.law_beside.specs.Beside.{laid}

-- its next instruction is a call, and leaves registers and memory as they are
abbrev pub MeetsCall : Image → Type 0
MeetsCall image = (more : ℕ) → ran (suc more) image.regs image.memory ≡ record { event = Call; regs = image.regs; memory = image.memory; done = 1 }

-- whether a process stays at a call that waited
abbrev pub stays_in : ℕ → State ℕ Image → Bool
stays_in pid s = option_map_or (λ p. p.waits) (process pid s) false

-- a process behind its call, as it comes to the second stop
abbrev pub leaving : {S : Type 0} → ℕ → Handed → Machine S → Stopped
leaving pid handed m = record { state = m.state; pid = pid; handed = handed }

module _ {S Part Kept : Type 0} (f : Watcher S) (asks : S → Stopped → Bool) (l : Locality S Part Kept) where
  -- ---- a process, in the machine of turns and in that of steps

  -- it runs: it computes on the same in both, both watchers go by the same for it, and it stays at no call
  pub record GoesAlike (pid : ℕ) (turns steps : Machine S) : Type 0 where
    pub image : image_in pid turns.state ≡ image_in pid steps.state
    pub part : l.part pid steps.watcher ≡ l.part pid turns.watcher
    pub goes : stays_in pid turns.state ≡ false

  -- it has come to a call
  pub record ComesAlike (pid : ℕ) (turns steps : Machine S) : Type 0 where
    pub alike : GoesAlike pid turns steps
    pub lives : IsSome (process pid turns.state)
    pub meets : MeetsCall (image_in pid turns.state)

  -- it was left at its first stop, and what is kept of it is, as a first stop that was made now would leave and keep it
  pub record IsAhead (pid : ℕ) (turns steps : Machine S) : Type 0 where
    pub image : image_in pid steps.state ≡ image_in pid (f.entry turns.watcher (calling 0 pid turns.state)).1.state
    pub kept : l.kept pid steps.watcher ≡ l.kept pid (f.entry turns.watcher (calling 0 pid turns.state)).0
    pub unmet : asks turns.watcher (calling 0 pid turns.state) ≡ false

  -- its call is begun by these steps, of which the last stands first: so it is ahead as long as others left the tree to it. Where it waits it computes on the
  -- same in both, whatever others did
  pub record HasBegun (pid : ℕ) (begun : Begun) (made : List (Step S)) (turns steps : Machine S) : Type 0 where
    pub part : l.part pid steps.watcher ≡ l.part pid turns.watcher
    pub lives : IsSome (process pid turns.state)
    pub meets : MeetsCall (image_in pid turns.state)
    pub exec : begun.exec ≡ calls_execve pid turns.state
    pub waiting : stays_in pid turns.state ≡ true → image_in pid turns.state ≡ image_in pid steps.state
    pub ahead : All (LeavesFor begun.exec) (others_since_entry pid made) → IsAhead pid turns steps

  -- its call is done: in the machine of turns it is left by its second stop as it will be by the one that is to come, and so is what is gone by for it
  pub record IsBehind (pid : ℕ) (handed : Handed) (turns steps : Machine S) : Type 0 where
    pub lives : IsSome (process pid turns.state)
    pub goes : stays_in pid turns.state ≡ false
    pub image : image_in pid turns.state ≡ image_at (f.exit steps.watcher (leaving pid handed steps)).1
    pub part : l.part pid turns.watcher ≡ l.part pid (f.exit steps.watcher (leaving pid handed steps)).0

  -- by where it stands between the stops of its call
  abbrev pub LagsAt : ℕ → Option Between → List (Step S) → (turns steps : Machine S) → Type 0
  LagsAt pid None made turns steps = GoesAlike pid turns steps
  LagsAt pid (Some AtCall) made turns steps = ComesAlike pid turns steps
  LagsAt pid (Some (Entered begun)) made turns steps = HasBegun pid begun made turns steps
  LagsAt pid (Some (Done handed)) made turns steps = IsBehind pid handed turns steps

  -- ---- both machines

  pub record Lags (fits : S → Type 0) (turns : Machine S) (x : Loose S) : Type 0 where
    pub same : laid turns.state ≡ laid x.machine.state
    pub tally : turns.tally ≡ x.machine.tally
    pub each : (pid : ℕ) → LagsAt pid (between_of pid x.paused) x.steps turns x.machine
    pub fits_turns : fits turns.watcher
    pub fits_steps : fits x.machine.watcher
