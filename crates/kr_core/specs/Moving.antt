-- A step of a process: some instructions, or the first stop of its call, or the call itself, or its second stop. What it does to a machine,
-- and to where processes stand.
use Rattle.std.specs.Prelude.{◌≡◌, ℕ, ◌+◌, ◌-◌, ◌==◌, Bool, false, List, Option, Some, None}
use Rattle.kr_turns.specs.rv_mem.Memory.{Memory}
use Rattle.kr_turns.specs.rv_mem.declared.regs.Regs.{Regs}
use Rattle.kr_turns.specs.rv_cpu.Run.{ran}
use Rattle.kr_turns.specs.rv_cpu.declared.event.Event.{Event}
use Rattle.kr_turns.specs.rv_cpu.declared.event.Event.TheVariants.{Next, Call, Killed}
use Rattle.kr_turns.specs.kr_view.View.{Row}
use Rattle.kr_turns.specs.kr_model.kr_calls.Arguments.{number}
use Rattle.kr_turns.specs.kr_model.State.{Image, Process, State}
use Rattle.kr_turns.specs.Breaking.{idle_rule, killed_rule}
use Rattle.kr_turns.specs.Shelving.{lacks_in}
use Rattle.kr_turns.specs.CallSteps.{Carried, IsCarriedOut, IsEntered, IsExited, carried_out, entered, exited}
use Rattle.kr_turns.specs.Turn.{Machine, Tally, killed, with_broken, with_status}
use Rattle.kr_turns.specs.declared.steps.After.{After}
use Rattle.kr_turns.specs.declared.steps.After.TheVariants.{Waiting, Behind, Gone}
use Rattle.kr_turns.specs.declared.steps.Halt.{Halt}
use Rattle.kr_turns.specs.declared.steps.Halt.TheVariants as halt
use Rattle.kr_turns.specs.kr_stops.Stopped.{computed, image_in}
use Rattle.kr_turns.specs.kr_stops.Watching.{Watcher, Watching}
use Rattle.kr_core.specs.Between.{paused_at, unpaused}
use Rattle.kr_core.specs.declared.paused.Begun.{Begun}
use Rattle.kr_core.specs.declared.paused.Between.{Between}
use Rattle.kr_core.specs.declared.paused.Between.TheVariants.{AtCall, Entered, Done}
use Rattle.kr_core.specs.declared.paused.Paused.{Paused}

-- what a step did: so many instructions, of which one that kills counts and a call doesn't; the first stop of a call; a call, of which
-- is told whether it was execve(2) before its first stop; or the second stop
pub data StepKind : Type 0 where
  Instructions : ℕ → StepKind
  Entry : StepKind
  Plain : Bool → StepKind
  Exit : StepKind

-- and what it leaves
pub record Moved (S : Type 0) : Type 0 where
  pub kind : StepKind
  pub machine : Machine S
  pub paused : List Paused

-- whether the call at which a process stands is execve(2)
abbrev pub calls_execve : ℕ → State ℕ Image → Bool
calls_execve pid s = number (image_in pid s).regs == 221

-- what is kept of a call from its first stop on
abbrev pub begun_by : (marks pid : ℕ) → State ℕ Image → Begun
begun_by marks pid s = record { no_shelf = lacks_in marks pid s; exec = calls_execve pid s }

-- where instructions leave their process, and where a call leaves its caller
abbrev pub paused_by : ℕ → Halt → List Paused → List Paused
paused_by pid halt.Spent paused = paused
paused_by pid halt.AtCall paused = paused_at pid AtCall paused
paused_by pid (halt.Killed status) paused = paused

abbrev pub paused_after : ℕ → After → List Paused → List Paused
paused_after pid Waiting paused = paused
paused_after pid (Behind handed) paused = paused_at pid (Done handed) paused
paused_after pid Gone paused = unpaused pid paused

module _ {S : Type 0} where
  -- a process did some instructions
  abbrev pub computing : Process ℕ Image → Regs → Memory → Machine S → Machine S
  computing p regs memory m = record { state = computed p.pid regs memory m.state; watcher = m.watcher; tally = m.tally }

  abbrev pub plainly_moved : ℕ → Bool → Carried S → List Paused → Moved S
  plainly_moved pid exec carried paused = record { kind = Plain exec; machine = carried.machine; paused = paused_after pid carried.after paused }

module _ {S : Type 0} (marks : ℕ) (table : List Row) where
  -- so many instructions alone, or behind them a call
  abbrev pub idle_moved : (pid done : ℕ) → Machine S → List Paused → Moved S
  idle_moved pid done m paused = record {
    kind = Instructions done;
    machine = record { state = m.state; watcher = m.watcher; tally = with_broken (idle_rule marks table pid false m.state) m.tally };
    paused = paused;
  }

  abbrev pub call_met : (pid done : ℕ) → Machine S → List Paused → Moved S
  call_met pid done m paused = record { kind = Instructions (done - 1); machine = m; paused = paused_at pid AtCall paused }

  -- what is told where one of them kills
  abbrev pub tally_killed : (pid signal : ℕ) → Machine S → Tally
  tally_killed pid signal m = with_status (128 + signal) (with_broken (killed_rule marks table pid signal m.state) m.tally)

-- ---- with a watcher that is a function

module _ {S : Type 0} (watcher : Watcher S) (marks : ℕ) (table : List Row) where
  -- after so many instructions, the last of which may be a call
  abbrev pub after_instructions : (pid done : ℕ) → Event → Machine S → List Paused → Moved S
  after_instructions pid done Next m paused = idle_moved marks table pid done m paused
  after_instructions pid done Call m paused = call_met marks table pid done m paused
  after_instructions pid done (Killed signal) m paused = record {
    kind = Instructions done;
    machine = record { state = killed pid signal m.state; watcher = watcher.gone m.watcher pid; tally = tally_killed marks table pid signal m };
    paused = paused;
  }

  -- by where the process stands
  abbrev pub moved : ℕ → Process ℕ Image → Option Between → Machine S → List Paused → Moved S
  moved fuel p None m paused =
      let end = ran fuel p.image.regs p.image.memory in
      after_instructions p.pid end.done end.event (computing p end.regs end.memory m) paused
  moved fuel p (Some AtCall) m paused = record { kind = Entry; machine = entered watcher marks p.pid m; paused = paused_at p.pid (Entered (begun_by marks p.pid m.state)) paused }
  moved fuel p (Some (Entered begun)) m paused = plainly_moved p.pid begun.exec (carried_out watcher marks table p.pid begun.no_shelf m) paused
  moved fuel p (Some (Done handed)) m paused = record { kind = Exit; machine = exited watcher p.pid handed m; paused = unpaused p.pid paused }

-- ---- the same with one that is a relation

module _ {S : Type 0} (watching : Watching S) (marks : ℕ) (table : List Row) where
  abbrev pub IsAfterInstructions : (pid done : ℕ) → Event → Machine S → List Paused → Moved S → Type 0
  IsAfterInstructions pid done Next m paused made = made ≡ idle_moved marks table pid done m paused
  IsAfterInstructions pid done Call m paused made = made ≡ call_met marks table pid done m paused
  IsAfterInstructions pid done (Killed signal) m paused made =
      (made.kind ≡ Instructions done) × (made.machine.state ≡ killed pid signal m.state) × watching.forgets m.watcher pid made.machine.watcher
      × (made.machine.tally ≡ tally_killed marks table pid signal m) × (made.paused ≡ paused)

  -- a call that was carried out
  pub record IsPlainlyMoved (pid : ℕ) (begun : Begun) (m : Machine S) (paused : List Paused) (made : Moved S) : Type 0 where
    pub carried : Carried S
    pub calls : IsCarriedOut watching marks table pid begun.no_shelf m carried
    pub leaves : made ≡ plainly_moved pid begun.exec carried paused

  abbrev pub IsMoved : ℕ → Process ℕ Image → Option Between → Machine S → List Paused → Moved S → Type 0
  IsMoved fuel p None m paused made =
      let end = ran fuel p.image.regs p.image.memory in
      IsAfterInstructions p.pid end.done end.event (computing p end.regs end.memory m) paused made
  IsMoved fuel p (Some AtCall) m paused made =
      (made.kind ≡ Entry) × IsEntered watching marks p.pid m made.machine × (made.paused ≡ paused_at p.pid (Entered (begun_by marks p.pid m.state)) paused)
  IsMoved fuel p (Some (Entered begun)) m paused made = IsPlainlyMoved p.pid begun m paused made
  IsMoved fuel p (Some (Done handed)) m paused made = (made.kind ≡ Exit) × IsExited watching p.pid handed m made.machine × (made.paused ≡ unpaused p.pid paused)
