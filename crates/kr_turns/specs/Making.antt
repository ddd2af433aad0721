-- The steps of a turn in code, between states of which the mounts are told by their numbers.
use Rattle.std.specs.Prelude.{◌≡◌, ℕ, ◌+◌, ◌-◌, Bool, false, List, Option, Some, None, IsSome}
use Rattle.std.specs.Option.{option_map_or}
use Rattle.kr_steps.specs.Calls.{Runs}
use Rattle.kr_steps.specs.Computing.{computed}
use Rattle.kr_steps.specs.rv_cpu.Run.{ran}
use Rattle.kr_steps.specs.rv_cpu.declared.event.Event.{Event}
use Rattle.kr_steps.specs.rv_cpu.declared.event.Event.TheVariants.{Next, Call, Killed}
use Rattle.kr_steps.specs.law_allowed.Others.{LivesOn}
use Rattle.kr_execve.specs.kr_view.View.{Row}
use Rattle.kr_calm.specs.declared.rule.Rule.{Rule}
use Rattle.kr_steps.specs.kr_model.State.{Image, Process, State as Model, process}
use Rattle.kr_hostview.specs.kr_ops.declared.state.State.{State}
use Rattle.kr_hostview.specs.kr_ops.Meaning.{meaning}
use Rattle.kr_calm.specs.kr_seen.Numbered.{state_numbered}
use Rattle.kr_steps.specs.kr_stops.Remembering.{FreesCaller}
use Rattle.kr_steps.specs.kr_stops.Stopped.{nothing_handed}
use Rattle.kr_steps.specs.kr_stops.Watching.{Watching}
use Rattle.kr_steps.specs.kr_stops.declared.handed.Handed.{Handed}
use Rattle.kr_turns.specs.Breaking.{idle_rule, killed_rule}
use Rattle.kr_turns.specs.CallSteps.{IsCarriedBy, IsCarriedOut, IsEntered, IsExited}
use Rattle.kr_turns.specs.Coming.{came_to}
use Rattle.kr_turns.specs.Shelving.{lacks_in}
use Rattle.kr_turns.specs.Turn.{Machine, Tally, killed, with_broken, with_status}
use Rattle.kr_turns.specs.declared.plain.Plain.{Plain}
use Rattle.kr_turns.specs.declared.steps.After.{After}
use Rattle.kr_turns.specs.declared.steps.After.TheVariants as after
use Rattle.kr_turns.specs.declared.steps.CallMade.{CallMade}
use Rattle.kr_turns.specs.declared.steps.Halt.{Halt}
use Rattle.kr_turns.specs.declared.steps.Halt.TheVariants as halt
use Rattle.kr_turns.specs.declared.steps.Stretch.{Stretch}

-- ---- what is told

-- with the status of the last process that ended, if one did
abbrev pub ended_with : Option ℕ → Tally → Tally
ended_with told tally = with_status (option_map_or (λ own. own) told tally.status) tally

-- after what a step told
abbrev pub tally_after : (status : Option ℕ) → (broken : Option Rule) → Tally → Tally
tally_after status broken tally = ended_with status (with_broken broken tally)

-- the status of a process that instructions killed
abbrev pub status_by : Halt → Option ℕ
status_by halt.Spent = None
status_by halt.AtCall = None
status_by (halt.Killed status) = Some status

-- ---- what a step rests on, and what it leaves

-- a process lives, in a state that runs, of some view
pub record RunsFor {T : Type 0} {M : ℕ} (pid : ℕ) (s : State T M) : Type 0 where
  pub number : T → ℕ
  pub table : List Row
  pub calls : ℕ
  pub runs : Runs number table calls s
  pub lives : IsSome (process pid (meaning s))

-- all that is their own is left to the processes but one
pub record LeavesOthers (pid : ℕ) (s t : Model ℕ Image) : Type 0 where
  pub others : (q : ℕ) → (q ≡ pid → ⊥) → LivesOn q s t

-- a caller that a call leaves between its stops lives, and what the watcher keeps stays free for one whose call waits
pub record StaysBetween {S : Type 0} (is_free : S → ℕ → Type 0) (pid : ℕ) (s : Model ℕ Image) (x : S) (told : After) : Type 0 where
  pub lives : (told ≡ after.Gone → ⊥) → IsSome (process pid s)
  pub frees : told ≡ after.Waiting → FreesCaller is_free (record { state = s; pid = pid; handed = nothing_handed }) x

-- ---- the steps

module _ {S T : Type 0} {M : ℕ} (number : T → ℕ) where
  abbrev pub machine_of : State T M → S → Tally → Machine S
  machine_of s x tally = record { state = state_numbered number (meaning s); watcher = x; tally = tally }

module _ {S : Type 0} (w : Watching S) (marks : ℕ) (table : List Row) where
  -- instructions that ended by an event, and left a machine
  abbrev pub EndsAs : (pid done : ℕ) → Event → Machine S → Machine S → Stretch → Type 0
  EndsAs pid done Next m new told =
      (told.halt ≡ halt.Spent) × (told.done ≡ done) × (new ≡ record { state = m.state; watcher = m.watcher; tally = with_broken (idle_rule marks table pid false m.state) m.tally })
  EndsAs pid done Call m new told = (told.halt ≡ halt.AtCall) × (told.done ≡ done - 1) × (new ≡ m)
  EndsAs pid done (Killed signal) m new told =
      (told.halt ≡ halt.Killed (128 + signal)) × (told.done ≡ done) × (new.state ≡ killed pid signal m.state) × w.forgets m.watcher pid new.watcher
      × (new.tally ≡ with_status (128 + signal) (with_broken (killed_rule marks table pid signal m.state) m.tally))

module _ {S T : Type 0} {M : ℕ} (w : Watching S) (number : T → ℕ) where
  -- some instructions of a process, in any view
  pub record IsStretch (fuel pid : ℕ) (old : State T M) (x : S) (new : State T M) (y : S) (told : Stretch) : Type 0 where
    pub ends : (table : List Row) (p : Process ℕ Image) → process pid (state_numbered number (meaning old)) ≡ Some p → (tally : Tally)
        → let end = ran fuel p.image.regs p.image.memory in
        EndsAs w M table p.pid end.done end.event (record { state = computed p.pid end.regs end.memory (state_numbered number (meaning old)); watcher = x; tally = tally })
        (machine_of number new y (tally_after (status_by told.halt) told.broken tally)) told

  -- the first stop of a call, which tells whether the call has a path and its caller no shelf
  pub record IsEntryMade (pid : ℕ) (old : State T M) (x : S) (new : State T M) (y : S) (no_shelf : Bool) : Type 0 where
    pub lacks : no_shelf ≡ lacks_in M pid (state_numbered number (meaning old))
    pub enters : (tally : Tally) → IsEntered w M pid (machine_of number old x tally) (machine_of number new y tally)

  -- where a call leaves its caller
  abbrev pub IsLeftBehind : ℕ → Plain → State T M → S → S → After → Option ℕ → Type 0
  IsLeftBehind pid plain s x y told status =
      (tally : Tally) → IsCarriedBy w pid plain.end (came_to number s plain) x tally (record { machine = machine_of number s y (ended_with status tally); after = told })

  -- the second one
  pub record IsExitMade (pid : ℕ) (handed : Handed) (old : State T M) (x : S) (new : State T M) (y : S) : Type 0 where
    pub exits : (tally : Tally) → IsExited w pid handed (machine_of number old x tally) (machine_of number new y tally)

module _ {S T : Type 0} {M : ℕ} (w : Watching S) (number : T → ℕ) (table : List Row) where
  -- the call itself
  pub record IsCallMade (pid : ℕ) (no_shelf : Bool) (old : State T M) (x : S) (new : State T M) (y : S) (made : CallMade) : Type 0 where
    pub carried : (tally : Tally) → IsCarriedOut w M table pid no_shelf (machine_of number old x tally) (record { machine = machine_of number new y (tally_after made.status made.broken tally); after = made.after })
