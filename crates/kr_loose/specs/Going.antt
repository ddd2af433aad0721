-- A loose run of a kernel in code: what a step leaves.
use Rattle.std.specs.Prelude.{◌≡◌, ◌≢◌, ℕ, Bool, List, [], ◌∷◌, Some, None}
use Rattle.kr_core.specs.kr_turns.kr_view.View.{Row}
use Rattle.kr_core.specs.kr_turns.kr_model.State.{Image, Process}
use Rattle.kr_core.specs.kr_turns.Steps.{picked_process}
use Rattle.kr_core.specs.kr_turns.kr_stops.Stopped.{Stopped}
use Rattle.kr_core.specs.kr_turns.kr_stops.Watching.{Watching}
use Rattle.kr_core.specs.Kernel.{Kernel, machine}
use Rattle.kr_core.specs.Moving.{StepKind}
use Rattle.kr_core.specs.Stepping.{HasMoved, calls_after}
use Rattle.kr_core.specs.declared.kernel.Turned.{Turned}
use Rattle.kr_core.specs.declared.kernel.Turned.TheVariants.{Ran, Deadlock, Over}
use Rattle.kr_loose.specs.declared.judge.Judge.{Judge}
use Rattle.kr_loose.specs.Behind.{ComesBehind, kept_of}
use Rattle.kr_loose.specs.LooseRun.{IsStepOf, Loose, Step}

module _ {P S T : Type 0} {M : ℕ} (number : T → ℕ) where
  -- the loose run of a kernel that came to stand where it does by these steps
  abbrev pub loose_of : List (Step S) → Kernel P S T M → Loose S
  loose_of steps k = record { machine = machine number k; paused = k.paused; steps = steps }

  -- a step by which a kernel became another
  abbrev pub step_made : (pick pid : ℕ) → StepKind → Kernel P S T M → Kernel P S T M → Step S
  step_made pick pid kind old new = record { pick = pick; pid = pid; kind = kind; before = machine number old; after = machine number new }

module _ {P S T : Type 0} {M : ℕ} (number : T → ℕ) (w : Watching S) (asks : S → Stopped → Bool) (table : List Row) where
  -- a process went on by a step, whichever was its next; and what is kept stands behind it
  pub record HasGone (fuel pid : ℕ) (old new : Kernel P S T M) (before after : Judge) : Type 0 where
    pub kind : StepKind
    pub moves : HasMoved number w table fuel pid kind old new
    pub behind : (pick : ℕ) → ComesBehind asks M table (step_made number pick pid kind old new) (kept_of old before) (kept_of new after)

  -- the process that is picked made a step, whatever steps came before it
  pub record HasStepped (pick fuel : ℕ) (old new : Kernel P S T M) (before after : Judge) : Type 0 where
    pub process : Process ℕ Image
    pub picked : picked_process (machine number old).state pick ≡ Some process
    pub kind : StepKind
    pub step : (steps : List (Step S)) → IsStepOf w M table pick fuel process (loose_of number steps old) (loose_of number (step_made number pick process.pid kind old new ∷ steps) new)
    pub behind : ComesBehind asks M table (step_made number pick process.pid kind old new) (kept_of old before) (kept_of new after)
    pub calls : new.calls ≡ calls_after kind old.calls
    pub places : new.places ≡ old.places
    pub turns : new.turns ≡ old.turns

  -- or none lives, or one lives and none is ready, and then nothing changes
  abbrev pub Steps : (pick fuel : ℕ) → Kernel P S T M → Kernel P S T M → (before after : Judge) → Turned → Type 0
  Steps pick fuel old new before after Ran = HasStepped pick fuel old new before after
  Steps pick fuel old new before after Deadlock =
      ((machine number old).state.living ≢ []) × (picked_process (machine number old).state pick ≡ None) × (new ≡ old) × (after ≡ before)
  Steps pick fuel old new before after Over = ((machine number old).state.living ≡ []) × (new ≡ old) × (after ≡ before)
