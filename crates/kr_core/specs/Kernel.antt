-- A kernel as its callers see it, its start, and its turns.
use Rattle.std.specs.Prelude.{◌≡◌, ◌≢◌, ◌≤◌, ◌<◌, ◌^◌, ℕ, suc, Bool, true, List, [], length, Option, Some, None, nat_eq, Result, Ok, Err, if◌then◌else◌}
use Rattle.std.specs.Option.{option_map}
use Rattle.kr_turns.specs.pr_base.declared.errno.Errno.{Errno}
use Rattle.kr_first.specs.kr_inode.declared.user.User.{User}
use Rattle.kr_first.specs.kr_tree.Tree.{Tree}
use Rattle.kr_turns.specs.kr_view.declared.target.Reach.{Reach}
use Rattle.kr_turns.specs.kr_view.View.{Row}
use Rattle.kr_first.specs.kr_model.State as model
use Rattle.kr_first.specs.kr_model.State.{Image, Process, process}
use Rattle.kr_first.specs.law_allowed.Told.{SourcesAreNamed}
use Rattle.kr_turns.specs.kr_ops.declared.state.State.{State}
use Rattle.kr_turns.specs.Steps.{Runs, picked_process}
use Rattle.kr_turns.specs.kr_calm.Calm.{broken_at_start}
use Rattle.kr_first.specs.declared.starting.StartFault.{StartFault}
use Rattle.kr_first.specs.declared.starting.StartFault.TheVariants as fault
use Rattle.kr_turns.specs.Agreeing.{AgreesIn}
use Rattle.kr_turns.specs.Making.{machine_of}
use Rattle.kr_turns.specs.Run.{cleared}
use Rattle.kr_turns.specs.Turn.{IsTurnOf, Machine, with_part}
use Rattle.kr_turns.specs.kr_stops.Watching.{Watching}
use Rattle.kr_core.specs.Between.{between_of, phase_at}
use Rattle.kr_core.specs.Standing.{AreStanding}
use Rattle.kr_core.specs.declared.paused.Paused.{Paused}
use Rattle.kr_core.specs.declared.paused.Phase.{Phase}
use Rattle.kr_core.specs.declared.kernel.Turned.{Turned}
use Rattle.kr_core.specs.declared.kernel.Turned.TheVariants.{Ran, Deadlock, Over}
use Rattle.kr_turns.specs.kr_calm.declared.rule.Rule.{Rule}

-- a kernel: its view, its watcher, its state, the status of the process that ended last, the calm rule that was broken first, how many
-- turns it made and how many calls it carried out, how many of these altered the shape of the tree, and how many the bytes of a file, whether a
-- walk looked up a name in the process directory, and where those of its processes stand that don't run. It isn't whole after want of memory
pub record Kernel (P S T : Type 0) (M : ℕ) : Type 0 where
  pub places : P
  pub stops : S
  pub state : State T M
  pub status : ℕ
  pub broken : Option Rule
  pub turns : ℕ
  pub calls : ℕ
  pub shape_changes : ℕ
  pub byte_changes : ℕ
  pub met : Bool
  pub paused : List Paused
  pub whole : Bool

-- the rule that the walks of a start break, where marks are kept
abbrev pub first_rule : ℕ → Reach → Option Rule
first_rule marks reach = if nat_eq marks 0 then None else broken_at_start reach

module _ {P S T : Type 0} {M : ℕ} (number : T → ℕ) where
  abbrev pub machine : Kernel P S T M → Machine S
  machine k = machine_of number k.state k.stops (record { status = k.status; broken = k.broken })

  -- what a process does next; none that doesn't live
  abbrev pub phase_of : ℕ → Kernel P S T M → Option Phase
  phase_of pid k = option_map (λ p. phase_at (between_of pid k.paused)) (process pid (machine k).state)

  -- what holds of every kernel
  pub record Stands (mounts : P → List Row) (agrees : S → Tree → User → Type 0) (is_free : S → ℕ → Type 0) (k : Kernel P S T M) : Type 0 where
    pub named : SourcesAreNamed (mounts k.places)
    pub few : length (mounts k.places) < 2 ^ 32
    pub runs : k.whole ≡ true → Runs number (mounts k.places) k.calls k.state
    pub agreement : k.whole ≡ true → AgreesIn agrees k.stops k.state
    pub standing : k.whole ≡ true → AreStanding is_free k.stops (machine k).state k.paused
    pub counted : (k.shape_changes ≤ k.calls) × (k.byte_changes ≤ k.calls)

  -- ---- a start

  -- a kernel of this state, before its first turn, all of whose processes run
  pub record Begins (places : P) (stops : S) (reach : Reach) (k : Kernel P S T M) : Type 0 where
    pub places_are : k.places ≡ places
    pub stops_are : k.stops ≡ stops
    pub status : k.status ≡ 0
    pub broken : k.broken ≡ first_rule M reach
    pub turns : k.turns ≡ 0
    pub calls : k.calls ≡ 0
    pub shape_changes : k.shape_changes ≡ 0
    pub byte_changes : k.byte_changes ≡ 0
    pub met : k.met ≡ reach.met_proc
    pub running : k.paused ≡ []
    pub whole : k.whole ≡ true

  -- the answer is the definition's, but for want of memory
  abbrev pub Starts : P → S → Reach → Result (model.State ℕ Image) Errno → Result (Kernel P S T M) StartFault → Type 0
  Starts places stops reach answer (Ok k) = (answer ≡ Ok (machine k).state) × Begins places stops reach k
  Starts places stops reach answer (Err (fault.Err e)) = answer ≡ Err e
  Starts places stops reach answer (Err fault.NoMemory) = Unit {0}

  -- and beside the kernel the rule that its walks broke, whether marks are kept or not
  abbrev pub StartsJudged : P → S → Reach → Result (model.State ℕ Image) Errno → Result (Kernel P S T M × Option Rule) StartFault → Type 0
  StartsJudged places stops reach answer (Ok started) = (answer ≡ Ok (machine started.0).state) × Begins places stops reach started.0 × (started.1 ≡ first_rule 1 reach)
  StartsJudged places stops reach answer (Err (fault.Err e)) = answer ≡ Err e
  StartsJudged places stops reach answer (Err fault.NoMemory) = Unit {0}

  -- ---- turns

  -- the process that is picked, which lives; or none is ready
  pub record Picks (pick pid : ℕ) (k : Kernel P S T M) : Type 0 where
    pub own : Process ℕ Image
    pub picked : picked_process (machine k).state pick ≡ Some own
    pub lives : process pid (machine k).state ≡ Some own
    pub same : own.pid ≡ pid

  abbrev pub IsPicked : ℕ → Kernel P S T M → Option ℕ → Type 0
  IsPicked pick k (Some pid) = Picks pick pid k
  IsPicked pick k None = picked_process (machine k).state pick ≡ None

  module _ (w : Watching S) (table : List Row) where
    -- the process that is picked made a turn
    pub record HasRun (pick fuel : ℕ) (old new : Kernel P S T M) : Type 0 where
      pub process : Process ℕ Image
      pub picked : picked_process (machine old).state pick ≡ Some process
      pub turn : IsTurnOf w M table fuel process (machine old) (machine new)
      pub turns : new.turns ≡ suc old.turns
      pub places : new.places ≡ old.places

    -- or none lives, or one lives and none is ready, and then nothing changes
    abbrev pub Turns : (pick fuel : ℕ) → Kernel P S T M → Kernel P S T M → Turned → Type 0
    Turns pick fuel old new Ran = HasRun pick fuel old new
    Turns pick fuel old new Deadlock = ((machine old).state.living ≢ []) × (picked_process (machine old).state pick ≡ None) × (new ≡ old)
    Turns pick fuel old new Over = ((machine old).state.living ≡ []) × (new ≡ old)

  -- ---- the bytes that were put out

  -- they are forgotten, and nothing else
  pub record Clears (old new : Kernel P S T M) : Type 0 where
    pub state : (machine new).state ≡ cleared (machine old).state
    pub places : new.places ≡ old.places
    pub stops : new.stops ≡ old.stops
    pub status : new.status ≡ old.status
    pub broken : new.broken ≡ old.broken
    pub turns : new.turns ≡ old.turns
    pub calls : new.calls ≡ old.calls
    pub shape_changes : new.shape_changes ≡ old.shape_changes
    pub byte_changes : new.byte_changes ≡ old.byte_changes
    pub met : new.met ≡ old.met
    pub paused : new.paused ≡ old.paused
    pub whole : new.whole ≡ old.whole

-- a kernel before its first turn, all of whose processes run
pub record HasNoTurn {P S T : Type 0} {M : ℕ} (k : Kernel P S T M) : Type 0 where
  pub turns : k.turns ≡ 0
  pub calls : k.calls ≡ 0
  pub shape_changes : k.shape_changes ≡ 0
  pub byte_changes : k.byte_changes ≡ 0
  pub running : k.paused ≡ []
  pub whole : k.whole ≡ true

-- the machine of a kernel, with a part of what its watcher keeps
abbrev pub machine_by : {P S Q T : Type 0} {M : ℕ} → (T → ℕ) → (S → Q) → Kernel P S T M → Machine Q
machine_by number part k = with_part part (machine number k)
