-- Turns of a machine on which no marks are kept, each with the bytes that it put taken; and what lasts for a process as others make some, on which its first
-- stop may rest.
use Rattle.std.specs.Prelude.{◌≡◌, ◌≢◌, ℕ, Bool, true, false, List, [], ◌∷◌, Some, IsSome}
use Rattle.kr_loose.specs.kr_turns.rv_cpu.Run.{Ran, ran}
use Rattle.kr_loose.specs.kr_turns.rv_cpu.declared.event.Event.TheVariants.{Call}
use Rattle.kr_loose.specs.kr_view.View.{Row}
use Rattle.kr_loose.specs.kr_model.Judged.{HasShape}
use Rattle.kr_loose.specs.kr_model.Lawful.{ArePids}
use Rattle.kr_loose.specs.kr_model.State.{Image, Process, State, process}
use Rattle.kr_loose.specs.law_steady.Bytes.{HasBytes}
use Rattle.kr_loose.specs.kr_stops.Stopped.{computed, image_in}
use Rattle.kr_loose.specs.kr_stops.Watching.{Watcher}
use Rattle.kr_loose.specs.kr_core.kr_steps.Answering.{waiting}
use Rattle.kr_loose.specs.kr_turns.Breaking.{nothing_reached}
use Rattle.kr_loose.specs.kr_turns.PlainCall.{plain_reach}
use Rattle.kr_loose.specs.kr_turns.Run.{Put, Slot, after_put, cleared, put_by}
use Rattle.kr_loose.specs.kr_turns.Steps.{picked_process}
use Rattle.kr_loose.specs.kr_turns.Turn.{Machine, calling, turn}
use Rattle.kr_loose.specs.Marks.{AreUnmarked}
use Rattle.law_beside.specs.Beside.{laid}

module _ {S : Type 0} (f : Watcher S) (table : List Row) where
  -- behind a turn
  abbrev pub behind_turn : Slot → Machine S → Machine S
  behind_turn slot m = after_put (turn f 0 table slot.pick slot.fuel m)

  -- behind one for each of some slots
  abbrev pub behind_turns : List Slot → Machine S → Machine S
  behind_turns [] m = m
  behind_turns (slot ∷ slots) m = behind_turns slots (behind_turn slot m)

  -- and what they put
  abbrev pub puts_of_turns : List Slot → Machine S → List Put
  puts_of_turns [] m = []
  puts_of_turns (slot ∷ slots) m = put_by (turn f 0 table slot.pick slot.fuel m) ∷ puts_of_turns slots (behind_turn slot m)

  -- the walks of the call that comes in a turn, if one comes, look up no name in the process directory
  abbrev pub MeetsNone : Slot → Machine S → Type 0
  MeetsNone slot m =
      (p : Process ℕ Image) → picked_process m.state slot.pick ≡ Some p → (ran slot.fuel p.image.regs p.image.memory).event ≡ Call
      → (let end : Ran = ran slot.fuel p.image.regs p.image.memory in
      let stopped = f.entry m.watcher (calling 0 p.pid (computed p.pid end.regs end.memory m.state)) in
      (plain_reach table p.pid stopped.1.state nothing_reached).met_proc ≡ false)

  -- `Good` holds of the machine at each turn, whoever tells so, and `Tame` is kept by turns whose walks look up no name in the process directory. Then `Stays`,
  -- of two states in which a process and what its paths lead to are the same, holds
  pub record StaysBeside (Good Tame : Machine S → Type 0) (Stays : (exec : Bool) → (pid : ℕ) → (s t : State ℕ Image) → Type 0) : Type 0 where
    -- numbers of processes are their own, and no byte is marked
    pub pids : (m : Machine S) → Good m → ArePids m.state
    pub unmarked : (m : Machine S) → Good m → AreUnmarked m.state
    pub tame : (slot : Slot) (m : Machine S) → Good m → Tame m → MeetsNone slot m → Tame (behind_turn slot m)
    -- from a state that is the same but for what others compute on
    pub beside : (exec : Bool) (pid : ℕ) (s : State ℕ Image) (m : Machine S) → Good m → Tame m → laid m.state ≡ laid s → image_in pid m.state ≡ image_in pid s → Stays exec pid s m.state
    -- where its call comes to wait
    pub waits : (exec : Bool) (pid : ℕ) (m n : Machine S) → Good m → Tame m → Good n → Tame n → n.state ≡ cleared (waiting pid m.state) → Stays exec pid m.state n.state
    -- and behind a turn of another one, which left the shape of the tree, and for an execve(2) the bytes of files
    pub others : (exec : Bool) (pid : ℕ) (slot : Slot) (m : Machine S) (p : Process ℕ Image) → Good m → Tame m → Good (behind_turn slot m) → Tame (behind_turn slot m)
        → picked_process m.state slot.pick ≡ Some p → pid ≢ p.pid → IsSome (process pid m.state)
        → HasShape m.state.tree (behind_turn slot m).state.tree → (exec ≡ true → HasBytes m.state.tree (behind_turn slot m).state.tree)
        → Stays exec pid m.state (behind_turn slot m).state
