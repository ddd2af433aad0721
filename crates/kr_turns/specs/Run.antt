-- A run: turns one after the other, until no process lives, none is ready, or the given number of turns was made.
use Rattle.std.specs.Prelude.{ℕ, zero, suc, ◌%◌, List, [], ◌∷◌, length, Option, Some, None, get_or}
use Rattle.std.specs.Option.{option_map_or}
use Rattle.kr_execve.specs.kr_view.View.{Row}
use Rattle.kr_steps.specs.kr_model.State.{Image, State}
use Rattle.kr_steps.specs.Waiting.{ready_processes}
use Rattle.kr_turns.specs.Turn.{Machine, turn}
use Rattle.kr_steps.specs.kr_stops.Watching.{Watcher}

-- which of the ready processes runs in a turn, and for how many instructions at most
pub record Slot : Type 0 where
  pub pick : ℕ
  pub fuel : ℕ

pub data Ending : Type 0 where
  Over : Ending
  Deadlock : Ending
  Spent : Ending

-- the bytes that a turn put out
pub record Put : Type 0 where
  pub out : List ℕ
  pub err : List ℕ

-- what became of a run: the bytes of each turn, how it ended, and the machine that it left, with the status, the calm rule that was
-- broken first, and the tree
pub record Ran (S : Type 0) : Type 0 where
  pub puts : List Put
  pub ending : Ending
  pub machine : Machine S

abbrev pub with_put : {S : Type 0} → Put → Ran S → Ran S
with_put put ran = record { puts = put ∷ ran.puts; ending = ran.ending; machine = ran.machine }

-- the state without the bytes of the turns before
abbrev pub cleared : State ℕ Image → State ℕ Image
cleared s = record {
  tree = s.tree;
  user = s.user;
  files = s.files;
  input = s.input;
  taken = s.taken;
  out = [];
  err = [];
  living = s.living;
  ended = s.ended;
  next_pid = s.next_pid;
}

-- by whether a list has elements
abbrev pub if_any : {A B : Type 0} → List A → B → B → B
if_any [] none some = none
if_any (x ∷ xs) none some = some

module _ {S : Type 0} where
  abbrev pub put_by : Machine S → Put
  put_by m = record { out = m.state.out; err = m.state.err }

  abbrev pub after_put : Machine S → Machine S
  after_put m = record { state = cleared m.state; watcher = m.watcher; tally = m.tally }

  -- whether it can't go on: no process lives, or one lives and none is ready, tested in this order
  abbrev pub ending_of : Machine S → Option Ending
  ending_of m = if_any m.state.living (Some Over) (if_any (ready_processes m.state) (Some Deadlock) None)

  abbrev pub ended : Machine S → Ending → Ran S
  ended m ending = record { puts = []; ending = ending; machine = m }

module _ {S : Type 0} (watcher : Watcher S) (marks : ℕ) (table : List Row) (slots : ℕ → Slot) where
  abbrev pub turned : ℕ → Machine S → Machine S
  turned made m = turn watcher marks table (slots made).pick (slots made).fuel m

  -- at most `left` turns, after `made` turns; that none is left is tested last
  unfoldable pub run_from : (left made : ℕ) → Machine S → Ran S
  run_from zero made m = ended m (option_map_or (λ ending. ending) (ending_of m) Spent)
  run_from (suc left) made m = option_map_or (ended m) (ending_of m) (with_put (put_by (turned made m)) (run_from left (suc made) (after_put (turned made m))))

  abbrev pub run : ℕ → Machine S → Ran S
  run turns m = run_from turns 0 m

-- slots that are used in a cycle
abbrev pub cycle : Slot → List Slot → ℕ → Slot
cycle slot slots made = get_or (slot ∷ slots) (made % suc (length slots)) slot
