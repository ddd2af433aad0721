-- Turns leave a state that has bytes.
use Rattle.std.specs.Prelude.{◌≡◌, ℕ, Bool, true, List}
use Rattle.kr_first.specs.kr_tree.Lawful.{AreBytes}
use Rattle.kr_first.specs.kr_view.View.{Row}
use Rattle.kr_first.specs.kr_model.State.{Image, State}
use Rattle.kr_turns.specs.kr_stops.Editing.{after_peek, after_poke, after_request, with_register}
use Rattle.kr_turns.specs.Run.{Slot, cleared, run}
use Rattle.kr_turns.specs.Shelving.{shelved_in}
use Rattle.kr_turns.specs.kr_stops.Stopped.{Stopped}
use Rattle.kr_turns.specs.Turn.{Machine, killed, turn}
use Rattle.kr_turns.specs.kr_stops.Watching.{Watcher, unwatched}
use Rattle.law_kept.specs.Bytes.{HasBytes, TableHasBytes}

-- what is done between calls: a process dies, a shelf is marked, and what was put out is taken away
pub record TurnsEndWithBytes : Type 0 where
  pub killed : (pid signal : ℕ) (s : State ℕ Image) → HasBytes s → HasBytes (killed pid signal s)
  pub shelved : (marks pid : ℕ) (s : State ℕ Image) → HasBytes s → HasBytes (shelved_in marks pid s)
  pub cleared : (s : State ℕ Image) → HasBytes s → HasBytes (cleared s)

-- a watcher that leaves bytes at the stops of a state that has bytes, as long as what it keeps itself is sound, which lasts too
pub record WatchesBytes {S : Type 0} (Sound : S → Type 0) (w : Watcher S) : Type 0 where
  pub entry : (x : S) (t : Stopped) → Sound x → HasBytes t.state → Sound (w.entry x t).0 × HasBytes (w.entry x t).1.state
  pub exit : (x : S) (t : Stopped) → Sound x → HasBytes t.state → Sound (w.exit x t).0 × HasBytes (w.exit x t).1.state
  pub born : (x : S) (parent child : ℕ) → Sound x → Sound (w.born x parent child)
  pub gone : (x : S) (pid : ℕ) → Sound x → Sound (w.gone x pid)

-- a machine whose watcher keeps what is sound, and whose state has bytes
pub record RunsOnBytes {S : Type 0} (Sound : S → Type 0) (m : Machine S) : Type 0 where
  pub watcher : Sound m.watcher
  pub state : HasBytes m.state

-- nobody's stops leave bytes, whatever counts as sound
abbrev pub NobodyWatchesBytes : Type 0 → Type 0
NobodyWatchesBytes S = (sound : S → Bool) → WatchesBytes (λ (x : S). sound x ≡ true) unwatched

-- and so does what may be done at a stop, where what is put into memory are bytes
pub record EditsKeepBytes : Type 0 where
  pub register : (k v : ℕ) (t : Stopped) → HasBytes t.state → HasBytes (with_register k v t).state
  pub peek : (at n : ℕ) (t : Stopped) → HasBytes t.state → HasBytes (after_peek at n t).state
  pub poke : (at : ℕ) (bytes : List ℕ) (t : Stopped) → AreBytes bytes → HasBytes t.state → HasBytes (after_poke at bytes t).state
  pub request : (t : Stopped) → HasBytes t.state → HasBytes (after_request t).state

-- whatever test says what is sound of a watcher
abbrev pub TurnsKeepBytes : Type 0 → Type 0
TurnsKeepBytes S =
    (sound : S → Bool) (w : Watcher S) → WatchesBytes (λ x. sound x ≡ true) w → (marks : ℕ) (table : List Row) → TableHasBytes table → (pick fuel : ℕ) (m : Machine S)
    → RunsOnBytes (λ x. sound x ≡ true) m → RunsOnBytes (λ x. sound x ≡ true) (turn w marks table pick fuel m)

-- and a whole run
abbrev pub RunsKeepBytes : Type 0 → Type 0
RunsKeepBytes S =
    (sound : S → Bool) (w : Watcher S) → WatchesBytes (λ x. sound x ≡ true) w → (marks : ℕ) (table : List Row) → TableHasBytes table → (slots : ℕ → Slot) (turns : ℕ) (m : Machine S)
    → RunsOnBytes (λ x. sound x ≡ true) m → RunsOnBytes (λ x. sound x ≡ true) (run w marks table slots turns m).machine
