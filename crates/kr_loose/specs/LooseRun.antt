-- A loose run: a run by single steps, between which other processes may go on. A step is some instructions of a process, or the first
-- stop of its call, or the call itself, or its second stop.
use Rattle.std.specs.Prelude.{◌≡◌, ℕ, zero, suc, List, [], ◌∷◌, map, Option, Some, None}
use Rattle.std.specs.Option.{option_map_or}
use Rattle.kr_core.specs.kr_turns.kr_view.View.{Row}
use Rattle.kr_core.specs.kr_turns.kr_model.State.{Image, Process}
use Rattle.kr_core.specs.kr_turns.Run.{Ending, Put, Slot, Spent, after_put, ending_of, put_by}
use Rattle.kr_core.specs.kr_turns.Steps.{picked_process}
use Rattle.kr_core.specs.kr_turns.Turn.{Machine, with_part}
use Rattle.kr_core.specs.kr_turns.kr_stops.Watching.{Watcher, Watching}
use Rattle.kr_core.specs.Between.{between_of}
use Rattle.kr_core.specs.Moving.{IsMoved, Moved, StepKind, moved}
use Rattle.kr_core.specs.declared.paused.Paused.{Paused}

-- ---- steps that were made

-- a step with its pick, the process that was picked, and the machine before and after
pub record Step (S : Type 0) : Type 0 where
  pub pick : ℕ
  pub pid : ℕ
  pub kind : StepKind
  pub before : Machine S
  pub after : Machine S

-- a machine, those of its processes that don't run, and the steps so far, the last of which stands first
pub record Loose (S : Type 0) : Type 0 where
  pub machine : Machine S
  pub paused : List Paused
  pub steps : List (Step S)

abbrev pub loosened : {S : Type 0} → Machine S → Loose S
loosened m = record { machine = m; paused = []; steps = [] }

-- ---- the same with a part of what the watcher keeps

module _ {S Q : Type 0} (part : S → Q) where
  abbrev pub moved_part : Moved S → Moved Q
  moved_part made = record { kind = made.kind; machine = with_part part made.machine; paused = made.paused }

  abbrev pub step_part : Step S → Step Q
  step_part s = record { pick = s.pick; pid = s.pid; kind = s.kind; before = with_part part s.before; after = with_part part s.after }

  abbrev pub loose_part : Loose S → Loose Q
  loose_part l = record { machine = with_part part l.machine; paused = l.paused; steps = map step_part l.steps }

module _ {S : Type 0} where
  -- a step of a process, noted
  abbrev pub noted : (pick pid : ℕ) → Moved S → Loose S → Loose S
  noted pick pid made l = record {
    machine = made.machine;
    paused = made.paused;
    steps = record { pick = pick; pid = pid; kind = made.kind; before = l.machine; after = made.machine } ∷ l.steps;
  }

-- ---- with a watcher that is a function

module _ {S : Type 0} (watcher : Watcher S) (marks : ℕ) (table : List Row) where
  -- of the process that is picked; where none is ready nothing changes
  abbrev pub step_of : (pick fuel : ℕ) → Option (Process ℕ Image) → Loose S → Loose S
  step_of pick fuel None l = l
  step_of pick fuel (Some p) l = noted pick p.pid (moved watcher marks table fuel p (between_of p.pid l.paused) l.machine l.paused) l

  abbrev pub step : (pick fuel : ℕ) → Loose S → Loose S
  step pick fuel l = step_of pick fuel (picked_process l.machine.state pick) l

-- ---- the same with one that is a relation

module _ {S : Type 0} (watching : Watching S) (marks : ℕ) (table : List Row) where
  pub record IsStepOf (pick fuel : ℕ) (p : Process ℕ Image) (old new : Loose S) : Type 0 where
    pub made : Moved S
    pub moves : IsMoved watching marks table fuel p (between_of p.pid old.paused) old.machine old.paused made
    pub leaves : new ≡ noted pick p.pid made old

-- ---- a run

-- what became of it: the bytes of each step, how it ended, and what it left
pub record LooseRan (S : Type 0) : Type 0 where
  pub puts : List Put
  pub ending : Ending
  pub left : Loose S

module _ {S : Type 0} where
  abbrev pub loose_put : Put → LooseRan S → LooseRan S
  loose_put put ran = record { puts = put ∷ ran.puts; ending = ran.ending; left = ran.left }

  abbrev pub loose_ended : Loose S → Ending → LooseRan S
  loose_ended l ending = record { puts = []; ending = ending; left = l }

  -- without the bytes of the steps before
  abbrev pub after_bytes : Loose S → Loose S
  after_bytes l = record { machine = after_put l.machine; paused = l.paused; steps = l.steps }

module _ {S : Type 0} (watcher : Watcher S) (marks : ℕ) (table : List Row) (slots : ℕ → Slot) where
  abbrev pub stepped : ℕ → Loose S → Loose S
  stepped made l = step watcher marks table (slots made).pick (slots made).fuel l

  -- at most `left` steps, after `made` steps; the tests are those of a run by turns
  unfoldable pub loose_from : (left made : ℕ) → Loose S → LooseRan S
  loose_from zero made l = loose_ended l (option_map_or (λ ending. ending) (ending_of l.machine) Spent)
  loose_from (suc left) made l = option_map_or (loose_ended l) (ending_of l.machine) (loose_put (put_by (stepped made l).machine) (loose_from left (suc made) (after_bytes (stepped made l))))

  abbrev pub loose_run : ℕ → Machine S → LooseRan S
  loose_run steps m = loose_from steps 0 (loosened m)
