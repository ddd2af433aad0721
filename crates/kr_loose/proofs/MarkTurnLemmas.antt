-- Turns, steps and runs of a kernel that keeps no marks leave a state without marks, and so does what is done at stops.
use Rattle.std.proofs.Common.{◌≡◌, ℕ, zero, suc, ◌%◌, Bool, List, length, Option, Some, None, refl}
use Rattle.std.specs.Prelude.{slice_set}
use Rattle.std.specs.Option.{option_map_or}
use Rattle.kr_core.specs.rv_mem.Memory.{Memory, after_read, with_pages}
use Rattle.kr_core.specs.rv_mem.Pages.{written}
use Rattle.kr_core.specs.rv_mem.Actions.{carried_out as carried_out_on}
use Rattle.kr_core.specs.rv_mem.declared.regs.Regs.{Regs}
use Rattle.kr_core.specs.rv_cpu.Run.{Ran, ran}
use Rattle.kr_core.specs.rv_cpu.declared.event.Event.{Event}
use Rattle.kr_core.specs.rv_cpu.declared.event.Event.TheVariants.{Next, Call, Killed}
use Rattle.kr_core.specs.kr_view.View.{Row}
use Rattle.kr_core.specs.kr_calls.Decoding.{decoding}
use Rattle.kr_core.specs.kr_model.Change.{End}
use Rattle.kr_core.specs.kr_model.State.{Image, Process, State, process}
use Rattle.kr_core.specs.kr_steps.Waiting.{goes_on, picked_process, ready_processes}
use Rattle.kr_core.specs.kr_stops.Editing.{memory_at}
use Rattle.kr_core.specs.kr_stops.Stopped.{Stopped, computed, edited, image_at, image_in, no_image}
use Rattle.kr_core.specs.kr_stops.Watching.{Watcher}
use Rattle.kr_core.specs.kr_stops.declared.handed.Handed.{Handed}
use Rattle.kr_core.specs.kr_turns.Breaking.{no_mounts, plain_rule}
use Rattle.kr_core.specs.kr_turns.PlainCall.{Came, plain_call}
use Rattle.kr_core.specs.kr_turns.Run.{Ending, Slot, after_put, ended, ending_of, put_by, run_from, turned, with_put}
use Rattle.kr_core.specs.kr_turns.Shelving.{lacks_in, shelved_in}
use Rattle.kr_core.specs.kr_turns.Turn.{Machine, Tally, after_born, after_end, after_event, after_exit, by_pick, called, calling, killed, turn, turn_of, watched_call, with_broken}
use Rattle.kr_core.specs.kr_turns.declared.plain.CallEnd.{CallEnd}
use Rattle.kr_core.specs.kr_turns.declared.plain.CallEnd.TheVariants as end
use Rattle.kr_core.specs.Between.{between_of}
use Rattle.kr_core.specs.declared.paused.Begun.{Begun}
use Rattle.kr_core.specs.declared.paused.Between.{Between}
use Rattle.kr_core.specs.declared.paused.Between.TheVariants.{AtCall, Done, Entered}
use Rattle.kr_core.specs.declared.paused.Paused.{Paused}
use Rattle.kr_core.specs.kr_turns.CallSteps.{carried_by, carried_out, entered, exited}
use Rattle.kr_core.specs.Moving.{after_instructions, computing, moved}
use Rattle.kr_loose.specs.LooseRun.{Loose, after_bytes, loose_ended, loose_from, loose_put, loosened, step, step_of, stepped}
use Rattle.kr_loose.specs.Marks.{AreUnmarked, EditsMarkNothing, HasNoMarks, LooseRunsMarkNothing, MarksNothing, NobodyMarks, RunsMarkNothing, StepsMarkNothing, TurnsMarkNothing}
use Rattle.kr_loose.proofs.UnmarkedLemmas.{action-unmarked, ran-unmarked, unmarked-empty, unmarked-written}
use Rattle.kr_loose.proofs.LivingLemmas.{all-at, all-passed, change-unmarked, computing-unmarked, process-unmarked}
use Rattle.kr_loose.proofs.MarkCallLemmas.{call-unmarked}

-- ---- stops

pub image-clear : (pid : ℕ) (s : State ℕ Image) → AreUnmarked s → HasNoMarks (image_in pid s).memory.pages
image-clear pid s clear = by (process pid s) refl
  where
    by : (o : Option (Process ℕ Image)) → process pid s ≡ o → HasNoMarks (option_map_or (λ (p : Process ℕ Image). p.image) o no_image).memory.pages
    by None is = unmarked-empty
    by (Some p) is = process-unmarked pid s clear p is

edit-clear : (regs : Regs) (memory : Memory) (t : Stopped) → HasNoMarks memory.pages → AreUnmarked t.state → AreUnmarked (edited regs memory t).state
edit-clear regs memory t own clear = computing-unmarked t.pid regs memory t.state own clear

pub edits-mark-nothing : EditsMarkNothing
edits-mark-nothing = record {
  stands = λ t clear. image-clear t.pid t.state clear;
  edit = edit-clear;
  register = λ k v t clear. edit-clear (record { x = slice_set (image_at t).regs.x k v; pc = (image_at t).regs.pc }) (image_at t).memory t (image-clear t.pid t.state clear) clear;
  peek = λ at n t clear. edit-clear (image_at t).regs (after_read (memory_at t) at n) t (image-clear t.pid t.state clear) clear;
  poke = λ at bytes t clear.
      edit-clear (image_at t).regs (with_pages (memory_at t) (written (memory_at t).pages at bytes)) t (unmarked-written (memory_at t).pages at bytes (image-clear t.pid t.state clear)) clear;
  request = λ t clear.
      edit-clear (image_at t).regs (carried_out_on (decoding (image_at t).regs) (memory_at t)).memory t (action-unmarked (decoding (image_at t).regs) (memory_at t) (image-clear t.pid t.state clear)) clear;
}

pub nobody-marks : (S : Type 0) → NobodyMarks S
nobody-marks S = record { entry = λ x t clear. clear; exit = λ x t clear. clear }

-- ---- between calls

death-clear : (pid signal : ℕ) (s : State ℕ Image) → AreUnmarked s → AreUnmarked (killed pid signal s)
death-clear pid signal s clear = change-unmarked no_mounts pid (End signal) s tt clear

-- a kernel that keeps no marks marks no shelf
shelf-clear : (pid : ℕ) (s : State ℕ Image) → AreUnmarked s → AreUnmarked (shelved_in 0 pid s)
shelf-clear pid s clear = computing-unmarked pid (image_in pid s).regs (image_in pid s).memory s (image-clear pid s clear) clear

run-clear : (fuel : ℕ) (p : Process ℕ Image) (s : State ℕ Image) → HasNoMarks p.image.memory.pages → AreUnmarked s
    → AreUnmarked (computed p.pid (ran fuel p.image.regs p.image.memory).regs (ran fuel p.image.regs p.image.memory).memory s)
run-clear fuel p s own clear =
    let end : Ran = ran fuel p.image.regs p.image.memory in
    computing-unmarked p.pid end.regs end.memory s (ran-unmarked fuel None p.image.regs p.image.memory own) clear

-- the process that is picked is one that lives
picked-clear : (pick : ℕ) (s : State ℕ Image) (p : Process ℕ Image) → AreUnmarked s → picked_process s pick ≡ Some p → HasNoMarks p.image.memory.pages
picked-clear pick s p clear is =
    all-at (λ (p : Process ℕ Image). HasNoMarks p.image.memory.pages) (ready_processes s) (pick % length (ready_processes s)) p
    (all-passed (λ (p : Process ℕ Image). HasNoMarks p.image.memory.pages) (goes_on s) s.living clear) is

module _ {S : Type 0} (w : Watcher S) (marks : MarksNothing w) where
  -- ---- a turn

  exit-clear : (t : Stopped) (x : S) (tally : Tally) (o : Option (Process ℕ Image)) → AreUnmarked t.state → AreUnmarked (after_exit w t x tally o).state
  exit-clear t x tally None clear = clear
  exit-clear t x tally (Some p) clear = marks.exit x t clear

  end-clear : (pid : ℕ) (e : CallEnd) (t : Stopped) (x : S) (tally : Tally) → AreUnmarked t.state → AreUnmarked (after_end w pid e t x tally).state
  end-clear pid end.Answered t x tally clear = exit-clear t x tally (process pid t.state) clear
  end-clear pid end.Replaced t x tally clear = exit-clear t x tally (process pid t.state) clear
  end-clear pid end.Waits t x tally clear = clear
  end-clear pid (end.Ended told) t x tally clear = clear

  module _ (table : List Row) where
    watched-clear : (pid : ℕ) (m : Machine S) → AreUnmarked m.state → AreUnmarked (watched_call w 0 table pid m).state
    watched-clear pid m clear =
        let at_entry : S × Stopped = w.entry m.watcher (calling 0 pid m.state) in
        let entry : AreUnmarked at_entry.1.state = marks.entry m.watcher (calling 0 pid m.state) (shelf-clear pid m.state clear) in
        let came : Came = plain_call table pid at_entry.1.state in
        let tally : Tally = with_broken (plain_rule 0 table pid (lacks_in 0 pid m.state) at_entry.1.state) m.tally in
        end-clear pid came.end (called pid came) (after_born w pid came.child at_entry.0) tally (call-unmarked table pid at_entry.1.state entry)

    event-clear : (pid : ℕ) (e : Event) (m : Machine S) → AreUnmarked m.state → AreUnmarked (after_event w 0 table pid e m).state
    event-clear pid Next m clear = clear
    event-clear pid Call m clear = watched-clear pid m clear
    event-clear pid (Killed signal) m clear = death-clear pid signal m.state clear

    turn-clear : (pick fuel : ℕ) (m : Machine S) → AreUnmarked m.state → AreUnmarked (turn w 0 table pick fuel m).state
    turn-clear pick fuel m clear = by (picked_process m.state pick) refl
      where
        by : (o : Option (Process ℕ Image)) → picked_process m.state pick ≡ o → AreUnmarked (by_pick w 0 table fuel o m).state
        by None is = clear
        by (Some p) is =
            let end : Ran = ran fuel p.image.regs p.image.memory in
            event-clear p.pid end.event (record { state = computed p.pid end.regs end.memory m.state; watcher = m.watcher; tally = m.tally })
            (run-clear fuel p m.state (picked-clear pick m.state p clear is) clear)

    -- ---- a run

    later-clear : (slots : ℕ → Slot) (left : ℕ) → ((made : ℕ) (m : Machine S) → AreUnmarked m.state → AreUnmarked (run_from w 0 table slots left made m).machine.state)
        → (made : ℕ) (m : Machine S) → AreUnmarked m.state → (o : Option Ending)
        → AreUnmarked (option_map_or (ended m) o (with_put (put_by (turned w 0 table slots made m)) (run_from w 0 table slots left (suc made) (after_put (turned w 0 table slots made m))))).machine.state
    later-clear slots left again made m clear (Some ending) = clear
    later-clear slots left again made m clear None = again (suc made) (after_put (turned w 0 table slots made m)) (turn-clear (slots made).pick (slots made).fuel m clear)

    runs-clear : (slots : ℕ → Slot) (left made : ℕ) (m : Machine S) → AreUnmarked m.state → AreUnmarked (run_from w 0 table slots left made m).machine.state
    unfolding run_from
    runs-clear slots zero made m clear = clear
    runs-clear slots (suc left) made m clear = later-clear slots left (runs-clear slots left) made m clear (ending_of m)

    -- ---- a step

    instructions-clear : (pid done : ℕ) (e : Event) (m : Machine S) (paused : List Paused) → AreUnmarked m.state → AreUnmarked (after_instructions w 0 table pid done e m paused).machine.state
    instructions-clear pid done Next m paused clear = clear
    instructions-clear pid done Call m paused clear = clear
    instructions-clear pid done (Killed signal) m paused clear = death-clear pid signal m.state clear

    carried-clear : (pid : ℕ) (e : CallEnd) (came : Came) (x : S) (tally : Tally) → AreUnmarked came.state → AreUnmarked (carried_by w pid e came x tally).machine.state
    carried-clear pid end.Answered came x tally clear = clear
    carried-clear pid end.Replaced came x tally clear = clear
    carried-clear pid end.Waits came x tally clear = clear
    carried-clear pid (end.Ended told) came x tally clear = clear

    plain-clear : (pid : ℕ) (no_shelf : Bool) (m : Machine S) → AreUnmarked m.state → AreUnmarked (carried_out w 0 table pid no_shelf m).machine.state
    plain-clear pid no_shelf m clear =
        let came : Came = plain_call table pid m.state in
        carried-clear pid came.end came (after_born w pid came.child m.watcher) (with_broken (plain_rule 0 table pid no_shelf m.state) m.tally) (call-unmarked table pid m.state clear)

    moved-clear : (fuel : ℕ) (p : Process ℕ Image) (o : Option Between) (m : Machine S) (paused : List Paused) → HasNoMarks p.image.memory.pages → AreUnmarked m.state
        → AreUnmarked (moved w 0 table fuel p o m paused).machine.state
    moved-clear fuel p None m paused own clear =
        let end : Ran = ran fuel p.image.regs p.image.memory in
        instructions-clear p.pid end.done end.event (computing p end.regs end.memory m) paused (run-clear fuel p m.state own clear)
    moved-clear fuel p (Some AtCall) m paused own clear = marks.entry m.watcher (calling 0 p.pid m.state) (shelf-clear p.pid m.state clear)
    moved-clear fuel p (Some (Entered begun)) m paused own clear = plain-clear p.pid begun.no_shelf m clear
    moved-clear fuel p (Some (Done handed)) m paused own clear = marks.exit m.watcher (record { state = m.state; pid = p.pid; handed = handed }) clear

    step-clear : (pick fuel : ℕ) (l : Loose S) → AreUnmarked l.machine.state → AreUnmarked (step w 0 table pick fuel l).machine.state
    step-clear pick fuel l clear = by (picked_process l.machine.state pick) refl
      where
        by : (o : Option (Process ℕ Image)) → picked_process l.machine.state pick ≡ o → AreUnmarked (step_of w 0 table pick fuel o l).machine.state
        by None is = clear
        by (Some p) is = moved-clear fuel p (between_of p.pid l.paused) l.machine l.paused (picked-clear pick l.machine.state p clear is) clear

    -- ---- a loose run

    then-clear : (slots : ℕ → Slot) (left : ℕ) → ((made : ℕ) (l : Loose S) → AreUnmarked l.machine.state → AreUnmarked (loose_from w 0 table slots left made l).left.machine.state)
        → (made : ℕ) (l : Loose S) → AreUnmarked l.machine.state → (o : Option Ending)
        → AreUnmarked (option_map_or (loose_ended l) o (loose_put (put_by (stepped w 0 table slots made l).machine) (loose_from w 0 table slots left (suc made) (after_bytes (stepped w 0 table slots made l))))).left.machine.state
    then-clear slots left again made l clear (Some ending) = clear
    then-clear slots left again made l clear None = again (suc made) (after_bytes (stepped w 0 table slots made l)) (step-clear (slots made).pick (slots made).fuel l clear)

    loose-clear : (slots : ℕ → Slot) (left made : ℕ) (l : Loose S) → AreUnmarked l.machine.state → AreUnmarked (loose_from w 0 table slots left made l).left.machine.state
    unfolding loose_from
    loose-clear slots zero made l clear = clear
    loose-clear slots (suc left) made l clear = then-clear slots left (loose-clear slots left) made l clear (ending_of l.machine)

-- ---- the laws

pub turns-mark-nothing : (S : Type 0) → TurnsMarkNothing S
turns-mark-nothing S w marks table pick fuel m clear = turn-clear w marks table pick fuel m clear

pub runs-mark-nothing : (S : Type 0) → RunsMarkNothing S
runs-mark-nothing S w marks table slots turns m clear = runs-clear w marks table slots turns 0 m clear

pub steps-mark-nothing : (S : Type 0) → StepsMarkNothing S
steps-mark-nothing S w marks table pick fuel l clear = step-clear w marks table pick fuel l clear

pub loose-runs-mark-nothing : (S : Type 0) → LooseRunsMarkNothing S
loose-runs-mark-nothing S w marks table slots steps m clear = loose-clear w marks table slots steps 0 (loosened m) clear
