-- Turns leave a state that has bytes.
use Rattle.std.proofs.Common.{◌≡◌, ℕ, zero, suc, ◌%◌, Bool, true, false, List, length, nat_eq, cond, Option, Some, None, length-set, refl, ap, ◌∙◌, subst, sym}
use Rattle.std.specs.Option.{option_map_or}
use Rattle.std.specs.Prelude.{slice_set}
use Rattle.kr_turns.specs.rv_cpu.Run.{ran}
use Rattle.kr_turns.specs.rv_cpu.declared.event.Event.{Event}
use Rattle.kr_turns.specs.rv_cpu.declared.event.Event.TheVariants.{Call, Killed, Next}
use Rattle.kr_first.specs.rv_mem.Memory.{Memory, after_read, with_pages}
use Rattle.kr_first.specs.rv_mem.Pages.{HoldsBytes, written}
use Rattle.kr_first.specs.rv_mem.declared.regs.Regs.{Regs}
use Rattle.kr_first.specs.kr_view.View.{Row}
use Rattle.kr_first.specs.kr_calls.Arguments.{number}
use Rattle.kr_turns.specs.kr_calm.Shelf.{has_path, is_usable, shelf_size, shelf_start, shelved, shelved_by, stack_pointer, with_shelf_marked}
use Rattle.kr_first.specs.kr_model.Change.{End}
use Rattle.kr_first.specs.kr_model.State.{Image, Process, State, process}
use Rattle.kr_first.proofs.law_allowed.DecodedLemmas.{decoding-leaves-pages}
use Rattle.kr_turns.specs.kr_steps.Computing.{computed}
use Rattle.kr_turns.specs.kr_steps.Waiting.{goes_on, picked_process, ready_processes}
use Rattle.kr_turns.specs.Breaking.{no_mounts, plain_rule}
use Rattle.kr_turns.specs.PlainCall.{Came, plain_call}
use Rattle.kr_turns.specs.kr_stops.Editing.{decoded_at, memory_at}
use Rattle.kr_turns.specs.Run.{Ending, Slot, after_put, cleared, ended, ending_of, put_by, run_from, turned, with_put}
use Rattle.kr_turns.specs.Shelving.{lacks_in, shelved_in}
use Rattle.kr_turns.specs.kr_stops.Stopped.{Stopped, edited, image_at, image_in, no_image}
use Rattle.kr_turns.specs.Turn.{Machine, Tally, after_born, after_end, after_event, after_exit, by_pick, called, calling, killed, turn, turn_of, watched_call, with_broken}
use Rattle.kr_turns.specs.kr_stops.Watching.{Watcher}
use Rattle.kr_turns.specs.declared.plain.CallEnd.{CallEnd}
use Rattle.kr_turns.specs.declared.plain.CallEnd.TheVariants as end
use Rattle.law_kept.specs.Bytes.{HasBytes, ProcessIsSized, TableHasBytes}
use Rattle.law_kept.specs.Turns.{EditsKeepBytes, NobodyWatchesBytes, RunsKeepBytes, RunsOnBytes, TurnsEndWithBytes, TurnsKeepBytes, WatchesBytes}
use Rattle.law_kept.proofs.CallLemmas.{call-bytes}
use Rattle.law_kept.proofs.ChangeLemmas.{change-keeps, computing-keeps-bytes, computing-there}
use Rattle.law_kept.proofs.InstructionLemmas.{instructions-keep-bytes}
use Rattle.law_kept.proofs.RegisterLemmas.{instructions-keep-registers}
use Rattle.law_kept.proofs.ListLemmas.{all-at, all-passed}
use Rattle.law_kept.proofs.LivingLemmas.{process-bytes}
use Rattle.law_kept.proofs.PageLemmas.{holds-empty, holds-marked, holds-written}

abbrev Machines : Type 0
Machines = State ℕ Image

-- ---- between calls

pub death-keeps : (pid signal : ℕ) (s : Machines) → HasBytes s → HasBytes (killed pid signal s)
death-keeps pid signal s has = change-keeps no_mounts pid (End signal) s tt has

image-holds : (pid : ℕ) (s : Machines) → HasBytes s → HoldsBytes (image_in pid s).memory.pages
image-holds pid s has = by (process pid s) refl
  where
    by : (o : Option (Process ℕ Image)) → process pid s ≡ o → HoldsBytes (option_map_or (λ (p : Process ℕ Image). p.image) o no_image).memory.pages
    by None is = holds-empty
    by (Some p) is = (process-bytes pid s has p is).memory

-- the registers of whoever lives
registers-there : (pid : ℕ) (s : Machines) (p : Process ℕ Image) → process pid s ≡ Some p → length (image_in pid s).regs.x ≡ length p.image.regs.x
registers-there pid s p lives = ap (λ (o : Option (Process ℕ Image)). length (option_map_or (λ (p : Process ℕ Image). p.image) o no_image).regs.x) lives

-- a shelf that is marked has the bytes that it had
either-holds : (b : Bool) (m w : Memory) → HoldsBytes m.pages → HoldsBytes w.pages → HoldsBytes (cond b m w).pages
either-holds true m w first second = first
either-holds false m w first second = second

shelved-holds : (marks : ℕ) (regs : Regs) (m : Memory) → HoldsBytes m.pages → HoldsBytes (shelved_by marks regs m).pages
shelved-holds marks regs m holds =
    either-holds (nat_eq marks 0) m (shelved regs m) holds
    (either-holds (has_path (number regs)) (cond (is_usable (stack_pointer regs) m.pages) (with_shelf_marked (stack_pointer regs) m) m) m
    (either-holds (is_usable (stack_pointer regs) m.pages) (with_shelf_marked (stack_pointer regs) m) m (holds-marked m.pages (shelf_start (stack_pointer regs)) shelf_size holds) holds) holds)

pub shelf-keeps : (marks pid : ℕ) (s : Machines) → HasBytes s → HasBytes (shelved_in marks pid s)
shelf-keeps marks pid s has =
    computing-there pid (image_in pid s).regs (shelved_by marks (image_in pid s).regs (image_in pid s).memory) s (shelved-holds marks (image_in pid s).regs (image_in pid s).memory (image-holds pid s has)) (registers-there pid s) has

pub clearing-keeps : (s : Machines) → HasBytes s → HasBytes (cleared s)
clearing-keeps s has = record { tree = has.tree; processes = has.processes; files = has.files; input = has.input }

pub turns-end-with-bytes : TurnsEndWithBytes
turns-end-with-bytes = record { killed = death-keeps; shelved = shelf-keeps; cleared = clearing-keeps }

-- ---- a turn

module _ {S : Type 0} (Sound : S → Type 0) (w : Watcher S) (watches : WatchesBytes Sound w) where
  abbrev Runs : Machine S → Type 0
  Runs m = RunsOnBytes Sound m

  born-sound : (pid : ℕ) (child : Option ℕ) (x : S) → Sound x → Sound (after_born w pid child x)
  born-sound pid None x sound = sound
  born-sound pid (Some child) x sound = watches.born x pid child sound

  exit-runs : (t : Stopped) (x : S) (tally : Tally) (o : Option (Process ℕ Image)) → Sound x → HasBytes t.state → Runs (after_exit w t x tally o)
  exit-runs t x tally None sound has = record { watcher = sound; state = has }
  exit-runs t x tally (Some p) sound has = let left = watches.exit x t sound has in record { watcher = left.0; state = left.1 }

  end-runs : (pid : ℕ) (e : CallEnd) (t : Stopped) (x : S) (tally : Tally) → Sound x → HasBytes t.state → Runs (after_end w pid e t x tally)
  end-runs pid end.Answered t x tally sound has = exit-runs t x tally (process pid t.state) sound has
  end-runs pid end.Replaced t x tally sound has = exit-runs t x tally (process pid t.state) sound has
  end-runs pid end.Waits t x tally sound has = record { watcher = sound; state = has }
  end-runs pid (end.Ended told) t x tally sound has = record { watcher = watches.gone x pid sound; state = has }

  module _ (marks : ℕ) (table : List Row) (named : TableHasBytes table) where
    watched-runs : (pid : ℕ) (m : Machine S) → Runs m → Runs (watched_call w marks table pid m)
    watched-runs pid m runs =
        let entered : S × Stopped = w.entry m.watcher (calling marks pid m.state) in
        let entry = watches.entry m.watcher (calling marks pid m.state) runs.watcher (shelf-keeps marks pid m.state runs.state) in
        let came : Came = plain_call table pid entered.1.state in
        let tally : Tally = with_broken (plain_rule marks table pid (lacks_in marks pid m.state) entered.1.state) m.tally in
        end-runs pid came.end (called pid came) (after_born w pid came.child entered.0) tally (born-sound pid came.child entered.0 entry.0) (call-bytes table pid named entered.1.state entry.1)

    event-runs : (pid : ℕ) (e : Event) (m : Machine S) → Runs m → Runs (after_event w marks table pid e m)
    event-runs pid Next m runs = record { watcher = runs.watcher; state = runs.state }
    event-runs pid Call m runs = watched-runs pid m runs
    event-runs pid (Killed signal) m runs = record { watcher = watches.gone m.watcher pid runs.watcher; state = death-keeps pid signal m.state runs.state }

    picked-runs : (fuel : ℕ) (m : Machine S) (p : Process ℕ Image) → ProcessIsSized p → Runs m → Runs (turn_of w marks table fuel p m)
    picked-runs fuel m p own runs =
        let end = ran fuel p.image.regs p.image.memory in
        event-runs p.pid end.event (record { state = computed p.pid end.regs end.memory m.state; watcher = m.watcher; tally = m.tally })
        (record { watcher = runs.watcher; state = computing-keeps-bytes ℕ p.pid end.regs end.memory m.state (instructions-keep-bytes fuel p.image.regs p.image.memory own.memory) (instructions-keep-registers fuel p.image.regs p.image.memory ∙ own.registers) runs.state })

    -- the process that is picked is one that lives
    picked-bytes : (pick : ℕ) (s : Machines) (p : Process ℕ Image) → HasBytes s → picked_process s pick ≡ Some p → ProcessIsSized p
    picked-bytes pick s p has is =
        all-at (λ (p : Process ℕ Image). ProcessIsSized p) (ready_processes s) (pick % length (ready_processes s)) p (all-passed (λ (p : Process ℕ Image). ProcessIsSized p) (goes_on s) s.living has.processes) is

    pub turn-runs : (pick fuel : ℕ) (m : Machine S) → Runs m → Runs (turn w marks table pick fuel m)
    turn-runs pick fuel m runs = by (picked_process m.state pick) refl
      where
        by : (o : Option (Process ℕ Image)) → picked_process m.state pick ≡ o → Runs (by_pick w marks table fuel o m)
        by None is = runs
        by (Some p) is = picked-runs fuel m p (picked-bytes pick m.state p runs.state is) runs

    step-runs : (slots : ℕ → Slot) (left : ℕ) → ((made : ℕ) (m : Machine S) → Runs m → Runs (run_from w marks table slots left made m).machine)
        → (made : ℕ) (m : Machine S) → Runs m → (o : Option Ending)
        → Runs (option_map_or (ended m) o (with_put (put_by (turned w marks table slots made m)) (run_from w marks table slots left (suc made) (after_put (turned w marks table slots made m))))).machine
    step-runs slots left again made m runs (Some ending) = runs
    step-runs slots left again made m runs None =
        let after : Runs (turned w marks table slots made m) = turn-runs (slots made).pick (slots made).fuel m runs in
        again (suc made) (after_put (turned w marks table slots made m)) (record { watcher = after.watcher; state = clearing-keeps (turned w marks table slots made m).state after.state })

    pub run-runs : (slots : ℕ → Slot) (left made : ℕ) (m : Machine S) → Runs m → Runs (run_from w marks table slots left made m).machine
    unfolding run_from
    run-runs slots zero made m runs = runs
    run-runs slots (suc left) made m runs = step-runs slots left (run-runs slots left) made m runs (ending_of m)

pub turns-keep-bytes : (S : Type 0) → TurnsKeepBytes S
turns-keep-bytes S sound w watches marks table named pick fuel m runs = turn-runs (λ x. sound x ≡ true) w watches marks table named pick fuel m runs

pub runs-keep-bytes : (S : Type 0) → RunsKeepBytes S
runs-keep-bytes S sound w watches marks table named slots turns m runs = run-runs (λ x. sound x ≡ true) w watches marks table named slots turns 0 m runs

-- ---- watchers

pub nobody-watches-bytes : (S : Type 0) → NobodyWatchesBytes S
nobody-watches-bytes S sound = record { entry = λ x t own has. (own, has); exit = λ x t own has. (own, has); born = λ x parent child own. own; gone = λ x pid own. own }

-- the memory of the process at a stop
pub at-stop : (t : Stopped) → HasBytes t.state → HoldsBytes (memory_at t).pages
at-stop t has = image-holds t.pid t.state has

pub edit-keeps : (regs : Regs) (memory : Memory) (t : Stopped) → HoldsBytes memory.pages → length regs.x ≡ length (image_at t).regs.x → HasBytes t.state → HasBytes (edited regs memory t).state
edit-keeps regs memory t holds same has = computing-there t.pid regs memory t.state holds (λ p lives. same ∙ registers-there t.pid t.state p lives) has

pub edits-keep-bytes : EditsKeepBytes
edits-keep-bytes = record {
  register = λ k v t has. edit-keeps (record { x = slice_set (image_at t).regs.x k v; pc = (image_at t).regs.pc }) (image_at t).memory t (at-stop t has) (length-set (image_at t).regs.x k v) has;
  peek = λ at n t has. edit-keeps (image_at t).regs (after_read (memory_at t) at n) t (at-stop t has) refl has;
  poke = λ at bytes t are has. edit-keeps (image_at t).regs (with_pages (memory_at t) (written (memory_at t).pages at bytes)) t (holds-written (memory_at t).pages at bytes are (at-stop t has)) refl has;
  request = λ t has. edit-keeps (image_at t).regs (decoded_at t).memory t (subst HoldsBytes (sym (decoding-leaves-pages (image_at t).regs (memory_at t) (at-stop t has))) (at-stop t has)) refl has;
}
