-- A turn with marks, and one without.
use Rattle.std.proofs.Common.{◌≡◌, ℕ, ◌+◌, List, [], ◌∷◌, length, Option, Some, None, refl, sym, ap, ◌∙◌}
use Rattle.std.proofs.lemmas.List.{length-map}
use Rattle.std.proofs.lemmas.Option.{slice_get-map}
use Rattle.std.specs.Prelude.{◌%◌, ◌&&◌, map as map_list, not, slice_get}
use Rattle.std.specs.Option.{option_map}
use Rattle.kr_turns.specs.kr_model.Applied.{with_image}
use Rattle.kr_turns.specs.kr_model.Change.{End}
use Rattle.kr_turns.specs.kr_model.State.{Image, Process, State, process}
use Rattle.kr_turns.specs.kr_steps.Waiting.{goes_on, picked_process, ready_processes, still_waits}
use Rattle.kr_turns.specs.kr_stops.Stopped.{Stopped, computed}
use Rattle.kr_turns.specs.kr_stops.Watching.{Watcher}
use Rattle.kr_turns.specs.kr_view.View.{Row}
use Rattle.kr_turns.specs.rv_cpu.Run.{Ran, ran}
use Rattle.kr_turns.specs.rv_cpu.declared.event.Event.{Event}
use Rattle.kr_turns.specs.rv_cpu.declared.event.Event.TheVariants.{Next, Call, Killed}
use Rattle.kr_turns.specs.Breaking.{no_mounts, plain_rule}
use Rattle.kr_turns.specs.PlainCall.{Came, plain_call}
use Rattle.kr_turns.specs.Shelving.{lacks_in}
use Rattle.kr_turns.specs.Turn.{Machine, Tally, after_born, after_end, after_event, after_exit, after_plain, by_pick, called, calling, turn, turn_of, watched_call, with_broken}
use Rattle.kr_turns.specs.declared.plain.CallEnd.{CallEnd}
use Rattle.kr_turns.specs.declared.plain.CallEnd.TheVariants as end
use Rattle.kr_turns.proofs.kr_seen.kr_model.BareLemmas.{kept-mapped}
use Rattle.law_marks.specs.Unmarked.{unmarked_image, unmarked_in}
use Rattle.law_marks.proofs.ChangeLemmas.{changes_alike, state_twice}
use Rattle.law_marks.proofs.InstructionLemmas.{instructions_see_no_marks}
use Rattle.law_marks.proofs.ProcessLemmas.{process-each}
use Rattle.law_marks.proofs.ToldLemmas.{known-same}
use Rattle.law_marks.specs.Calls.{SeesNoMarks}
use Rattle.law_marks.specs.Turns.{TurnsSeeNoMarks}
use Rattle.law_marks.specs.Unjudged.{unjudged, unmarked_came, unmarked_machine, unmarked_stop}
use Rattle.law_marks.proofs.CallLemmas.{plain-unmarked}
use Rattle.law_marks.proofs.StateLemmas.{calling-unmarked, computed-unmarked}

-- ---- who is ready, and who is picked

abbrev pub bare : Process ℕ Image → Process ℕ Image
bare = with_image unmarked_image

goes_on-unmarked : (s : State ℕ Image) (p : Process ℕ Image) → goes_on (unmarked_in s) (bare p) ≡ goes_on s p
goes_on-unmarked s p = ap (λ k. not (p.waits && still_waits k p.pid p.image.regs)) (known-same p.pid s)

pub ready-unmarked : (s : State ℕ Image) → ready_processes (unmarked_in s) ≡ map_list bare (ready_processes s)
ready-unmarked s = kept-mapped bare (goes_on s) (goes_on (unmarked_in s)) (goes_on-unmarked s) s.living

picked-unmarked : (s : State ℕ Image) (pick : ℕ) → picked_process (unmarked_in s) pick ≡ option_map bare (picked_process s pick)
picked-unmarked s pick =
    let ready : List (Process ℕ Image) = ready_processes s in
    ap (λ (ps : List (Process ℕ Image)). slice_get ps (pick % length ps)) (ready-unmarked s)
    ∙ ap (λ n. slice_get (map_list bare ready) (pick % n)) (length-map ready bare)
    ∙ slice_get-map bare ready (pick % length ready)

module _ {S : Type 0} where
  pub machine_twice : (m : Machine S) → unmarked_machine (unmarked_machine m) ≡ unmarked_machine m
  machine_twice m = ap (λ (state : State ℕ Image). record { state = state; watcher = m.watcher; tally = unjudged m.tally }) (state_twice m.state)

  module _ (w : Watcher S) (blind : SeesNoMarks w) where
    -- ---- behind a call

    exit-unmarked : (t : Stopped) (x : S) (tally : Tally) (o : Option (Process ℕ Image)) → unmarked_machine (after_exit w t x tally o) ≡ after_exit w (unmarked_stop t) x (unjudged tally) (option_map bare o)
    exit-unmarked t x tally None = refl
    exit-unmarked t x tally (Some p) = ap (λ (left : S × Stopped). record { state = left.1.state; watcher = left.0; tally = unjudged tally }) (sym (blind.exit x t))

    left-unmarked : (pid : ℕ) (t : Stopped) (x : S) (tally : Tally)
        → unmarked_machine (after_exit w t x tally (process pid t.state)) ≡ after_exit w (unmarked_stop t) x (unjudged tally) (process pid (unmarked_in t.state))
    left-unmarked pid t x tally =
        exit-unmarked t x tally (process pid t.state) ∙ ap (after_exit w (unmarked_stop t) x (unjudged tally)) (sym (process-each unmarked_image pid t.state))

    end-unmarked : (pid : ℕ) (e : CallEnd) (t : Stopped) (x : S) (tally : Tally) → unmarked_machine (after_end w pid e t x tally) ≡ after_end w pid e (unmarked_stop t) x (unjudged tally)
    end-unmarked pid end.Answered t x tally = left-unmarked pid t x tally
    end-unmarked pid end.Replaced t x tally = left-unmarked pid t x tally
    end-unmarked pid end.Waits t x tally = refl
    end-unmarked pid (end.Ended told) t x tally = refl

    came-unmarked : (pid : ℕ) (came : Came) (x : S) (tally : Tally) → unmarked_machine (after_plain w pid came x tally) ≡ after_plain w pid (unmarked_came came) x (unjudged tally)
    came-unmarked pid came x tally = end-unmarked pid came.end (called pid came) (after_born w pid came.child x) tally

    module _ (marks : ℕ) (table : List Row) where
      -- ---- a call with its stops

      watched-unmarked : (pid : ℕ) (m : Machine S) → unmarked_machine (watched_call w marks table pid m) ≡ unmarked_machine (watched_call w 0 table pid (unmarked_machine m))
      watched-unmarked pid m =
          let one : S × Stopped = w.entry m.watcher (calling marks pid m.state) in
          let other : S × Stopped = w.entry m.watcher (calling 0 pid (unmarked_in m.state)) in
          let same : other ≡ (one.0, unmarked_stop one.1) = ap (w.entry m.watcher) (calling-unmarked marks pid m.state) ∙ blind.entry m.watcher (calling marks pid m.state) in
          came-unmarked pid (plain_call table pid one.1.state) one.0 (with_broken (plain_rule marks table pid (lacks_in marks pid m.state) one.1.state) m.tally)
          ∙ ap (λ (came : Came). after_plain w pid came one.0 (unjudged m.tally)) (sym (plain-unmarked table pid one.1.state))
          ∙ ap (λ (e : S × Stopped). after_plain w pid (unmarked_came (plain_call table pid e.1.state)) e.0 (unjudged m.tally)) (sym same)
          ∙ sym (came-unmarked pid (plain_call table pid other.1.state) other.0 (with_broken (plain_rule 0 table pid (lacks_in 0 pid (unmarked_in m.state)) other.1.state) (unjudged m.tally)))

      -- ---- a turn

      event-unmarked : (pid : ℕ) (e : Event) (m : Machine S) → unmarked_machine (after_event w marks table pid e m) ≡ unmarked_machine (after_event w 0 table pid e (unmarked_machine m))
      event-unmarked pid Next m = sym (machine_twice m)
      event-unmarked pid Call m = watched-unmarked pid m
      event-unmarked pid (Killed signal) m =
          ap (λ (state : State ℕ Image). record { state = state; watcher = w.gone m.watcher pid; tally = record { status = 128 + signal; broken = None } })
          (sym (changes_alike no_mounts pid (End signal ∷ []) m.state))

      picked_turn-unmarked : (fuel : ℕ) (p : Process ℕ Image) (m : Machine S) → unmarked_machine (turn_of w marks table fuel p m) ≡ unmarked_machine (turn_of w 0 table fuel (bare p) (unmarked_machine m))
      picked_turn-unmarked fuel p m =
          let end : Ran = ran fuel p.image.regs p.image.memory in
          let after : Machine S = record { state = computed p.pid end.regs end.memory m.state; watcher = m.watcher; tally = m.tally } in
          event-unmarked p.pid end.event after
          ∙ ap (λ (state : State ℕ Image). unmarked_machine (after_event w 0 table p.pid end.event (record { state = state; watcher = m.watcher; tally = unjudged m.tally })))
          (sym (computed-unmarked p.pid end.regs end.memory m.state))
          ∙ ap (λ (e : Ran). unmarked_machine (after_event w 0 table p.pid e.event (record { state = computed p.pid e.regs e.memory (unmarked_in m.state); watcher = m.watcher; tally = unjudged m.tally })))
          (sym (instructions_see_no_marks fuel p.image.regs p.image.memory))

      pub turn-unmarked : (pick fuel : ℕ) (m : Machine S) → unmarked_machine (turn w marks table pick fuel m) ≡ unmarked_machine (turn w 0 table pick fuel (unmarked_machine m))
      turn-unmarked pick fuel m =
          by (picked_process m.state pick)
          ∙ ap (λ (o : Option (Process ℕ Image)). unmarked_machine (by_pick w 0 table fuel o (unmarked_machine m))) (sym (picked-unmarked m.state pick))
        where
          by : (o : Option (Process ℕ Image)) → unmarked_machine (by_pick w marks table fuel o m) ≡ unmarked_machine (by_pick w 0 table fuel (option_map bare o) (unmarked_machine m))
          by None = sym (machine_twice m)
          by (Some p) = picked_turn-unmarked fuel p m

pub turns_see_no_marks : (S : Type 0) → TurnsSeeNoMarks S
turns_see_no_marks S w blind marks table pick fuel m = turn-unmarked w blind marks table pick fuel m
