-- A watcher that is nobody leaves each turn as it is without one.
use Rattle.std.proofs.Common.{◌≡◌, ℕ, zero, suc, List, Option, Some, None, refl, sym, ap, ◌∙◌}
use Rattle.std.specs.Option.{option_map_or}
use Rattle.law_starts.specs.rv_cpu.Run.{ran}
use Rattle.law_starts.specs.rv_cpu.declared.event.Event.{Event}
use Rattle.law_starts.specs.rv_cpu.declared.event.Event.TheVariants.{Call, Killed, Next}
use Rattle.pr_top.specs.kr_view.View.{Row}
use Rattle.law_starts.specs.kr_model.State.{Image, Process, State, process}
use Rattle.law_starts.specs.kr_steps.Computing.{computed}
use Rattle.law_starts.specs.kr_steps.Waiting.{picked_process}
use Rattle.law_starts.specs.kr_turns.Breaking.{plain_rule}
use Rattle.law_starts.specs.kr_turns.PlainCall.{Came, plain_call}
use Rattle.law_starts.specs.kr_turns.Run.{Slot, after_put, ended, ending_of, put_by, run_from, turned, with_put}
use Rattle.law_starts.specs.kr_turns.Shelving.{lacks_in, shelved_in}
use Rattle.law_starts.specs.kr_stops.Stopped.{Stopped}
use Rattle.law_starts.specs.kr_turns.Turn.{Machine, Tally, after_born, after_end, after_event, after_exit, by_pick, called, with_broken}
use Rattle.law_starts.specs.kr_stops.Watching.{unwatched}
use Rattle.law_starts.specs.kr_turns.declared.plain.CallEnd.{CallEnd}
use Rattle.law_starts.specs.kr_turns.declared.plain.CallEnd.TheVariants as end
use Rattle.law_starts.specs.pt_faker.Watches.{watch}
use Rattle.law_starts.specs.pt_faker.declared.watch.Watch.{Watch}
use Rattle.law_starts.specs.pt_faker.declared.watch.Watch.TheVariants.{Nobody}
use Rattle.law_machines.specs.Watching.{NobodyWatches}

-- a machine that nobody watches
abbrev alone : State ℕ Image → Tally → Machine Watch
alone state tally = record { state = state; watcher = Nobody; tally = tally }

is_alone : (m : Machine Watch) → m.watcher ≡ Nobody → m ≡ alone m.state m.tally
is_alone m e = λ i. record { state = m.state; watcher = e i; tally = m.tally }

-- two machines are the same one, which nobody watches
abbrev AreAlone : Machine Watch → Machine Watch → Type 0
AreAlone m n = (m ≡ n) × (n.watcher ≡ Nobody)

module _ (marks : ℕ) (table : List Row) where
  exits_alone : (t : Stopped) (tally : Tally) (o : Option (Process ℕ Image)) → AreAlone (after_exit watch t Nobody tally o) (after_exit unwatched t Nobody tally o)
  exits_alone t tally None = (refl, refl)
  exits_alone t tally (Some p) = (refl, refl)

  ends_alone : (pid : ℕ) (e : CallEnd) (t : Stopped) (tally : Tally) → AreAlone (after_end watch pid e t Nobody tally) (after_end unwatched pid e t Nobody tally)
  ends_alone pid end.Answered t tally = exits_alone t tally (process pid t.state)
  ends_alone pid end.Replaced t tally = exits_alone t tally (process pid t.state)
  ends_alone pid end.Waits t tally = (refl, refl)
  ends_alone pid (end.Ended told) t tally = (refl, refl)

  bears_alone : (pid : ℕ) (o : Option ℕ) → (after_born watch pid o Nobody ≡ Nobody) × (after_born {S = Watch} unwatched pid o Nobody ≡ Nobody)
  bears_alone pid None = (refl, refl)
  bears_alone pid (Some child) = (refl, refl)

  calls_alone : (pid : ℕ) (came : Came) (tally : Tally) → AreAlone (after_end watch pid came.end (called pid came) (after_born watch pid came.child Nobody) tally) (after_end unwatched pid came.end (called pid came) (after_born unwatched pid came.child Nobody) tally)
  calls_alone pid came tally =
      let bears = bears_alone pid came.child in
      let ends = ends_alone pid came.end (called pid came) tally in (
        ap (λ x. after_end watch pid came.end (called pid came) x tally) bears.0 ∙ ends.0 ∙ sym (ap (λ x. after_end unwatched pid came.end (called pid came) x tally) bears.1),
        ap (λ x. (after_end unwatched pid came.end (called pid came) x tally).watcher) bears.1 ∙ ends.1,
      )

  events_alone : (pid : ℕ) (e : Event) (state : State ℕ Image) (tally : Tally) → AreAlone (after_event watch marks table pid e (alone state tally)) (after_event unwatched marks table pid e (alone state tally))
  events_alone pid Next state tally = (refl, refl)
  events_alone pid (Killed signal) state tally = (refl, refl)
  events_alone pid Call state tally = calls_alone pid (plain_call table pid (shelved_in marks pid state)) (with_broken (plain_rule marks table pid (lacks_in marks pid state) (shelved_in marks pid state)) tally)

  picks_alone : (fuel : ℕ) (o : Option (Process ℕ Image)) (state : State ℕ Image) (tally : Tally) → AreAlone (by_pick watch marks table fuel o (alone state tally)) (by_pick unwatched marks table fuel o (alone state tally))
  picks_alone fuel None state tally = (refl, refl)
  picks_alone fuel (Some p) state tally =
      let end = ran fuel p.image.regs p.image.memory in
      events_alone p.pid end.event (computed p.pid end.regs end.memory state) tally

  module _ (slots : ℕ → Slot) where
    turns_alone : (made : ℕ) (m : Machine Watch) → m.watcher ≡ Nobody → AreAlone (turned watch marks table slots made m) (turned unwatched marks table slots made m)
    turns_alone made m e =
        let is = is_alone m e in
        let same = picks_alone (slots made).fuel (picked_process m.state (slots made).pick) m.state m.tally in
        (ap (turned watch marks table slots made) is ∙ same.0 ∙ sym (ap (turned unwatched marks table slots made) is), ap (λ m. (turned unwatched marks table slots made m).watcher) is ∙ same.1)

    runs_alone : (left made : ℕ) (m : Machine Watch) → m.watcher ≡ Nobody → run_from watch marks table slots left made m ≡ run_from unwatched marks table slots left made m
    unfolding run_from
    runs_alone zero made m e = refl
    runs_alone (suc left) made m e =
        let same = turns_alone made m e in
        ap (λ n. option_map_or (ended m) (ending_of m) (with_put (put_by n) (run_from watch marks table slots left (suc made) (after_put n)))) same.0
        ∙ ap (λ rest. option_map_or (ended m) (ending_of m) (with_put (put_by (turned unwatched marks table slots made m)) rest)) (runs_alone left (suc made) (after_put (turned unwatched marks table slots made m)) same.1)

pub nobody_watches : NobodyWatches
nobody_watches marks table slots turns m e = runs_alone marks table slots turns 0 m e
