-- A watcher that is one of identities leaves each turn as that one does.
use Rattle.std.proofs.Common.{◌≡◌, ℕ, zero, suc, List, Option, Some, None, refl, ap, ◌∙◌}
use Rattle.std.specs.Option.{option_map_or}
use Rattle.law_starts.specs.rv_cpu.Run.{ran}
use Rattle.law_starts.specs.rv_cpu.declared.event.Event.{Event}
use Rattle.law_starts.specs.rv_cpu.declared.event.Event.TheVariants.{Call, Killed, Next}
use Rattle.pr_top.specs.kr_view.View.{Row}
use Rattle.law_starts.specs.kr_model.State.{Image, Process, process}
use Rattle.law_starts.specs.kr_steps.Computing.{computed}
use Rattle.law_starts.specs.kr_steps.Waiting.{picked_process}
use Rattle.law_starts.specs.kr_turns.Breaking.{plain_rule}
use Rattle.law_starts.specs.kr_turns.PlainCall.{Came, plain_call}
use Rattle.law_starts.specs.kr_turns.Run.{Ending, Ran, Slot, after_put, ended, ending_of, put_by, run, run_from, turned, with_put}
use Rattle.law_starts.specs.kr_turns.Shelving.{lacks_in}
use Rattle.law_starts.specs.kr_stops.Stopped.{Stopped}
use Rattle.law_starts.specs.kr_turns.Turn.{Machine, Tally, after_born, after_end, after_event, after_exit, by_pick, called, calling, with_broken}
use Rattle.law_starts.specs.kr_turns.declared.plain.CallEnd.{CallEnd}
use Rattle.law_starts.specs.kr_turns.declared.plain.CallEnd.TheVariants as end
use Rattle.law_starts.specs.pt_faker.Watches.{watch}
use Rattle.law_starts.specs.pt_faker.declared.watch.Watch.{Watch}
use Rattle.law_starts.specs.pt_faker.declared.watch.Watch.TheVariants.{Faked}
use Rattle.law_starts.specs.pt_faker.Faking.{Faking, faker}
use Rattle.law_machines.specs.FakedStarts.{with_faking}
use Rattle.law_machines.specs.Watching.{FakersWatch, as_faked, ran_faked}

-- ---- a turn

exits_faked : (t : Stopped) (f : Faking) (tally : Tally) (o : Option (Process ℕ Image)) → after_exit watch t (Faked f) tally o ≡ as_faked (after_exit faker t f tally o)
exits_faked t f tally None = refl
exits_faked t f tally (Some p) = refl

ends_faked : (pid : ℕ) (e : CallEnd) (t : Stopped) (f : Faking) (tally : Tally) → after_end watch pid e t (Faked f) tally ≡ as_faked (after_end faker pid e t f tally)
ends_faked pid end.Answered t f tally = exits_faked t f tally (process pid t.state)
ends_faked pid end.Replaced t f tally = exits_faked t f tally (process pid t.state)
ends_faked pid end.Waits t f tally = refl
ends_faked pid (end.Ended told) t f tally = refl

bears_faked : (pid : ℕ) (o : Option ℕ) (f : Faking) → after_born watch pid o (Faked f) ≡ Faked (after_born faker pid o f)
bears_faked pid None f = refl
bears_faked pid (Some child) f = refl

calls_faked : (pid : ℕ) (came : Came) (f : Faking) (tally : Tally) → after_end watch pid came.end (called pid came) (after_born watch pid came.child (Faked f)) tally ≡ as_faked (after_end faker pid came.end (called pid came) (after_born faker pid came.child f) tally)
calls_faked pid came f tally =
    ap (λ x. after_end watch pid came.end (called pid came) x tally) (bears_faked pid came.child f) ∙ ends_faked pid came.end (called pid came) (after_born faker pid came.child f) tally

module _ (marks : ℕ) (table : List Row) where
  events_faked : (pid : ℕ) (e : Event) (m : Machine Faking) → after_event watch marks table pid e (as_faked m) ≡ as_faked (after_event faker marks table pid e m)
  events_faked pid Next m = refl
  events_faked pid (Killed signal) m = refl
  events_faked pid Call m =
      let left = faker.entry m.watcher (calling marks pid m.state) in
      calls_faked pid (plain_call table pid left.1.state) left.0 (with_broken (plain_rule marks table pid (lacks_in marks pid m.state) left.1.state) m.tally)

  picks_faked : (fuel : ℕ) (o : Option (Process ℕ Image)) (m : Machine Faking) → by_pick watch marks table fuel o (as_faked m) ≡ as_faked (by_pick faker marks table fuel o m)
  picks_faked fuel None m = refl
  picks_faked fuel (Some p) m =
      let end = ran fuel p.image.regs p.image.memory in
      events_faked p.pid end.event (record { state = computed p.pid end.regs end.memory m.state; watcher = m.watcher; tally = m.tally })

  -- ---- runs

  module _ (slots : ℕ → Slot) where
    pub turns_faked : (made : ℕ) (m : Machine Faking) → turned watch marks table slots made (as_faked m) ≡ as_faked (turned faker marks table slots made m)
    turns_faked made m = picks_faked (slots made).fuel (picked_process m.state (slots made).pick) m

    -- one that has ended, or goes on
    either_faked : (m : Machine Faking) (o : Option Ending) (rest : Ran Faking) → option_map_or (ended (as_faked m)) o (ran_faked rest) ≡ ran_faked (option_map_or (ended m) o rest)
    either_faked m None rest = refl
    either_faked m (Some ending) rest = refl

    runs_faked : (left made : ℕ) (m : Machine Faking) → run_from watch marks table slots left made (as_faked m) ≡ ran_faked (run_from faker marks table slots left made m)
    unfolding run_from
    runs_faked zero made m = refl
    runs_faked (suc left) made m =
        ap (λ n. option_map_or (ended (as_faked m)) (ending_of m) (with_put (put_by n) (run_from watch marks table slots left (suc made) (after_put n)))) (turns_faked made m)
        ∙ ap (λ rest. option_map_or (ended (as_faked m)) (ending_of m) (with_put (put_by (turned faker marks table slots made m)) rest)) (runs_faked left (suc made) (after_put (turned faker marks table slots made m)))
        ∙ either_faked m (ending_of m) (with_put (put_by (turned faker marks table slots made m)) (run_from faker marks table slots left (suc made) (after_put (turned faker marks table slots made m))))

pub fakers_watch : FakersWatch
fakers_watch marks table slots turns m f e = ap (run watch marks table slots turns) (is_faked m f e) ∙ runs_faked marks table slots turns 0 (with_faking f m)
  where
    is_faked : (m : Machine Watch) (f : Faking) → m.watcher ≡ Faked f → m ≡ as_faked (with_faking f m)
    is_faked m f e = λ i. record { state = m.state; watcher = e i; tally = m.tally }
