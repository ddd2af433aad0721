-- A loose run that goes by its steps: each of them, its run, and where its report stops.
use Rattle.std.proofs.Common.{◌≡◌, ◌≤◌, inl, inr, ℕ, zero, suc, Bool, true, List, [], ◌∷◌, Option, Some, None, Result, Ok, Err, refl, sym, ap, subst, ◌∙◌, arith, map}
use Rattle.std.specs.Prelude.{◌↔◌, IfOk, IsTrue, OnOk}
use Rattle.std.specs.Option.{option_map_or}
use Rattle.std.specs.Result.{IsErr, IsErrAnd}
use Rattle.pr_sources.specs.pr_io.Drawn.{Received}
use Rattle.pr_sources.specs.pr_words.declared.options.Slot.{Slot as SlotOfWords}
use Rattle.kr_loose.specs.kr_view.View.{Row}
use Rattle.kr_loose.specs.kr_core.Kernel.{Clears, Kernel, machine, machine_by}
use Rattle.kr_loose.specs.kr_core.Moving.{Entry, Exit, Instructions, Plain, StepKind}
use Rattle.kr_loose.specs.kr_core.Stepping.{calls_after}
use Rattle.kr_loose.specs.kr_core.declared.kernel.Turned.{Turned}
use Rattle.kr_loose.specs.kr_core.declared.kernel.Turned.TheVariants as turned
use Rattle.kr_loose.specs.kr_turns.Run.{Ending, Put, Slot, ending_of, put_by}
use Rattle.kr_loose.specs.kr_turns.Turn.{Machine}
use Rattle.pt_tracer.specs.kr_stops.Stopped.{Stopped}
use Rattle.pt_tracer.specs.kr_stops.Watching.{IsGraph, Watcher, Watching}
use Rattle.kr_loose.specs.Behind.{IsBehind, kept_of}
use Rattle.kr_loose.specs.Going.{HasStepped, loose_of, step_made}
use Rattle.kr_loose.specs.Laws.{QuietIsOfParts, StepsAreFunctions}
use Rattle.kr_loose.specs.LooseRun.{Loose, LooseRan, Step, after_bytes, loose_ended, loose_from, loose_part, loose_put, loosened, step, step_part, stepped}
use Rattle.kr_loose.specs.Quiet.{IsQuiet}
use Rattle.kr_loose.specs.declared.judge.Judge.{Judge}
use Rattle.pr_run.specs.Going.{GoesTo, Since, Went, by_steps, went_by, went_ended, went_from, went_put, went_since}
use Rattle.pr_run.specs.Puts.{GotNone, StopsReport, StopsRun}
use Rattle.pr_run.specs.Report.{Report}
use Rattle.pr_run.specs.Slots.{slot_of}
use Rattle.pr_run.specs.Stepping.{HasNoStep, MakesStep, StandsSince, StepsOn, loose_ran}
use Rattle.pr_run.specs.declared.plan.Plan.{Plan}
use Rattle.pr_run.specs.declared.turns.Stop.{Stop}
use Rattle.pr_run.specs.declared.turns.Stop.TheVariants as stop
use Rattle.pr_run.proofs.TurnLemmas.{forgotten}

-- two facts of an answer
pub on-both : {A B C D E : Type 0} (r : Result D E) → (A → B → C) → OnOk r A → OnOk r B → OnOk r C
on-both (Ok x) f a b = f a b
on-both (Err e) f a b = tt

-- an error that is handed on
pub err-is : {A E : Type 0} (r : Result A E) (e : E) → IsErr r → IsErrAnd r (λ f. f ≡ e) → r ≡ Err e
err-is (Ok x) e err same = absurd cc
err-is (Err f) e err same = ap (λ g. Err g) same

-- ---- its run

module _ {S : Type 0} where
  stepped-by : (put : Put) (met : Bool) (l : Loose S) (o : Option Ending) (ran : LooseRan S) (went : Went (Since S)) → went ≡ went_since met ran
      → option_map_or (went_ended (met, l)) o (went_put put went) ≡ went_since met (option_map_or (loose_ended l) o (loose_put put ran))
  stepped-by put met l None ran went later = ap (went_put put) later
  stepped-by put met l (Some ending) ran went later = refl

module _ {S : Type 0} (does : Watcher S) (marks : ℕ) (table : List Row) where
  -- by steps is its run by slots
  pub steps-go : (slots : ℕ → Slot) (left made : ℕ) (met : Bool) (l : Loose S) → went_from (by_steps does marks table) slots left made (met, l) ≡ went_since met (loose_from does marks table slots left made l)
  unfolding loose_from went_from
  steps-go slots zero made met l = refl
  steps-go slots (suc left) made met l =
      let next = stepped does marks table slots made l in
      stepped-by (put_by next.machine) met l (ending_of l.machine) (loose_from does marks table slots left (suc made) (after_bytes next)) (went_from (by_steps does marks table) slots left (suc made) (met, after_bytes next))
      (steps-go slots left (suc made) met (after_bytes next))

-- ---- one step

pub calls-grow : (kind : StepKind) (calls : ℕ) → calls_after kind calls ≤ suc calls
calls-grow (Instructions done) calls = omega arith
calls-grow Entry calls = omega arith
calls-grow (Plain exec) calls = omega arith
calls-grow Exit calls = omega arith

-- where nothing changed
pub steps-same : {P S T : Type 0} {M : ℕ} (old new : Kernel P S T M) → new ≡ old → old.whole ≡ true → StepsOn old new
steps-same {P} {S} {T} {M} old new same whole = subst (λ (k : Kernel P S T M). StepsOn old k) (sym same) (record { whole = whole; places = refl; calls = omega arith })

module _ {P S Q T : Type 0} {M : ℕ} (number : T → ℕ) (part : S → Q) (asks : S → Stopped → Bool) (mounts : P → List Row) where
  abbrev Stands : Kernel P S T M → Judge → Since Q → Type 0
  Stands k judge x = StandsSince number part asks (mounts k.places) k judge x

  -- what makes a step goes on
  module _ (w : Watching S) (does : Watcher Q) (functions : StepsAreFunctions part w) (graph : IsGraph part w does) (slot : SlotOfWords) (old new : Kernel P S T M) (before after : Judge) where
    abbrev Made : Turned → Type 0
    Made t = MakesStep number w asks (mounts old.places) slot old new before after t

    abbrev Goes : Turned → Type 0
    Goes t = (x : Since Q) → Stands old before x → GoesTo (by_steps does M (mounts old.places)) slot x (Stands new after) t

    unmoved : (x : Since Q) → new ≡ old → after ≡ before → Stands old before x → Stands new after x
    unmoved x same kept stands = subst (λ (k : Kernel P S T M). Stands k after x) (sym same) (subst (λ (j : Judge). Stands old j x) (sym kept) stands)

    stands-then : (x : Since Q) → HasStepped number w asks (mounts old.places) slot.pick slot.fuel old new before after → new.places ≡ old.places → StandsSince number part asks (mounts old.places) old before x
        → Stands new after (x.0, step does M (mounts old.places) slot.pick slot.fuel x.1)
    stands-then x made places stands =
        let own = step_made number slot.pick made.process.pid made.kind old new in
        let next = functions.steps does M (mounts old.places) slot.pick slot.fuel made.process (loose_of number stands.steps old) (loose_of number (own ∷ stands.steps) new) graph made.picked (made.step stands.steps) in
        subst (λ p. StandsSince number part asks (mounts p) new after (x.0, step does M (mounts old.places) slot.pick slot.fuel x.1)) (sym places) (record {
          steps = own ∷ stands.steps;
          behind = made.behind x.0 stands.steps stands.behind;
          same = ap (λ (l : Loose Q). step does M (mounts old.places) slot.pick slot.fuel l) stands.same ∙ sym next;
        })

    pub steps-to : {E : Type 0} (r : Result Turned E) → IfOk r Made → OnOk r (StepsOn old new) → IfOk r Goes
    steps-to (Ok turned.Ran) makes on = λ x stands. (ap (λ (l : Loose Q). ending_of l.machine) stands.same ∙ makes.0, stands-then x makes.1 on.places stands)
    steps-to (Ok turned.Deadlock) makes on = λ x stands. (ap (λ (l : Loose Q). ending_of l.machine) stands.same ∙ makes.0, unmoved x makes.1 makes.2 stands)
    steps-to (Ok turned.Over) makes on = λ x stands. (ap (λ (l : Loose Q). ending_of l.machine) stands.same ∙ makes.0, unmoved x makes.1 makes.2 stands)
    steps-to (Err e) makes on = tt

  -- where bytes are forgotten
  pub same-forgotten : (old new : Kernel P S T M) (steps : List (Step S)) (x : Loose Q) → Clears number old new → x ≡ loose_part part (loose_of number steps old) → after_bytes x ≡ loose_part part (loose_of number steps new)
  same-forgotten old new steps x c same =
      ap (λ (l : Loose Q). after_bytes l) same
      ∙ (λ i. record { machine = sym (forgotten number part old new c) i; paused = sym c.paused i; steps = map (step_part part) steps })

  -- ---- a whole run

  -- before the first step
  pub first-stands : (k : Kernel P S T M) (judge : Judge) → HasNoStep asks (mounts k.places) k judge → Stands k judge (k.met, loosened (machine_by number part k))
  first-stands k judge first = record {
    steps = [];
    behind = first.behind;
    same = λ i. record { machine = machine_by number part k; paused = sym first.first.running i; steps = [] };
  }

  pub loose-goes : (does : Watcher Q) (plan : Plan) (k : Kernel P S T M)
      → went_by (by_steps does M (mounts k.places)) plan (k.met, loosened (machine_by number part k)) ≡ went_since k.met (loose_ran does M (mounts k.places) plan (machine_by number part k))
  loose-goes does plan k = steps-go does M (mounts k.places) (slot_of plan.schedule) plan.turns 0 k.met (loosened (machine_by number part k))

  -- ---- quiet

  -- what is told of steps is told by what its watcher keeps of a part
  pub quiet-by-part : QuietIsOfParts S Q → (asked : Q → Stopped → Bool) → ((x : S) (t : Stopped) → asks x t ≡ asked (part x) t) → (k : Kernel P S T M) (judge : Judge) (quiet : Bool)
      → ((met : Bool) (steps : List (Step S)) → IsBehind asks M (mounts k.places) met steps (kept_of k judge) → (IsTrue quiet ↔ IsQuiet asks M (mounts k.places) met steps))
      → (x : Since Q) → Stands k judge x → (IsTrue quiet ↔ IsQuiet asked M (mounts k.places) x.0 x.1.steps)
  quiet-by-part parts asked shows k judge quiet told x stands =
      let own = told x.0 stands.steps stands.behind in
      let both = parts part asks asked shows M (mounts k.places) x.0 stands.steps in
      subst (λ (l : Loose Q). IsTrue quiet ↔ IsQuiet asked M (mounts k.places) x.0 l.steps) (sym stands.same) ((λ yes. both.0 (own.0 yes)), (λ is. own.1 (both.1 is)))

-- ---- where its report stops

pub stops-in-run : (r : Report) (out err left : Received) → GotNone left → (s : Stop) → StopsRun r.puts out err s → StopsReport r out err left s
stops-in-run r out err left none stop.Out p = (p.0, p.1, none)
stops-in-run r out err left none stop.Err p = (p.0, inl p.1, none)
stops-in-run r out err left none stop.Left p = absurd p
stops-in-run r out err left none stop.NoMemory p = (inl p, none)
