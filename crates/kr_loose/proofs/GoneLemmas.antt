-- What is kept of a loose run of a kernel stands behind each step that the kernel makes.
use Rattle.std.proofs.Common.{List, ◌≡◌, ℕ, suc, Bool, true, false, not, ◌&&◌, Option, Some, None, inl, inr, refl, sym, ap, subst, arith, ◌∙◌}
use Rattle.std.specs.Prelude.{◌||◌, ◌↔◌, ◌⊎◌}
use Rattle.kr_core.specs.kr_turns.kr_view.View.{Row}
use Rattle.kr_core.specs.kr_turns.Breaking.{nothing_reached}
use Rattle.kr_core.specs.kr_turns.PlainCall.{plain_call, plain_reach}
use Rattle.kr_core.specs.kr_turns.Turn.{calling}
use Rattle.kr_core.specs.kr_turns.declared.plain.CallEnd.TheVariants as end
use Rattle.kr_core.specs.kr_turns.kr_stops.Stopped.{Stopped}
use Rattle.kr_core.specs.kr_turns.kr_stops.Watching.{Watching}
use Rattle.kr_core.specs.kr_turns.kr_stops.declared.handed.Handed.{Handed}
use Rattle.kr_core.specs.Between.{between_of, is_exec_at, phase_at}
use Rattle.kr_core.specs.Counting.{IsCounted}
use Rattle.kr_core.specs.Kernel.{Kernel, machine, phase_of}
use Rattle.kr_core.specs.Moving.{Entry, Exit, Instructions, Plain, StepKind}
use Rattle.kr_core.specs.Stepping.{HasMoved}
use Rattle.kr_core.specs.declared.paused.Begun.{Begun}
use Rattle.kr_core.specs.declared.paused.Between.{Between}
use Rattle.kr_core.specs.declared.paused.Between.TheVariants.{AtCall, Done, Entered}
use Rattle.kr_core.specs.declared.paused.Phase.TheVariants as phase
use Rattle.kr_core.proofs.SteppingLemmas.{has-phase as stands-at}
use Rattle.kr_loose.specs.Behind.{ComesBehind, IsBehind, TellsOthers, counts_in, kept_of}
use Rattle.kr_loose.specs.Going.{HasGone, step_made}
use Rattle.kr_loose.specs.Judging.{counted_after, counted_at, counts_of, is_altered}
use Rattle.kr_loose.specs.LooseRun.{Step}
use Rattle.kr_loose.specs.Quiet.{met_by}
use Rattle.kr_loose.specs.declared.judge.Counts.{Counts}
use Rattle.kr_loose.specs.declared.judge.Judge.{Judge}
use Rattle.kr_loose.proofs.BehindLemmas.{StepTold, Tells, comes-called, comes-entered, comes-still}
use Rattle.kr_loose.proofs.JudgeLemmas.{after-other, counted-other, counted-own}
use Rattle.kr_loose.proofs.MovedLemmas.{entered-waits, left-not-entered, others-stay, run-not-entered}

-- ---- counts

rises-tells : {A : Type 0} (before now : ℕ) → (A × (now ≡ before)) ⊎ ((A → ⊥) × (now ≡ suc before)) → Tells A before now
rises-tells before now (inl h) = let e = h.1 in record { grew = omega arith; told = (λ still. h.0, λ left. h.1) }
rises-tells before now (inr h) = let e = h.1 in record { grew = omega arith; told = (λ still. absurd (omega arith), λ left. absurd (h.0 left)) }

-- no walk was made
nothing-met : (b : Bool) → (b || false) ≡ b
nothing-met true = refl
nothing-met false = refl

-- one behind the first stop of its call
entered-at : (o : Option Between) → phase_at o ≡ phase.Entered → (begun : Begun) × (o ≡ Some (Entered begun))
entered-at None at = absurd cc
entered-at (Some AtCall) at = absurd cc
entered-at (Some (Entered begun)) at = (begun, refl)
entered-at (Some (Done handed)) at = absurd cc

module _ {P S T : Type 0} {M : ℕ} (number : T → ℕ) (w : Watching S) (asks : S → Stopped → Bool) (table : List Row) (fuel pid : ℕ) (old new : Kernel P S T M) (counted : IsCounted number old new) where
  -- what is known of any of its steps
  told-of : (kind : StepKind) (pick : ℕ) (before after : Judge) → HasMoved number w table fuel pid kind old new → new.met ≡ (old.met || met_by asks M table kind (step_made number pick pid kind old new))
      → ((q : ℕ) → (q ≡ pid → ⊥) → counts_of q after.counted.items ≡ counts_of q before.counted.items) → StepTold asks M table (step_made number pick pid kind old new) (kept_of old before) (kept_of new after)
  told-of kind pick before after has met others = record {
    shape = rises-tells old.shape_changes new.shape_changes counted.shape;
    bytes = rises-tells old.byte_changes new.byte_changes counted.bytes;
    met = met;
    stay = others-stay number w table fuel pid kind old new has;
    counted = others;
  }

  -- ---- where nothing is judged

  module _ (judge : Judge) (still : new.met ≡ old.met) where
    pub run-gone : (done : ℕ) → phase_of number pid old ≡ Some phase.Running → HasMoved number w table fuel pid (Instructions done) old new → HasGone number w asks table fuel pid old new judge judge
    run-gone done at has = record {
      kind = Instructions done;
      moves = has;
      behind = λ pick.
          comes-still asks M table (step_made number pick pid (Instructions done) old new) (kept_of old judge) (kept_of new judge)
          (told-of (Instructions done) pick judge judge has (still ∙ sym (nothing-met old.met)) (λ q other. refl)) refl (λ steps. tt)
          (run-not-entered number w table fuel pid (Instructions done) old new has at);
    }

    pub leave-gone : phase_of number pid old ≡ Some phase.Done → HasMoved number w table fuel pid Exit old new → HasGone number w asks table fuel pid old new judge judge
    leave-gone at has = record {
      kind = Exit;
      moves = has;
      behind = λ pick.
          comes-still asks M table (step_made number pick pid Exit old new) (kept_of old judge) (kept_of new judge)
          (told-of Exit pick judge judge has (still ∙ sym (nothing-met old.met)) (λ q other. refl)) refl (λ steps. tt) (left-not-entered number w table fuel pid Exit old new has at);
    }

  module _ (before after : Judge) where
    -- ---- a first stop

    pub enter-gone : new.met ≡ (old.met || asks old.stops (calling M pid (machine number old).state)) → HasMoved number w table fuel pid Entry old new
        → after.undisturbed ≡ before.undisturbed → after.counted.items ≡ counted_at pid (counts_in new) before.counted.items → HasGone number w asks table fuel pid old new before after
    enter-gone met has same items = record {
      kind = Entry;
      moves = has;
      behind = λ pick.
          comes-entered asks M table pick pid (machine number old) (machine number new) (kept_of old before) (kept_of new after)
          (told-of Entry pick before after has met (λ q other. ap (counts_of q) items ∙ counted-other pid (counts_in new) before.counted.items q other)) same
          (ap (counts_of pid) items ∙ counted-own pid (counts_in new) before.counted.items);
    }

    -- ---- a call

    called-by : (begun : Begun) → between_of pid old.paused ≡ Some (Entered begun) → phase_of number pid old ≡ Some phase.Entered
        → after.undisturbed ≡ (before.undisturbed && not (is_altered pid begun.exec (counts_in old) before.counted.items))
        → (done : Bool) → (done ≡ false) ↔ ((plain_call table pid (machine number old).state).end ≡ end.Waits)
        → new.met ≡ (old.met || (plain_reach table pid (machine number old).state nothing_reached).met_proc) → HasMoved number w table fuel pid (Plain begun.exec) old new
        → after.counted.items ≡ counted_after pid done (counts_in new) before.counted.items → HasGone number w asks table fuel pid old new before after
    called-by begun stood at judges done waits met has items = record {
      kind = Plain begun.exec;
      moves = has;
      behind = λ pick.
          comes-called asks M table pick pid (machine number old) (machine number new) (kept_of old before) (kept_of new after) begun stood
          (told-of (Plain begun.exec) pick before after has met (λ q other. ap (counts_of q) items ∙ after-other pid (counts_in new) before.counted.items done q other)) judges
          (λ later entered.
          let waited = entered-waits number w table fuel pid (Plain begun.exec) old new has at later entered in
          let undone : done ≡ false = waits.1 waited.waits in (
            ap is_exec_at (sym stood ∙ waited.stood),
            ap (counts_of pid) (items ∙ ap (λ d. counted_after pid d (counts_in new) before.counted.items) undone) ∙ counted-own pid (counts_in new) before.counted.items,
          ));
    }

    pub call-gone : phase_of number pid old ≡ Some phase.Entered
        → after.undisturbed ≡ (before.undisturbed && not (is_altered pid (is_exec_at (between_of pid old.paused)) (counts_in old) before.counted.items))
        → (done : Bool) → (done ≡ false) ↔ ((plain_call table pid (machine number old).state).end ≡ end.Waits)
        → new.met ≡ (old.met || (plain_reach table pid (machine number old).state nothing_reached).met_proc) → HasMoved number w table fuel pid (Plain (is_exec_at (between_of pid old.paused))) old new
        → after.counted.items ≡ counted_after pid done (counts_in new) before.counted.items → HasGone number w asks table fuel pid old new before after
    call-gone at judges done waits met has items =
        let stood = entered-at (between_of pid old.paused) (stands-at number pid old old refl phase.Entered at).stands in
        let same : is_exec_at (between_of pid old.paused) ≡ stood.0.exec = ap is_exec_at stood.1 in
        called-by stood.0 stood.1 at (judges ∙ ap (λ (e : Bool). before.undisturbed && not (is_altered pid e (counts_in old) before.counted.items)) same) done waits met
        (subst (λ (e : Bool). HasMoved number w table fuel pid (Plain e) old new) same has) items

-- ---- bytes that are forgotten are no part of it

pub still-behind : {P S T : Type 0} {M : ℕ} (asks : S → Stopped → Bool) (table : List Row) (old new : Kernel P S T M) (judge : Judge) → new.paused ≡ old.paused → new.met ≡ old.met
    → new.shape_changes ≡ old.shape_changes → new.byte_changes ≡ old.byte_changes → (met_at_start : Bool) (steps : List (Step S)) → IsBehind asks M table met_at_start steps (kept_of old judge)
    → IsBehind asks M table met_at_start steps (kept_of new judge)
still-behind asks table old new judge paused met shape bytes met_at_start steps was = record {
  walks = (λ none. was.walks.0 (sym met ∙ none), λ both. met ∙ was.walks.1 both);
  undisturbed = was.undisturbed;
  others = λ holds pid begun at.
      let counts : counts_in old ≡ counts_in new = λ i. record { shape = sym shape i; bytes = sym bytes i } in
      subst (λ (n : Counts). TellsOthers pid begun.exec steps n judge.counted.items) counts (was.others holds pid begun (sym (ap (between_of pid) paused) ∙ at));
}
