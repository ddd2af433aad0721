-- A kernel that goes on by its turns: each of them, and its run.
use Rattle.std.proofs.Common.{◌≡◌, ◌≤◌, ℕ, zero, suc, List, Option, Some, None, Result, Ok, Err, refl, sym, ap, subst, ◌∙◌, arith}
use Rattle.std.specs.Prelude.{IfOk, OnOk}
use Rattle.std.specs.Option.{option_map_or}
use Rattle.kr_loose.specs.kr_view.View.{Row}
use Rattle.kr_loose.specs.kr_core.Kernel.{Clears, HasNoTurn, Kernel, machine_by}
use Rattle.kr_loose.specs.kr_core.declared.kernel.Turned.{Turned}
use Rattle.kr_loose.specs.kr_core.declared.kernel.Turned.TheVariants as turned
use Rattle.kr_loose.specs.kr_turns.Run.{Ending, Put, Ran, Slot, after_put, ended, ending_of, put_by, run_from, turned as after_turn, with_put}
use Rattle.kr_loose.specs.kr_turns.Turn.{Machine, turn}
use Rattle.pt_tracer.specs.kr_stops.Watching.{Watcher}
use Rattle.pr_sources.specs.pr_words.declared.options.Slot.{Slot as SlotOfWords}
use Rattle.pr_run.specs.Going.{GoesTo, Went, by_turns, ran_of, went_by, went_ended, went_from, went_put}
use Rattle.pr_run.specs.Puts.{GoesOn, IsBetweenTurns, MakesTurn}
use Rattle.pr_run.specs.Slots.{run_of, slot_of}
use Rattle.pr_run.specs.declared.plan.Plan.{Plan}

-- ---- machines

module _ {S : Type 0} where
  told-by : (put : Put) (m : Machine S) (o : Option Ending) (ran : Ran S) (went : Went (Machine S)) → ran ≡ ran_of went
      → option_map_or (ended m) o (with_put put ran) ≡ ran_of (option_map_or (went_ended m) o (went_put put went))
  told-by put m None ran went later = ap (with_put put) later
  told-by put m (Some ending) ran went later = refl

module _ {S : Type 0} (does : Watcher S) (marks : ℕ) (table : List Row) where
  -- its run by turns is its run by slots
  pub run-goes : (slots : ℕ → Slot) (left made : ℕ) (m : Machine S) → run_from does marks table slots left made m ≡ ran_of (went_from (by_turns does marks table) slots left made m)
  unfolding run_from went_from
  run-goes slots zero made m = refl
  run-goes slots (suc left) made m =
      let next = after_turn does marks table slots made m in
      told-by (put_by next) m (ending_of m) (run_from does marks table slots left (suc made) (after_put next)) (went_from (by_turns does marks table) slots left (suc made) (after_put next))
      (run-goes slots left (suc made) (after_put next))

  -- one that makes a turn goes on
  pub turns-go : {E : Type 0} (slot : SlotOfWords) (old new : Machine S) (r : Result Turned E) → IfOk r (MakesTurn does marks table slot old new)
      → IfOk r (λ t. (x : Machine S) → x ≡ old → GoesTo (by_turns does marks table) slot x (λ y. y ≡ new) t)
  turns-go slot old new (Ok turned.Ran) makes = λ x is. (ap (λ (m : Machine S). ending_of m) is ∙ makes.0, ap (λ (m : Machine S). turn does marks table slot.pick slot.fuel m) is ∙ sym makes.1)
  turns-go slot old new (Ok turned.Deadlock) makes = λ x is. (ap (λ (m : Machine S). ending_of m) is ∙ makes.0, is ∙ sym makes.1)
  turns-go slot old new (Ok turned.Over) makes = λ x is. (ap (λ (m : Machine S). ending_of m) is ∙ makes.0, is ∙ sym makes.1)
  turns-go slot old new (Err e) makes = tt

-- ---- kernels

module _ {P S T : Type 0} {M : ℕ} (old new : Kernel P S T M) where
  pub between-then : {E : Type 0} (r : Result Turned E) → IsBetweenTurns old → IfOk r (λ t. GoesOn t old new) → OnOk r (IsBetweenTurns new)
  between-then (Ok turned.Ran) is goes = record {
    whole = goes.whole;
    running = goes.running;
    calls = let before = is.calls in let call = goes.calls in let turns = goes.turns_are in omega (arith, before, call, turns);
  }
  between-then (Ok turned.Deadlock) is same = subst (λ (k : Kernel P S T M). IsBetweenTurns k) (sym same) is
  between-then (Ok turned.Over) is same = subst (λ (k : Kernel P S T M). IsBetweenTurns k) (sym same) is
  between-then (Err e) is goes = tt

  pub places-then : {E : Type 0} (r : Result Turned E) → IfOk r (λ t. GoesOn t old new) → OnOk r (new.places ≡ old.places)
  places-then (Ok turned.Ran) goes = goes.places
  places-then (Ok turned.Deadlock) same = ap (λ (k : Kernel P S T M). k.places) same
  places-then (Ok turned.Over) same = ap (λ (k : Kernel P S T M). k.places) same
  places-then (Err e) goes = tt

  pub made-then : {E : Type 0} (r : Result Turned E) → IfOk r (λ t. GoesOn t old new) → OnOk r (new.turns ≤ suc old.turns)
  made-then (Ok turned.Ran) goes = let one = goes.turns_are in omega (arith, one)
  made-then (Ok turned.Deadlock) same = let none = ap (λ (k : Kernel P S T M). k.turns) same in omega (arith, none)
  made-then (Ok turned.Over) same = let none = ap (λ (k : Kernel P S T M). k.turns) same in omega (arith, none)
  made-then (Err e) goes = tt

module _ {P S T : Type 0} {M : ℕ} where
  -- before the first turn
  pub between-first : (k : Kernel P S T M) → HasNoTurn k → IsBetweenTurns k
  between-first k first = record {
    whole = first.whole;
    running = first.running;
    calls = let none = first.calls in omega (arith, none);
  }

  -- and where bytes are forgotten
  pub between-cleared : (number : T → ℕ) (old new : Kernel P S T M) → Clears number old new → IsBetweenTurns old → IsBetweenTurns new
  between-cleared number old new c is = record {
    whole = c.whole ∙ is.whole;
    running = c.paused ∙ is.running;
    calls = let before = is.calls in let calls = c.calls in let turns = c.turns in omega (arith, before, calls, turns);
  }

-- a kernel that goes on by turns goes through its run
module _ {P S Q T : Type 0} {M : ℕ} (part : S → Q) (does : Watcher Q) (mounts : P → List Row) (number : T → ℕ) where
  pub run-goes-by : (plan : Plan) (k : Kernel P S T M) → run_of part does mounts number plan k ≡ ran_of (went_by (by_turns does M (mounts k.places)) plan (machine_by number part k))
  run-goes-by plan k = run-goes does M (mounts k.places) (slot_of plan.schedule) plan.turns 0 (machine_by number part k)
