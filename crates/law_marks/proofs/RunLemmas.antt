-- A run with marks, and one without.
use Rattle.std.proofs.Common.{◌≡◌, ℕ, zero, suc, List, [], ◌∷◌, Option, Some, None, refl, sym, ap, ◌∙◌}
use Rattle.std.specs.Prelude.{map as map_list}
use Rattle.std.specs.Option.{option_map_or}
use Rattle.kr_turns.specs.kr_model.State.{Image, Process}
use Rattle.kr_turns.specs.kr_steps.Waiting.{ready_processes}
use Rattle.kr_turns.specs.kr_stops.Watching.{Watcher}
use Rattle.kr_turns.specs.kr_view.View.{Row}
use Rattle.kr_turns.specs.Run.{Deadlock, Ending, Over, Put, Ran, Slot, Spent, after_put, ended, ending_of, if_any, put_by, run_from, turned, with_put}
use Rattle.kr_turns.specs.Turn.{Machine}
use Rattle.law_marks.specs.Unmarked.{unmarked_in}
use Rattle.law_marks.specs.Calls.{SeesNoMarks}
use Rattle.law_marks.specs.Turns.{RunsSeeNoMarks, RunsTellAlike}
use Rattle.law_marks.specs.Unjudged.{unmarked_machine, unmarked_ran}
use Rattle.law_marks.proofs.TurnLemmas.{bare, machine_twice, ready-unmarked, turn-unmarked}

any-mapped : {A B : Type 0} (f : A → A) (xs : List A) (none some : B) → if_any (map_list f xs) none some ≡ if_any xs none some
any-mapped f [] none some = refl
any-mapped f (x ∷ xs) none some = refl

module _ {S : Type 0} (w : Watcher S) (blind : SeesNoMarks w) (table : List Row) (slots : ℕ → Slot) where
  -- ---- how it ends

  ending-unmarked : (m : Machine S) → ending_of (unmarked_machine m) ≡ ending_of m
  ending-unmarked m =
      any-mapped bare m.state.living (Some Over) (if_any (ready_processes (unmarked_in m.state)) (Some Deadlock) None)
      ∙ ap (if_any m.state.living (Some Over))
      (ap (λ (ps : List (Process ℕ Image)). if_any ps (Some Deadlock) None) (ready-unmarked m.state) ∙ any-mapped bare (ready_processes m.state) (Some Deadlock) None)

  ended-unmarked : (m : Machine S) (e : Ending) → unmarked_ran (ended m e) ≡ unmarked_ran (ended (unmarked_machine m) e)
  ended-unmarked m e = ap (λ (machine : Machine S). record { puts = []; ending = e; machine = machine }) (sym (machine_twice m))

  -- ---- turn by turn

  put-unmarked : (one other : Machine S) → unmarked_machine one ≡ unmarked_machine other → put_by one ≡ put_by other
  put-unmarked one other same = ap (λ (m : Machine S). record { out = m.state.out; err = m.state.err }) same

  -- by whether it goes on
  step-unmarked : (m : Machine S) (puts others : Put) (rest more : Ran S) → puts ≡ others → unmarked_ran rest ≡ unmarked_ran more → (o : Option Ending)
      → unmarked_ran (option_map_or (ended m) o (with_put puts rest)) ≡ unmarked_ran (option_map_or (ended (unmarked_machine m)) o (with_put others more))
  step-unmarked m puts others rest more put same None = λ i. with_put (put i) (same i)
  step-unmarked m puts others rest more put same (Some e) = ended-unmarked m e

  run-unmarked : (left marks made : ℕ) (m : Machine S) → unmarked_ran (run_from w marks table slots left made m) ≡ unmarked_ran (run_from w 0 table slots left made (unmarked_machine m))
  unfolding run_from
  run-unmarked zero marks made m =
      ended-unmarked m (option_map_or (λ ending. ending) (ending_of m) Spent)
      ∙ ap (λ o. unmarked_ran (ended (unmarked_machine m) (option_map_or (λ ending. ending) o Spent))) (sym (ending-unmarked m))
  run-unmarked (suc left) marks made m =
      let one : Machine S = turned w marks table slots made m in
      let other : Machine S = turned w 0 table slots made (unmarked_machine m) in
      let same : unmarked_machine one ≡ unmarked_machine other = turn-unmarked w blind marks table (slots made).pick (slots made).fuel m in
      let rest : Ran S = run_from w marks table slots left (suc made) (after_put one) in
      let more : Ran S = run_from w 0 table slots left (suc made) (after_put other) in
      let alike : unmarked_ran rest ≡ unmarked_ran more =
      run-unmarked left marks (suc made) (after_put one)
      ∙ ap (λ (n : Machine S). unmarked_ran (run_from w 0 table slots left (suc made) (after_put n))) same
      ∙ sym (run-unmarked left 0 (suc made) (after_put other)) in
      step-unmarked m (put_by one) (put_by other) rest more (put-unmarked one other same) alike (ending_of m)
      ∙ ap (λ o. unmarked_ran (option_map_or (ended (unmarked_machine m)) o (with_put (put_by other) more))) (sym (ending-unmarked m))

pub runs_see_no_marks : (S : Type 0) → RunsSeeNoMarks S
runs_see_no_marks S w blind one other table slots turns m n same =
    run-unmarked w blind table slots turns one 0 m
    ∙ ap (λ (k : Machine S). unmarked_ran (run_from w 0 table slots turns 0 k)) same
    ∙ sym (run-unmarked w blind table slots turns other 0 n)

pub runs_tell_alike : (S : Type 0) → RunsTellAlike S
runs_tell_alike S w blind one other table slots turns m n same =
    let alike = runs_see_no_marks S w blind one other table slots turns m n same in
    record {
      puts = ap (λ (r : Ran S). r.puts) alike;
      ending = ap (λ (r : Ran S). r.ending) alike;
      status = ap (λ (r : Ran S). r.machine.tally.status) alike;
      tree = ap (λ (r : Ran S). r.machine.state.tree) alike;
    }
