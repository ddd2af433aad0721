-- Behind each turn of a calm run both machines are together, whatever its slots are.
use Rattle.std.proofs.Common.{◌≡◌, ◌<◌, ◌≤◌, ◌^◌, ℕ, suc, List, None, sym, ap, subst, ◌∙◌, arith}
use Rattle.std.specs.Prelude.{Result, Ok}
use Rattle.law_machines.specs.kr_inode.declared.user.User.{User}
use Rattle.law_machines.specs.kr_mounts.Standing.{texts_of}
use Rattle.law_machines.specs.kr_tree.Tree.{Tree}
use Rattle.law_machines.specs.kr_turns.Run.{Ran, Slot, run, turned}
use Rattle.law_machines.specs.kr_turns.Turn.{Machine}
use Rattle.law_machines.specs.kr_view.View.{Row, plain}
use Rattle.law_machines.specs.pr_run.declared.plan.Plan.{Plan}
use Rattle.law_machines.specs.pr_top.pr_base.declared.errno.Errno.{Errno}
use Rattle.law_machines.specs.pr_words.declared.launch.Launch.{Launch}
use Rattle.law_machines.specs.pr_start.Beginning.{beginning}
use Rattle.law_machines.specs.pr_start.Machines.{Nobody, Watch, watch}
use Rattle.law_machines.specs.pr_start.TracedBeginning.{Tracing, traced_beginning, tracer}
use Rattle.law_machines.specs.Agreeing.{CanBeTold}
use Rattle.law_machines.specs.Starts.{BeginToRun, CanComeAlike}
use Rattle.law_machines.specs.Turns.{WholeTurnsGoTogether}
use Rattle.law_machines.proofs.BeginLemmas.{starts-can-run}
use Rattle.law_machines.proofs.NobodyLemmas.{nobody_watches}
use Rattle.law_machines.proofs.TurnLemmas.{untold_runs, whole_turns_go_together}
use Rattle.law_machines.proofs.WatchedLemmas.{beginning_watched}
use Rattle.law_machines.specs.law_turns.kr_stops.Watching.{unwatched}
use Rattle.law_machines.specs.law_turns.pt_args.Laws.{ShelvesHoldTheirItems, TextsAreReadBack}
use Rattle.law_machines.specs.law_turns.pt_results.pt_bind.Tags.{TagTable}
use Rattle.law_machines.specs.law_turns.Runs.{ComeAlike, GoTogether, KeepOn, TurnsGoTogether}
use Rattle.law_loosely.specs.Midway.{AreMidway}
use Rattle.law_machines.proofs.law_turns.ComeLemmas.{run_unbroken}
use Rattle.law_loosely.proofs.MidwayLemmas.{runs_go_together}
use Rattle.law_loosely.specs.Turnwise.{CalmRunsLast, GoesAlong, LastsWithin}
use Rattle.law_loosely.proofs.JudgedLemmas.{begins-calmly}

-- where each turn keeps two machines together, the second one lasts behind each number of turns. What both keep is found from how they begin
lasts-along : {V : Type 0} {tags_in : Tracing → TagTable} {mine : Watch → V} {yours : Tracing → V} (table : List Row) (slots : ℕ → Slot) (m : Machine Watch) (n : Machine Tracing)
    → GoTogether tags_in table 0 m n → KeepOn mine yours m n
    → ((made : ℕ) (m : Machine Watch) (n : Machine Tracing) → made < 2 ^ 31 → GoTogether tags_in table made m n → KeepOn mine yours m n → (turned unwatched 1 table slots made m).tally.broken ≡ None
    → GoTogether tags_in table (suc made) (turned unwatched 1 table slots made m) (turned tracer 0 plain slots made n) × KeepOn mine yours (turned unwatched 1 table slots made m) (turned tracer 0 plain slots made n))
    → (turns : ℕ) → turns ≤ 2 ^ 31 → (run unwatched 1 table slots turns m).machine.tally.broken ≡ None → (left : ℕ) → left ≤ turns → LastsWithin left (run tracer 0 plain slots left n).machine
lasts-along {V} {tags_in} {mine} {yours} table slots m n both keeps each turns few calm left less =
    let go : TurnsGoTogether {S = Watch} unwatched tracer tags_in mine yours table slots =
    record {
      together = λ made m n few both keep going calm. (each made m n few both keep calm).0;
      keeps = λ made m n few both keep going calm. (each made m n few both keep calm).1;
    } in
    let mid : AreMidway tags_in mine yours table left (run unwatched 1 table slots left m).machine (run tracer 0 plain slots left n).machine =
    runs_go_together Watch Tracing V unwatched tracer tags_in mine yours table slots go turns m n few both keeps calm left less in
    record { made = mid.made; few = mid.few; lasts = mid.together.also_lasts; bytes = mid.keeps.also_bytes }

module _ (back : TextsAreReadBack) (shelves : ShelvesHoldTheirItems) (plan : Plan) (table : List Row) (tree : Tree) (user : User) (launch : Launch) (input : List ℕ) (can : CanBeTold plan table tree user launch input) where
  both-begin : (m : Machine Watch) (n : Machine Tracing) → beginning table tree user Nobody launch input ≡ Ok m → traced_beginning (texts_of table) tree user None launch input ≡ Ok n → m.tally.broken ≡ None
      → CanComeAlike table m n
  both-begin m n begins traced unbroken =
      let begun : BeginToRun table (beginning table tree user Nobody launch input) (traced_beginning (texts_of table) tree user None launch input) =
      starts-can-run table tree user Nobody launch input can.opening (begins-calmly table tree user launch input m begins unbroken) can.words can.input_bytes in
      let here : BeginToRun table (Ok m) (traced_beginning (texts_of table) tree user None launch input) =
      subst (λ (r : Result (Machine Watch) Errno). BeginToRun table r (traced_beginning (texts_of table) tree user None launch input)) begins begun in
      subst (λ (q : Result (Machine Tracing) Errno). BeginToRun table (Ok m) q) traced here

  module _ (m : Machine Watch) (n : Machine Tracing) (both : CanComeAlike table m n) (slots : ℕ → Slot) (turns : ℕ) (few : turns ≤ 2 ^ 31)
      (calm : (run unwatched 1 table slots turns m).machine.tally.broken ≡ None) where
    come-alike : ComeAlike (run unwatched 1 table slots turns m) (run tracer 0 plain slots turns n)
    come-alike = untold_runs back shelves table both.can.named both.can.bytes slots turns few Watch m n (record { together = both.together; keeps = both.keeps }) calm

    last-along : (left : ℕ) → left ≤ turns → LastsWithin left (run tracer 0 plain slots left n).machine
    last-along =
        let whole : WholeTurnsGoTogether Watch = whole_turns_go_together back shelves Watch in
        lasts-along table slots m n both.together both.keeps
        (λ made k l few together keeps calm.
        let after = whole.untold table (slots made).pick (slots made).fuel made k l both.can.named both.can.bytes few (record { together = together; keeps = keeps }) calm in
        (after.together, after.keeps)) turns few calm

  go-along : (m : Machine Watch) (n : Machine Tracing) → beginning table tree user Nobody launch input ≡ Ok m → traced_beginning (texts_of table) tree user None launch input ≡ Ok n
      → (slots : ℕ → Slot) (turns : ℕ) → turns ≤ plan.turns → (run watch 1 table slots turns m).machine.tally.broken ≡ None → GoesAlong table slots turns m n
  go-along m n begins traced slots turns less calm =
      let most : plan.turns ≤ 2 ^ 31 = can.few in
      let few : turns ≤ 2 ^ 31 = omega (arith, less, most) in
      let same : run watch 1 table slots turns m ≡ run unwatched 1 table slots turns m = nobody_watches 1 table slots turns m (beginning_watched table tree user Nobody launch input m begins) in
      let calm_too : (run unwatched 1 table slots turns m).machine.tally.broken ≡ None = sym (ap (λ (ran : Ran Watch). ran.machine.tally.broken) same) ∙ calm in
      let both : CanComeAlike table m n = both-begin m n begins traced (run_unbroken watch table slots turns 0 m calm) in
      record {
        alike = subst (λ (ran : Ran Watch). ComeAlike ran (run tracer 0 plain slots turns n)) (sym same) (come-alike m n both slots turns few calm_too);
        lasts = last-along m n both slots turns few calm_too;
      }

pub calm-runs-last : TextsAreReadBack → ShelvesHoldTheirItems → CalmRunsLast
calm-runs-last back shelves plan table tree user launch input can m n begins traced slots turns less calm =
    go-along back shelves plan table tree user launch input can m n begins traced slots turns less calm
