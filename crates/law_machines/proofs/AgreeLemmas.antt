-- What a calm run over mounts comes to, the run that a tracer watches comes to.
use Rattle.std.proofs.Common.{◌≡◌, ℕ, List, None, refl, sym, ap, subst, ◌∙◌}
use Rattle.std.specs.Prelude.{Result, Ok, Err}
use Rattle.pr_top.specs.pr_base.declared.errno.Errno.{Errno}
use Rattle.pr_top.specs.pr_words.declared.launch.Launch.{Launch}
use Rattle.law_starts.specs.pt_args.Laws.{ShelvesHoldTheirItems, TextsAreReadBack}
use Rattle.law_starts.specs.kr_calm.Calm.{broken_at_start}
use Rattle.pr_top.specs.kr_inode.declared.user.User.{User}
use Rattle.pr_top.specs.kr_mounts.Standing.{texts_of}
use Rattle.pr_top.specs.kr_tree.Tree.{Tree}
use Rattle.law_starts.specs.kr_turns.Run.{Ran, run}
use Rattle.law_starts.specs.kr_turns.Turn.{Machine}
use Rattle.law_starts.specs.kr_stops.Watching.{unwatched}
use Rattle.pr_top.specs.kr_view.View.{Row}
use Rattle.pr_top.specs.pr_run.Slots.{slot_of}
use Rattle.pr_top.specs.pr_run.declared.plan.Plan.{Plan}
use Rattle.law_starts.specs.pr_start.Beginning.{beginning}
use Rattle.law_starts.specs.pr_start.TracedBeginning.{traced_beginning}
use Rattle.law_starts.specs.pt_faker.Watches.{watch}
use Rattle.law_starts.specs.pt_faker.declared.watch.Watch.{Watch}
use Rattle.law_starts.specs.pt_faker.declared.watch.Watch.TheVariants.{Nobody}
use Rattle.law_starts.specs.pt_tracer.Watched.{Tracing}
use Rattle.law_starts.specs.law_turns.Runs.{ComeAlike}
use Rattle.law_starts.proofs.law_turns.ComeLemmas.{run_unbroken}
use Rattle.law_machines.proofs.TurnLemmas.{untold_runs}
use Rattle.law_starts.specs.Starts.{beginning_reach}
use Rattle.law_starts.proofs.StartLemmas.{beginnings-are-judged}
use Rattle.law_machines.specs.Starts.{BeginToRun, CanComeAlike}
use Rattle.law_machines.proofs.BeginLemmas.{starts-can-run}
use Rattle.law_machines.proofs.WatchedLemmas.{beginning_watched}
use Rattle.law_machines.specs.Agreeing.{CanBeTold, IsCalm, IsToldToo, MachinesAgree, mounted, traced}
use Rattle.law_machines.proofs.NobodyLemmas.{nobody_watches}

module _ (back : TextsAreReadBack) (shelves : ShelvesHoldTheirItems) (plan : Plan) (table : List Row) (tree : Tree) (user : User) (launch : Launch) (input : List ℕ) (can : CanBeTold plan table tree user launch input) where
  calm_start : (m : Machine Watch) → beginning table tree user Nobody launch input ≡ Ok m → IsCalm plan table m → broken_at_start (beginning_reach table tree user Nobody launch) ≡ None
  calm_start m is calm = sym (beginnings-are-judged table tree user Nobody launch input m is) ∙ run_unbroken watch table (slot_of plan.schedule) plan.turns 0 m calm

  runs_agree : (m : Machine Watch) (n : Machine Tracing) → m.watcher ≡ Nobody → CanComeAlike table m n → IsCalm plan table m → ComeAlike (mounted plan table m) (traced plan n)
  runs_agree m n alone both calm =
      let same : mounted plan table m ≡ run unwatched 1 table (slot_of plan.schedule) plan.turns m = nobody_watches 1 table (slot_of plan.schedule) plan.turns m alone in
      subst (λ (ran : Ran Watch). ComeAlike ran (traced plan n)) (sym same)
      (untold_runs back shelves table both.can.named both.can.bytes (slot_of plan.schedule) plan.turns can.few Watch m n (record { together = both.together; keeps = both.keeps }) (sym (ap (λ (ran : Ran Watch). ran.machine.tally.broken) same) ∙ calm))

  by_beginnings : (r : Result (Machine Watch) Errno) → beginning table tree user Nobody launch input ≡ r → (q : Result (Machine Tracing) Errno) → traced_beginning (texts_of table) tree user None launch input ≡ q
      → (broken_at_start (beginning_reach table tree user Nobody launch) ≡ None → BeginToRun table r q) → IsToldToo plan table tree user launch input r
  by_beginnings (Ok m) is (Ok n) also both = λ calm. (n, also, runs_agree m n (beginning_watched table tree user Nobody launch input m is) (both (calm_start m is calm)) calm)
  by_beginnings (Ok m) is (Err f) also both = λ calm. absurd (both (calm_start m is calm))
  by_beginnings (Err e) is (Ok n) also both = λ calm. absurd (both calm)
  by_beginnings (Err e) is (Err f) also both = λ calm. also ∙ ap (λ e. Err e) (sym (both calm))

pub machines_agree : TextsAreReadBack → ShelvesHoldTheirItems → MachinesAgree
machines_agree back shelves plan table tree user launch input can =
    by_beginnings back shelves plan table tree user launch input can (beginning table tree user Nobody launch input) refl (traced_beginning (texts_of table) tree user None launch input) refl
    (λ calm. starts-can-run table tree user Nobody launch input can.opening calm can.words can.input_bytes)
