-- What a calm run over mounts, whose watcher tells an identity, comes to, the run that a tracer watches comes to.
use Rattle.std.proofs.Common.{◌≡◌, ℕ, List, Some, None, refl, sym, ap, subst, ◌∙◌}
use Rattle.std.specs.Prelude.{Result, Ok, Err}
use Rattle.pr_top.specs.pr_base.declared.errno.Errno.{Errno}
use Rattle.pr_top.specs.pr_words.declared.launch.Launch.{Launch}
use Rattle.law_starts.specs.pt_args.Laws.{ShelvesHoldTheirItems, TextsAreReadBack}
use Rattle.law_starts.specs.kr_calm.Calm.{broken_at_start}
use Rattle.pr_top.specs.kr_inode.declared.user.User.{User}
use Rattle.pr_top.specs.kr_mounts.Standing.{texts_of}
use Rattle.pr_top.specs.kr_tree.Tree.{Tree}
use Rattle.law_starts.specs.kr_turns.Run.{Ran, run}
use Rattle.law_starts.specs.kr_turns.Turn.{Machine}
use Rattle.pr_top.specs.kr_view.View.{Row}
use Rattle.pr_top.specs.pr_run.Slots.{slot_of}
use Rattle.pr_top.specs.pr_run.declared.plan.Plan.{Plan}
use Rattle.law_starts.specs.pr_start.Beginning.{beginning}
use Rattle.law_starts.specs.pr_start.TracedBeginning.{traced_beginning}
use Rattle.law_starts.specs.pt_faker.Watches.{watch}
use Rattle.law_starts.specs.pt_faker.declared.watch.Watch.{Watch}
use Rattle.law_starts.specs.pt_faker.declared.watch.Watch.TheVariants.{Faked}
use Rattle.law_starts.specs.pt_faker.Faking.{Faking, faker, starting_faking}
use Rattle.law_starts.specs.pt_tracer.Watched.{Tracing}
use Rattle.law_starts.specs.law_turns.Runs.{ComeAlike}
use Rattle.law_starts.proofs.law_turns.ComeLemmas.{run_unbroken}
use Rattle.law_machines.proofs.TurnLemmas.{told_runs}
use Rattle.law_starts.specs.Starts.{beginning_reach}
use Rattle.law_starts.proofs.StartLemmas.{beginnings-are-judged}
use Rattle.law_machines.specs.FakedStarts.{BeginToRunFaked, CanComeAlikeFaked, with_faking}
use Rattle.law_machines.proofs.FakedStartLemmas.{faked-starts-can-run}
use Rattle.law_machines.specs.Agreeing.{CanBeTold, IsCalm, mounted, traced}
use Rattle.law_machines.specs.FakedAgreeing.{FakedMachinesAgree, IsToldFaked}
use Rattle.law_machines.specs.Watching.{ran_faked}
use Rattle.law_machines.proofs.FakedLemmas.{fakers_watch}

module _ (back : TextsAreReadBack) (shelves : ShelvesHoldTheirItems) (plan : Plan) (table : List Row) (tree : Tree) (user : User) (uid gid : ℕ) (launch : Launch) (input : List ℕ) (can : CanBeTold plan table tree user launch input) where
  abbrev who : Watch
  who = Faked (starting_faking user uid gid)

  calm_start : (m : Machine Watch) → beginning table tree user who launch input ≡ Ok m → IsCalm plan table m → broken_at_start (beginning_reach table tree user who launch) ≡ None
  calm_start m is calm = sym (beginnings-are-judged table tree user who launch input m is) ∙ run_unbroken watch table (slot_of plan.schedule) plan.turns 0 m calm

  runs_agree : (m : Machine Watch) (n : Machine Tracing) (f : Faking) → m.watcher ≡ Faked f → CanComeAlikeFaked table (with_faking f m) n → IsCalm plan table m → ComeAlike (mounted plan table m) (traced plan n)
  runs_agree m n f watched both calm =
      let slots = slot_of plan.schedule in
      let ran = run faker 1 table slots plan.turns (with_faking f m) in
      let same : mounted plan table m ≡ ran_faked ran = fakers_watch 1 table slots plan.turns m f watched in
      let come =
      told_runs back shelves table both.can.named both.can.bytes slots plan.turns can.few (with_faking f m) n (record { together = both.together; keeps = both.keeps }) (sym (ap (λ (ran : Ran Watch). ran.machine.tally.broken) same) ∙ calm) in
      subst (λ (ran : Ran Watch). ComeAlike ran (traced plan n)) (sym same) (record { puts = come.puts; endings = come.endings; statuses = come.statuses; trees = come.trees })

  by_beginnings : (r : Result (Machine Watch) Errno) → beginning table tree user who launch input ≡ r → (q : Result (Machine Tracing) Errno) → traced_beginning (texts_of table) tree user (Some (uid, gid)) launch input ≡ q
      → (broken_at_start (beginning_reach table tree user who launch) ≡ None → BeginToRunFaked table r q) → IsToldFaked plan table tree user uid gid launch input r
  by_beginnings (Ok m) is (Ok n) also both = λ calm. let begins = both (calm_start m is calm) in (n, also, runs_agree m n begins.0 begins.1 begins.2 calm)
  by_beginnings (Ok m) is (Err f) also both = λ calm. absurd (both (calm_start m is calm))
  by_beginnings (Err e) is (Ok n) also both = λ calm. absurd (both calm)
  by_beginnings (Err e) is (Err f) also both = λ calm. also ∙ ap (λ e. Err e) (sym (both calm))

pub faked_machines_agree : TextsAreReadBack → ShelvesHoldTheirItems → FakedMachinesAgree
faked_machines_agree back shelves plan table tree user uid gid launch input can =
    by_beginnings back shelves plan table tree user uid gid launch input can (beginning table tree user (Faked (starting_faking user uid gid)) launch input) refl
    (traced_beginning (texts_of table) tree user (Some (uid, gid)) launch input) refl
    (λ calm. faked-starts-can-run table tree user uid gid launch input can.opening calm can.words can.input_bytes)
