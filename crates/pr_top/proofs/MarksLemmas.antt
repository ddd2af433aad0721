-- A run on a kernel over mounts that keeps no marks has the report of one with marks, where no word on calm is asked for.
use Rattle.std.proofs.Common.{◌≡◌, ℕ, false, List, Option, refl, sym, ap, ◌∙◌}
use Rattle.pr_start.specs.kr_tree.Tree.{Tree}
use Rattle.pr_start.specs.kr_view.View.{Row}
use Rattle.pr_gen.specs.kr_text.Canonical.{canonical}
use Rattle.pr_start.specs.Machines.{Machine, Ran, Watch, run, watch}
use Rattle.pr_run.specs.Report.{answer_of, calm_part, report_of}
use Rattle.pr_run.specs.Slots.{slot_of}
use Rattle.pr_run.specs.declared.plan.Plan.{Plan}
use Rattle.law_marks.specs.Unjudged.{TellAlike, unmarked_machine}
use Rattle.law_marks.proofs.RunLemmas.{runs_tell_alike}
use Rattle.law_marks.proofs.WatcherLemmas.{watchers_see_no_marks}
use Rattle.pr_top.specs.Opening.{mounted_run}

pub reports-alike : (plan : Plan) (table : List Row) (m n : Machine Watch) → plan.calm ≡ false → unmarked_machine m ≡ unmarked_machine n
    → report_of plan (run watch 0 table (slot_of plan.schedule) plan.turns m) ≡ report_of plan (mounted_run plan table n)
reports-alike plan table m n unasked alike =
    let one : Ran Watch = run watch 0 table (slot_of plan.schedule) plan.turns m in
    let other : Ran Watch = mounted_run plan table n in
    let same : TellAlike one other = runs_tell_alike Watch watch (watchers_see_no_marks Watch).watch 0 1 table (slot_of plan.schedule) plan.turns m n alike in
    let calm = ap (λ asked. calm_part asked one.machine.tally.broken) unasked ∙ sym (ap (λ asked. calm_part asked other.machine.tally.broken) unasked) in
    λ i. record {
      puts = same.puts i;
      calm = calm i;
      left = canonical (same.tree i) plan.user;
      answer = answer_of (same.ending i) (same.status i);
    }
