use Rattle.std.proofs.Common.{◌≡◌, false, refl, sym, subst}
use Rattle.pr_run.specs.kr_mounts.Stored.{table_of}
use Rattle.pr_run.specs.pr_io.Drawn.{received}
use Rattle.pr_run.specs.Puts.{AnswersReport}
use Rattle.pr_start.specs.Beginning.{told_with}
use Rattle.pr_start.specs.Machines.{machine}
use Rattle.pr_start.specs.Numbers.{number_of}
use Rattle.pr_top.specs.Opening.{AnswersStarted, IsMarkedFor, started_told}
use Rattle.pr_top.specs.declared.opening.Kind.{Kind}
use Rattle.pr_top.proofs.MarksLemmas.{reports-alike}
use Rattle.pr_top.proofs.opening.Opened.report.Goals as goal

pub returns-in-Mounts : goal.returns-in-Mounts
returns-in-Mounts g c =
    let out = received g.O.Sink c.args.out.now c.report.new.out in
    let err = received g.R.Sink c.args.err.now c.report.new.err in
    let left = received g.L.Sink c.args.left.now c.report.new.left in
    subst (λ (k : Kind). AnswersStarted c.args.self.now.plan (started_told k) out err left c.report.result) (sym c.in-Mounts.is) c.report.ensures

pub returns-in-Unmarked : goal.returns-in-Unmarked
returns-in-Unmarked g c =
    let plan = c.args.self.now.plan in
    let kernel = c.in-Unmarked.kernel in
    let out = received g.O.Sink c.args.out.now c.report-in-Unmarked.new.out in
    let err = received g.R.Sink c.args.err.now c.report-in-Unmarked.new.err in
    let left = received g.L.Sink c.args.left.now c.report-in-Unmarked.new.left in
    let unasked : plan.calm ≡ false = subst (IsMarkedFor plan.calm) c.in-Unmarked.is c.requires.marked in
    subst (λ (k : Kind). AnswersStarted plan (started_told k) out err left c.report-in-Unmarked.result) (sym c.in-Unmarked.is)
    (subst (λ r. AnswersReport r out err left c.report-in-Unmarked.result) (reports-alike plan (table_of kernel.places) (machine number_of kernel) (told_with kernel c.in-Unmarked.broken) unasked refl) c.report-in-Unmarked.ensures)

pub returns-in-Traced : goal.returns-in-Traced
returns-in-Traced g c =
    let out = received g.O.Sink c.args.out.now c.report-in-Traced.new.out in
    let err = received g.R.Sink c.args.err.now c.report-in-Traced.new.err in
    let left = received g.L.Sink c.args.left.now c.report-in-Traced.new.left in
    subst (λ (k : Kind). AnswersStarted c.args.self.now.plan (started_told k) out err left c.report-in-Traced.result) (sym c.in-Traced.is) c.report-in-Traced.ensures

pub returns-in-Loosely : goal.returns-in-Loosely
returns-in-Loosely g c =
    let out = received g.O.Sink c.args.out.now c.report_loosely.new.out in
    let err = received g.R.Sink c.args.err.now c.report_loosely.new.err in
    let left = received g.L.Sink c.args.left.now c.report_loosely.new.left in
    subst (λ (k : Kind). AnswersStarted c.args.self.now.plan (started_told k) out err left c.report_loosely.result) (sym c.in-Loosely.is) c.report_loosely.ensures

pub returns-in-Both : goal.returns-in-Both
returns-in-Both g c =
    let out = received g.O.Sink c.args.out.now c.case_report.new.out in
    let err = received g.R.Sink c.args.err.now c.args.err.now in
    let left = received g.L.Sink c.args.left.now c.case_report.new.left in
    subst (λ (k : Kind). AnswersStarted c.args.self.now.plan (started_told k) out err left c.case_report.result) (sym c.in-Both.is) (c.case_report.ensures err.now err.failed_now)
