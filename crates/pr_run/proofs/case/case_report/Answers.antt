use Rattle.std.proofs.Common.{refl}
use Rattle.std.specs.Prelude.{Ok, Err}
use Rattle.pr_sources.specs.pr_io.Drawn.{received}
use Rattle.pr_run.specs.Keeping.{report_told}
use Rattle.pr_run.specs.Puts.{uncalled}
use Rattle.pr_run.proofs.CaseLemmas.{nothing-told, reported}
use Rattle.pr_run.proofs.case.case_report.Goals as goal

pub returns-in_default : goal.returns-in_default
returns-in_default g c = λ got failed. nothing-told _ (received g.O.Sink c.args.out.now c.args.out.now) (uncalled got failed) (received g.L.Sink c.args.left.now c.args.left.now) refl refl refl

pub returns-in-Ok-put_case : goal.returns-in-Ok-put_case
returns-in-Ok-put_case g c = λ got failed.
    reported (report_told c.in-Ok.told) _ (received g.O.Sink c.args.out.now c.put_case.new.out) (uncalled got failed) (received g.L.Sink c.args.left.now c.put_case.new.left) (Ok c.in-Ok-put_case.answer) c.in-Ok-put_case.answer
    c.in-Ok.ensures (c.in-Ok-put_case.ensures got failed) refl

pub returns : goal.returns
returns g c = λ got failed.
    reported (report_told c.in-Ok.told) _ (received g.O.Sink c.args.out.now c.put_case.new.out) (uncalled got failed) (received g.L.Sink c.args.left.now c.put_case.new.left) (Err c.in-Err.stop) c.answer.result
    c.in-Ok.ensures (c.in-Err.ensures got failed) c.answer.ensures
