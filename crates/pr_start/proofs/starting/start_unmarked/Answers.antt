use Rattle.std.proofs.Common.{sym, subst, lit<}
use Rattle.std.specs.Prelude.{Result}
use Rattle.pt_tracer.specs.pr_base.declared.errno.Errno.{Errno}
use Rattle.kr_core.specs.Runs.{Machine}
use Rattle.pt_tracer.specs.pt_faker.declared.watch.Watch.{Watch}
use Rattle.pr_start.specs.Beginning.{BeginsUnmarked}
use Rattle.pr_start.proofs.BeginLemmas.{begins-unmarked}
use Rattle.pr_start.proofs.starting.start_unmarked.Goals as goal

pub start_judged-requires : goal.start_judged-requires
start_judged-requires c =
    let prepared = c.requires.ready.prepared in
    (lit< tt, (lit< tt, (prepared.stands, (c.requires.ready.few, (prepared.free, (prepared.lasts, (prepared.named, (c.in-Ok.ensures.text, (c.in-Ok.ensures.cwd, tt)))))))))

pub returns-in-Ok-clause-begins : goal.returns-in-Ok-clause-begins
returns-in-Ok-clause-begins c =
    subst (λ (answer : Result (Machine Watch) Errno). BeginsUnmarked answer c.start_judged.result) (sym (c.in-Ok.ensures.prepared c.args.watch c.args.input))
    (begins-unmarked c.args.stage.places c.args.watch _ _ c.start_judged.result c.start_judged.ensures)
