use Rattle.std.proofs.Common.{sym, subst, lit<}
use Rattle.std.specs.Prelude.{Result}
use Rattle.pt_tracer.specs.pr_base.declared.errno.Errno.{Errno}
use Rattle.kr_core.specs.Runs.{Machine}
use Rattle.pt_tracer.specs.pt_faker.declared.watch.Watch.{Watch}
use Rattle.pr_start.specs.Beginning.{Begins}
use Rattle.pr_start.proofs.BeginLemmas.{begins-from}
use Rattle.pr_start.proofs.starting.start.Goals as goal

pub start-requires : goal.start-requires
start-requires c =
    let prepared = c.requires.ready.prepared in
    (lit< tt, (lit< tt, (prepared.stands, (c.requires.ready.few, (prepared.free, (prepared.lasts, (prepared.named, (c.in-Ok.ensures.text, (c.in-Ok.ensures.cwd, tt)))))))))

pub returns-in-Ok-clause-begins : goal.returns-in-Ok-clause-begins
returns-in-Ok-clause-begins c =
    subst (λ (answer : Result (Machine Watch) Errno). Begins answer c.start.result) (sym (c.in-Ok.ensures.prepared c.args.watch c.args.input))
    (begins-from c.args.stage.places c.args.watch _ _ c.start.result c.start.ensures)
