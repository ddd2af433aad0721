use Rattle.std.proofs.Common.{◌∙◌, ap}
use Rattle.pt_faker.proofs.StopLemmas.{on_ok}
use Rattle.pt_tracer.specs.Poking.{may_poke}
use Rattle.pt_tracer.proofs.PokeLemmas.{may-after}
use Rattle.pt_tracer.proofs.pokes.write_before.Goals as goal

pub returns-clause-still : goal.returns-clause-still
returns-clause-still g c =
    on_ok c.write.result
    (λ poked. ap (may_poke c.args._others.now) poked ∙ may-after (g.T.Tracee.stopped c.args.t.now) c.pid-pid.ensures.lives c.args.at c.args.bytes.now c.args._others.now)
    c.write.ensures.after
