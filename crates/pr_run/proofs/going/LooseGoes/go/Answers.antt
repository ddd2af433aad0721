use Rattle.std.proofs.lemmas.Result.{on_ok_weaker}
use Rattle.pt_tracer.specs.kr_stops.Watching.{watching}
use Rattle.pr_run.proofs.SteppingLemmas.{steps-to}
use Rattle.pr_run.proofs.going.LooseGoes.go.Goals as goal

pub returns-clause-goes : goal.returns-clause-goes
returns-clause-goes g c =
    let old = c.args.self.now in
    let new = c.make_step.new.loose in
    let w = watching g.S.Stops.enters g.S.Stops.exits g.S.Stops.bears g.S.Stops.forgets in
    steps-to g.P.Places.number g.S.Graphed.part g.S.Stops.asks g.P.Places.mounts w g.S.Graphed.does c.parts_step.ensures c.is_graph.ensures c.args.slot old.kernel new.kernel old.judge new.judge c.make_step.result c.make_step.ensures.makes
    c.make_step.ensures.on

pub returns-clause-whole : goal.returns-clause-whole
returns-clause-whole g c = on_ok_weaker c.make_step.result (λ on. on.whole) c.make_step.ensures.on

pub returns-clause-fixed : goal.returns-clause-fixed
returns-clause-fixed g c = on_ok_weaker c.make_step.result (λ on. on.places) c.make_step.ensures.on

pub returns-clause-made : goal.returns-clause-made
returns-clause-made g c = on_ok_weaker c.make_step.result (λ on. on.calls) c.make_step.ensures.on
