use Rattle.std.proofs.Common.{rules, arith}
use Rattle.kr_loose.specs.kr_core.Kernel.{machine_by}
use Rattle.pr_run.proofs.GoingLemmas.{between-then, made-then, places-then, turns-go}
use Rattle.pr_run.proofs.going.KernelGoes.go.Goals as goal

pub make_turn-requires : goal.make_turn-requires
make_turn-requires g c =
    let calls = c.requires.whole.calls in
    let few = c.requires.few in
    (search rules, (c.requires.whole.whole, (c.requires.whole.running, (c.requires.fuel, (few, omega (arith, few, calls))))))

pub returns-clause-goes : goal.returns-clause-goes
returns-clause-goes g c =
    let number = g.P.Places.number in
    let part = g.S.Graphed.part in
    let old = c.args.self.now in
    turns-go g.S.Graphed.does g.row.M (g.P.Places.mounts old.places) c.args.slot (machine_by number part old) (machine_by number part c.make_turn.new.kernel) c.make_turn.result c.make_turn.ensures.makes

pub returns-clause-whole : goal.returns-clause-whole
returns-clause-whole g c = between-then c.args.self.now c.make_turn.new.kernel c.make_turn.result c.requires.whole c.make_turn.ensures.goes_on

pub returns-clause-fixed : goal.returns-clause-fixed
returns-clause-fixed g c = places-then c.args.self.now c.make_turn.new.kernel c.make_turn.result c.make_turn.ensures.goes_on

pub returns-clause-made : goal.returns-clause-made
returns-clause-made g c = made-then c.args.self.now c.make_turn.new.kernel c.make_turn.result c.make_turn.ensures.goes_on
