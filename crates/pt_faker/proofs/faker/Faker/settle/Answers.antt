use Rattle.std.proofs.Common.{SFits, rules, w64}
use Rattle.std.proofs.Math.Facts.{to_z-of_z}
use Rattle.pt_faker.proofs.FakerLemmas.{told-due}
use Rattle.pt_faker.proofs.faker.Faker.settle.Goals as goal

pub returns-in-Tells-clause-exits : goal.returns-in-Tells-clause-exits
returns-in-Tells-clause-exits g c =
    let answer = c.in-Tells.answer in
    let fits : SFits w64 answer = search rules in
    told-due c.args.self.now (g.T.Tracee.stopped c.args.t.now) (g.T.Tracee.stopped c.tell.new.t) c.args.due c.in-Tells.number answer _ c.in-Tells.is (to_z-of_z {w = w64} {z = answer} fits) c.tell.ensures.tells
