use Rattle.std.proofs.Common.{◌≡◌, subst}
use Rattle.pt_faker.specs.Faking.{Faking, remember}
use Rattle.pt_faker.proofs.FakerLemmas.{change-remembered}
use Rattle.pt_faker.proofs.StopLemmas.{on_ok}
use Rattle.pt_faker.proofs.faker.Faker.remember.Goals as goal

pub returns-clause-exits : goal.returns-clause-exits
returns-clause-exits g c =
    let t = g.T.Tracee.stopped c.args.t.now in
    let u = g.T.Tracee.stopped c.forgive.new.t in
    let own = c.self.inside in
    let f : Faking = record { user = own.user; identities = own.identities; dues = own.dues } in
    on_ok c.remember.result
    (λ keeps. subst (λ (h : Faking). (record { user = own.user; identities = c.remember.new.identities; dues = own.dues }, u) ≡ remember c.args.change h t) c.self.view_is
    (change-remembered f t u c.args.change c.target-target.result c.reg.result c.remember.new.identities c.target-target.ensures c.reg.ensures c.forgive.ensures.forgives keeps))
    c.remember.ensures
