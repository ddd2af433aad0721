use Rattle.std.proofs.Common.{◌≡◌, ◌∙◌, sym, subst}
use Rattle.pt_faker.specs.Faking.{Faking, begin_program, if_done}
use Rattle.pt_faker.proofs.FakerLemmas.{program-begun}
use Rattle.pt_faker.proofs.faker.Faker.begin_program.Goals as goal

pub returns-clause-begins : goal.returns-clause-begins
returns-clause-begins g c =
    let t = g.T.Tracee.stopped c.args.t.now in
    let own = c.self.inside in
    let f : Faking = record { user = own.user; identities = own.identities; dues = own.dues } in
    subst (λ (h : Faking). (record { user = own.user; identities = c.keep.new.self; dues = own.dues }, g.T.Tracee.stopped c.show_identity.new.t) ≡ if_done t (begin_program h t) (h, t)) c.self.view_is
    (program-begun f t c.pid-pid.result c.take.new.self c.keep.new.self c.in_ok-ids.ids c.after_exec.new.self c.pid-pid.ensures.pid c.in_ok-ids.ensures.ok c.in_ok-keep.ensures (g.T.Tracee.stopped c.show_identity.new.t) c.reg-stack.result
    c.in_ok-ids.ensures.identity c.after_exec.ensures (sym c.has_answered_zero.ensures ∙ c.if-not-has_answered_zero.false) c.reg-stack.ensures c.in_ok-show_identity.ensures.shows)
