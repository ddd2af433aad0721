use Rattle.std.proofs.Common.{◌≡◌, SFits, rules, subst, w64}
use Rattle.std.proofs.Math.Facts.{to_z-of_z}
use Rattle.pt_ident.specs.Identity.{effect}
use Rattle.pt_ident.specs.IdentityTable.{identity_at}
use Rattle.pt_faker.specs.Faking.{Faking, after_effect}
use Rattle.pt_faker.proofs.FakerLemmas.{answered-here, left-alone}
use Rattle.pt_faker.proofs.StopLemmas.{on_ok, only-then}
use Rattle.pt_faker.proofs.faker.Faker.take_up.Goals as goal

pub returns-in-None-clause-enters : goal.returns-in-None-clause-enters
returns-in-None-clause-enters g c =
    let t = g.T.Tracee.stopped c.args.t.now in
    let u = g.T.Tracee.stopped c.answer_call.new.t in
    let r = c.args.request.now in
    let own = c.self.inside in
    let f : Faking = record { user = own.user; identities = own.identities; dues = own.dues } in
    on_ok c.set.result
    (λ put. subst (λ (h : Faking). (record { user = own.user; identities = c.keep.new.self; dues = c.set.new.self }, u) ≡ after_effect h r t (effect (identity_at h.identities t.pid) r)) c.self.view_is
    (left-alone f t c.pid-pid.result c.take.new.self c.keep.new.self c.in_ok-ids.ids c.answer_call.new.ids c.pid-pid.ensures.pid c.in_ok-ids.ensures.ok c.in_ok-keep.ensures r u c.in_ok-told.told c.set.new.self
    c.in_ok-ids.ensures.identity c.in_ok-told.ensures.answers c.in-None.is c.starts_as_root-root.result c.due_of.result c.starts_as_root-root.ensures c.due_of.ensures put))
    c.set.ensures

pub returns-in-Some-clause-enters : goal.returns-in-Some-clause-enters
returns-in-Some-clause-enters g c =
    let t = g.T.Tracee.stopped c.args.t.now in
    let u = g.T.Tracee.stopped c.answer_call.new.t in
    let v = g.T.Tracee.stopped c.take_number-number.new.t in
    let r = c.args.request.now in
    let own = c.self.inside in
    let f : Faking = record { user = own.user; identities = own.identities; dues = own.dues } in
    let answer = c.in-Some.answer in
    let fits : SFits w64 answer = search rules in
    on_ok c.set-in-Some.result
    (λ put. subst (λ (h : Faking). (record { user = own.user; identities = c.keep.new.self; dues = c.set-in-Some.new.self }, v) ≡ after_effect h r t (effect (identity_at h.identities t.pid) r)) c.self.view_is
    (answered-here f t c.pid-pid.result c.take.new.self c.keep.new.self c.in_ok-ids.ids c.answer_call.new.ids c.pid-pid.ensures.pid c.in_ok-ids.ensures.ok c.in_ok-keep.ensures r u c.in_ok-told.told c.set-in-Some.new.self
    c.in_ok-ids.ensures.identity c.in_ok-told.ensures.answers c.pid-pid.ensures.lives answer _ c.take_number-number.result v c.in-Some.is (to_z-of_z {w = w64} {z = answer} fits) c.take_number-number.ensures.number c.take_number-number.ensures.taken put))
    c.set-in-Some.ensures

pub returns-in-Some-clause-edits : goal.returns-in-Some-clause-edits
returns-in-Some-clause-edits g c = only-then c.in_ok-told.ensures.edits c.take_number-number.ensures.edits
