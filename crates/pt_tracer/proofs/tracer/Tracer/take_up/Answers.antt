use Rattle.std.proofs.Common.{◌≡◌, ◌∙◌, SFits, ap, rules, subst, sym, w64}
use Rattle.std.proofs.Math.Facts.{to_z-of_z}
use Rattle.law_steady.specs.pt_bind.Binding.{rows_of}
use Rattle.pt_faker.proofs.StopLemmas.{on_ok, only-then}
use Rattle.pt_tracer.specs.Agreeing.{AgreesWith, WalksAt}
use Rattle.pt_tracer.specs.Keeping.{Keeping}
use Rattle.pt_tracer.specs.Watched.{Tracing, by_identities, unmet_by_identities}
use Rattle.pt_tracer.proofs.AgreeLemmas.{edited-agrees, edited-walks, walks-none}
use Rattle.pt_tracer.proofs.EntryLemmas.{answered-entry, planned-entry}
use Rattle.pt_tracer.proofs.UnmetLemmas.{here-unmet, lent-edits, planned-unmet, unmet-kept}
use Rattle.pt_tracer.specs.Planning.{planned_unmet}
use Rattle.pt_tracer.proofs.tracer.Tracer.take_up.Goals as goal

pub returns-in_err-edit-in-None-clause-edits : goal.returns-in_err-edit-in-None-clause-edits
returns-in_err-edit-in-None-clause-edits g c = only-then (lent-edits c.in_ok-answer.ensures.edits) c.in_err-edit-in-None.ensures.edits

pub returns-in_err-answer-in-None-clause-edits : goal.returns-in_err-answer-in-None-clause-edits
returns-in_err-answer-in-None-clause-edits g c =
    only-then (only-then (lent-edits c.in_ok-answer.ensures.edits) c.in_ok-edit-in-None.ensures.edits) (lent-edits c.in_err-answer-in-None.ensures.edits)

pub returns-in-Some-clause-edits : goal.returns-in-Some-clause-edits
returns-in-Some-clause-edits g c = lent-edits (only-then c.in_ok-answer.ensures.edits c.take_number-number.ensures.edits)

pub returns-in_ok-answer-in-None-clause-edits : goal.returns-in_ok-answer-in-None-clause-edits
returns-in_ok-answer-in-None-clause-edits g c =
    only-then (only-then (lent-edits c.in_ok-answer.ensures.edits) c.in_ok-edit-in-None.ensures.edits) (lent-edits c.in_ok-answer-in-None.ensures.edits)

pub plan-requires : goal.plan-requires
plan-requires g c =
    let t = g.T.Tracee.stopped c.args.t.now in
    let u = g.T.Tracee.stopped c.answer_faked.new.t in
    record { agrees = edited-agrees c.self.inside.pausing.walker t u c.in_ok-answer.ensures.edits.edits (subst (λ (x : Keeping). AgreesWith x.pausing.walker t.state.tree t.state.user) (sym c.self.view_is) c.requires.agrees) }

pub returns-in-Some-clause-enters : goal.returns-in-Some-clause-enters
returns-in-Some-clause-enters g c =
    let t = g.T.Tracee.stopped c.args.t.now in
    let u = g.T.Tracee.stopped c.answer_faked.new.t in
    let v = g.T.Tracee.stopped c.take_number-number.new.t in
    let r = c.args.request in
    let own = c.self.inside in
    let x : Tracing = record { bindings = rows_of own.pausing.walker.table; tags = own.tags; user = own.user; identities = own.identities; pending = own.calls } in
    let answer = c.in-Some.answer in
    let fits : SFits w64 answer = search rules in
    on_ok c.keep.result
    (λ keeps. subst (λ (h : Keeping). (record { bindings = rows_of own.pausing.walker.table; tags = own.tags; user = own.user; identities = c.answer_faked.new.identities; pending = c.keep.new.self }, v) ≡ by_identities h.tracing r t h.tracing.identities) c.self.view_is
    (answered-entry x r t u c.pid-pid.result c.pid-pid.ensures.pid c.of-passed.result c.of-passed.ensures c.keep.new.self v answer _ (to_z-of_z {w = w64} {z = answer} fits) c.take_number-number.ensures.taken keeps
    c.in_ok-answer.field-0 c.answer_faked.new.identities c.in-Some.is c.in_ok-answer.ensures.answers))
    c.keep.ensures

pub returns-in-Some-clause-walks : goal.returns-in-Some-clause-walks
returns-in-Some-clause-walks g c =
    let t = g.T.Tracee.stopped c.args.t.now in
    let w = c.self.inside.pausing.walker in
    on_ok c.keep.result
    (λ _. subst (λ (x : Keeping). WalksAt t x.pausing.walker w) c.self.view_is
    (walks-none w t (subst (λ (x : Keeping). AgreesWith x.pausing.walker t.state.tree t.state.user) (sym c.self.view_is) c.requires.agrees)))
    c.keep.ensures

pub returns-in-Some-clause-pids : goal.returns-in-Some-clause-pids
returns-in-Some-clause-pids g c = on_ok c.keep.result (λ _. ap (λ (x : Keeping). x.pausing.pids) c.self.view_is) c.keep.ensures

pub returns-in_ok-answer-in-None-clause-enters : goal.returns-in_ok-answer-in-None-clause-enters
returns-in_ok-answer-in-None-clause-enters g c =
    let t = g.T.Tracee.stopped c.args.t.now in
    let u = g.T.Tracee.stopped c.answer_faked.new.t in
    let v = g.T.Tracee.stopped c.plan.new.t in
    let w = g.T.Tracee.stopped c.apply.new.t in
    let r = c.args.request in
    let own = c.self.inside in
    let x : Tracing = record { bindings = rows_of own.pausing.walker.table; tags = own.tags; user = own.user; identities = own.identities; pending = own.calls } in
    on_ok c.keep-in-None.result
    (λ keeps. subst (λ (h : Keeping). (record { bindings = rows_of c.plan.new.self.walker.table; tags = own.tags; user = own.user; identities = c.answer_faked.new.identities; pending = c.keep-in-None.new.self }, w) ≡ by_identities h.tracing r t h.tracing.identities) c.self.view_is
    (ap (λ l. (record { bindings = rows_of l; tags = own.tags; user = own.user; identities = c.answer_faked.new.identities; pending = c.keep-in-None.new.self }, w)) c.in_ok-edit-in-None.ensures.walks.table
    ∙ planned-entry x r t u c.pid-pid.result c.pid-pid.ensures.pid c.of-passed.result c.of-passed.ensures c.keep-in-None.new.self v w c.in_ok-edit-in-None.field-0 c.in_ok-answer-in-None.answer c.in_ok-edit-in-None.ensures.plan c.in_ok-answer-in-None.ensures.applied keeps
    c.in_ok-answer.field-0 c.answer_faked.new.identities c.in-None.is c.in_ok-answer.ensures.answers))
    c.keep-in-None.ensures

pub returns-in_ok-answer-in-None-clause-walks : goal.returns-in_ok-answer-in-None-clause-walks
returns-in_ok-answer-in-None-clause-walks g c =
    let t = g.T.Tracee.stopped c.args.t.now in
    let u = g.T.Tracee.stopped c.answer_faked.new.t in
    let own = c.self.inside.pausing.walker in
    let new = c.plan.new.self.walker in
    on_ok c.keep-in-None.result
    (λ _. subst (λ (x : Keeping). WalksAt t x.pausing.walker new) c.self.view_is (edited-walks own new t u c.in_ok-answer.ensures.edits.edits c.in_ok-edit-in-None.ensures.walks))
    c.keep-in-None.ensures

pub returns-in_ok-answer-in-None-clause-pids : goal.returns-in_ok-answer-in-None-clause-pids
returns-in_ok-answer-in-None-clause-pids g c = on_ok c.keep-in-None.result (λ _. c.in_ok-edit-in-None.ensures.pids ∙ ap (λ (x : Keeping). x.pausing.pids) c.self.view_is) c.keep-in-None.ensures

pub returns-in_err-answer-clause-edits : goal.returns-in_err-answer-clause-edits
returns-in_err-answer-clause-edits g c = lent-edits c.in_err-answer.ensures.edits

pub returns-in-Some-clause-noted : goal.returns-in-Some-clause-noted
returns-in-Some-clause-noted g c =
    let t = g.T.Tracee.stopped c.args.t.now in
    let u = g.T.Tracee.stopped c.answer_faked.new.t in
    let own = c.self.inside in
    let old = g.T.Peeks.unmet c.args.t.now in
    let x : Tracing = record { bindings = rows_of own.pausing.walker.table; tags = own.tags; user = own.user; identities = own.identities; pending = own.calls } in
    let kept = unmet-kept g.T.Tracee.around g.T.Peeks.unmet g.met.T.Tracee.unmet_is_told c.args.t.now c.take_number-number.new.t (c.take_number-number.ensures.edits.rest ∙ c.in_ok-answer.ensures.edits.rest) in
    let here = here-unmet x c.args.request t u old own.identities c.answer_faked.new.identities c.in_ok-answer.field-0 c.in-Some.answer c.in-Some.is c.in_ok-answer.ensures.answers in
    on_ok c.keep.result (λ _. kept ∙ sym (subst (λ (h : Keeping). unmet_by_identities h.tracing c.args.request t h.tracing.identities old ≡ old) c.self.view_is here)) c.keep.ensures

pub returns-in_ok-answer-in-None-clause-noted : goal.returns-in_ok-answer-in-None-clause-noted
returns-in_ok-answer-in-None-clause-noted g c =
    let t = g.T.Tracee.stopped c.args.t.now in
    let u = g.T.Tracee.stopped c.answer_faked.new.t in
    let own = c.self.inside in
    let old = g.T.Peeks.unmet c.args.t.now in
    let x : Tracing = record { bindings = rows_of own.pausing.walker.table; tags = own.tags; user = own.user; identities = own.identities; pending = own.calls } in
    let before = unmet-kept g.T.Tracee.around g.T.Peeks.unmet g.met.T.Tracee.unmet_is_told c.args.t.now c.answer_faked.new.t c.in_ok-answer.ensures.edits.rest in
    let behind = unmet-kept g.T.Tracee.around g.T.Peeks.unmet g.met.T.Tracee.unmet_is_told c.plan.new.t c.apply.new.t c.in_ok-answer-in-None.ensures.edits.rest in
    let planned = planned-unmet x c.args.request t u old own.identities c.answer_faked.new.identities c.in_ok-answer.field-0 c.in-None.is c.in_ok-answer.ensures.answers in
    on_ok c.keep-in-None.result
    (λ _. behind ∙ c.in_ok-edit-in-None.ensures.noted ∙ ap (planned_unmet x.bindings x.tags u c.args.request) before
    ∙ subst (λ (h : Keeping). planned_unmet x.bindings x.tags u c.args.request old ≡ unmet_by_identities h.tracing c.args.request t h.tracing.identities old) c.self.view_is planned)
    c.keep-in-None.ensures
