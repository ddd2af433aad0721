use Rattle.std.proofs.Common.{◌≡◌, ◌∙◌, subst, sym}
use Rattle.pt_faker.proofs.StopLemmas.{edited-then, on_ok, request-edits}
use Rattle.pt_tracer.specs.Agreeing.{WalksAt}
use Rattle.pt_tracer.specs.Pausing.{Pausing}
use Rattle.pt_tracer.proofs.AgreeLemmas.{edited-agrees, edited-walks, walks-none}
use Rattle.pt_tracer.proofs.UnmetLemmas.{entered-noted, refused-noted, unmet-kept}
use Rattle.pt_tracer.proofs.tracer.Tracer.enter.Goals as goal

pub take_up-requires : goal.take_up-requires
take_up-requires g c =
    let t = g.T.Tracee.stopped c.args.t.now in
    let u = g.T.Tracee.stopped c.request.new.self in
    record { agrees = edited-agrees c.args.self.now.pausing.walker t u (request-edits t c.pid-pid.ensures.lives u c.in-Ok.ensures.after) c.requires.agrees }

pub returns-in-Ok-clause-walks : goal.returns-in-Ok-clause-walks
returns-in-Ok-clause-walks g c =
    let t = g.T.Tracee.stopped c.args.t.now in
    let u = g.T.Tracee.stopped c.request.new.self in
    on_ok c.take_up.result (edited-walks c.args.self.now.pausing.walker c.take_up.new.self.pausing.walker t u (request-edits t c.pid-pid.ensures.lives u c.in-Ok.ensures.after)) c.take_up.ensures.walks

pub returns-in-Ok-clause-edits : goal.returns-in-Ok-clause-edits
returns-in-Ok-clause-edits g c =
    let t = g.T.Tracee.stopped c.args.t.now in
    let u = g.T.Tracee.stopped c.request.new.self in
    record {
      edits = edited-then t u _ (request-edits t c.pid-pid.ensures.lives u c.in-Ok.ensures.after) c.take_up.ensures.edits.edits;
      rest = c.take_up.ensures.edits.rest ∙ (λ i. (c.in-Ok.ensures.rest i).0);
    }

pub returns-in-Err-Err-clause-walks : goal.returns-in-Err-Err-clause-walks
returns-in-Err-Err-clause-walks g c =
    let t = g.T.Tracee.stopped c.args.t.now in
    let w = c.args.self.now.pausing.walker in
    subst (λ (p : Pausing). WalksAt t w p.walker) (sym c.pass.ensures.pausing) (walks-none w t c.requires.agrees)

pub returns-in-Err-Err-clause-edits : goal.returns-in-Err-Err-clause-edits
returns-in-Err-Err-clause-edits g c = record {
  edits = request-edits (g.T.Tracee.stopped c.args.t.now) c.pid-pid.ensures.lives (g.T.Tracee.stopped c.request.new.self) c.in-Err-Err.ensures.after;
  rest = λ i. (c.in-Err-Err.ensures.rest i).0;
}

pub returns-in-Err-NoMemory-clause-edits : goal.returns-in-Err-NoMemory-clause-edits
returns-in-Err-NoMemory-clause-edits g c = record {
  edits = request-edits (g.T.Tracee.stopped c.args.t.now) c.pid-pid.ensures.lives (g.T.Tracee.stopped c.request.new.self) c.in-Err-NoMemory.ensures.after;
  rest = λ i. (c.in-Err-NoMemory.ensures.rest i).0;
}

pub returns-in-Ok-clause-noted : goal.returns-in-Ok-clause-noted
returns-in-Ok-clause-noted g c =
    let t = g.T.Tracee.stopped c.args.t.now in
    let u = g.T.Tracee.stopped c.request.new.self in
    let old = g.T.Peeks.unmet c.args.t.now in
    let mid = g.T.Peeks.unmet c.request.new.self in
    let before : mid ≡ old = unmet-kept g.T.Tracee.around g.T.Peeks.unmet g.met.T.Tracee.unmet_is_told c.args.t.now c.request.new.self c.in-Ok.ensures.rest in
    on_ok c.take_up.result (entered-noted c.args.self.now.tracing t u c.in-Ok.request old mid (g.T.Peeks.unmet c.take_up.new.t) before c.in-Ok.ensures.after c.in-Ok.ensures.given) c.take_up.ensures.noted

pub returns-in-Err-Err-clause-noted : goal.returns-in-Err-Err-clause-noted
returns-in-Err-Err-clause-noted g c =
    let t = g.T.Tracee.stopped c.args.t.now in
    let old = g.T.Peeks.unmet c.args.t.now in
    let new = g.T.Peeks.unmet c.request.new.self in
    let kept : new ≡ old = unmet-kept g.T.Tracee.around g.T.Peeks.unmet g.met.T.Tracee.unmet_is_told c.args.t.now c.request.new.self c.in-Err-Err.ensures.rest in
    refused-noted c.args.self.now.tracing t c.in-Err-Err.field-0 _ old new c.in-Err-Err.field-0-is c.in-Err-Err.ensures.given kept
