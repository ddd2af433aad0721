use Rattle.std.proofs.Common.{◌∙◌, ap, sym}
use Rattle.pt_faker.proofs.StopLemmas.{on_ok}
use Rattle.pt_tracer.specs.Watched.{Tracing, asks, entered, entry_unmet}
use Rattle.pt_tracer.proofs.AgreeLemmas.{edited-agrees}
use Rattle.pt_tracer.proofs.PauseLemmas.{kept-paused}
use Rattle.pt_tracer.proofs.UnmetLemmas.{entry-asks}
use Rattle.pt_faker.specs.kr_stops.Stopped.{unmet_after}
use Rattle.pt_tracer.proofs.tracer.TracerStops.entry.Goals as goal

pub enter-requires : goal.enter-requires
enter-requires g c = record { agrees = c.in_ok-pause_anew.ensures.agrees }

pub pause_at-requires : goal.pause_at-requires
pause_at-requires g c =
    record { agrees = edited-agrees c.enter.new.self.pausing.walker (g.T.Tracee.stopped c.args.t.now) (g.T.Tracee.stopped c.enter.new.t) c.enter.ensures.edits.edits c.in_ok-enter.ensures.walks.agrees }

pub returns-clause-enters : goal.returns-clause-enters
returns-clause-enters g c =
    let t = g.T.Tracee.stopped c.args.t.now in
    let u = g.T.Tracee.stopped c.enter.new.t in
    on_ok c.pause_at.result (λ same. ap (λ (x : Tracing). (x, u)) same ∙ c.in_ok-enter.ensures.enters ∙ ap (λ (x : Tracing). entered x t) c.in_ok-pause_anew.ensures.tracing) c.pause_at.ensures.tracing

pub returns-clause-others : goal.returns-clause-others
returns-clause-others g c =
    let walked = kept-paused c.pause_anew.new.self.pausing c.enter.new.self.pausing c.in_ok-enter.ensures.pids c.in_ok-enter.ensures.walks.pauses in
    on_ok c.pause_at.result
    (λ keeps. record { keeps = λ q other free. keeps q (walked q (c.in_ok-pause_anew.ensures.others.keeps q (λ e. other (e ∙ c.pid-pid.ensures.pid)) free)) })
    c.pause_at.ensures.others

pub returns-clause-asks : goal.returns-clause-asks
returns-clause-asks g c =
    let t = g.T.Tracee.stopped c.args.t.now in
    let x = c.args.self.now.tracing in
    let old = g.T.Peeks.unmet c.args.t.now in
    let told = g.met.T.Tracee.unmet_is_told in
    on_ok c.pause_at.result
    (λ _. told c.enter.new.t ∙ c.in_ok-enter.ensures.noted ∙ ap (λ (x : Tracing). entry_unmet x t old) c.in_ok-pause_anew.ensures.tracing ∙ entry-asks x t old ∙ ap (unmet_after (asks x t)) (sym (told c.args.t.now)))
    c.pause_at.ensures.tracing
