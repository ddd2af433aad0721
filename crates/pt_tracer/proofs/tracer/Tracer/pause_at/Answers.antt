use Rattle.std.proofs.Common.{◌∙◌, ap, subst, sym}
use Rattle.law_steady.specs.pt_bind.Binding.{rows_of}
use Rattle.pt_faker.proofs.StopLemmas.{on_ok}
use Rattle.pt_tracer.specs.Agreeing.{AgreesWith}
use Rattle.pt_tracer.specs.Keeping.{Keeping}
use Rattle.pt_tracer.specs.Pausing.{IsPausedFor}
use Rattle.pt_tracer.proofs.tracer.Tracer.pause_at.Goals as goal

pub pause_at-requires : goal.pause_at-requires
pause_at-requires g c =
    let t = g.T.Tracee.stopped c.args.t.now in
    record { agrees = subst (λ (x : Keeping). AgreesWith x.pausing.walker t.state.tree t.state.user) (sym c.self.view_is) c.requires.agrees }

pub returns-clause-tracing : goal.returns-clause-tracing
returns-clause-tracing g c =
    let own = c.self.inside in
    on_ok c.pause_at.result
    (λ table. (λ i. record { bindings = rows_of (table i); tags = own.tags; user = own.user; identities = own.identities; pending = own.calls }) ∙ ap (λ (x : Keeping). x.tracing) c.self.view_is)
    c.pause_at.ensures.table

pub returns-clause-frees : goal.returns-clause-frees
returns-clause-frees g c = on_ok c.pause_at.result (λ frees. record { frees = frees.frees }) c.pause_at.ensures.frees

pub returns-clause-others : goal.returns-clause-others
returns-clause-others g c = on_ok c.pause_at.result (λ keeps q free. keeps q (subst (λ (x : Keeping). IsPausedFor x.pausing q) (sym c.self.view_is) free)) c.pause_at.ensures.others
