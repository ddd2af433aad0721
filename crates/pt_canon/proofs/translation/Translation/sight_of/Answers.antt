use Rattle.std.proofs.Common.{◌∙◌, ℕ, List, Err, ap, subst}
use Rattle.pt_bind.specs.pr_base.Peeks.{IsNoted}
use Rattle.pt_canon.proofs.NotedLemmas.{and_asked, noted_fault}
use Rattle.pt_canon.proofs.translation.Translation.sight_of.Goals as goal

pub returns-in_err-text-in-Link-clause-noted : goal.returns-in_err-text-in-Link-clause-noted
returns-in_err-text-in-Link-clause-noted g c = λ asked.
    let peeked = g.K.Peeks.peeked c.args.kernel.now in
    let old = g.K.Peeks.unmet c.args.kernel.now in
    let own = peeked.steady c.args.host.now in
    let residual = c.from_residual in
    let same = and_asked old own (λ so. ap peeked.steady c.requires.host ∙ asked so) in
    let new = g.K.Peeks.unmet c.link_text_at.new.kernel in
    let fault = c.in_err-text-in-Link.field-0.0 in
    let noted : IsNoted {T = List ℕ} old new (Err fault) = subst (λ b. IsNoted {T = List ℕ} b new (Err fault)) same c.in_err-text-in-Link.ensures.noted in
    noted_fault (List ℕ) old new fault residual.result noted residual.ensures.0 residual.ensures.1

pub returns-in_ok-text-in-Link-clause-noted : goal.returns-in_ok-text-in-Link-clause-noted
returns-in_ok-text-in-Link-clause-noted g c = λ asked.
    let peeked = g.K.Peeks.peeked c.args.kernel.now in
    let old = g.K.Peeks.unmet c.args.kernel.now in
    c.in_ok-text-in-Link.ensures.noted ∙ and_asked old (peeked.steady c.args.host.now) (λ so. ap peeked.steady c.requires.host ∙ asked so)
