use Rattle.std.proofs.Common.{◌≡◌, ◌∙◌, ◌&&◌, List, ℕ, Ok, Err, ap, refl, sym, subst}
use Rattle.pt_bind.specs.pr_base.Peeks.{Peeked, IsPeeked}
use Rattle.pt_bind.specs.pr_base.declared.peeks.PeekKind.{PeekKind}
use Rattle.pt_bind.specs.Binding.{host_of}
use Rattle.pt_canon.specs.Laws.{host_bytes}
use Rattle.pt_canon.specs.Looks.{texts_in, IsSeen}
use Rattle.pt_canon.specs.TextWalk.{seen_kind}
use Rattle.pt_canon.proofs.LookLemmas.{seen_same}
use Rattle.pt_canon.specs.Canon.{IsWalkNoted}
use Rattle.pt_canon.specs.Steadily.{WasAsked}
use Rattle.pt_canon.specs.declared.sight.Known.TheVariants as known
use Rattle.pt_canon.proofs.SteadyLemmas.{seen_asked}
use Rattle.pt_canon.proofs.translation.Translation.see.Goals as goal

pub returns-in-Ok-clause-answer : goal.returns-in-Ok-clause-answer
returns-in-Ok-clause-answer g c =
    let self = c.args.self.now in
    let at = c.args.at.now in
    let peeked = g.K.Peeks.peeked c.args.kernel.now in
    let texts = texts_in self peeked in
    let P : Peeked → Type 0 = λ p. IsSeen (texts_in self p) at (seen_kind (texts_in self p) at (host_of texts.bindings at) (Ok c.in-Ok.kind)) c.sight_of.result in
    let shown : P peeked = subst P c.kind_at.ensures.kernel.same c.sight_of.ensures.answer in
    let told : peeked.kind (host_bytes texts at) ≡ Ok c.in-Ok.kind = ap peeked.kind (sym (c.as_slice.ensures ∙ c.in_ok-host.ensures.host)) ∙ c.in-Ok.ensures.answer in
    seen_same texts at (Ok c.in-Ok.kind) c.sight_of.result told shown

pub returns-clause-answer : goal.returns-clause-answer
returns-clause-answer g c =
    let at = c.args.at.now in
    let peeked = g.K.Peeks.peeked c.args.kernel.now in
    let texts = texts_in c.args.self.now peeked in
    let P : List ℕ → Type 0 = λ host. IsPeeked {T = PeekKind} (peeked.kind host) (Err c.in-Err.fault) in
    let lost : P (host_bytes texts at) = subst P (c.as_slice.ensures ∙ c.in_ok-host.ensures.host) c.in-Err.ensures.answer in
    seen_same texts at (peeked.kind (host_bytes texts at)) c.unseen.result refl (c.unseen.ensures.seen texts at (host_of texts.bindings at) (peeked.kind (host_bytes texts at)) lost)

pub returns-in-Ok-clause-noted : goal.returns-in-Ok-clause-noted
returns-in-Ok-clause-noted g c =
    let self = c.args.self.now in
    let at = c.args.at.now in
    let peeked = g.K.Peeks.peeked c.args.kernel.now in
    let texts = texts_in self peeked in
    let old = g.K.Peeks.unmet c.args.kernel.now in
    let one = g.K.Peeks.unmet c.kind_at.new.kernel in
    let new = g.K.Peeks.unmet c.sight_of.new.kernel in
    let noted : one ≡ (old && peeked.steady (host_bytes texts at)) = c.in-Ok.ensures.noted ∙ ap (λ h. old && peeked.steady h) (c.as_slice.ensures ∙ c.in_ok-host.ensures.host) in
    let P : Peeked → Type 0 = λ p. WasAsked (texts_in self p) at known.Directory one in
    let asked : P (g.K.Peeks.peeked c.kind_at.new.kernel) = subst P (sym c.kind_at.ensures.kernel.same) (seen_asked texts at old one noted) in
    subst (λ b. IsWalkNoted b new c.sight_of.result) noted (c.sight_of.ensures.noted asked)

pub returns-clause-noted : goal.returns-clause-noted
returns-clause-noted g c =
    let at = c.args.at.now in
    let peeked = g.K.Peeks.peeked c.args.kernel.now in
    let texts = texts_in c.args.self.now peeked in
    let old = g.K.Peeks.unmet c.args.kernel.now in
    let new = g.K.Peeks.unmet c.kind_at.new.kernel in
    subst (λ h. IsWalkNoted (old && peeked.steady h) new c.unseen.result) (c.as_slice.ensures ∙ c.in_ok-host.ensures.host) (c.unseen.ensures.noted (old && peeked.steady c.as_slice.result.now) new c.in-Err.ensures.noted)
