use Rattle.std.proofs.Common.{◌≡◌, ◌∙◌, ◌&&◌, Ok, ap, sym, subst}
use Rattle.pt_bind.specs.pr_base.Peeks.{Peeked}
use Rattle.pt_bind.specs.pr_base.declared.peeks.PeekKind.TheVariants as kind
use Rattle.pt_bind.specs.Binding.{host_of, names_of}
use Rattle.pt_canon.specs.Laws.{host_bytes}
use Rattle.pt_canon.specs.Looks.{texts_in, IsItselfTold, IsKnown}
use Rattle.pt_canon.specs.TextWalk.{itself_in}
use Rattle.pt_canon.specs.declared.sight.Known.{Known}
use Rattle.pt_canon.proofs.LookLemmas.{entered_itself, not_entered}
use Rattle.pt_canon.specs.Canon.{IsWalkNoted}
use Rattle.pt_canon.specs.Steadily.{WasAsked}
use Rattle.pt_canon.proofs.NotedLemmas.{directory_entered, itself_noted, lost_noted, open_entered}
use Rattle.pt_canon.proofs.translation.Translation.enter.Goals as goal

pub returns-in_err-find_directory-in-Nothing-clause-answer : goal.returns-in_err-find_directory-in-Nothing-clause-answer
returns-in_err-find_directory-in-Nothing-clause-answer g c =
    let texts = texts_in c.args.self.now (g.K.Peeks.peeked c.args.kernel.now) in
    let here = c.as_slice-in-Nothing.ensures ∙ c.in_ok-host-in-Nothing.ensures.host in
    let residual = c.from_residual-in_err-find_directory-in-Nothing in
    not_entered texts c.args.at.now c.as_slice-in-Nothing.result.now c.in_err-find_directory-in-Nothing.field-0.0 residual.result here c.in_err-find_directory-in-Nothing.ensures.answer residual.ensures.0 residual.ensures.1

pub returns-in_ok-host-in-Directory-clause-answer : goal.returns-in_ok-host-in-Directory-clause-answer
returns-in_ok-host-in-Directory-clause-answer g c =
    let texts = texts_in c.args.self.now (g.K.Peeks.peeked c.args.kernel.now) in
    let P : Known → Type 0 = λ known. IsKnown texts c.args.at.now known in
    let dir : texts.peeked.kind (host_bytes texts c.args.at.now) ≡ Ok kind.Dir = subst P c.in-Directory.is c.requires in
    let names = ap names_of c.as_slice.ensures ∙ c.in_ok-host-in-Directory.ensures.names in
    entered_itself texts c.args.at.now c.as_slice.result.now c.find_itself.result dir names c.find_itself.ensures.answer

pub returns-in_ok-find_directory-in-Nothing-clause-answer : goal.returns-in_ok-find_directory-in-Nothing-clause-answer
returns-in_ok-find_directory-in-Nothing-clause-answer g c =
    let peeked = g.K.Peeks.peeked c.args.kernel.now in
    let texts = texts_in c.args.self.now peeked in
    let dir : peeked.kind (host_bytes texts c.args.at.now) ≡ Ok kind.Dir =
    ap peeked.kind (sym (c.as_slice-in-Nothing.ensures ∙ c.in_ok-host-in-Nothing.ensures.host)) ∙ c.in_ok-find_directory-in-Nothing.ensures.answer in
    let P : Peeked → Type 0 = λ p. IsItselfTold (p.kind (itself_in (names_of c.as_slice-in-Nothing-2.result.now))) c.find_itself-in-Nothing.result in
    let told : P peeked = subst P c.find_directory.ensures.kernel.same c.find_itself-in-Nothing.ensures.answer in
    let names = ap names_of c.as_slice-in-Nothing-2.ensures ∙ c.in_ok-host-in-Nothing.ensures.names in
    entered_itself texts c.args.at.now c.as_slice-in-Nothing-2.result.now c.find_itself-in-Nothing.result dir names told

pub returns-in-Open-clause-noted : goal.returns-in-Open-clause-noted
returns-in-Open-clause-noted g c = λ asked.
    let texts = texts_in c.args.self.now (g.K.Peeks.peeked c.args.kernel.now) in
    let old = g.K.Peeks.unmet c.args.kernel.now in
    let P : Known → Type 0 = λ known. WasAsked texts c.args.at.now known old in
    open_entered texts c.args.at.now old (subst P c.in-Open.is asked)

pub returns-in_ok-host-in-Directory-clause-noted : goal.returns-in_ok-host-in-Directory-clause-noted
returns-in_ok-host-in-Directory-clause-noted g c = λ asked.
    let texts = texts_in c.args.self.now (g.K.Peeks.peeked c.args.kernel.now) in
    let at = c.args.at.now in
    let old = g.K.Peeks.unmet c.args.kernel.now in
    let P : Known → Type 0 = λ known. IsKnown texts at known in
    let A : Known → Type 0 = λ known. WasAsked texts at known old in
    let names = ap names_of c.as_slice.ensures ∙ c.in_ok-host-in-Directory.ensures.names in
    itself_noted texts at c.as_slice.result.now old old (g.K.Peeks.unmet c.find_itself.new.kernel) c.find_itself.result (subst P c.in-Directory.is c.requires) names c.find_itself.ensures.answer
    (directory_entered texts at old (subst A c.in-Directory.is asked)) c.find_itself.ensures.noted

pub returns-in_err-find_directory-in-Nothing-clause-noted : goal.returns-in_err-find_directory-in-Nothing-clause-noted
returns-in_err-find_directory-in-Nothing-clause-noted g c = λ asked.
    let texts = texts_in c.args.self.now (g.K.Peeks.peeked c.args.kernel.now) in
    let here = c.as_slice-in-Nothing.ensures ∙ c.in_ok-host-in-Nothing.ensures.host in
    let residual = c.from_residual-in_err-find_directory-in-Nothing in
    lost_noted texts c.args.at.now c.as_slice-in-Nothing.result.now (g.K.Peeks.unmet c.args.kernel.now) (g.K.Peeks.unmet c.find_directory.new.kernel) c.in_err-find_directory-in-Nothing.field-0.0 residual.result here
    c.in_err-find_directory-in-Nothing.ensures.answer c.in_err-find_directory-in-Nothing.ensures.noted residual.ensures.0 residual.ensures.1

pub returns-in_ok-find_directory-in-Nothing-clause-noted : goal.returns-in_ok-find_directory-in-Nothing-clause-noted
returns-in_ok-find_directory-in-Nothing-clause-noted g c = λ asked.
    let peeked = g.K.Peeks.peeked c.args.kernel.now in
    let texts = texts_in c.args.self.now peeked in
    let at = c.args.at.now in
    let one = g.K.Peeks.unmet c.find_directory.new.kernel in
    let new = g.K.Peeks.unmet c.find_itself-in-Nothing.new.kernel in
    let host = c.as_slice-in-Nothing-2.result.now in
    let here = c.as_slice-in-Nothing.ensures ∙ c.in_ok-host-in-Nothing.ensures.host in
    let dir : peeked.kind (host_bytes texts at) ≡ Ok kind.Dir = ap peeked.kind (sym here) ∙ c.in_ok-find_directory-in-Nothing.ensures.answer in
    let P : Peeked → Type 0 = λ p. IsItselfTold (p.kind (itself_in (names_of host))) c.find_itself-in-Nothing.result in
    let told : P peeked = subst P c.find_directory.ensures.kernel.same c.find_itself-in-Nothing.ensures.answer in
    let Q : Peeked → Type 0 = λ p. IsWalkNoted (one && p.steady (itself_in (names_of host))) new c.find_itself-in-Nothing.result in
    let noted : Q peeked = subst Q c.find_directory.ensures.kernel.same c.find_itself-in-Nothing.ensures.noted in
    let names = ap names_of c.as_slice-in-Nothing-2.ensures ∙ c.in_ok-host-in-Nothing.ensures.names in
    let was : one ≡ (g.K.Peeks.unmet c.args.kernel.now && peeked.steady (host_bytes texts at)) = c.in_ok-find_directory-in-Nothing.ensures.noted ∙ ap (λ h. g.K.Peeks.unmet c.args.kernel.now && peeked.steady h) here in
    itself_noted texts at host (g.K.Peeks.unmet c.args.kernel.now) one new c.find_itself-in-Nothing.result dir names told (ap (λ b. b && peeked.steady (itself_in (host_of texts.bindings at))) was) noted
