use Rattle.std.proofs.Common.{◌≡◌, ◌∙◌, ◌&&◌, Bool, true, false, ap, refl, subst, sym}
use Rattle.pt_bind.specs.pr_base.Peeks.{Peeked}
use Rattle.pt_bind.specs.Binding.{host_of, names_of}
use Rattle.pt_bind.proofs.TagLemmas.{if_ok}
use Rattle.pt_canon.specs.Laws.{host_bytes}
use Rattle.pt_canon.specs.Looks.{texts_in}
use Rattle.pt_canon.specs.Steadily.{IsSure, entered}
use Rattle.pt_canon.specs.TextWalk.{itself_in}
use Rattle.pt_canon.proofs.SteadyLemmas.{all_entered}
use Rattle.pt_canon.proofs.translation.Translation.all_steady_in.Goals as goal

pub returns-then-not-steady-clause-answer : goal.returns-then-not-steady-clause-answer
returns-then-not-steady-clause-answer g c =
    let texts = texts_in c.args.self.now (g.K.Peeks.peeked c.args.kernel.now) in
    let other : false ≡ texts.peeked.steady (host_bytes texts c.args.at.now) =
    sym c.if-not-steady.true ∙ c.in_ok-steady.ensures.answer ∙ ap texts.peeked.steady (c.as_slice.ensures ∙ c.in_ok-host.ensures.host) in
    ap (λ b. b && texts.peeked.steady (itself_in (host_of texts.bindings c.args.at.now))) other

pub is_itself_steady-requires-clause-sure : goal.is_itself_steady-requires-clause-sure
is_itself_steady-requires-clause-sure g c = let P : Peeked → Type 0 = λ p. IsSure p c.args.sure.now in subst P (sym c.is_steady.ensures.kernel.same) c.requires

pub returns-clause-answer : goal.returns-clause-answer
returns-clause-answer g c =
    let self = c.args.self.now in
    let peeked = g.K.Peeks.peeked c.args.kernel.now in
    let texts = texts_in self peeked in
    let at = c.args.at.now in
    let was : texts.peeked.steady (host_bytes texts at) ≡ true =
    ap texts.peeked.steady (sym (c.as_slice.ensures ∙ c.in_ok-host.ensures.host)) ∙ sym c.in_ok-steady.ensures.answer ∙ c.if-not-steady.false in
    let names = ap names_of c.as_slice-2.ensures ∙ c.in_ok-host.ensures.names in
    let Q : Bool → Type 0 = λ still. still ≡ (g.K.Peeks.peeked c.is_steady.new.kernel).steady (itself_in (names_of c.as_slice-2.result.now)) in
    let R : Bool → Type 0 = λ still. still ≡ entered texts true at in
    if_ok c.is_itself_steady.result Q R
    (λ still e.
    all_entered texts at true still refl was
    (e ∙ ap (λ (p : Peeked). p.steady (itself_in (names_of c.as_slice-2.result.now))) c.is_steady.ensures.kernel.same ∙ ap (λ h. peeked.steady (itself_in h)) names))
    c.is_itself_steady.ensures.answer
