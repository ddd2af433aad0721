use Rattle.std.proofs.Common.{◌≡◌, ◌∙◌, ◌&&◌, Bool, ap, sym}
use Rattle.pt_bind.proofs.TagLemmas.{if_ok}
use Rattle.pt_canon.specs.Laws.{host_bytes}
use Rattle.pt_canon.specs.Looks.{texts_in}
use Rattle.pt_canon.proofs.translation.Translation.steady_at.Goals as goal

pub returns-then-not-steady-clause-answer : goal.returns-then-not-steady-clause-answer
returns-then-not-steady-clause-answer g c =
    let texts = texts_in c.args.self.now (g.K.Peeks.peeked c.args.kernel.now) in
    ap (λ b. b && texts.peeked.steady (host_bytes texts c.args.at.now)) (sym c.if-not-steady.true)

pub returns-clause-answer : goal.returns-clause-answer
returns-clause-answer g c =
    let texts = texts_in c.args.self.now (g.K.Peeks.peeked c.args.kernel.now) in
    let own = texts.peeked.steady (host_bytes texts c.args.at.now) in
    let Q : Bool → Type 0 = λ still. still ≡ texts.peeked.steady c.as_slice.result.now in
    let R : Bool → Type 0 = λ still. still ≡ (c.args.steady && own) in
    if_ok c.is_steady.result Q R (λ still e. e ∙ ap texts.peeked.steady (c.as_slice.ensures ∙ c.in_ok-host.ensures.host) ∙ ap (λ b. b && own) (sym c.if-not-steady.false)) c.is_steady.ensures.answer
