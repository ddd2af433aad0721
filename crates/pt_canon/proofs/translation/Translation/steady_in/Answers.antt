use Rattle.std.proofs.Common.{◌≡◌, ◌∙◌, Bool, true, ap, subst, sym}
use Rattle.pt_bind.specs.Binding.{names_of}
use Rattle.pt_bind.proofs.TagLemmas.{if_ok}
use Rattle.pt_canon.specs.Laws.{host_bytes}
use Rattle.pt_canon.specs.Looks.{texts_in}
use Rattle.pt_canon.specs.Steadily.{WasAsked, entered}
use Rattle.pt_canon.specs.TextWalk.{itself_in}
use Rattle.pt_canon.specs.declared.sight.Known.{Known}
use Rattle.pt_canon.proofs.SteadyLemmas.{all_entered, none_entered}
use Rattle.pt_canon.proofs.translation.Translation.steady_in.Goals as goal

pub returns-then-not-steady-clause-answer : goal.returns-then-not-steady-clause-answer
returns-then-not-steady-clause-answer g c = none_entered (texts_in c.args.self.now (g.K.Peeks.peeked c.args.kernel.now)) c.args.at.now c.args.steady c.if-not-steady.true

pub returns-in-Open-clause-answer : goal.returns-in-Open-clause-answer
returns-in-Open-clause-answer g c =
    let texts = texts_in c.args.self.now (g.K.Peeks.peeked c.args.kernel.now) in
    let P : Known → Type 0 = λ known. WasAsked texts c.args.at.now known c.args.steady in
    let were = subst P c.in-Open.is c.requires.asked c.if-not-steady.false in
    all_entered texts c.args.at.now c.args.steady true c.if-not-steady.false were.0 (sym were.1)

pub returns-in_ok-host-in-Directory-clause-answer : goal.returns-in_ok-host-in-Directory-clause-answer
returns-in_ok-host-in-Directory-clause-answer g c =
    let texts = texts_in c.args.self.now (g.K.Peeks.peeked c.args.kernel.now) in
    let P : Known → Type 0 = λ known. WasAsked texts c.args.at.now known c.args.steady in
    let was : texts.peeked.steady (host_bytes texts c.args.at.now) ≡ true = subst P c.in-Directory.is c.requires.asked c.if-not-steady.false in
    let names = ap names_of c.as_slice.ensures ∙ c.in_ok-host-in-Directory.ensures.names in
    let Q : Bool → Type 0 = λ still. still ≡ texts.peeked.steady (itself_in (names_of c.as_slice.result.now)) in
    let R : Bool → Type 0 = λ still. still ≡ entered texts c.args.steady c.args.at.now in
    if_ok c.is_itself_steady.result Q R
    (λ still e. all_entered texts c.args.at.now c.args.steady still c.if-not-steady.false was (e ∙ ap (λ h. texts.peeked.steady (itself_in h)) names)) c.is_itself_steady.ensures.answer

pub returns-in-Nothing-clause-answer : goal.returns-in-Nothing-clause-answer
returns-in-Nothing-clause-answer g c =
    let texts = texts_in c.args.self.now (g.K.Peeks.peeked c.args.kernel.now) in
    let Q : Bool → Type 0 = λ still. still ≡ entered texts true c.args.at.now in
    let R : Bool → Type 0 = λ still. still ≡ entered texts c.args.steady c.args.at.now in
    if_ok c.all_steady_in.result Q R (λ still e. e ∙ ap (λ s. entered texts s c.args.at.now) (sym c.if-not-steady.false)) c.all_steady_in.ensures.answer
