use Rattle.std.proofs.Common.{◌≡◌, ◌∙◌, Option, Some, ap, sym}
use Rattle.std.specs.Option.{option_map}
use Rattle.pt_bind.specs.pr_base.Texts.{Text}
use Rattle.pt_bind.specs.Binding.{names_of}
use Rattle.pt_bind.proofs.TagLemmas.{if_ok}
use Rattle.pt_canon.specs.Looks.{texts_in, led}
use Rattle.pt_canon.specs.ProcessLinks.{landing_of, link_guest, link_name}
use Rattle.pt_canon.proofs.LandingLemmas.{led_by_name, led_nowhere}
use Rattle.pt_canon.proofs.translation.Translation.lead_of.Goals as goal

pub returns-in-Some-clause-answer : goal.returns-in-Some-clause-answer
returns-in-Some-clause-answer g c =
    let texts = texts_in c.args.self.now (g.K.Peeks.peeked c.args.kernel.now) in
    let name = names_of c.as_slice.result.now in
    let named : link_name texts.peeked c.args.link ≡ Some name = sym c.in_ok-name.ensures.name ∙ ap (option_map names_of) c.in-Some.is ∙ ap (λ n. Some (names_of n)) (sym c.as_slice.ensures) in
    let P : Option Text → Type 0 = λ guest. guest ≡ link_guest texts.bindings texts.tags c.args.link name in
    let Q : Option Text → Type 0 = λ guest. guest ≡ led (landing_of texts.bindings texts.peeked texts.tags c.args.link) in
    if_ok c.guest_of.result P Q (λ guest e. e ∙ led_by_name texts c.args.link name named) c.guest_of.ensures

pub returns-in-None-clause-answer : goal.returns-in-None-clause-answer
returns-in-None-clause-answer g c =
    let texts = texts_in c.args.self.now (g.K.Peeks.peeked c.args.kernel.now) in
    led_nowhere texts c.args.link (sym c.in_ok-name.ensures.name ∙ ap (option_map names_of) c.in-None.is)
