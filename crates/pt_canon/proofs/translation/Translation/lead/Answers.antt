use Rattle.std.proofs.Common.{◌≡◌, ◌∙◌, Option, Some, None, ap, sym}
use Rattle.pt_bind.specs.pr_base.Texts.{Text}
use Rattle.pt_bind.specs.Binding.{host_of, names_of}
use Rattle.pt_bind.proofs.TagLemmas.{if_ok}
use Rattle.pt_canon.specs.Looks.{texts_in, led}
use Rattle.pt_canon.specs.ProcessLinks.{jump_at, landing_of, link_at}
use Rattle.pt_canon.proofs.LandingLemmas.{led_by_link, led_by_none}
use Rattle.pt_canon.proofs.translation.Translation.lead.Goals as goal

pub returns-in-Some-clause-answer : goal.returns-in-Some-clause-answer
returns-in-Some-clause-answer g c =
    let texts = texts_in c.args.self.now (g.K.Peeks.peeked c.args.kernel.now) in
    let host = host_of texts.bindings c.args.link.now in
    let link = c.in-Some.link in
    let there : link_at host ≡ Some link = ap link_at (sym (ap names_of c.as_slice.ensures ∙ c.in_ok-host.ensures.names)) ∙ sym c.in-Some.ensures in
    let P : Option Text → Type 0 = λ guest. guest ≡ led (landing_of texts.bindings texts.peeked texts.tags link) in
    let Q : Option Text → Type 0 = λ guest. guest ≡ led (jump_at texts.bindings texts.peeked texts.tags host) in
    if_ok c.lead_of.result P Q (λ guest e. e ∙ led_by_link texts host link there) c.lead_of.ensures.answer

pub returns-clause-answer : goal.returns-clause-answer
returns-clause-answer g c =
    let texts = texts_in c.args.self.now (g.K.Peeks.peeked c.args.kernel.now) in
    let host = host_of texts.bindings c.args.link.now in
    let nowhere : link_at host ≡ None = ap link_at (sym (ap names_of c.as_slice.ensures ∙ c.in_ok-host.ensures.names)) ∙ sym c.in-None.ensures in
    led_by_none texts host nowhere
