use Rattle.std.proofs.Common.{◌∙◌, ap}
use Rattle.pt_bind.specs.pr_base.Paths.{components_of, text_of}
use Rattle.pt_bind.specs.Binding.{host_of}
use Rattle.pt_canon.specs.Components.{straight}
use Rattle.pt_canon.specs.Looks.{texts_in}
use Rattle.pt_canon.proofs.FrontLemmas.{none_known, some_known}
use Rattle.pt_canon.proofs.translation.Translation.ahead.Goals as goal

pub returns-then-not-steady-clause-ahead : goal.returns-then-not-steady-clause-ahead
returns-then-not-steady-clause-ahead g c =
    let texts = texts_in c.args.self.now (g.K.Peeks.peeked c.args.kernel.now) in
    c.nothing.ensures ∙ none_known texts c.args.steady (straight c.args.at.now (components_of c.args.path.now)) c.if-not-steady.true

pub returns-clause-ahead : goal.returns-clause-ahead
returns-clause-ahead g c =
    let texts = texts_in c.args.self.now (g.K.Peeks.peeked c.args.kernel.now) in
    let host = c.in_ok-host.ensures.host ∙ ap (λ t. text_of (host_of texts.bindings t)) c.in_ok-text.ensures in
    let told = c.in_ok-told.ensures.answer ∙ ap texts.peeked.steady (c.as_slice.ensures ∙ host) in
    c.by.ensures ∙ some_known texts c.args.steady c.in_ok-told.told (straight c.args.at.now (components_of c.args.path.now)) c.in_ok-host.host c.if-not-steady.false host told
