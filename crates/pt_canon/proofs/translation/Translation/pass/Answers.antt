use Rattle.std.proofs.Common.{◌≡◌, ◌∙◌, ◌++◌, ◌∷◌, true, ap, refl, sym}
use Rattle.pt_bind.specs.pr_base.Paths.{slash, components_of}
use Rattle.pt_bind.specs.pr_base.WalkFrame.{Leads}
use Rattle.pt_canon.specs.ProcessLinks.{above}
use Rattle.pt_canon.specs.Looks.{texts_in, sight_seen}
use Rattle.pt_canon.specs.Steps.{ended, middle_trail, start_of}
use Rattle.pt_canon.specs.TextWalk.{seen_text}
use Rattle.pt_canon.proofs.LookLemmas.{seen_dir}
use Rattle.pt_canon.proofs.StepLemmas.{goes_same, pass_links, passed}
use Rattle.pt_canon.proofs.NotedLemmas.{passed_error}
use Rattle.pt_canon.proofs.translation.Translation.pass.Goals as goal

pub returns-in-Directory-clause-answer : goal.returns-in-Directory-clause-answer
returns-in-Directory-clause-answer g c =
    let texts = texts_in c.args.self.now (g.K.Peeks.peeked c.args.kernel.now) in
    let at = c.args.at in
    let shown : seen_text texts at ≡ Leads true at at = c.requires.seen ∙ ap (sight_seen texts at) c.in-Directory.is in (
      ap (λ s. ended texts c.args.terms.mode c.args.terms.steady (middle_trail texts c.args.terms (above at) (components_of c.args.behind.now) (sight_seen texts at s))) c.in-Directory.is,
      record { found = seen_dir texts at shown; asked = c.requires.asked },
    )

pub returns-in_ok-start-in-Links-clause-answer : goal.returns-in_ok-start-in-Links-clause-answer
returns-in_ok-start-in-Links-clause-answer g c =
    let texts = texts_in c.args.self.now (g.K.Peeks.peeked c.args.kernel.now) in
    let terms = c.args.terms in
    let at = c.args.at in
    let behind = c.args.behind.now in
    let text = c.in-Links.text in
    let path = c.in_ok-path-in-Links.path in
    let start = c.in_ok-start-in-Links.start in
    let begins : start ≡ start_of (above at) text = c.in_ok-start-in-Links.ensures.1 ∙ ap (start_of (above at)) c.as_slice-in-Links.ensures in
    let joined : path ≡ text ++ slash ∷ behind = c.in_ok-path-in-Links.ensures ∙ ap (λ text. text ++ slash ∷ behind) c.as_slice.ensures in
    let goes = pass_links texts terms at behind text path start c.in_ok-start-in-Links.ensures.0 begins joined in
    goes_same texts terms.mode terms.left _ (passed texts terms at behind (sight_seen texts at c.args.sight)) _ (ap (λ s. passed texts terms at behind (sight_seen texts at s)) (sym c.in-Links.is)) goes

pub returns-in-Directory-clause-noted : goal.returns-in-Directory-clause-noted
returns-in-Directory-clause-noted g c = λ asked. (refl, asked)

pub returns-in_err-start-in-Links-clause-noted : goal.returns-in_err-start-in-Links-clause-noted
returns-in_err-start-in-Links-clause-noted g c = λ asked.
    let texts = texts_in c.args.self.now (g.K.Peeks.peeked c.args.kernel.now) in
    let old = g.K.Peeks.unmet c.args.kernel.now in
    passed_error texts old old c.from_residual-in_err-start-in-Links.result refl c.from_residual-in_err-start-in-Links.ensures.0

pub returns-in_err-guest-in-Jumps-clause-noted : goal.returns-in_err-guest-in-Jumps-clause-noted
returns-in_err-guest-in-Jumps-clause-noted g c = λ asked.
    let texts = texts_in c.args.self.now (g.K.Peeks.peeked c.args.kernel.now) in
    passed_error texts (g.K.Peeks.unmet c.args.kernel.now) (g.K.Peeks.unmet c.jump.new.kernel) c.from_residual-in_err-guest-in-Jumps.result c.jump.ensures.unmet c.from_residual-in_err-guest-in-Jumps.ensures.0
