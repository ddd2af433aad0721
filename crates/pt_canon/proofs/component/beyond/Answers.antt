use Rattle.std.proofs.Common.{◌≡◌, ◌∙◌, ◌∷◌, [], List, ℕ, ap, sym}
use Rattle.pt_bind.specs.pr_base.Texts.{Text}
use Rattle.pt_bind.proofs.TagLemmas.{if_ok}
use Rattle.pt_canon.specs.Components.{component_data, straight}
use Rattle.pt_canon.proofs.component.beyond.Goals as goal

pub returns-in-Dot : goal.returns-in-Dot
returns-in-Dot c = ap (λ k. straight c.args.at (component_data k ∷ [])) (sym c.in-Dot.is)

pub returns-in-DotDot : goal.returns-in-DotDot
returns-in-DotDot c = c.above.ensures ∙ ap (λ k. straight c.args.at (component_data k ∷ [])) (sym c.in-DotDot.is)

pub returns-in-Name : goal.returns-in-Name
returns-in-Name c =
    let P : Text → Type 0 = λ text. text ≡ c.in-Name.name.now ∷ c.args.at in
    let Q : Text → Type 0 = λ text. text ≡ straight c.args.at (component_data c.args.component ∷ []) in
    if_ok c.child.result P Q (λ text e. e ∙ ap (λ k. straight c.args.at (component_data k ∷ [])) (sym c.in-Name.is)) c.child.ensures
