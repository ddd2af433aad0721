use Rattle.std.proofs.Common.{◌≡◌, ◌++◌, ◌∷◌, [], ◌∙◌, None, sym, ap, length}
use Rattle.std.specs.Prelude.{position}
use Rattle.pr_words.specs.Kept.{has_name}
use Rattle.pr_words.proofs.IndexLemmas.{index_push}
use Rattle.pr_words.proofs.variables.Variables.add.Goals as goal

pub invariant_of-self-2 : goal.invariant_of-self-2
invariant_of-self-2 c name =
    let texts = c.self.inside.list.items in
    let none : position (has_name c.args.name.items) texts ≡ None = ap (position (has_name c.args.name.items)) c.self.view_is ∙ c.requires.new in
    let long : c.len.result ≡ length texts = c.len.ensures ∙ (c.reserve.ensures.len ∙ c.self.inside.list.ok.0) in
    let items : c.push_reserved.new.self.items ≡ texts ++ c.args.text ∷ [] = c.push_reserved.ensures.items ∙ ap (λ l. l ++ c.args.text ∷ []) c.reserve.ensures.items in
    index_push texts c.self.inside.places c.insert.new.self c.args.text c.args.name c.len.result c.self.invariant c.requires.named none long c.in_ok-insert.ensures.updates.0 name
    ∙ ap (position (has_name name.items)) (sym items)
