use Rattle.std.proofs.Common.{◌≡◌, ◌∙◌, ap, sym, List, ℕ}
use Rattle.rv_table.specs.Rows.{decoded}
use Rattle.rv_mem.specs.Code.{word_at}
use Rattle.rv_mem.proofs.CodeLemmas.{whole_word}
use Rattle.rv_mem.proofs.page.Page.decode.Goals as goal

pub invariant_of-self : goal.invariant_of-self
invariant_of-self c =
    let bytes : c.self.inside.shared ≡ c.args.self.now.bytes = λ k. (c.self.view_is k).bytes in
    c.remember.ensures c.self.inside.shared
    (c.of-found.ensures ∙ c.decode.ensures.value ∙ ap decoded (c.word.ensures ∙ ap (λ (l : List ℕ). word_at l c.args.offset) (sym bytes)) ∙ ap (λ at. decoded (word_at c.self.inside.shared at)) (whole_word c.args.offset c.requires.aligned))
    c.self.invariant
