use Rattle.std.proofs.Common.{◌≡◌, ◌*◌, ◌/◌, subst, sym, ℕ, Some}
use Rattle.std.specs.Prelude.{IfSome}
use Rattle.rv_table.specs.Small.{instr_of}
use Rattle.rv_table.specs.Rows.{decoded}
use Rattle.rv_mem.specs.Code.{word_at, AreDecoded}
use Rattle.rv_mem.proofs.CodeLemmas.{whole_word}
use Rattle.rv_mem.proofs.page.Page.recalled.Goals as goal

pub returns : goal.returns
returns c =
    let known = subst (AreDecoded c.self.inside.code.entries.items) (λ k. (c.self.view_is k).bytes) c.self.invariant in
    subst (λ (at : ℕ). IfSome (instr_of c.recalled.result) (λ i. decoded (word_at c.args.self.now.bytes at) ≡ Some i)) (sym (whole_word c.args.offset c.requires)) (c.recalled.ensures c.args.self.now.bytes known)
