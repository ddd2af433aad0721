use Rattle.std.proofs.Common.{◌/◌, ◌∙◌, sym, arith}
use Rattle.std.proofs.lemmas.Bool.Decides.{nat_tests}
use Rattle.rv_mem.proofs.CodeLemmas.{still_decoded, decoded-empty}
use Rattle.rv_mem.proofs.code.Code.forget.Goals as goal

pub returns-then-not-is_empty : goal.returns-then-not-is_empty
returns-then-not-is_empty c bytes written size was =
    still_decoded c.args.self.now.entries.items c.forget_words.new.entries.items bytes written c.args.from c.args.to (c.args.from / 4) c.div_ceil.result (omega arith) (omega (arith, c.div_ceil.ensures)) size c.requires
    c.forget_words.ensures.len c.forget_words.ensures.forgotten c.forget_words.ensures.kept was

pub returns-else-not-is_empty : goal.returns-else-not-is_empty
returns-else-not-is_empty c bytes written size was =
    let long = c.args.self.now.entries.ok.0 in
    let empty = sym c.is_empty.ensures ∙ c.if-not-is_empty.false in
    decoded-empty c.args.self.now.entries.items _ (grind (arith, nat_tests))
