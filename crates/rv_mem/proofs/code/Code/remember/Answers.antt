use Rattle.std.proofs.Common.{refl, arith}
use Rattle.rv_mem.proofs.CodeLemmas.{decoded-set}
use Rattle.rv_mem.proofs.code.Code.remember.Goals as goal

pub returns-then-index-len : goal.returns-then-index-len
returns-then-index-len c bytes is was =
    decoded-set c.args.self.now.entries.items _ bytes c.args.index c.args.found refl (omega (arith, c.if-index-len.true, c.len.ensures, c.args.self.now.entries.ok.0)) is was
