use Rattle.std.proofs.Common.{arith}
use Rattle.rv_mem.proofs.CodeLemmas.{recalled_is}
use Rattle.rv_mem.proofs.code.Code.recalled.Goals as goal

pub returns-then-index-len : goal.returns-then-index-len
returns-then-index-len c bytes was =
    recalled_is c.args.self.now.entries.items bytes c.args.index c.index.result.now (omega (arith, c.if-index-len.true, c.len.ensures, c.args.self.now.entries.ok.0)) c.index.ensures was
