use Rattle.kr_files.proofs.DescriptorLemmas.{cleared, cleared_past}
use Rattle.std.proofs.Common.{arith}
use Rattle.kr_files.proofs.descs.Descs.clear.Goals as goal

pub returns-then-fd-len : goal.returns-then-fd-len
returns-then-fd-len c = cleared c.self.inside.list.items c.args.self.now c.args.fd c.self.view_is (omega arith)

pub returns-else-fd-len : goal.returns-else-fd-len
returns-else-fd-len c = cleared_past c.self.inside.list.items c.args.self.now c.args.fd c.self.view_is (omega arith)
