use Rattle.std.proofs.Common.{arith}
use Rattle.kr_files.proofs.DescriptorLemmas.{are_few}
use Rattle.kr_files.proofs.descs.Descs.are_few.Goals as goal

pub returns : goal.returns
returns c = are_few c.self.inside.list.items c.args.self.now c.self.view_is (omega arith)
