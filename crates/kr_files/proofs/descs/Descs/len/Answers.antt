use Rattle.std.proofs.Common.{None, arith}
use Rattle.std.proofs.lemmas.List.{get_or_past}
use Rattle.kr_files.proofs.DescriptorLemmas.{none_past}
use Rattle.kr_files.proofs.descs.Descs.len.Goals as goal

pub returns-clause-free : goal.returns-clause-free
returns-clause-free c q past =
    none_past c.self.inside.list.items c.args.self.now q c.self.view_is (get_or_past c.self.inside.list.items q None (omega arith))
