use Rattle.std.proofs.Common.{arith, None}
use Rattle.std.specs.FinMap as map
use Rattle.std.proofs.lemmas.List.{get_or_past}
use Rattle.kr_files.proofs.DescriptorLemmas.{put_over, none_past, not_missing}
use Rattle.kr_files.proofs.descs.Descs.replace.Goals as goal

pub returns-then-fd-len : goal.returns-then-fd-len
returns-then-fd-len c = put_over c.self.inside.list.items c.args.self.now c.args.fd c.args.descriptor c.self.view_is (omega arith)

pub returns-else-fd-len : goal.returns-else-fd-len
returns-else-fd-len c =
    absurd (not_missing (map.get c.args.self.now c.args.fd) c.requires (none_past c.self.inside.list.items c.args.self.now c.args.fd c.self.view_is (get_or_past c.self.inside.list.items c.args.fd None (omega arith))))
