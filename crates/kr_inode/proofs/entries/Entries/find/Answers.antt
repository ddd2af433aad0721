use Rattle.std.proofs.Common.{◌∙◌}
use Rattle.kr_inode.proofs.entries.Entries.find.Goals as goal

pub returns : goal.returns
returns c = rw (← c.self.view_is) (c.copied.ensures ∙ (c.get.ensures.value ∙ c.self.invariant.0 c.args.name.now))
