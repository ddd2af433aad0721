use Rattle.pt_bind.proofs.ByteLemmas.{below_short, below_long}
use Rattle.kr_mounts.proofs.text.below_root.Goals as goal

pub returns-then-text-eq1 : goal.returns-then-text-eq1
returns-then-text-eq1 c = below_short c.args.text.now c.requires c.if-text-eq1.true

pub returns : goal.returns
returns c = below_long c.args.text.now c.requires c.if-text-eq1.false
