use Rattle.std.proofs.Common.{◌∙◌, sym}
use Rattle.pt_canon.proofs.pt_bind.ByteLemmas.{below_short, below_long}
use Rattle.pt_args.proofs.point.below_root.Goals as goal

pub returns-then-len-ne1 : goal.returns-then-len-ne1
returns-then-len-ne1 c = below_long c.args.text c.requires (λ one. c.if-len-ne1.true (c.len.ensures ∙ one))

pub returns : goal.returns
returns c = c.clear.ensures ∙ below_short c.args.text c.requires (sym c.len.ensures ∙ c.if-len-ne1.false)
