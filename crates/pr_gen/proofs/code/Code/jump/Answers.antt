use Rattle.std.proofs.Common.{refl}
use Rattle.rv_asm.specs.declared.item.Item.TheVariants.{Jump}
use Rattle.pr_gen.proofs.Drafts.{kept_item}
use Rattle.pr_gen.proofs.code.Code.jump.Goals as goal

pub invariant_of-self-2 : goal.invariant_of-self-2
invariant_of-self-2 c = rw c.in_ok-jump.ensures.ok (kept_item c.self.inside.asm c.self.inside.size 4 (Jump c.args.rd c.args.to) c.self.invariant tt refl)
