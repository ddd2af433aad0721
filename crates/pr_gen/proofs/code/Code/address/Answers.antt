use Rattle.std.proofs.Common.{refl}
use Rattle.rv_asm.specs.declared.item.Item.TheVariants.{Address}
use Rattle.pr_gen.proofs.Drafts.{kept_item}
use Rattle.pr_gen.proofs.code.Code.address.Goals as goal

pub invariant_of-self-2 : goal.invariant_of-self-2
invariant_of-self-2 c = rw c.in_ok-address.ensures.ok (kept_item c.self.inside.asm c.self.inside.size 8 (Address c.args.rd c.args.of) c.self.invariant tt refl)
