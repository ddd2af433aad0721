use Rattle.std.proofs.Common.{◌*◌, arith}
use Rattle.rv_asm.specs.declared.item.Item.TheVariants.{Data}
use Rattle.rv_asm.specs.Program.{padded}
use Rattle.pr_gen.proofs.Drafts.{kept_item, length-padded}
use Rattle.pr_gen.proofs.code.Code.bytes.Goals as goal

pub invariant_of-self-2 : goal.invariant_of-self-2
invariant_of-self-2 c =
    rw c.in_ok-bytes.ensures.ok (kept_item c.self.inside.asm c.self.inside.size (c.div_ceil.result * 4) (Data (padded c.args.b.now)) c.self.invariant tt (omega (arith, c.div_ceil.ensures, length-padded c.args.b.now)))
