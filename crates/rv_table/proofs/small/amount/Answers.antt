use Rattle.std.proofs.Common.{subst, sym, w64}
use Rattle.std.proofs.Math.Facts.{to_z-of_z}
use Rattle.rv_table.specs.Encoding.{FitsWidth}
use Rattle.rv_table.proofs.SmallLemmas.{amount_fits}
use Rattle.rv_table.proofs.small.amount.Goals as goal

pub narrow-requires : goal.narrow-requires
narrow-requires c = subst (FitsWidth 32) (sym (to_z-of_z {w = w64} {z = c.args.imm} c.ranges.imm)) (amount_fits c.args.imm c.requires)
