use Rattle.std.proofs.Common.{◌≡◌, ◌++◌, map, take}
use Rattle.rv_asm.specs.declared.item.Item.TheVariants.{Plain}
use Rattle.pr_gen.proofs.guest.put_all.Given as goal

abbrev pub invariant-loop-i : goal.invariant-loop-i
invariant-loop-i l = l.asm ≡ record l.fn.asm { items = l.fn.asm.items ++ map Plain (take l.i-index l.part) }
