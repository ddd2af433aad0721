use Rattle.std.proofs.Common.{◌∙◌, sym}
use Rattle.list_tree.proofs.rewritten.Goals as goal

pub returns-in_ok-write-in-Ok : goal.returns-in_ok-write-in-Ok
returns-in_ok-write-in-Ok c = (sym c.wants_elf.ensures ∙ c.if-wants_elf.false, c.in-Ok.tree, c.in-Ok.user, c.in-Ok.ensures.listing, c.in_ok-write-in-Ok.ensures)
