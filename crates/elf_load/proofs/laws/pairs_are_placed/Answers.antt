use Rattle.elf_load.proofs.ListLemmas.{are_placed}
use Rattle.elf_load.proofs.laws.pairs_are_placed.Goals as goal

pub returns : goal.returns
returns c = are_placed
