use Rattle.elf_load.proofs.ListLemmas.{pair-added}
use Rattle.elf_load.proofs.stack.push_pairs.Goals as goal

pub loop-pair-preserved : goal.loop-pair-preserved
loop-pair-preserved c =
    pair-added c.args.bytes.now c.loop-pair.bytes c.push_word.new.bytes c.push_word-in-loop-pair.new.bytes c.args.pairs.now c.loop-pair.pair-index _ c.loop-pair-test.true
    c.in_ok-push_word.ensures c.in_ok-push_word-2.ensures c.loop-pair.invariant
