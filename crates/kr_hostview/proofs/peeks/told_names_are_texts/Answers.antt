use Rattle.kr_seen.specs.kr_ops.Meaning.{meaning}
use Rattle.kr_seen.proofs.FindLemmas.{at-most}
use Rattle.kr_hostview.proofs.LawLemmas.{names-told}
use Rattle.kr_hostview.proofs.peeks.told_names_are_texts.Goals as goal

pub returns : goal.returns
returns g c = λ caller. names-told (meaning c.args.state.now) caller c.requires.number c.requires.table c.requires.lawful (at-most c.args.state.now.next_pid c.numbers_are_small.ensures)
