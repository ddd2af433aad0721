use Rattle.kr_hostview.specs.kr_ops.Meaning.{meaning}
use Rattle.kr_hostview.proofs.LawLemmas.{lawful-on-host}
use Rattle.kr_turns.proofs.here.names_are_texts.Goals as goal

pub returns-clause-texts : goal.returns-clause-texts
returns-clause-texts g c = lawful-on-host.texts c.requires.number c.requires.table (meaning c.args.state.now) c.args.pid c.requires.lawful c.numbers_are_small.ensures
