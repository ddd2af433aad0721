use Rattle.std.proofs.Common.{rules, take}
use Rattle.pr_io.proofs.file.FileSinkSink.put.Goals as goal

pub returns-then-taken-clause-grows : goal.returns-then-taken-clause-grows
returns-then-taken-clause-grows g c = (take c.match-self.taken.count c.args.b.now, search rules, search rules)

pub returns-clause-grows : goal.returns-clause-grows
returns-clause-grows g c = (take c.match-self.taken.count c.args.b.now, search rules, search rules)
