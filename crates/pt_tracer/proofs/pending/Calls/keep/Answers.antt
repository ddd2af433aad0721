use Rattle.law_steady.proofs.pr_base.BTreeLemmas.{inserted}
use Rattle.pt_tracer.proofs.pending.Calls.keep.Goals as goal

pub returns : goal.returns
returns c = inserted c.self.inside.kept c.insert.new.self c.args.self.now c.args.pid c.args.pending c.self.view_is c.in_ok-insert.ensures.updates
