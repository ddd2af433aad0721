use Rattle.std.proofs.Common.{rules}
use Rattle.pt_canon.proofs.NotedLemmas.{none_noted}
use Rattle.pt_args.proofs.caller.Caller.plan_second.Goals as goal

pub returns-in_default-clause-noted : goal.returns-in_default-clause-noted
returns-in_default-clause-noted g c = none_noted _ _ c.plan_one.result (search rules)

pub returns-in-Some-2-clause-noted : goal.returns-in-Some-2-clause-noted
returns-in-Some-2-clause-noted g c = none_noted _ _ c.plan_both.result (search rules)

pub returns-in-None-clause-noted : goal.returns-in-None-clause-noted
returns-in-None-clause-noted g c = none_noted _ _ c.plan_first.result (search rules)
