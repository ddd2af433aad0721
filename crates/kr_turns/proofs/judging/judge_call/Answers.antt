use Rattle.std.proofs.Common.{subst, Option}
use Rattle.kr_turns.specs.Looking.{IsAhead}
use Rattle.kr_turns.specs.declared.judging.Ahead.{Ahead}
use Rattle.kr_turns.proofs.JudgeLemmas.{unjudged}
use Rattle.kr_turns.proofs.judging.judge_call.Goals as goal

pub returns-in-Some : goal.returns-in-Some
returns-in-Some g c = λ wanted number table request before is lives outcome left.
    c.judge_ahead.ensures wanted number table request before (subst (λ (o : Option Ahead). IsAhead g.row.M table c.args.pid request before o) c.in-Some.is is) lives outcome left

pub returns-in-None : goal.returns-in-None
returns-in-None g c = λ wanted number table request before is lives outcome left.
    unjudged g.row.M table c.args.pid request before c.args.no_shelf c.args.reach.now (subst (λ (o : Option Ahead). IsAhead g.row.M table c.args.pid request before o) c.in-None.is is)
