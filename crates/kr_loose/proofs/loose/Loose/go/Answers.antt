use Rattle.std.proofs.Common.{rules, Some, ap, sym, ◌∙◌}
use Rattle.std.proofs.lemmas.Result.{on_ok_weaker}
use Rattle.kr_core.specs.declared.paused.Phase.{Phase}
use Rattle.kr_loose.proofs.GoingLemmas.{has-phase}
use Rattle.kr_loose.proofs.loose.Loose.go.Goals as goal

pub unreachable-requires : goal.unreachable-requires
unreachable-requires g c = has-phase g.P.Places.number c.args.pid c.args.self.now.kernel c.requires.lives (sym c.phase.ensures ∙ c.in_default.is)

pub run-requires : goal.run-requires
run-requires g c = (search rules, (c.requires.whole, (c.requires.fuel, sym c.phase.ensures ∙ c.in-Some.is ∙ ap (λ (next : Phase). Some next) c.in-Running.is)))

pub enter-requires : goal.enter-requires
enter-requires g c = (search rules, (c.requires.whole, sym c.phase.ensures ∙ c.in-Some.is ∙ ap (λ (next : Phase). Some next) c.in-AtCall.is))

pub call-requires : goal.call-requires
call-requires g c = (search rules, (c.requires.whole, (c.requires.few, sym c.phase.ensures ∙ c.in-Some.is ∙ ap (λ (next : Phase). Some next) c.in-Entered.is)))

pub leave-requires : goal.leave-requires
leave-requires g c = (search rules, (c.requires.whole, sym c.phase.ensures ∙ c.in-Some.is ∙ ap (λ (next : Phase). Some next) c.in-Done.is))

pub returns-in-AtCall-clause-goes : goal.returns-in-AtCall-clause-goes
returns-in-AtCall-clause-goes g c = on_ok_weaker c.enter.result (λ goes. goes c.args.fuel) c.enter.ensures.goes

pub returns-in-Entered-clause-goes : goal.returns-in-Entered-clause-goes
returns-in-Entered-clause-goes g c = on_ok_weaker c.call.result (λ goes. goes c.args.fuel) c.call.ensures.goes

pub returns-in-Done-clause-goes : goal.returns-in-Done-clause-goes
returns-in-Done-clause-goes g c = on_ok_weaker c.leave.result (λ goes. goes c.args.fuel) c.leave.ensures.goes
