use Rattle.std.proofs.Common.{rules, Some, ap, arith, ◌∙◌}
use Rattle.kr_loose.specs.kr_core.declared.paused.Phase.{Phase}
use Rattle.core_tests.proofs.stepped.step.Goals as goal

pub run_pid-requires : goal.run_pid-requires
run_pid-requires g c = (search rules, (c.requires.whole, (search rules, c.requires.stands ∙ ap (λ (p : Phase). Some p) c.in-Running.is)))

pub enter-requires : goal.enter-requires
enter-requires g c = (search rules, (c.requires.whole, c.requires.stands ∙ ap (λ (p : Phase). Some p) c.in-AtCall.is))

pub plain-requires : goal.plain-requires
plain-requires g c = (search rules, (c.requires.whole, (c.requires.few, c.requires.stands ∙ ap (λ (p : Phase). Some p) c.in-Entered.is)))

pub leave-requires : goal.leave-requires
leave-requires g c = (search rules, (c.requires.whole, c.requires.stands ∙ ap (λ (p : Phase). Some p) c.in-Done.is))

pub returns-in_ok-append-in-AtCall-clause-calls : goal.returns-in_ok-append-in-AtCall-clause-calls
returns-in_ok-append-in-AtCall-clause-calls g c = let same = (c.in_ok-enter-in-AtCall.ensures.moves 0).calls in omega arith

pub returns-in_ok-append-in-Entered-clause-calls : goal.returns-in_ok-append-in-Entered-clause-calls
returns-in_ok-append-in-Entered-clause-calls g c = let same = (c.in_ok-over-in-Entered.ensures.moves 0).calls in omega arith

pub returns-in_ok-append-in-Done-clause-calls : goal.returns-in_ok-append-in-Done-clause-calls
returns-in_ok-append-in-Done-clause-calls g c = let same = (c.in_ok-leave-in-Done.ensures.moves 0).calls in omega arith
