use Rattle.std.proofs.Common.{sym, subst}
use Rattle.kr_perform.specs.Altering.{IsToldOf}
use Rattle.kr_perform.proofs.AlteringLemmas.{ahead-told}
use Rattle.kr_perform.proofs.call.perform_foretold.Goals as goal

pub returns-clause-told : goal.returns-clause-told
returns-clause-told g c = λ wanted.
    let table = g.P.Places.mounts c.args.places.now in
    let done = c.perform-outcome.ensures.performs wanted in
    subst (IsToldOf g.P.Places.number table c.args.pid c.args.request.now c.args.targets.now.first c.args.targets.now.second c.args.state.now) (sym c.where_answered.ensures)
    (ahead-told g.P.Places.number table c.args.pid c.args.request.now c.args.targets.now.first c.args.targets.now.second c.args.state.now c.requires.kind c.requires.plain c.foretell-ahead.result c.foretell-ahead.ensures c.perform-outcome.result done.outcome)
