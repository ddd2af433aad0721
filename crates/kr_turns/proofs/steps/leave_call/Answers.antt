use Rattle.std.proofs.Common.{lit<}
use Rattle.std.proofs.lemmas.Result.{on_ok_weaker}
use Rattle.kr_steps.specs.kr_stops.Watching.{watching}
use Rattle.kr_turns.specs.Held.{stopped_in}
use Rattle.kr_turns.proofs.AlteredLemmas.{edited-tree}
use Rattle.kr_turns.proofs.ApartLemmas.{edited-leaves}
use Rattle.kr_turns.proofs.MakingLemmas.{exit-made, whatever}
use Rattle.kr_turns.proofs.steps.leave_call.Goals as goal

pub exit-requires : goal.exit-requires
exit-requires g c = (lit< tt, (c.requires.runs, (c.requires.lives, c.requires.agrees)))

pub returns-clause-exits : goal.returns-clause-exits
returns-clause-exits g c =
    on_ok_weaker c.exit.result (λ exits. exit-made (watching g.S.Stops.enters g.S.Stops.exits g.S.Stops.bears g.S.Stops.forgets) g.P.Places.number c.args.pid c.args.handed c.args.state.now c.exit.new.state c.args.stops.now c.exit.new.stops exits)
    c.exit.ensures.exits

pub returns-clause-stands : goal.returns-clause-stands
returns-clause-stands g c = whatever c.exit.result c.exit.ensures.stands

pub returns-clause-agrees : goal.returns-clause-agrees
returns-clause-agrees g c = c.exit.ensures.agrees

pub returns-clause-free : goal.returns-clause-free
returns-clause-free g c = c.exit.ensures.others

pub returns-clause-others : goal.returns-clause-others
returns-clause-others g c =
    whatever c.exit.result
    (edited-leaves (stopped_in g.P.Places.number c.args.state.now c.args.pid c.args.handed) (stopped_in g.P.Places.number c.exit.new.state c.args.pid c.args.handed) c.exit.ensures.edits)

pub returns-clause-tree : goal.returns-clause-tree
returns-clause-tree g c =
    whatever c.exit.result
    (edited-tree (stopped_in g.P.Places.number c.args.state.now c.args.pid c.args.handed) (stopped_in g.P.Places.number c.exit.new.state c.args.pid c.args.handed) c.exit.ensures.edits)
