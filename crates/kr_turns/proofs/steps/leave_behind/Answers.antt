use Rattle.std.proofs.Common.{Some, refl, subst, sym}
use Rattle.kr_steps.specs.kr_stops.Watching.{watching}
use Rattle.kr_turns.specs.CallSteps.{IsCarriedBy}
use Rattle.kr_turns.specs.Coming.{came_to}
use Rattle.kr_turns.specs.Making.{ended_with, machine_of}
use Rattle.kr_turns.specs.declared.steps.After.TheVariants.{Gone, Waiting}
use Rattle.kr_turns.proofs.MakingLemmas.{left-free}
use Rattle.kr_turns.proofs.steps.leave_behind.Goals as goal

pub returns-in-Answered-clause-left : goal.returns-in-Answered-clause-left
returns-in-Answered-clause-left g c = λ number tally.
    let s = c.args.state.now in
    let x = c.args.stops.now in
    subst (λ e. IsCarriedBy (watching g.S.Stops.enters g.S.Stops.exits g.S.Stops.bears g.S.Stops.forgets) c.args.pid e (came_to number s c.args.plain) x tally (record { machine = machine_of number s x tally; after = c.behind_if.result })) (sym c.in-Answered.is)
    (λ i. record { machine = machine_of number s x tally; after = c.behind_if.ensures number i })

pub returns-in-Replaced-clause-left : goal.returns-in-Replaced-clause-left
returns-in-Replaced-clause-left g c = λ number tally.
    let s = c.args.state.now in
    let x = c.args.stops.now in
    subst (λ e. IsCarriedBy (watching g.S.Stops.enters g.S.Stops.exits g.S.Stops.bears g.S.Stops.forgets) c.args.pid e (came_to number s c.args.plain) x tally (record { machine = machine_of number s x tally; after = c.behind_if-in-Replaced.result })) (sym c.in-Replaced.is)
    (λ i. record { machine = machine_of number s x tally; after = c.behind_if-in-Replaced.ensures number i })

pub returns-in-Waits-clause-left : goal.returns-in-Waits-clause-left
returns-in-Waits-clause-left g c = λ number tally.
    let s = c.args.state.now in
    let x = c.args.stops.now in
    subst (λ e. IsCarriedBy (watching g.S.Stops.enters g.S.Stops.exits g.S.Stops.bears g.S.Stops.forgets) c.args.pid e (came_to number s c.args.plain) x tally (record { machine = machine_of number s x tally; after = Waiting })) (sym c.in-Waits.is) refl

pub returns-in-Ended-clause-left : goal.returns-in-Ended-clause-left
returns-in-Ended-clause-left g c = λ number tally.
    let s = c.args.state.now in
    let x = c.args.stops.now in
    subst (λ e. IsCarriedBy (watching g.S.Stops.enters g.S.Stops.exits g.S.Stops.bears g.S.Stops.forgets) c.args.pid e (came_to number s c.args.plain) x tally (record { machine = machine_of number s c.gone.new.self (ended_with (Some c.in-Ended.status) tally); after = Gone })) (sym c.in-Ended.is)
    (refl, c.gone.ensures.forgets, refl, refl)

pub returns-in-Answered-clause-free : goal.returns-in-Answered-clause-free
returns-in-Answered-clause-free g c = left-free g.S.Stops.is_free c.args.pid c.args.stops.now

pub returns-in-Replaced-clause-free : goal.returns-in-Replaced-clause-free
returns-in-Replaced-clause-free g c = left-free g.S.Stops.is_free c.args.pid c.args.stops.now

pub returns-in-Waits-clause-free : goal.returns-in-Waits-clause-free
returns-in-Waits-clause-free g c = left-free g.S.Stops.is_free c.args.pid c.args.stops.now
