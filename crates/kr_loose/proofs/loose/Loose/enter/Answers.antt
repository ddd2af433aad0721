use Rattle.std.proofs.Common.{ap, ◌∙◌}
use Rattle.kr_core.specs.kr_turns.kr_stops.Watching.{watching}
use Rattle.kr_loose.specs.Judging.{counted_at}
use Rattle.kr_loose.specs.declared.judge.Counts.{Counts}
use Rattle.kr_loose.proofs.GoneLemmas.{enter-gone}
use Rattle.kr_loose.proofs.loose.Loose.enter.Goals as goal

pub returns-clause-goes : goal.returns-clause-goes
returns-clause-goes g c = λ fuel.
    let w = watching g.S.Stops.enters g.S.Stops.exits g.S.Stops.bears g.S.Stops.forgets in
    let before = c.args.self.now.judge in
    enter-gone g.P.Places.number w g.S.Stops.asks _ fuel c.args.pid _ c.enter.new.self c.in_ok-enter.ensures.counted before c.begin.new.self c.in_ok-enter.ensures.met (c.in_ok-enter.ensures.moves fuel)
    c.in_ok-begin.ensures.undisturbed (c.in_ok-begin.ensures.counted ∙ ap (λ (n : Counts). counted_at c.args.pid n before.counted.items) c.counts_in-now.ensures)
