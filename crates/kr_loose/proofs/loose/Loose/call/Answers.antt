use Rattle.std.proofs.Common.{Bool, List, ap, ◌∙◌}
use Rattle.std.specs.Prelude.{◌&&◌, not}
use Rattle.kr_core.specs.Between.{between_of, is_exec_at}
use Rattle.kr_core.specs.kr_turns.kr_stops.Watching.{watching}
use Rattle.kr_loose.specs.Behind.{counts_in}
use Rattle.kr_loose.specs.Judging.{counted_after, is_altered}
use Rattle.kr_loose.specs.declared.judge.Counted.{Counted}
use Rattle.kr_loose.specs.declared.judge.Counts.{Counts}
use Rattle.kr_loose.proofs.GoneLemmas.{call-gone}
use Rattle.kr_loose.proofs.loose.Loose.call.Goals as goal

pub returns-clause-goes : goal.returns-clause-goes
returns-clause-goes g c = λ fuel.
    let w = watching g.S.Stops.enters g.S.Stops.exits g.S.Stops.bears g.S.Stops.forgets in
    let old = c.args.self.now.kernel in
    let before = c.args.self.now.judge in
    let undisturbed =
    c.in_ok-go_on.ensures.undisturbed ∙ c.judge.ensures.undisturbed
    ∙ ap (λ (e : Bool). before.undisturbed && not (is_altered c.args.pid e c.counts_in-before.result before.counted.items)) c.last_is_exec-exec.ensures
    ∙ ap (λ (n : Counts). before.undisturbed && not (is_altered c.args.pid (is_exec_at (between_of c.args.pid old.paused)) n before.counted.items)) c.counts_in-before.ensures in
    let items =
    c.in_ok-go_on.ensures.counted
    ∙ ap (λ (n : Counts). counted_after c.args.pid c.in_ok-done.done n c.judge.new.self.counted.items) c.counts_in-after.ensures
    ∙ ap (λ (l : List Counted). counted_after c.args.pid c.in_ok-done.done (counts_in c.plain.new.self) l) c.judge.ensures.counted in
    call-gone g.P.Places.number w g.S.Stops.asks _ fuel c.args.pid old c.plain.new.self c.in_ok-done.ensures.counted before c.go_on.new.self c.requires.phase undisturbed
    c.in_ok-done.done c.in_ok-done.ensures.waits c.in_ok-done.ensures.met (c.in_ok-done.ensures.moves fuel) items
