use Rattle.std.proofs.Common.{◌≡◌, false, subst, sym}
use Rattle.std.specs.Prelude.{◌↔◌}
use Rattle.kr_turns.specs.PlainCall.{plain_call}
use Rattle.kr_turns.specs.declared.plain.CallEnd.TheVariants as end
use Rattle.kr_turns.specs.kr_stops.Watching.{watching}
use Rattle.kr_core.specs.Kernel.{machine}
use Rattle.kr_core.proofs.SteppingLemmas.{call-moves, call-waits}
use Rattle.kr_core.proofs.kernel.Kernel.plain.Goals as goal

pub returns-clause-moves : goal.returns-clause-moves
returns-clause-moves g c = λ fuel. call-moves g.P.Places.number (watching g.S.Stops.enters g.S.Stops.exits g.S.Stops.bears g.S.Stops.forgets) _ fuel c.args.pid _ _ c.in_ok-after.after c.in_ok-after.ensures.called

pub returns-clause-waits : goal.returns-clause-waits
returns-clause-waits g c =
    subst (λ done. (done ≡ false) ↔ ((plain_call (g.P.Places.mounts c.args.self.now.places) c.args.pid (machine g.P.Places.number c.args.self.now).state).end ≡ end.Waits)) (sym c.is_done.ensures)
    (call-waits g.P.Places.number (watching g.S.Stops.enters g.S.Stops.exits g.S.Stops.bears g.S.Stops.forgets) _ c.args.pid _ _ c.in_ok-after.after c.in_ok-after.ensures.called)

pub returns-clause-counted : goal.returns-clause-counted
returns-clause-counted g c = c.in_ok-after.ensures.counted
