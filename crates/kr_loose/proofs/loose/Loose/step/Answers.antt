use Rattle.std.proofs.Common.{rules, refl, sym, subst, ◌∙◌}
use Rattle.kr_core.specs.Kernel.{IsPicked}
use Rattle.kr_core.specs.kr_turns.kr_stops.Watching.{watching}
use Rattle.kr_loose.proofs.GoingLemmas.{calls-grow, has-stepped, none-of, picked-lives, some-of}
use Rattle.kr_loose.proofs.loose.Loose.step.Goals as goal

pub returns-then-living-eq0-clause-steps : goal.returns-then-living-eq0-clause-steps
returns-then-living-eq0-clause-steps g c = (none-of _ (sym c.living.ensures ∙ c.if-living-eq0.true), refl, refl)

pub returns-in_default-clause-steps : goal.returns-in_default-clause-steps
returns-in_default-clause-steps g c = (
  some-of _ _ c.living.ensures c.if-living-eq0.false,
  subst (λ o. IsPicked g.P.Places.number c.args.pick c.args.self.now.kernel o) c.in_default.is c.picked.ensures,
  refl,
  refl,
)

pub go-requires : goal.go-requires
go-requires g c =
    let number = g.P.Places.number in
    let lives = picked-lives number c.args.pick c.in-Some.pid c.args.self.now.kernel (subst (λ o. IsPicked number c.args.pick c.args.self.now.kernel o) c.in-Some.is c.picked.ensures) in
    (search rules, (c.requires.whole, (c.requires.fuel, (c.requires.few, lives))))

pub returns-clause-steps : goal.returns-clause-steps
returns-clause-steps g c =
    let number = g.P.Places.number in
    has-stepped number (watching g.S.Stops.enters g.S.Stops.exits g.S.Stops.bears g.S.Stops.forgets) g.S.Stops.asks (g.P.Places.mounts c.args.self.now.kernel.places) c.args.pick c.args.fuel c.in-Some.pid c.args.self.now.kernel c.go.new.self.kernel c.args.self.now.judge c.go.new.self.judge
    (subst (λ o. IsPicked number c.args.pick c.args.self.now.kernel o) c.in-Some.is c.picked.ensures) c.in_ok-go.ensures.goes

pub returns-clause-calls : goal.returns-clause-calls
returns-clause-calls g c = let went = c.in_ok-go.ensures.goes in calls-grow went.kind c.args.self.now.kernel.calls c.go.new.self.kernel.calls went.moves.calls
