use Rattle.std.proofs.Common.{lit<, ap, subst, ◌≡◌}
use Rattle.std.specs.Prelude.{IfOk}
use Rattle.std.proofs.Math.Logic.{∥∥₁_prop}
use Rattle.kr_hostview.specs.pr_base.Peeks.{Peeked}
use Rattle.kr_turns.specs.Held.{Held}
use Rattle.kr_turns.proofs.HereLemmas.{of-view, told-here}
use Rattle.kr_turns.proofs.here.HerePeeks.base_name.Goals as goal

pub host_peeks-requires : goal.host_peeks-requires
host_peeks-requires g c = (lit< tt, (lit< tt, of-view c.self.invariant))

pub same-self : goal.same-self
same-self g c = λ j. record {
  alloc = c.self.inside.alloc;
  places = c.self.inside.places;
  state = c.self.inside.state;
  pid = c.self.inside.pid;
  handed = c.self.inside.handed;
  calls = c.self.inside.calls;
  unmet = c.self.inside.unmet;
  texts = ∥∥₁_prop c.self-1.given.0 c.self.inside.texts j;
}

pub returns-clause-answer : goal.returns-clause-answer
returns-clause-answer g c =
    let told = told-here g.P.Places.number c.host_peeks.result c.self.inside.state.now c.self.inside.pid c.args.self.now c.host_peeks.ensures.state c.host_peeks.ensures.caller (ap (λ (h : Held _ _ _). h.state) c.self.view_is) (ap (λ (h : Held _ _ _). h.pid) c.self.view_is) in
    subst (λ (p : Peeked). IfOk c.base_name.result (λ name. name ≡ p.base_name c.args.pid c.args.fd)) told c.base_name.ensures.answer
