use Rattle.std.proofs.Common.{◌≡◌, ◌∙◌, ◌&&◌, ℕ, Bool, List, lit<, ap, subst, sym}
use Rattle.kr_hostview.specs.pr_base.Peeks.{IsNoted, IsPeeked, Peeked}
use Rattle.kr_steps.specs.kr_model.Peeks.{peeked_of}
use Rattle.kr_turns.specs.Held.{Held, left_of, stopped_of}
use Rattle.kr_turns.proofs.HereLemmas.{of-view, told-here}
use Rattle.kr_turns.proofs.here.HerePeeks.link_text.Goals as goal

pub host_peeks-peeks-requires : goal.host_peeks-peeks-requires
host_peeks-peeks-requires g c = (lit< tt, (lit< tt, of-view c.self.invariant))

pub invariant_of-self : goal.invariant_of-self
invariant_of-self g c = c.self.invariant

pub invariant_of-self-inside : goal.invariant_of-self-inside
invariant_of-self-inside g c = (c.self.inside.texts, tt {0})

pub returns-clause-answer : goal.returns-clause-answer
returns-clause-answer g c =
    let told = told-here g.P.Places.number c.host_peeks-peeks.result c.self.inside.state.now c.self.inside.pid c.args.self.now c.host_peeks-peeks.ensures.state c.host_peeks-peeks.ensures.caller (ap (λ (h : Held _ _ _). h.state) c.self.view_is) (ap (λ (h : Held _ _ _). h.pid) c.self.view_is) in
    subst (λ (p : Peeked). IsPeeked (p.link_text c.args.host.now) c.link_text-text.result) told c.link_text-text.ensures.answer

pub returns-clause-same : goal.returns-clause-same
returns-clause-same g c = ap (λ (h : Held _ _ _). peeked_of (stopped_of g.P.Places.number h).state h.pid) c.self.view_is

pub returns-clause-rest : goal.returns-clause-rest
returns-clause-rest g c = ap (left_of g.P.Places.number) c.self.view_is

pub returns-clause-noted : goal.returns-clause-noted
returns-clause-noted g c =
    let told = told-here g.P.Places.number c.host_peeks-peeks.result c.self.inside.state.now c.self.inside.pid c.args.self.now c.host_peeks-peeks.ensures.state c.host_peeks-peeks.ensures.caller (ap (λ (h : Held _ _ _). h.state) c.self.view_is) (ap (λ (h : Held _ _ _). h.pid) c.self.view_is) in
    let before : c.host_peeks-peeks.result.unmet ≡ c.args.self.now.unmet = c.host_peeks-peeks.ensures.unmet ∙ ap (λ (h : Held _ _ _). h.unmet) c.self.view_is in
    let steady : List ℕ → Bool = (peeked_of (stopped_of g.P.Places.number c.args.self.now).state c.args.self.now.pid).steady in
    subst (λ (new : Bool). IsNoted (c.args.self.now.unmet && steady c.args.host.now) new c.link_text-text.result) (sym c.unmet-self-inside.ensures)
    (subst (λ (b : Bool). IsNoted b c.link_text-text.new.self.unmet c.link_text-text.result) (λ i. before i && (told i).steady c.args.host.now) c.link_text-text.ensures.noted)
