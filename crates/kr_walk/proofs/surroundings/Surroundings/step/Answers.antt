use Rattle.std.proofs.Common.{◌≡◌, ◌≢◌, Bool, true, false, [], ◌++◌, ap, subst, ◌∙◌}
use Rattle.kr_view.specs.kr_tree.pr_base.Paths.{Component, component_of}
use Rattle.kr_view.specs.kr_tree.declared.place.Place.{Place}
use Rattle.kr_view.specs.Component.{look_up}
use Rattle.kr_view.specs.Leads.{numbered}
use Rattle.kr_walk.specs.Components.{component_data}
use Rattle.kr_view.specs.Reach.{Covers, names_entry, noted}
use Rattle.kr_walk.specs.Rests.{components_left}
use Rattle.kr_walk.specs.Sights.{surroundings_of, sight_seen}
use Rattle.kr_walk.specs.Stacks.{stack_of, taken_bytes}
use Rattle.kr_walk.specs.Ways.{IsSightWay}
use Rattle.kr_walk.proofs.StepLemmas.{ends_at_beginning, last_outcome, middle_outcome, note_error}
use Rattle.kr_walk.proofs.surroundings.Surroundings.step.Goals as goal

true_not_false : (b : Bool) → b ≡ true → b ≡ false → ⊥
true_not_false b h k = cc

pub returns-in_default-clause-outcome : goal.returns-in_default-clause-outcome
returns-in_default-clause-outcome g c =
    let around = surroundings_of g.P.Places.number g.P.Places.mounts g.Q.Procs.finds g.Q.Procs.leads c.args.self.now in
    ends_at_beginning g.P.Places.number around c.args.mode c.args.walk c.args.reach.now c.end_here.new.reach c.end_here.result c.in_default.ensures c.end_here.ensures.answer c.end_here.ensures.reach

pub note-requires-clause-way : goal.note-requires-clause-way
note-requires-clause-way g c =
    let around = surroundings_of g.P.Places.number g.P.Places.mounts g.Q.Procs.finds g.Q.Procs.leads c.args.self.now in
    let P : Place _ → Type 0 = λ p. IsSightWay g.P.Places.number around.space (numbered g.P.Places.number p) (component_data c.component_of-component.result) c.look_up-sight.result in
    subst P c.place.ensures c.look_up-sight.ensures.way

pub returns-in_err-note-clause-outcome : goal.returns-in_err-note-clause-outcome
returns-in_err-note-clause-outcome g c =
    let around = surroundings_of g.P.Places.number g.P.Places.mounts g.Q.Procs.finds g.Q.Procs.leads c.args.self.now in
    let s = numbered g.P.Places.number c.args.walk.position.place in
    let component = component_of (taken_bytes c.in-Some.taken) in
    let is_component : component_data c.component_of-component.result ≡ component = c.component_of-component.ensures ∙ ap component_of c.bytes.ensures in
    let P : Component → Type 0 = λ p. Covers c.note.new.reach c.args.reach.now × Covers (noted around c.names_entry-by_name.result s p c.args.reach.now) c.note.new.reach in
    let Q : Bool → Type 0 = λ b. Covers c.note.new.reach c.args.reach.now × Covers (noted around b s component c.args.reach.now) c.note.new.reach in
    note_error g.P.Places.number around c.args.mode c.args.walk c.args.reach.now c.none_behind-is_last.result component (components_left c.in-Some.taken.rest ++ stack_of c.next.new.self) c.note.new.reach _ c.in-Some.ensures
    c.none_behind-is_last.ensures.all.0 c.none_behind-is_last.ensures.all.1 c.from_residual.ensures.0 c.from_residual.ensures.1 (subst Q c.names_entry-by_name.ensures (subst P is_component c.in_err-note.ensures))

pub in_middle-requires-clause-way : goal.in_middle-requires-clause-way
in_middle-requires-clause-way g c =
    let around = surroundings_of g.P.Places.number g.P.Places.mounts g.Q.Procs.finds g.Q.Procs.leads c.args.self.now in
    let s = numbered g.P.Places.number c.args.walk.position.place in
    let component = component_of (taken_bytes c.in-Some.taken) in
    let is_component : component_data c.component_of-component.result ≡ component = c.component_of-component.ensures ∙ ap component_of c.bytes.ensures in
    let P : Place _ → Type 0 = λ p. IsSightWay g.P.Places.number around.space (numbered g.P.Places.number p) (component_data c.component_of-component.result) c.look_up-sight.result in
    let Q : Component → Type 0 = λ p. IsSightWay g.P.Places.number around.space s p c.look_up-sight.result in
    subst Q is_component (subst P c.place.ensures c.look_up-sight.ensures.way)

pub returns-then-is_last-clause-outcome : goal.returns-then-is_last-clause-outcome
returns-then-is_last-clause-outcome g c =
    let around = surroundings_of g.P.Places.number g.P.Places.mounts g.Q.Procs.finds g.Q.Procs.leads c.args.self.now in
    let s = numbered g.P.Places.number c.args.walk.position.place in
    let component = component_of (taken_bytes c.in-Some.taken) in
    let is_component : component_data c.component_of-component.result ≡ component = c.component_of-component.ensures ∙ ap component_of c.bytes.ensures in
    let seen = sight_seen g.P.Places.number around c.look_up-sight.result in
    let looked : seen ≡ look_up around s component =
    c.look_up-sight.ensures.seen ∙ ap (λ p. look_up around (numbered g.P.Places.number p) (component_data c.component_of-component.result)) c.place.ensures ∙ ap (look_up around s) is_component in
    let by_name : c.names_entry-by_name.result ≡ names_entry c.args.mode true = c.names_entry-by_name.ensures ∙ ap (names_entry c.args.mode) c.if-is_last.true in
    let reached : c.note.new.reach ≡ noted around (names_entry c.args.mode true) s component c.args.reach.now =
    c.in_ok-note.ensures ∙ ap (λ p. noted around c.names_entry-by_name.result s p c.args.reach.now) is_component ∙ ap (λ b. noted around b s component c.args.reach.now) by_name in
    let rest = components_left c.in-Some.taken.rest ++ stack_of c.next.new.self in
    let none : rest ≡ [] = c.none_behind-is_last.ensures.all.0 c.if-is_last.true in
    last_outcome g.P.Places.number around c.args.mode c.args.walk c.args.reach.now component rest seen c.note.new.reach c.at_last.new.reach c.at_last.result c.in-Some.ensures none looked reached c.at_last.ensures.outcome

pub returns-else-is_last-clause-outcome : goal.returns-else-is_last-clause-outcome
returns-else-is_last-clause-outcome g c =
    let around = surroundings_of g.P.Places.number g.P.Places.mounts g.Q.Procs.finds g.Q.Procs.leads c.args.self.now in
    let s = numbered g.P.Places.number c.args.walk.position.place in
    let component = component_of (taken_bytes c.in-Some.taken) in
    let is_component : component_data c.component_of-component.result ≡ component = c.component_of-component.ensures ∙ ap component_of c.bytes.ensures in
    let seen = sight_seen g.P.Places.number around c.look_up-sight.result in
    let looked : seen ≡ look_up around s component =
    c.look_up-sight.ensures.seen ∙ ap (λ p. look_up around (numbered g.P.Places.number p) (component_data c.component_of-component.result)) c.place.ensures ∙ ap (look_up around s) is_component in
    let by_name : c.names_entry-by_name.result ≡ names_entry c.args.mode false = c.names_entry-by_name.ensures ∙ ap (names_entry c.args.mode) c.if-is_last.false in
    let reached : c.note.new.reach ≡ noted around (names_entry c.args.mode false) s component c.args.reach.now =
    c.in_ok-note.ensures ∙ ap (λ p. noted around c.names_entry-by_name.result s p c.args.reach.now) is_component ∙ ap (λ b. noted around b s component c.args.reach.now) by_name in
    let rest = components_left c.in-Some.taken.rest ++ stack_of c.next.new.self in
    let more : rest ≢ [] = λ e. let left = c.none_behind-is_last.ensures.all.1 e in absurd (true_not_false _ left c.if-is_last.false) in
    middle_outcome g.P.Places.number around c.args.mode c.args.walk c.args.reach.now component rest seen c.note.new.reach c.in_middle.new.reach c.in_middle.result c.in-Some.ensures more looked reached (c.in_middle.ensures.outcome c.args.mode)
