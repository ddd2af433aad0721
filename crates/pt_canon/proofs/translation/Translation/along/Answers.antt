use Rattle.std.proofs.Common.{arith, ◌≡◌, ◌∙◌, ◌∷◌, Ok, Err, ap, sym, subst, refl}
use Rattle.pt_bind.specs.pr_base.Parts.{parts_left}
use Rattle.pt_bind.specs.pr_base.Paths.{IsComponent, component_of, components_of, parts_of}
use Rattle.pt_bind.specs.pr_base.Peeks.{Peeked}
use Rattle.pt_canon.specs.Canon.{IsWalkNoted}
use Rattle.pt_canon.specs.Components.{component_data, straight}
use Rattle.pt_canon.specs.Looks.{texts_in}
use Rattle.pt_canon.specs.Steadily.{IsSure, WasAsked, known_ahead, looked}
use Rattle.pt_canon.specs.Steps.{IsPassed, IsWay, PassedNoted, middle_trail, last_trail}
use Rattle.pt_canon.specs.TextWalk.{look_text}
use Rattle.pt_canon.specs.declared.walk.Terms.{Terms}
use Rattle.pt_canon.proofs.AlongLemmas.{along_none, along_parts, last_way, parts_behind, parts_have_components, passed_lost, passed_off, passed_on}
use Rattle.pt_canon.proofs.FrontLemmas.{known_sure}
use Rattle.pt_canon.proofs.translation.Translation.along.Goals as goal

pub returns-in_default-clause-answer : goal.returns-in_default-clause-answer
returns-in_default-clause-answer g c =
    let texts = texts_in c.args.self.now (g.K.Peeks.peeked c.args.kernel.now) in
    let terms : Terms = record { mode = c.args.mode; left = c.args.left; slash = c.args.onward.slash; steady = c.args.onward.steady } in
    let begun = ap parts_of (c.into_iter-parts.ensures.into_iter_gives ∙ c.components.ensures ∙ c.as_slice.ensures) in
    let here = along_none texts terms (g.K.Peeks.unmet c.args.kernel.now) c.args.onward.at (parts_of c.args.onward.path) (sym begun ∙ c.in_default.ensures.steps.0) in
    ((λ i. (here i).0) ∙ ap Ok (sym c.ends_here.ensures), λ i. (sym here i).1)

pub parts-init : goal.parts-init
parts-init g c =
    let texts = texts_in c.args.self.now (g.K.Peeks.peeked c.args.kernel.now) in
    let terms : Terms = record { mode = c.args.mode; left = c.args.left; slash = c.args.onward.slash; steady = c.args.onward.steady } in
    let begun = ap parts_of (c.into_iter-parts.ensures.into_iter_gives ∙ c.components.ensures ∙ c.as_slice.ensures) in
    let read : parts_of c.args.onward.path ≡ c.in-Some.part.now ∷ parts_left c.next.new.self = sym begun ∙ c.in-Some.ensures.steps in
    let ahead = c.in_ok-sure.ensures.ahead ∙ ap (λ path. known_ahead texts terms.steady (straight c.args.onward.at (components_of path))) c.as_slice-2.ensures in
    record {
      ends = ap (λ b. along_parts texts terms terms.steady b c.args.onward.at (c.in-Some.part.now ∷ parts_left c.next.new.self)) c.ahead.ensures.unmet ∙ ap (along_parts texts terms terms.steady (g.K.Peeks.unmet c.args.kernel.now) c.args.onward.at) (sym read);
      known = tt;
      asked = tt;
      unmet = tt;
      fine = parts_have_components c.args.onward.path (c.in-Some.part.now ∷ parts_left c.next.new.self) read;
      sure = subst (IsSure texts.peeked) (sym c.sure.view_is) (known_sure texts terms.steady (straight c.args.onward.at (components_of c.args.onward.path)) c.in_ok-sure.sure ahead);
      same = c.ahead.ensures.kernel.same;
      rest = c.ahead.ensures.kernel.rest;
    }

pub at_last-requires-clause-sure : goal.at_last-requires-clause-sure
at_last-requires-clause-sure g c = let P : Peeked → Type 0 = λ p. IsSure p c.in_ok-sure.sure in subst P (sym c.parts.invariant.same) (subst (IsSure (g.K.Peeks.peeked c.args.kernel.now)) c.sure.view_is c.parts.invariant.sure)

pub in_middle-requires-clause-sure : goal.in_middle-requires-clause-sure
in_middle-requires-clause-sure g c = let P : Peeked → Type 0 = λ p. IsSure p c.in_ok-sure.sure in subst P (sym c.parts.invariant.same) (subst (IsSure (g.K.Peeks.peeked c.args.kernel.now)) c.sure.view_is c.parts.invariant.sure)

pub in_middle-requires-clause-component : goal.in_middle-requires-clause-component
in_middle-requires-clause-component g c = subst IsComponent (sym c.component_of-component.ensures) (c.parts.invariant.fine 0 (component_of c.parts.part.now) (omega (arith)))

pub returns-in_default-next-clause-answer : goal.returns-in_default-next-clause-answer
returns-in_default-next-clause-answer g c =
    let self = c.args.self.now in
    let texts = texts_in self (g.K.Peeks.peeked c.args.kernel.now) in
    let terms : Terms = record { mode = c.args.mode; left = c.args.left; slash = c.args.onward.slash; steady = c.parts.steady } in
    let loop = c.parts in
    let unmet = g.K.Peeks.unmet loop.kernel in
    let part = component_data c.component_of-component.result in
    let new = g.K.Peeks.unmet c.at_last.new.kernel in
    let P : Peeked → Type 0 = λ p. IsWay (texts_in self p) terms.mode terms.left (looked (texts_in self p) terms.steady loop.at part) (last_trail (texts_in self p) terms loop.at part (look_text (texts_in self p) loop.at part)) c.at_last.result in
    let told : P texts.peeked = subst P loop.invariant.same c.at_last.ensures.answer in
    let A : Peeked → Type 0 = λ p. WasAsked (texts_in self p) loop.at loop.known unmet in
    let N : Peeked → Type 0 = λ p. IsWalkNoted (looked (texts_in self p) unmet loop.at part) new c.at_last.result in
    let noted : N texts.peeked = subst N loop.invariant.same (c.at_last.ensures.noted (subst A (sym loop.invariant.same) loop.invariant.unmet)) in
    last_way texts terms unmet loop.at loop.part.now (parts_left loop.parts) part c.component_of-component.ensures _ loop.invariant.ends new c.at_last.result c.in_default-next.ensures.steps.0 noted told

pub returns-in_err-on-clause-answer : goal.returns-in_err-on-clause-answer
returns-in_err-on-clause-answer g c =
    let self = c.args.self.now in
    let texts = texts_in self (g.K.Peeks.peeked c.args.kernel.now) in
    let terms : Terms = record { mode = c.args.mode; left = c.args.left; slash = c.args.onward.slash; steady = c.parts.steady } in
    let loop = c.parts in
    let unmet = g.K.Peeks.unmet loop.kernel in
    let part = component_data c.component_of-component.result in
    let behind = c.rest-behind.result.now in
    let e = c.in_err-on.field-0.0 in
    let new = g.K.Peeks.unmet c.in_middle.new.kernel in
    let P : Peeked → Type 0 = λ p. IsPassed (texts_in self p) terms (components_of behind) (looked (texts_in self p) terms.steady loop.at part) (middle_trail (texts_in self p) terms loop.at (components_of behind) (look_text (texts_in self p) loop.at part)) (Err e) in
    let told : P texts.peeked = subst P loop.invariant.same c.in_err-on.ensures.answer in
    let A : Peeked → Type 0 = λ p. WasAsked (texts_in self p) loop.at loop.known unmet in
    let N : Peeked → Type 0 = λ p. PassedNoted (texts_in self p) (looked (texts_in self p) unmet loop.at part) new (Err e) in
    let noted : N texts.peeked = subst N loop.invariant.same (c.in_err-on.ensures.noted (subst A (sym loop.invariant.same) loop.invariant.unmet)) in
    passed_lost texts terms unmet loop.at loop.part.now (parts_left loop.parts) part c.component_of-component.ensures _ loop.invariant.ends
    behind c.in-Some-next.following.now (parts_left c.next-in-parts.new.self) (ap parts_of c.rest-behind.ensures) c.in-Some-next.ensures.steps
    e c.from_residual-in_err-on.result new told noted c.from_residual-in_err-on.ensures.0 c.from_residual-in_err-on.ensures.1

pub parts-preserved : goal.parts-preserved
parts-preserved g c =
    let self = c.args.self.now in
    let texts = texts_in self (g.K.Peeks.peeked c.args.kernel.now) in
    let terms : Terms = record { mode = c.args.mode; left = c.args.left; slash = c.args.onward.slash; steady = c.parts.steady } in
    let loop = c.parts in
    let unmet = g.K.Peeks.unmet loop.kernel in
    let part = component_data c.component_of-component.result in
    let behind = c.rest-behind.result.now in
    let following = c.in-Some-next.following.now in
    let more = parts_left c.next-in-parts.new.self in
    let new = g.K.Peeks.unmet c.in_middle.new.kernel in
    let P : Peeked → Type 0 = λ p. IsPassed (texts_in self p) terms (components_of behind) (looked (texts_in self p) terms.steady loop.at part) (middle_trail (texts_in self p) terms loop.at (components_of behind) (look_text (texts_in self p) loop.at part)) (Ok c.in_ok-on.field-0) in
    let told : P texts.peeked = subst P loop.invariant.same c.in_ok-on.ensures.answer in
    let A : Peeked → Type 0 = λ p. WasAsked (texts_in self p) loop.at loop.known unmet in
    let N : Peeked → Type 0 = λ p. PassedNoted (texts_in self p) (looked (texts_in self p) unmet loop.at part) new (Ok c.in_ok-on.field-0) in
    let noted : N texts.peeked = subst N loop.invariant.same (c.in_ok-on.ensures.noted (subst A (sym loop.invariant.same) loop.invariant.unmet)) in
    let on =
    passed_on texts terms unmet loop.at loop.part.now (parts_left loop.parts) part c.component_of-component.ensures _ loop.invariant.ends
    behind following more (ap parts_of c.rest-behind.ensures) c.in-Some-next.ensures.steps c.in_ok-on.field-0 c.in-On.on c.in-On.found c.in-On.still new told noted c.in-On.is in
    record {
      ends = on.0;
      known = on.1.found;
      asked = on.1.asked;
      unmet = on.2;
      fine = parts_behind loop.part.now following (parts_left loop.parts) more c.in-Some-next.ensures.steps loop.invariant.fine;
      sure = loop.invariant.sure;
      same = c.in_middle.ensures.kernel.same ∙ loop.invariant.same;
      rest = c.in_middle.ensures.kernel.rest ∙ loop.invariant.rest;
    }

pub returns-in-Off-clause-answer : goal.returns-in-Off-clause-answer
returns-in-Off-clause-answer g c =
    let self = c.args.self.now in
    let texts = texts_in self (g.K.Peeks.peeked c.args.kernel.now) in
    let terms : Terms = record { mode = c.args.mode; left = c.args.left; slash = c.args.onward.slash; steady = c.parts.steady } in
    let loop = c.parts in
    let unmet = g.K.Peeks.unmet loop.kernel in
    let part = component_data c.component_of-component.result in
    let behind = c.rest-behind.result.now in
    let new = g.K.Peeks.unmet c.in_middle.new.kernel in
    let P : Peeked → Type 0 = λ p. IsPassed (texts_in self p) terms (components_of behind) (looked (texts_in self p) terms.steady loop.at part) (middle_trail (texts_in self p) terms loop.at (components_of behind) (look_text (texts_in self p) loop.at part)) (Ok c.in_ok-on.field-0) in
    let told : P texts.peeked = subst P loop.invariant.same c.in_ok-on.ensures.answer in
    let A : Peeked → Type 0 = λ p. WasAsked (texts_in self p) loop.at loop.known unmet in
    let N : Peeked → Type 0 = λ p. PassedNoted (texts_in self p) (looked (texts_in self p) unmet loop.at part) new (Ok c.in_ok-on.field-0) in
    let noted : N texts.peeked = subst N loop.invariant.same (c.in_ok-on.ensures.noted (subst A (sym loop.invariant.same) loop.invariant.unmet)) in
    passed_off texts terms unmet loop.at loop.part.now (parts_left loop.parts) part c.component_of-component.ensures _ loop.invariant.ends
    behind c.in-Some-next.following.now (parts_left c.next-in-parts.new.self) (ap parts_of c.rest-behind.ensures) c.in-Some-next.ensures.steps
    c.in_ok-on.field-0 c.in-Off.on new told noted c.in-Off.is
