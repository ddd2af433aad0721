use Rattle.std.proofs.Common.{◌≡◌, ◌∙◌, ◌&&◌, Bool, Some, Ok, Err, ap, sym, subst}
use Rattle.pt_bind.specs.pr_base.WalkFrame.{target_at}
use Rattle.pt_canon.specs.Canon.{ending_of, IsWalkNoted}
use Rattle.pt_bind.specs.pr_base.Paths.{Dot, DotDot, Name}
use Rattle.pt_bind.specs.pr_base.Peeks.{Peeked}
use Rattle.pt_canon.specs.Components.{component_data}
use Rattle.pt_canon.specs.Laws.{host_bytes}
use Rattle.pt_canon.specs.ProcessLinks.{above}
use Rattle.pt_canon.specs.Looks.{texts_in, sight_seen, IsSeen}
use Rattle.pt_canon.specs.Steadily.{IsSure, entered, looked}
use Rattle.pt_canon.specs.Steps.{IsWay, WayIs, done, last_trail}
use Rattle.pt_canon.specs.TextWalk.{look_text, seen_text}
use Rattle.pt_canon.proofs.StepLemmas.{arrive_named, dot_looked, dot_dot_looked, ended_with, final, last_dots, last_unseen}
use Rattle.pt_canon.proofs.SteadyLemmas.{looked_dot, looked_dot_dot, looked_name}
use Rattle.pt_canon.specs.declared.sight.Sight.{Sight}
use Rattle.pt_canon.proofs.NotedLemmas.{jump_met, lost_entry_noted, unseen_noted}
use Rattle.pt_canon.proofs.translation.Translation.at_last.Goals as goal

pub steady_in-requires-clause-sure : goal.steady_in-requires-clause-sure
steady_in-requires-clause-sure g c = let P : Peeked → Type 0 = λ p. IsSure p c.args.sure.now in subst P (sym c.enter.ensures.kernel.same) c.requires.sure

pub steady_at-requires : goal.steady_at-requires
steady_at-requires g c = let P : Peeked → Type 0 = λ p. IsSure p c.args.sure.now in subst P (sym (c.steady_in.ensures.kernel.same ∙ c.enter.ensures.kernel.same)) c.requires.sure

pub returns-in_err-sight-in-Name-clause-answer : goal.returns-in_err-sight-in-Name-clause-answer
returns-in_err-sight-in-Name-clause-answer g c =
    let self = c.args.self.now in
    let texts = texts_in self (g.K.Peeks.peeked c.args.kernel.now) in
    let terms = c.args.terms in
    let part = component_data c.args.component in
    let flag = looked texts terms.steady c.args.at part in
    let entry = c.in_ok-entry-in-Name.entry in
    let e = c.in_err-sight-in-Name.field-0.0 in
    let residual = c.from_residual-in_err-sight-in-Name in
    let P : Peeked → Type 0 = λ p. IsSeen (texts_in self p) entry (seen_text (texts_in self p) entry) (Err e) in
    let told : P texts.peeked = subst P (c.steady_at.ensures.kernel.same ∙ c.steady_in.ensures.kernel.same ∙ c.enter.ensures.kernel.same) c.in_err-sight-in-Name.ensures.answer in
    last_unseen texts terms flag _ (WayIs texts terms.mode terms.left (final texts terms flag c.args.at part (look_text texts c.args.at part))) c.args.at entry c.in-Name.name.now part e residual.result c.in_ok-enter.ensures.answer (ap component_data c.in-Name.is) c.in_ok-entry-in-Name.ensures told residual.ensures.0 residual.ensures.1

pub returns-in-Dot-clause-answer : goal.returns-in-Dot-clause-answer
returns-in-Dot-clause-answer g c =
    let self = c.args.self.now in
    let texts = texts_in self (g.K.Peeks.peeked c.args.kernel.now) in
    let terms = c.args.terms in
    let at = c.args.at in
    let may = c.in_ok-enter.ensures.answer in
    let part = component_data c.args.component in
    let of : part ≡ Dot = ap component_data c.in-Dot.is in
    let still = c.in_ok-steady.steady in
    let P : Peeked → Type 0 = λ p. still ≡ entered (texts_in self p) terms.steady at in
    let is : P texts.peeked = subst P c.enter.ensures.kernel.same c.in_ok-steady.ensures.answer in
    let flag : looked texts terms.steady at part ≡ still = sym (is ∙ looked_dot texts at terms.steady part may of) in
    last_dots texts terms (looked texts terms.steady at part) at at part (dot_looked texts terms still at part may of)
    ∙ ap (λ c2. ended_with (looked texts terms.steady at part) (ending_of terms.mode (target_at at c2 terms.slash (Some at)))) of
    ∙ ap (λ b. ended_with b (ending_of terms.mode (target_at at Dot terms.slash (Some at)))) flag ∙ ap (λ e. done (Ok e)) (sym c.ends_at_dot.ensures)

pub returns-in-DotDot-clause-answer : goal.returns-in-DotDot-clause-answer
returns-in-DotDot-clause-answer g c =
    let self = c.args.self.now in
    let texts = texts_in self (g.K.Peeks.peeked c.args.kernel.now) in
    let terms = c.args.terms in
    let at = c.args.at in
    let may = c.in_ok-enter.ensures.answer in
    let part = component_data c.args.component in
    let of : part ≡ DotDot = ap component_data c.in-DotDot.is in
    let still = c.in_ok-steady.steady in
    let P : Peeked → Type 0 = λ p. still ≡ entered (texts_in self p) terms.steady at in
    let is : P texts.peeked = subst P c.enter.ensures.kernel.same c.in_ok-steady.ensures.answer in
    let flag : looked texts terms.steady at part ≡ still = sym (is ∙ looked_dot_dot texts at terms.steady part may of) in
    last_dots texts terms (looked texts terms.steady at part) at (above at) part (dot_dot_looked texts terms still at part may of)
    ∙ ap (λ c2. ended_with (looked texts terms.steady at part) (ending_of terms.mode (target_at at c2 terms.slash (Some (above at))))) of
    ∙ ap (λ b. ended_with b (ending_of terms.mode (target_at at DotDot terms.slash (Some (above at))))) flag ∙ ap (λ e. done (Ok e)) (sym c.ends_at_dot_dot.ensures)

pub returns-in_ok-sight-in-Name-clause-answer : goal.returns-in_ok-sight-in-Name-clause-answer
returns-in_ok-sight-in-Name-clause-answer g c =
    let self = c.args.self.now in
    let peeked = g.K.Peeks.peeked c.args.kernel.now in
    let texts = texts_in self peeked in
    let terms = c.args.terms in
    let at = c.args.at in
    let may = c.in_ok-enter.ensures.answer in
    let part = component_data c.args.component in
    let entry = c.in_ok-entry-in-Name.entry in
    let sight = c.in_ok-sight-in-Name.sight in
    let name = c.in-Name.name.now in
    let still = c.in_ok-still-in-Name.still in
    let entering = c.steady_in.ensures.kernel.same ∙ c.enter.ensures.kernel.same in
    let E : Peeked → Type 0 = λ p. c.in_ok-steady.steady ≡ entered (texts_in self p) terms.steady at in
    let is_in : E peeked = subst E c.enter.ensures.kernel.same c.in_ok-steady.ensures.answer in
    let S : Peeked → Type 0 = λ p. still ≡ (c.in_ok-steady.steady && p.steady (host_bytes (texts_in self p) entry)) in
    let is_still : S peeked = subst S entering c.in_ok-still-in-Name.ensures.answer in
    let flag : still ≡ looked texts terms.steady at part =
    is_still ∙ ap (λ b. b && peeked.steady (host_bytes texts entry)) is_in ∙ looked_name texts at terms.steady part name entry may (ap component_data c.in-Name.is) c.in_ok-entry-in-Name.ensures in
    let P : Peeked → Type 0 = λ p. seen_text (texts_in self p) entry ≡ sight_seen (texts_in self p) entry sight in
    let seen : P peeked = subst P (c.steady_at.ensures.kernel.same ∙ entering) c.in_ok-sight-in-Name.ensures.answer in
    let Q : Peeked → Type 0 = λ p. IsWay (texts_in self p) terms.mode terms.left still (last_trail (texts_in self p) terms at (Name name) (sight_seen (texts_in self p) entry sight)) c.arrive.result in
    let told : Q peeked = subst Q (c.see.ensures.kernel.same ∙ c.steady_at.ensures.kernel.same ∙ entering) (c.arrive.ensures.answer at name c.in_ok-entry-in-Name.ensures) in
    let R : Bool → Type 0 = λ b. IsWay texts terms.mode terms.left b (last_trail texts terms at (Name name) (sight_seen texts entry sight)) c.arrive.result in
    arrive_named texts terms (looked texts terms.steady at part) at entry name part (sight_seen texts entry sight) c.arrive.result may (ap component_data c.in-Name.is) c.in_ok-entry-in-Name.ensures seen (subst R flag told)

pub returns-in_err-enter-clause-noted : goal.returns-in_err-enter-clause-noted
returns-in_err-enter-clause-noted g c = λ asked.
    let self = c.args.self.now in
    let texts = texts_in self (g.K.Peeks.peeked c.args.kernel.now) in
    let terms = c.args.terms in
    let at = c.args.at in
    let part = component_data c.args.component in
    let old = g.K.Peeks.unmet c.args.kernel.now in
    lost_entry_noted texts at part old (g.K.Peeks.unmet c.enter.new.kernel) c.in_err-enter.field-0.0 c.from_residual.result (c.in_err-enter.ensures.noted asked) c.from_residual.ensures.0 c.from_residual.ensures.1

pub returns-in_err-sight-in-Name-clause-noted : goal.returns-in_err-sight-in-Name-clause-noted
returns-in_err-sight-in-Name-clause-noted g c = λ asked.
    let self = c.args.self.now in
    let texts = texts_in self (g.K.Peeks.peeked c.args.kernel.now) in
    let terms = c.args.terms in
    let at = c.args.at in
    let part = component_data c.args.component in
    let old = g.K.Peeks.unmet c.args.kernel.now in
    let entry = c.in_ok-entry-in-Name.entry in
    let one = g.K.Peeks.unmet c.steady_at.new.kernel in
    let new = g.K.Peeks.unmet c.see.new.kernel in
    let residual = c.from_residual-in_err-sight-in-Name in
    let was : one ≡ entered texts old at = c.steady_at.ensures.unmet ∙ c.steady_in.ensures.unmet ∙ c.in_ok-enter.ensures.noted asked in
    let P : Peeked → Type 0 = λ p. IsWalkNoted {T = Sight} (one && p.steady (host_bytes (texts_in self p) entry)) new (Err c.in_err-sight-in-Name.field-0.0) in
    let told : P texts.peeked = subst P (c.steady_at.ensures.kernel.same ∙ c.steady_in.ensures.kernel.same ∙ c.enter.ensures.kernel.same) c.in_err-sight-in-Name.ensures.noted in
    unseen_noted texts at part old Sight one new c.in-Name.name.now entry c.in_err-sight-in-Name.field-0.0 residual.result c.in_ok-enter.ensures.answer (ap component_data c.in-Name.is) c.in_ok-entry-in-Name.ensures was told residual.ensures.0 residual.ensures.1

pub returns-in-Dot-clause-noted : goal.returns-in-Dot-clause-noted
returns-in-Dot-clause-noted g c = λ asked.
    let self = c.args.self.now in
    let texts = texts_in self (g.K.Peeks.peeked c.args.kernel.now) in
    let terms = c.args.terms in
    let at = c.args.at in
    let part = component_data c.args.component in
    let old = g.K.Peeks.unmet c.args.kernel.now in
    c.steady_in.ensures.unmet ∙ c.in_ok-enter.ensures.noted asked ∙ looked_dot texts at old part c.in_ok-enter.ensures.answer (ap component_data c.in-Dot.is)

pub returns-in-DotDot-clause-noted : goal.returns-in-DotDot-clause-noted
returns-in-DotDot-clause-noted g c = λ asked.
    let self = c.args.self.now in
    let texts = texts_in self (g.K.Peeks.peeked c.args.kernel.now) in
    let terms = c.args.terms in
    let at = c.args.at in
    let part = component_data c.args.component in
    let old = g.K.Peeks.unmet c.args.kernel.now in
    c.steady_in.ensures.unmet ∙ c.in_ok-enter.ensures.noted asked ∙ looked_dot_dot texts at old part c.in_ok-enter.ensures.answer (ap component_data c.in-DotDot.is)

pub returns-in_ok-sight-in-Name-clause-noted : goal.returns-in_ok-sight-in-Name-clause-noted
returns-in_ok-sight-in-Name-clause-noted g c = λ asked.
    let self = c.args.self.now in
    let texts = texts_in self (g.K.Peeks.peeked c.args.kernel.now) in
    let terms = c.args.terms in
    let at = c.args.at in
    let part = component_data c.args.component in
    let old = g.K.Peeks.unmet c.args.kernel.now in
    let entry = c.in_ok-entry-in-Name.entry in
    let sight = c.in_ok-sight-in-Name.sight in
    let walked = c.steady_at.ensures.kernel.same ∙ c.steady_in.ensures.kernel.same ∙ c.enter.ensures.kernel.same in
    let one = g.K.Peeks.unmet c.steady_at.new.kernel in
    let new = g.K.Peeks.unmet c.see.new.kernel in
    let was : one ≡ entered texts old at = c.steady_at.ensures.unmet ∙ c.steady_in.ensures.unmet ∙ c.in_ok-enter.ensures.noted asked in
    let S : Peeked → Type 0 = λ p. new ≡ (one && p.steady (host_bytes (texts_in self p) entry)) in
    let noted : S texts.peeked = subst S walked c.in_ok-sight-in-Name.ensures.noted in
    let P : Peeked → Type 0 = λ p. seen_text (texts_in self p) entry ≡ sight_seen (texts_in self p) entry sight in
    let seen : P texts.peeked = subst P walked c.in_ok-sight-in-Name.ensures.answer in
    let is : new ≡ looked texts old at part =
    noted ∙ ap (λ b. b && texts.peeked.steady (host_bytes texts entry)) was ∙ looked_name texts at old part c.in-Name.name.now entry c.in_ok-enter.ensures.answer (ap component_data c.in-Name.is) c.in_ok-entry-in-Name.ensures in
    subst (λ b. IsWalkNoted b (g.K.Peeks.unmet c.arrive.new.kernel) c.arrive.result) is
    (c.arrive.ensures.noted (λ jumps. jump_met texts entry one new (g.met.K.Peeks.steady_is_no_jump c.args.kernel.now) (seen ∙ ap (sight_seen texts entry) jumps) noted))
