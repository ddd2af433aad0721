use Rattle.std.proofs.Common.{◌≡◌, ◌∙◌, ◌&&◌, Bool, Err, ap, sym, subst}
use Rattle.pt_bind.specs.pr_base.Paths.{components_of}
use Rattle.pt_bind.specs.pr_base.Peeks.{Peeked}
use Rattle.pt_canon.specs.Components.{component_data}
use Rattle.pt_canon.specs.Laws.{host_bytes}
use Rattle.pt_canon.specs.ProcessLinks.{above}
use Rattle.pt_canon.specs.Looks.{texts_in, sight_seen, IsSeen}
use Rattle.pt_canon.specs.Steadily.{IsSure, WasAsked, entered, looked}
use Rattle.pt_canon.specs.Steps.{IsPassed, PassedIs, PassedNoted, ended, left_on, middle_trail}
use Rattle.pt_canon.specs.TextWalk.{look_text, seen_text}
use Rattle.pt_canon.proofs.StepLemmas.{dot_looked, dot_dot_looked, middle, middle_dots, middle_unseen, pass_named}
use Rattle.pt_canon.specs.declared.sight.Sight.{Sight}
use Rattle.pt_canon.proofs.SteadyLemmas.{entered_asked, looked_dot, looked_dot_dot, looked_name, seen_asked}
use Rattle.pt_canon.specs.Canon.{IsWalkNoted}
use Rattle.pt_canon.specs.declared.sight.Known.TheVariants as known
use Rattle.pt_canon.proofs.NotedLemmas.{passed_lost_noted, passed_unseen_noted}
use Rattle.pt_canon.proofs.translation.Translation.in_middle.Goals as goal

pub steady_in-requires-clause-sure : goal.steady_in-requires-clause-sure
steady_in-requires-clause-sure g c = let P : Peeked → Type 0 = λ p. IsSure p c.args.sure.now in subst P (sym c.enter.ensures.kernel.same) c.requires.sure

pub steady_at-requires : goal.steady_at-requires
steady_at-requires g c = let P : Peeked → Type 0 = λ p. IsSure p c.args.sure.now in subst P (sym (c.steady_in.ensures.kernel.same ∙ c.enter.ensures.kernel.same)) c.requires.sure

pub returns-in_err-sight-in-Name-clause-answer : goal.returns-in_err-sight-in-Name-clause-answer
returns-in_err-sight-in-Name-clause-answer g c =
    let self = c.args.self.now in
    let texts = texts_in self (g.K.Peeks.peeked c.args.kernel.now) in
    let terms = c.args.terms in
    let rest = components_of c.args.behind.now in
    let part = component_data c.args.component in
    let flag = looked texts terms.steady c.args.at part in
    let entry = c.in_ok-entry-in-Name.entry in
    let e = c.in_err-sight-in-Name.field-0.0 in
    let residual = c.from_residual-in_err-sight-in-Name in
    let P : Peeked → Type 0 = λ p. IsSeen (texts_in self p) entry (seen_text (texts_in self p) entry) (Err e) in
    let told : P texts.peeked = subst P (c.steady_at.ensures.kernel.same ∙ c.steady_in.ensures.kernel.same ∙ c.enter.ensures.kernel.same) c.in_err-sight-in-Name.ensures.answer in
    middle_unseen texts terms flag _ (PassedIs texts terms rest (middle texts terms flag c.args.at rest (look_text texts c.args.at part))) c.args.at entry c.in-Name.name.now part rest e residual.result c.in_ok-enter.ensures.answer (ap component_data c.in-Name.is) c.in_ok-entry-in-Name.ensures told residual.ensures.0 residual.ensures.1

pub returns-in-Dot-clause-answer : goal.returns-in-Dot-clause-answer
returns-in-Dot-clause-answer g c =
    let self = c.args.self.now in
    let texts = texts_in self (g.K.Peeks.peeked c.args.kernel.now) in
    let terms = c.args.terms in
    let at = c.args.at in
    let may = c.in_ok-enter.ensures.answer in
    let part = component_data c.args.component in
    let rest = components_of c.args.behind.now in
    let still = c.in_ok-steady.steady in
    let P : Peeked → Type 0 = λ p. still ≡ entered (texts_in self p) terms.steady at in
    let is : P texts.peeked = subst P c.enter.ensures.kernel.same c.in_ok-steady.ensures.answer in
    let flag : looked texts terms.steady at part ≡ still = sym (is ∙ looked_dot texts at terms.steady part may (ap component_data c.in-Dot.is)) in (
      middle_dots texts terms (looked texts terms.steady at part) at at part rest (dot_looked texts terms still at part may (ap component_data c.in-Dot.is))
          ∙ ap (λ b. ended texts terms.mode b (left_on texts terms.mode terms.left at rest terms.slash)) flag,
      record { found = may; asked = entered_asked texts at terms.steady still is },
    )

pub returns-in-DotDot-clause-answer : goal.returns-in-DotDot-clause-answer
returns-in-DotDot-clause-answer g c =
    let self = c.args.self.now in
    let texts = texts_in self (g.K.Peeks.peeked c.args.kernel.now) in
    let terms = c.args.terms in
    let at = c.args.at in
    let may = c.in_ok-enter.ensures.answer in
    let rest = components_of c.args.behind.now in
    let part = component_data c.args.component in
    let still = c.in_ok-steady.steady in
    let P : Peeked → Type 0 = λ p. still ≡ entered (texts_in self p) terms.steady at in
    let is : P texts.peeked = subst P c.enter.ensures.kernel.same c.in_ok-steady.ensures.answer in
    let flag : looked texts terms.steady at part ≡ still = sym (is ∙ looked_dot_dot texts at terms.steady part may (ap component_data c.in-DotDot.is)) in
    let up = middle_dots texts terms (looked texts terms.steady at part) at (above at) part rest (dot_dot_looked texts terms still at part may (ap component_data c.in-DotDot.is)) in (
      up ∙ ap (λ b. ended texts terms.mode b (left_on texts terms.mode terms.left (above at) rest terms.slash)) flag
          ∙ ap (λ q. ended texts terms.mode still (left_on texts terms.mode terms.left q rest terms.slash)) (sym c.above.ensures),
      record { found = tt; asked = tt },
    )

pub pass-requires-clause-asked : goal.pass-requires-clause-asked
pass-requires-clause-asked g c =
    let self = c.args.self.now in
    let now = g.K.Peeks.peeked c.see.new.kernel in
    let entry = c.in_ok-entry-in-Name.entry in
    let steady = c.in_ok-steady.steady in
    let still = c.in_ok-still-in-Name.still in
    let S : Peeked → Type 0 = λ p. still ≡ (steady && p.steady (host_bytes (texts_in self p) entry)) in
    let is : S now = subst S (sym (c.see.ensures.kernel.same ∙ c.steady_at.ensures.kernel.same)) c.in_ok-still-in-Name.ensures.answer in
    seen_asked (texts_in self now) entry steady still is

pub returns-in_ok-sight-in-Name-clause-answer : goal.returns-in_ok-sight-in-Name-clause-answer
returns-in_ok-sight-in-Name-clause-answer g c =
    let self = c.args.self.now in
    let peeked = g.K.Peeks.peeked c.args.kernel.now in
    let texts = texts_in self peeked in
    let terms = c.args.terms in
    let at = c.args.at in
    let may = c.in_ok-enter.ensures.answer in
    let rest = components_of c.args.behind.now in
    let part = component_data c.args.component in
    let entry = c.in_ok-entry-in-Name.entry in
    let sight = c.in_ok-sight-in-Name.sight in
    let still = c.in_ok-still-in-Name.still in
    let entering = c.steady_in.ensures.kernel.same ∙ c.enter.ensures.kernel.same in
    let E : Peeked → Type 0 = λ p. c.in_ok-steady.steady ≡ entered (texts_in self p) terms.steady at in
    let is_in : E peeked = subst E c.enter.ensures.kernel.same c.in_ok-steady.ensures.answer in
    let S : Peeked → Type 0 = λ p. still ≡ (c.in_ok-steady.steady && p.steady (host_bytes (texts_in self p) entry)) in
    let is_still : S peeked = subst S entering c.in_ok-still-in-Name.ensures.answer in
    let flag : still ≡ looked texts terms.steady at part =
    is_still ∙ ap (λ b. b && peeked.steady (host_bytes texts entry)) is_in ∙ looked_name texts at terms.steady part c.in-Name.name.now entry may (ap component_data c.in-Name.is) c.in_ok-entry-in-Name.ensures in
    let P : Peeked → Type 0 = λ p. seen_text (texts_in self p) entry ≡ sight_seen (texts_in self p) entry sight in
    let seen : P peeked = subst P (c.steady_at.ensures.kernel.same ∙ entering) c.in_ok-sight-in-Name.ensures.answer in
    let Q : Peeked → Type 0 = λ p. IsPassed (texts_in self p) terms rest still (middle_trail (texts_in self p) terms (above entry) rest (sight_seen (texts_in self p) entry sight)) c.pass.result in
    let told : Q peeked = subst Q (c.see.ensures.kernel.same ∙ c.steady_at.ensures.kernel.same ∙ entering) c.pass.ensures.answer in
    let R : Bool → Type 0 = λ b. IsPassed texts terms rest b (middle_trail texts terms (above entry) rest (sight_seen texts entry sight)) c.pass.result in
    pass_named texts terms (looked texts terms.steady at part) at entry c.in-Name.name.now part rest (sight_seen texts entry sight) c.pass.result may (ap component_data c.in-Name.is) c.in_ok-entry-in-Name.ensures seen (subst R flag told)

pub returns-in_err-enter-clause-noted : goal.returns-in_err-enter-clause-noted
returns-in_err-enter-clause-noted g c = λ asked.
    let self = c.args.self.now in
    let texts = texts_in self (g.K.Peeks.peeked c.args.kernel.now) in
    let terms = c.args.terms in
    let at = c.args.at in
    let part = component_data c.args.component in
    let old = g.K.Peeks.unmet c.args.kernel.now in
    let new = g.K.Peeks.unmet c.enter.new.kernel in
    passed_lost_noted texts at part old new c.in_err-enter.field-0.0 c.from_residual.result (c.in_err-enter.ensures.noted asked) c.from_residual.ensures.0 c.from_residual.ensures.1

pub returns-in_err-sight-in-Name-clause-noted : goal.returns-in_err-sight-in-Name-clause-noted
returns-in_err-sight-in-Name-clause-noted g c = λ asked.
    let self = c.args.self.now in
    let texts = texts_in self (g.K.Peeks.peeked c.args.kernel.now) in
    let terms = c.args.terms in
    let at = c.args.at in
    let part = component_data c.args.component in
    let old = g.K.Peeks.unmet c.args.kernel.now in
    let entry = c.in_ok-entry-in-Name.entry in
    let entering = c.steady_in.ensures.kernel.same ∙ c.enter.ensures.kernel.same in
    let one = g.K.Peeks.unmet c.steady_at.new.kernel in
    let new = g.K.Peeks.unmet c.see.new.kernel in
    let residual = c.from_residual-in_err-sight-in-Name in
    let was : one ≡ entered texts old at = c.steady_at.ensures.unmet ∙ c.steady_in.ensures.unmet ∙ c.in_ok-enter.ensures.noted asked in
    let P : Peeked → Type 0 = λ p. IsWalkNoted {T = Sight} (one && p.steady (host_bytes (texts_in self p) entry)) new (Err c.in_err-sight-in-Name.field-0.0) in
    let told : P texts.peeked = subst P (c.steady_at.ensures.kernel.same ∙ entering) c.in_err-sight-in-Name.ensures.noted in
    passed_unseen_noted texts at part old Sight one new c.in-Name.name.now entry c.in_err-sight-in-Name.field-0.0 residual.result c.in_ok-enter.ensures.answer (ap component_data c.in-Name.is) c.in_ok-entry-in-Name.ensures was told residual.ensures.0 residual.ensures.1

pub returns-in-Dot-clause-noted : goal.returns-in-Dot-clause-noted
returns-in-Dot-clause-noted g c = λ asked.
    let self = c.args.self.now in
    let texts = texts_in self (g.K.Peeks.peeked c.args.kernel.now) in
    let terms = c.args.terms in
    let at = c.args.at in
    let part = component_data c.args.component in
    let old = g.K.Peeks.unmet c.args.kernel.now in
    let new = g.K.Peeks.unmet c.steady_in.new.kernel in
    let is : new ≡ entered texts old at = c.steady_in.ensures.unmet ∙ c.in_ok-enter.ensures.noted asked in
    (is ∙ looked_dot texts at old part c.in_ok-enter.ensures.answer (ap component_data c.in-Dot.is), entered_asked texts at old new is)

pub returns-in-DotDot-clause-noted : goal.returns-in-DotDot-clause-noted
returns-in-DotDot-clause-noted g c = λ asked.
    let self = c.args.self.now in
    let texts = texts_in self (g.K.Peeks.peeked c.args.kernel.now) in
    let terms = c.args.terms in
    let at = c.args.at in
    let part = component_data c.args.component in
    let old = g.K.Peeks.unmet c.args.kernel.now in
    let is : g.K.Peeks.unmet c.steady_in.new.kernel ≡ entered texts old at = c.steady_in.ensures.unmet ∙ c.in_ok-enter.ensures.noted asked in
    (is ∙ looked_dot_dot texts at old part c.in_ok-enter.ensures.answer (ap component_data c.in-DotDot.is), tt)

pub returns-in_ok-sight-in-Name-clause-noted : goal.returns-in_ok-sight-in-Name-clause-noted
returns-in_ok-sight-in-Name-clause-noted g c = λ asked.
    let self = c.args.self.now in
    let texts = texts_in self (g.K.Peeks.peeked c.args.kernel.now) in
    let terms = c.args.terms in
    let at = c.args.at in
    let part = component_data c.args.component in
    let old = g.K.Peeks.unmet c.args.kernel.now in
    let entry = c.in_ok-entry-in-Name.entry in
    let walked = c.steady_at.ensures.kernel.same ∙ c.steady_in.ensures.kernel.same ∙ c.enter.ensures.kernel.same in
    let one = g.K.Peeks.unmet c.steady_at.new.kernel in
    let new = g.K.Peeks.unmet c.see.new.kernel in
    let was : one ≡ entered texts old at = c.steady_at.ensures.unmet ∙ c.steady_in.ensures.unmet ∙ c.in_ok-enter.ensures.noted asked in
    let S : Peeked → Type 0 = λ p. new ≡ (one && p.steady (host_bytes (texts_in self p) entry)) in
    let noted : S texts.peeked = subst S walked c.in_ok-sight-in-Name.ensures.noted in
    let A : Peeked → Type 0 = λ p. WasAsked (texts_in self p) entry known.Directory new in
    let asked_there : A (g.K.Peeks.peeked c.see.new.kernel) = subst A (sym (c.see.ensures.kernel.same ∙ walked)) (seen_asked texts entry one new noted) in
    let Q : Peeked → Type 0 = λ p. PassedNoted (texts_in self p) new (g.K.Peeks.unmet c.pass.new.kernel) c.pass.result in
    let passed : Q texts.peeked = subst Q (c.see.ensures.kernel.same ∙ walked) (c.pass.ensures.noted asked_there) in
    let is : new ≡ looked texts old at part =
    noted ∙ ap (λ b. b && texts.peeked.steady (host_bytes texts entry)) was ∙ looked_name texts at old part c.in-Name.name.now entry c.in_ok-enter.ensures.answer (ap component_data c.in-Name.is) c.in_ok-entry-in-Name.ensures in
    subst (λ b. PassedNoted texts b (g.K.Peeks.unmet c.pass.new.kernel) c.pass.result) is passed
