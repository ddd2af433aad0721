use Rattle.std.proofs.Common.{◌≡◌, ◌∙◌, true, false, Ok, ap, sym}
use Rattle.pt_bind.specs.pr_base.Paths.{text_of}
use Rattle.pt_bind.specs.pr_base.Peeks.{Peeked}
use Rattle.pt_bind.specs.Binding.{host_of}
use Rattle.pt_canon.specs.Looks.{texts_in}
use Rattle.pt_canon.specs.ProcessLinks.{is_dir_kind}
use Rattle.pt_canon.specs.Steps.{done}
use Rattle.pt_canon.proofs.StepLemmas.{lands_unasked, lands_in, lands_beside}
use Rattle.pt_canon.proofs.NotedLemmas.{none_noted, stays_met}
use Rattle.pt_canon.proofs.translation.Translation.land.Goals as goal

pub returns-then-not-wants_directory-clause-answer : goal.returns-then-not-wants_directory-clause-answer
returns-then-not-wants_directory-clause-answer g c = λ dir name.
    let texts = texts_in c.args.self.now (g.K.Peeks.peeked c.args.kernel.now) in
    let at = c.args.link.now in
    lands_unasked texts c.args.terms dir at name (host_of texts.bindings at) c.in_ok-guest.guest c.requires c.in_ok-guest.ensures.answer (sym c.wants_directory.ensures ∙ c.if-not-wants_directory.true)
    ∙ ap (λ e. done (Ok e)) (sym c.ends_at_name.ensures)

pub returns-then-not-is_dir-clause-answer : goal.returns-then-not-is_dir-clause-answer
returns-then-not-is_dir-clause-answer g c = λ dir name.
    let texts = texts_in c.args.self.now (g.K.Peeks.peeked c.args.kernel.now) in
    let at = c.args.link.now in
    let guest = c.in_ok-guest.guest in
    let now = g.K.Peeks.peeked c.jump.new.kernel in
    let told : is_dir_kind (texts.peeked.kind (text_of (host_of texts.bindings guest))) ≡ false =
    ap (λ (p : Peeked). is_dir_kind (p.kind (text_of (host_of texts.bindings guest)))) (sym c.jump.ensures.kernel.same)
    ∙ ap (λ h. is_dir_kind (now.kind h)) (sym (c.as_slice.ensures ∙ c.in_ok-host.ensures.host)) ∙ sym c.in_ok-is_dir.ensures.answer ∙ c.if-not-is_dir.true in
    lands_beside texts c.args.terms dir at name (host_of texts.bindings at) guest c.requires c.in_ok-guest.ensures.answer (sym c.wants_directory.ensures ∙ c.if-not-wants_directory.false) told

pub returns-clause-answer : goal.returns-clause-answer
returns-clause-answer g c = λ dir name.
    let texts = texts_in c.args.self.now (g.K.Peeks.peeked c.args.kernel.now) in
    let at = c.args.link.now in
    let guest = c.in_ok-guest.guest in
    let now = g.K.Peeks.peeked c.jump.new.kernel in
    let told : is_dir_kind (texts.peeked.kind (text_of (host_of texts.bindings guest))) ≡ true =
    ap (λ (p : Peeked). is_dir_kind (p.kind (text_of (host_of texts.bindings guest)))) (sym c.jump.ensures.kernel.same)
    ∙ ap (λ h. is_dir_kind (now.kind h)) (sym (c.as_slice.ensures ∙ c.in_ok-host.ensures.host)) ∙ sym c.in_ok-is_dir.ensures.answer ∙ c.if-not-is_dir.false in
    lands_in texts c.args.terms dir at name (host_of texts.bindings at) guest c.requires c.in_ok-guest.ensures.answer told
    ∙ ap (λ e. done (Ok e)) (sym c.ends_at_name-2.ensures)

pub returns-in_err-guest-clause-noted : goal.returns-in_err-guest-clause-noted
returns-in_err-guest-clause-noted g c = λ met. none_noted (g.K.Peeks.unmet c.args.kernel.now) (g.K.Peeks.unmet c.jump.new.kernel) c.from_residual.result c.jump.ensures.unmet

pub returns-then-not-is_dir-clause-noted : goal.returns-then-not-is_dir-clause-noted
returns-then-not-is_dir-clause-noted g c = λ met.
    stays_met (g.K.Peeks.unmet c.args.kernel.now) (g.K.Peeks.unmet c.jump.new.kernel) (g.K.Peeks.unmet c.is_directory.new.kernel) ((g.K.Peeks.peeked c.jump.new.kernel).steady c.as_slice.result.now) met c.jump.ensures.unmet c.in_ok-is_dir.ensures.noted

pub returns-clause-noted : goal.returns-clause-noted
returns-clause-noted g c = λ met.
    stays_met (g.K.Peeks.unmet c.args.kernel.now) (g.K.Peeks.unmet c.jump.new.kernel) (g.K.Peeks.unmet c.is_directory.new.kernel) ((g.K.Peeks.peeked c.jump.new.kernel).steady c.as_slice.result.now) met c.jump.ensures.unmet c.in_ok-is_dir.ensures.noted
