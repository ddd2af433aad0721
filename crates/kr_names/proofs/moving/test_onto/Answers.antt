use Rattle.std.proofs.Common.{sym, ap, subst, ◌∙◌, Option, Some}
use Rattle.kr_seen.specs.kr_tree.declared.place.Host.{Host}
use Rattle.kr_seen.specs.kr_model.Known.{known}
use Rattle.kr_seen.specs.kr_model.State.{image_layout}
use Rattle.kr_seen.specs.kr_ops.Meaning.{meaning}
use Rattle.kr_names.specs.Moving.{AnswersOnto}
use Rattle.kr_names.proofs.moving.test_onto.Goals as goal

pub returns-in-None-clause-row : goal.returns-in-None-clause-row
returns-in-None-clause-row g c = λ pid above below node h.
    let P : Option Host → Type 0 = λ o. AnswersOnto (known image_layout pid (meaning c.args.state.now)) c.args.entry o above below node c.test_free.result in
    subst P (sym c.in-None.is) (c.test_free.ensures pid above below node h)

pub returns-in-Node-clause-row : goal.returns-in-Node-clause-row
returns-in-Node-clause-row g c = λ pid above below node h.
    let P : Option Host → Type 0 = λ o. AnswersOnto (known image_layout pid (meaning c.args.state.now)) c.args.entry o above below node c.test_over.result in
    subst P (sym (c.in-Some.is ∙ ap (λ h. Some h) c.in-Node.is)) (c.test_over.ensures.row pid above below node h)
