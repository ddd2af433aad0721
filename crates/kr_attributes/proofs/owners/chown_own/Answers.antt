use Rattle.std.proofs.Common.{refl, ap, ◌∙◌, []}
use Rattle.kr_seen.specs.pr_base.declared.errno.Errno.TheVariants.{EPERM}
use Rattle.kr_seen.specs.kr_model.Reply.{answers}
use Rattle.kr_seen.proofs.PerformLemmas.{by-refusal, by-reply}
use Rattle.kr_attributes.specs.Ruled.{ruled}
use Rattle.kr_attributes.proofs.owners.chown_own.Goals as goal

pub returns-in-Left : goal.returns-in-Left
returns-in-Left g c = λ pid some.
    by-reply pid _ c.args.state.now c.args.state.now c.number.result c.requires.pids (answers 0 []) (c.rule.ensures [] ∙ ap (λ r. ruled r []) c.in-Left.is) c.number.ensures (λ mounts. refl)

pub returns-in-Given : goal.returns-in-Given
returns-in-Given g c = λ pid some.
    by-reply pid _ c.args.state.now c.args.state.now c.number-in-Given.result c.requires.pids (answers 0 []) (c.rule.ensures [] ∙ ap (λ r. ruled r []) c.in-Given.is) c.number-in-Given.ensures (λ mounts. refl)

pub returns-in-Refused : goal.returns-in-Refused
returns-in-Refused g c = λ pid some.
    by-refusal pid _ c.args.state.now c.args.state.now c.refused.result c.requires.pids EPERM (c.rule.ensures [] ∙ ap (λ r. ruled r []) c.in-Refused.is) c.refused.ensures refl
