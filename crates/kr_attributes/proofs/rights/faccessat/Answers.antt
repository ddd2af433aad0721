use Rattle.std.proofs.Common.{refl, sym, ap, ◌∙◌, []}
use Rattle.std.specs.Bool.{if◌then◌else◌}
use Rattle.kr_seen.specs.pr_base.declared.errno.Errno.TheVariants.{ENOENT, EACCES}
use Rattle.kr_seen.specs.kr_model.AttributeRows.{faccessat_row}
use Rattle.kr_seen.specs.kr_model.Known.{known}
use Rattle.kr_seen.specs.kr_model.Reply.{answers, done, refuse}
use Rattle.kr_seen.specs.kr_model.State.{image_layout}
use Rattle.kr_seen.specs.kr_ops.Meaning.{meaning}
use Rattle.kr_seen.specs.Placed.{target_mounts}
use Rattle.kr_seen.proofs.CarryLemmas.{by-refusal, by-reply}
use Rattle.kr_attributes.proofs.FoundLemmas.{not-found, was-found}
use Rattle.kr_attributes.proofs.rights.faccessat.Goals as goal

pub returns-in_default : goal.returns-in_default
returns-in_default g c = λ n table pid some.
    let k = known image_layout pid (meaning c.args.state.now) in
    by-refusal (target_mounts c.args.target.now) pid _ c.args.state.now c.args.state.now c.refused.result c.requires.pids ENOENT
    (not-found n table pid c.args.state.now c.args.target.now (λ l. faccessat_row k l c.args.mode) c.in_default.is) c.refused.ensures refl

pub returns-then-gives : goal.returns-then-gives
returns-then-gives g c = λ n table pid some.
    let k = known image_layout pid (meaning c.args.state.now) in
    by-reply (target_mounts c.args.target.now) pid _ c.args.state.now c.args.state.now c.number.result c.requires.pids (answers 0 [])
    (was-found n table pid c.args.state.now c.args.target.now (λ l. faccessat_row k l c.args.mode) c.in-Some.place c.in-Some.is
    ∙ ap (λ b. if b then done 0 [] else refuse EACCES) (sym (c.gives.ensures pid) ∙ c.if-gives.true))
    c.number.ensures refl

pub returns-else-gives : goal.returns-else-gives
returns-else-gives g c = λ n table pid some.
    let k = known image_layout pid (meaning c.args.state.now) in
    by-refusal (target_mounts c.args.target.now) pid _ c.args.state.now c.args.state.now c.refused-else-gives.result c.requires.pids EACCES
    (was-found n table pid c.args.state.now c.args.target.now (λ l. faccessat_row k l c.args.mode) c.in-Some.place c.in-Some.is
    ∙ ap (λ b. if b then done 0 [] else refuse EACCES) (sym (c.gives.ensures pid) ∙ c.if-gives.false))
    c.refused-else-gives.ensures refl
