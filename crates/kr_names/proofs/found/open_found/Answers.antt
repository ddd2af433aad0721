use Rattle.std.proofs.Common.{refl, sym, ◌∙◌}
use Rattle.kr_seen.specs.pr_base.declared.errno.Errno.TheVariants.{EEXIST}
use Rattle.kr_seen.specs.kr_model.FileRows.{open_host}
use Rattle.kr_seen.specs.kr_model.Known.{known}
use Rattle.kr_seen.specs.kr_model.State.{image_layout}
use Rattle.kr_seen.specs.kr_ops.Meaning.{meaning}
use Rattle.kr_seen.proofs.CarryLemmas.{by-refusal}
use Rattle.kr_seen.specs.Told.{looked_told}
use Rattle.kr_names.proofs.NodeLemmas.{if-false, if-true}
use Rattle.kr_names.proofs.RowLemmas.{by-row}
use Rattle.kr_names.proofs.found.open_found.Goals as goal

pub returns-then-makes_anew-clause-performs : goal.returns-then-makes_anew-clause-performs
returns-then-makes_anew-clause-performs g c = λ mounts found some.
    let s = meaning c.args.state.now in
    let k = known image_layout c.args.pid s in
    let l = looked_told c.args.looked in
    by-refusal mounts c.args.pid _ c.args.state.now _ c.refused.result c.requires.caller.sound.pids EEXIST (if-true _ _ _ (sym c.makes_anew.ensures ∙ c.if-makes_anew.true)) c.refused.ensures refl

pub returns-else-makes_anew-clause-performs : goal.returns-else-makes_anew-clause-performs
returns-else-makes_anew-clause-performs g c = λ mounts found some.
    let s = meaning c.args.state.now in
    let k = known image_layout c.args.pid s in
    let l = looked_told c.args.looked in
    by-row mounts c.args.pid _ (λ k. open_host k c.args.flags l c.args.looked.host) c.args.state.now c.open_host.new.state c.open_host.result
    (if-false _ _ _ (sym c.makes_anew.ensures ∙ c.if-makes_anew.false)) (c.open_host.ensures.performs mounts found some)
