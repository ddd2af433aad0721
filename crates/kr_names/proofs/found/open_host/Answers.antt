use Rattle.std.proofs.Common.{refl, sym, ap, ◌∙◌, true}
use Rattle.kr_seen.specs.pr_base.declared.errno.Errno.TheVariants.{ELOOP}
use Rattle.kr_seen.specs.kr_tree.declared.place.Host.TheVariants as host
use Rattle.kr_seen.specs.kr_model.FileRows.{open_directory, open_host}
use Rattle.kr_seen.specs.kr_model.Known.{known}
use Rattle.kr_seen.specs.kr_model.State.{image_layout}
use Rattle.kr_seen.specs.kr_ops.Meaning.{meaning}
use Rattle.kr_seen.proofs.CarryLemmas.{by-refusal}
use Rattle.kr_seen.specs.Told.{looked_told}
use Rattle.kr_names.proofs.NodeLemmas.{if-false, if-true}
use Rattle.kr_names.proofs.RowLemmas.{by-row}
use Rattle.kr_names.proofs.found.open_host.Goals as goal

pub returns-in-Node-clause-performs : goal.returns-in-Node-clause-performs
returns-in-Node-clause-performs g c = λ mounts found some.
    let s = meaning c.args.state.now in
    let k = known image_layout c.args.pid s in
    let l = looked_told c.args.looked in
    by-row mounts c.args.pid _ (λ k. open_host k c.args.flags l (host.Node c.in-Node.ino)) c.args.state.now c.open_node.new.state c.open_node.result
    (ap (λ h. open_host k c.args.flags l h) c.in-Node.is) (c.open_node.ensures.performs mounts found some)

pub returns-then-is_process_directory-clause-performs : goal.returns-then-is_process_directory-clause-performs
returns-then-is_process_directory-clause-performs g c = λ mounts found some.
    let s = meaning c.args.state.now in
    let k = known image_layout c.args.pid s in
    let l = looked_told c.args.looked in
    let at = host.Proc c.in-Proc.ino c.in-Proc.at in
    by-row mounts c.args.pid _ (λ k. open_directory k c.args.flags at true) c.args.state.now c.open_directory.new.state c.open_directory.result
    (ap (λ h. open_host k c.args.flags l h) c.in-Proc.is ∙ if-true _ _ _ (sym c.is_process_directory.ensures ∙ c.if-is_process_directory.true)) (c.open_directory.ensures.performs mounts found some)

pub returns-else-is_process_directory-clause-performs : goal.returns-else-is_process_directory-clause-performs
returns-else-is_process_directory-clause-performs g c = λ mounts found some.
    let s = meaning c.args.state.now in
    let k = known image_layout c.args.pid s in
    let l = looked_told c.args.looked in
    by-refusal mounts c.args.pid _ c.args.state.now _ c.refused.result c.requires.caller.sound.pids ELOOP
    (ap (λ h. open_host k c.args.flags l h) c.in-Proc.is ∙ if-false _ _ _ (sym c.is_process_directory.ensures ∙ c.if-is_process_directory.false)) c.refused.ensures refl
