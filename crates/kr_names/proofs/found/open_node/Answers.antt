use Rattle.std.proofs.Common.{refl, sym, ap, ◌∙◌}
use Rattle.std.specs.Option.{option_map}
use Rattle.kr_seen.specs.pr_base.declared.errno.Errno.TheVariants.{ENOENT, ELOOP}
use Rattle.kr_seen.specs.kr_inode.declared.user.Right.TheVariants.{Read}
use Rattle.kr_seen.specs.kr_tree.Tree.{is_directory, is_file, may_be_linked}
use Rattle.kr_seen.specs.kr_tree.declared.place.Host.TheVariants as host
use Rattle.kr_seen.specs.kr_model.FileRows.{open_directory, open_file}
use Rattle.kr_seen.specs.kr_model.Known.{known}
use Rattle.kr_seen.specs.kr_model.State.{image_layout}
use Rattle.kr_seen.specs.kr_ops.Meaning.{meaning}
use Rattle.kr_seen.proofs.CarryLemmas.{by-refusal}
use Rattle.kr_seen.specs.Told.{entry_told, looked_told}
use Rattle.kr_names.specs.Opening.{entry_dir, entry_name}
use Rattle.kr_names.proofs.NodeLemmas.{node-known, node-unknown}
use Rattle.kr_names.proofs.OpenLemmas.{allowed, nothing, opens-directory, opens-file, opens-link, opens-none, passed, tested}
use Rattle.kr_names.proofs.RowLemmas.{by-row}
use Rattle.kr_names.proofs.found.open_node.Goals as goal

pub returns-then-is_directory-clause-performs : goal.returns-then-is_directory-clause-performs
returns-then-is_directory-clause-performs g c = λ mounts found some.
    let s = meaning c.args.state.now in
    let k = known image_layout c.args.pid s in
    let l = looked_told c.args.looked in
    let x = passed is_directory c.args.state.now.tree c.args.ino (sym c.is_directory.ensures ∙ c.if-is_directory.true) in
    by-row mounts c.args.pid _ (λ k. open_directory k c.args.flags (host.Node c.args.ino) c.may-readable.result) c.args.state.now c.open_directory.new.state c.open_directory.result
    (opens-directory k c.args.flags l c.args.ino x.0.node (node-known c.args.pid s c.args.ino x.0 x.1) x.2
    ∙ ap (λ r. open_directory k c.args.flags (host.Node c.args.ino) r) (sym (c.may-readable.ensures ∙ allowed c.args.state.now.tree s.user Read c.args.ino x.0 x.1)))
    (c.open_directory.ensures.performs mounts found some)

pub returns-then-is_file-clause-performs : goal.returns-then-is_file-clause-performs
returns-then-is_file-clause-performs g c = λ mounts found some.
    let s = meaning c.args.state.now in
    let k = known image_layout c.args.pid s in
    let l = looked_told c.args.looked in
    let x = passed is_file c.args.state.now.tree c.args.ino (sym c.is_file.ensures ∙ c.if-is_file.true) in
    let there = node-known c.args.pid s c.args.ino x.0 x.1 in
    let entry = option_map entry_told c.args.looked.entry in
    by-row mounts c.args.pid _ (λ k. open_file k c.args.flags c.args.ino x.0.node (entry_dir entry) (entry_name entry)) c.args.state.now c.open_file.new.state c.open_file.result
    (opens-file k c.args.flags l c.args.ino x.0.node there x.2)
    (c.open_file.ensures.performs mounts x.0.node found there some)

pub returns-then-may_be_linked-clause-performs : goal.returns-then-may_be_linked-clause-performs
returns-then-may_be_linked-clause-performs g c = λ mounts found some.
    let s = meaning c.args.state.now in
    let k = known image_layout c.args.pid s in
    let l = looked_told c.args.looked in
    let x = passed may_be_linked c.args.state.now.tree c.args.ino (sym c.may_be_linked.ensures ∙ c.if-may_be_linked.true) in
    by-refusal mounts c.args.pid _ c.args.state.now _ c.refused.result c.requires.caller.sound.pids ELOOP
    (opens-link k c.args.flags l c.args.ino x.0.node (node-known c.args.pid s c.args.ino x.0 x.1) x.2 (sym (tested is_file c.args.state.now.tree c.args.ino x.0 x.1) ∙ sym c.is_file.ensures ∙ c.if-is_file.false))
    c.refused.ensures refl

pub returns-else-may_be_linked-clause-performs : goal.returns-else-may_be_linked-clause-performs
returns-else-may_be_linked-clause-performs g c = λ mounts found some.
    let s = meaning c.args.state.now in
    let k = known image_layout c.args.pid s in
    let l = looked_told c.args.looked in
    let none = nothing c.args.state.now.tree c.args.ino (sym c.is_directory.ensures ∙ c.if-is_directory.false) (sym c.is_file.ensures ∙ c.if-is_file.false) (sym c.may_be_linked.ensures ∙ c.if-may_be_linked.false) in
    by-refusal mounts c.args.pid _ c.args.state.now _ c.refused-else-may_be_linked.result c.requires.caller.sound.pids ENOENT
    (opens-none k c.args.flags l c.args.ino (node-unknown c.args.pid s c.args.ino none)) c.refused-else-may_be_linked.ensures refl
