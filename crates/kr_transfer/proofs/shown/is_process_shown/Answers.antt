use Rattle.std.proofs.Common.{sym, ap, ◌∙◌}
use Rattle.std.specs.Prelude.{is_some}
use Rattle.kr_seen.specs.kr_procfs.Objects.{inode_number}
use Rattle.kr_seen.specs.kr_tree.declared.place.Host.TheVariants.{Proc}
use Rattle.kr_seen.specs.kr_tree.declared.place.ProcAt.TheVariants.{Dir, FdDir}
use Rattle.kr_seen.specs.kr_model.Asking.{lives}
use Rattle.kr_seen.specs.kr_model.DirectoryRows.{of_descriptors, of_process, shown_by, with_dots}
use Rattle.kr_seen.specs.kr_model.Known.{known}
use Rattle.kr_seen.specs.kr_model.State.{image_layout}
use Rattle.kr_seen.specs.kr_ops.Meaning.{meaning}
use Rattle.kr_transfer.proofs.ShownLemmas.{there-or-not}
use Rattle.kr_transfer.proofs.shown.is_process_shown.Goals as goal

pub returns-in-Dir : goal.returns-in-Dir
returns-in-Dir g c = λ i.
    let k = known image_layout c.args.pid (meaning c.args.state.now) in
    c.lives.ensures ∙ sym (there-or-not (lives k c.in-Dir.of) (with_dots (inode_number (Dir c.in-Dir.of)) i (of_process c.in-Dir.of))) ∙ ap (λ at. is_some (shown_by k (Proc i at))) (sym c.in-Dir.is)

pub returns-in-FdDir : goal.returns-in-FdDir
returns-in-FdDir g c = λ i.
    let k = known image_layout c.args.pid (meaning c.args.state.now) in
    c.lives-in-FdDir.ensures ∙ sym (there-or-not (lives k c.in-FdDir.of) (with_dots (inode_number (FdDir c.in-FdDir.of)) (inode_number (Dir c.in-FdDir.of)) (of_descriptors k c.in-FdDir.of))) ∙ ap (λ at. is_some (shown_by k (Proc i at))) (sym c.in-FdDir.is)
