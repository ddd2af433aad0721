use Rattle.std.proofs.Common.{◌≡◌, sym, ap, ◌∙◌}
use Rattle.kr_seen.specs.kr_tree.declared.place.ProcAt.TheVariants.{Dir}
use Rattle.kr_seen.specs.kr_procfs.Objects.{inode_number}
use Rattle.kr_seen.specs.kr_model.DirectoryRows.{of_process, with_dots}
use Rattle.kr_seen.specs.kr_model.Known.{known}
use Rattle.kr_seen.specs.kr_model.State.{image_layout}
use Rattle.kr_seen.specs.kr_ops.Meaning.{meaning}
use Rattle.std.specs.Option.{option_map}
use Rattle.std.proofs.Common.{Option}
use Rattle.kr_seen.specs.pr_base.declared.memory.NoMemory.{NoMemory}
use Rattle.kr_seen.specs.kr_tree.declared.place.Host.TheVariants.{Proc}
use Rattle.kr_transfer.specs.declared.listing.Listed.{Listed}
use Rattle.kr_transfer.specs.Listing.{all_shown, first_behind, or_else, told_entry}
use Rattle.kr_transfer.proofs.ShownLemmas.{if-ok, process-shown}
use Rattle.kr_transfer.proofs.shown.next_of_process.Goals as goal

pub returns-clause-entry : goal.returns-clause-entry
returns-clause-entry g c =
    let k = known image_layout c.args.pid (meaning c.args.state.now) in
    let after = c.args.after in
    if-ok {X = Option Listed} {E = NoMemory} c.link_entry.result (λ next. option_map told_entry next ≡ first_behind after (of_process c.args.of)) (λ next. option_map told_entry next ≡ first_behind after (all_shown k (Proc c.args.ino (Dir c.args.of)))) (λ next is.
    is ∙ sym (c.in_ok-dot.ensures.entry (of_process c.args.of) ∙ ap (λ (d : Option Listed). or_else (option_map told_entry d) (first_behind after (of_process c.args.of))) c.in_default.is)
    ∙ ap (λ here. first_behind after (with_dots here c.from.result (of_process c.args.of))) c.proc_inode.ensures
    ∙ ap (λ up. first_behind after (with_dots (inode_number (Dir c.args.of)) up (of_process c.args.of))) c.from.ensures
    ∙ ap (first_behind after) (sym (process-shown k c.args.ino c.args.of c.requires))) c.link_entry.ensures.entry
