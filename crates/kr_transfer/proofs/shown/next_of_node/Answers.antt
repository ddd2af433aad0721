use Rattle.std.proofs.Common.{◌≡◌, Some, sym, ap, ◌∙◌}
use Rattle.kr_seen.specs.kr_model.DirectoryRows.{of_processes, with_dots}
use Rattle.kr_seen.specs.kr_model.Known.{known}
use Rattle.kr_seen.specs.kr_model.State.{image_layout}
use Rattle.kr_seen.specs.kr_ops.Meaning.{meaning}
use Rattle.std.specs.Option.{option_map}
use Rattle.std.proofs.Common.{Option}
use Rattle.kr_seen.specs.pr_base.declared.memory.NoMemory.{NoMemory}
use Rattle.kr_seen.specs.kr_tree.declared.place.Host.TheVariants.{Node}
use Rattle.kr_transfer.specs.declared.listing.Listed.{Listed}
use Rattle.kr_transfer.specs.Listing.{all_shown, first_behind, or_else, told_entry}
use Rattle.kr_transfer.proofs.ShownLemmas.{if-ok, processes-shown}
use Rattle.kr_transfer.proofs.shown.next_of_node.Goals as goal

pub returns-in-Some-Proc-clause-entry : goal.returns-in-Some-Proc-clause-entry
returns-in-Some-Proc-clause-entry g c =
    let k = known image_layout c.args.pid (meaning c.args.state.now) in
    let after = c.args.after in
    if-ok {X = Option Listed} {E = NoMemory} c.directory_entry.result (λ next. option_map told_entry next ≡ first_behind after (of_processes k)) (λ next. option_map told_entry next ≡ first_behind after (all_shown k (Node c.args.ino))) (λ next is.
    is ∙ sym (c.in_ok-dot.ensures.entry (of_processes k) ∙ ap (λ (d : Option Listed). or_else (option_map told_entry d) (first_behind after (of_processes k))) c.in_default-dot.is)
    ∙ ap (λ here. first_behind after (with_dots here c.from-2.result (of_processes k))) c.from.ensures
    ∙ ap (λ up. first_behind after (with_dots c.args.ino up (of_processes k))) c.from-2.ensures
    ∙ ap (first_behind after) (sym (processes-shown (meaning c.args.state.now) c.args.pid c.args.ino c.in-Some.above (sym c.in-Some-Proc.ensures ∙ ap (λ x. Some x) c.in-Some-Proc.field-0-is) (sym c.in-Some.ensures)))) c.directory_entry.ensures.entry
