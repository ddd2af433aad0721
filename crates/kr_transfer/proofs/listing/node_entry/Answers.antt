use Rattle.std.proofs.Common.{◌≤◌, ℕ, List, Option, Some, length, sym, ap, subst, ◌∙◌}
use Rattle.std.specs.Option.{option_map}
use Rattle.kr_seen.specs.kr_tree.Tree.{Entry, entries}
use Rattle.kr_seen.specs.kr_model.DirectoryRows as model
use Rattle.kr_seen.specs.kr_model.DirectoryRows.{listed_entry}
use Rattle.kr_seen.specs.kr_model.Known.{known}
use Rattle.kr_seen.specs.kr_model.State.{image_layout}
use Rattle.kr_seen.specs.kr_ops.Meaning.{meaning}
use Rattle.kr_transfer.proofs.ListingLemmas.{behind-entries, entry-named, name-short}
use Rattle.kr_transfer.proofs.listing.node_entry.Goals as goal

pub returns-in_default-clause-entry : goal.returns-in_default-clause-entry
returns-in_default-clause-entry g c =
    let k = known image_layout c.args.pid (meaning c.args.state.now) in
    sym (behind-entries k c.args.after (entries c.args.state.now.tree c.args.dir) ∙ ap (option_map (listed_entry k)) (sym c.in_default.ensures))

pub returns-clause-entry : goal.returns-clause-entry
returns-clause-entry g c =
    let k = known image_layout c.args.pid (meaning c.args.state.now) in
    let told : Option model.Listed = Some (record { serial = c.in-Some.serial; inode = c.in-Some.inode; kind = c.kind_at-kind.result; name = c.in-Some.name.now }) in
    ap (λ i. Some (record { serial = c.in-Some.serial; inode = i; kind = c.kind_at-kind.result; name = c.in_ok-name.name })) c.from-inode.ensures
    ∙ ap (λ name. Some (record { serial = c.in-Some.serial; inode = c.in-Some.inode; kind = c.kind_at-kind.result; name = name })) c.in_ok-name.ensures
    ∙ ap (λ kind. Some (record { serial = c.in-Some.serial; inode = c.in-Some.inode; kind = kind; name = c.in-Some.name.now })) c.kind_at-kind.ensures
    ∙ ap (option_map (listed_entry k)) c.in-Some.ensures
    ∙ sym (behind-entries k c.args.after (entries c.args.state.now.tree c.args.dir))

pub returns-clause-short : goal.returns-clause-short
returns-clause-short g c =
    let e : Entry = record { name = c.in-Some.name.now; serial = c.in-Some.serial; inode = c.in-Some.inode } in
    subst (λ (name : List ℕ). length name ≤ 255) (sym c.in_ok-name.ensures) (name-short c.in-Some.name.now (entry-named c.args.state.now c.requires c.args.dir c.args.after e (sym c.in-Some.ensures)))
