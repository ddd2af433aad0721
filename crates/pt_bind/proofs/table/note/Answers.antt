use Rattle.std.proofs.Common.{◌∙◌, sym}
use Rattle.pt_bind.proofs.IndexLemmas.{new_noted}
use Rattle.pt_bind.proofs.table.note.Goals as goal

pub returns-in_ok-insert : goal.returns-in_ok-insert
returns-in_ok-insert c =
    new_noted c.args.by_location.now c.insert.new.self c.args.location.now c.into_vec-key.result c.args.number (c.into_vec-key.ensures ∙ c.in_ok-copy.ensures)
    c.in_ok-insert.ensures.entries (sym c.contains_key.ensures ∙ c.if-not-contains_key.true)
