use Rattle.std.proofs.Common.{◌∙◌, sym}
use Rattle.pt_bind.proofs.IndexLemmas.{new_noted}
use Rattle.kr_mounts.proofs.TurnLemmas.{newly_seen, seen_again}
use Rattle.kr_mounts.proofs.order.note.Goals as goal

pub returns-then-contains_key : goal.returns-then-contains_key
returns-then-contains_key c = seen_again c.args.seen.now c.args.location.now (sym c.contains_key.ensures ∙ c.if-contains_key.true)

pub returns : goal.returns
returns c =
    newly_seen c.args.seen.now c.args.location.now c.args.number c.insert.new.self (sym c.contains_key.ensures ∙ c.if-contains_key.false)
    (new_noted c.args.seen.now c.insert.new.self c.args.location.now c.into_vec-key.result c.args.number (c.into_vec-key.ensures ∙ c.in_ok-copy.ensures)
    c.in_ok-insert.ensures.entries (sym c.contains_key.ensures ∙ c.if-contains_key.false))
