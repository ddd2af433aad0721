use Rattle.std.proofs.Common.{ap, ◌∙◌}
use Rattle.kr_seen.specs.kr_model.Known.{known}
use Rattle.kr_seen.specs.kr_model.NameRows.{move_entry}
use Rattle.kr_seen.specs.kr_model.State.{image_layout}
use Rattle.kr_seen.specs.kr_ops.Meaning.{meaning}
use Rattle.kr_seen.specs.Told.{entered_told}
use Rattle.kr_names.proofs.MoveLemmas.{entry-there, new-refuses, old-refuses}
use Rattle.kr_names.proofs.NodeLemmas.{meta-there, node-known}
use Rattle.kr_names.proofs.moving.entry_to_move.Goals as goal

pub returns-in-Err-clause-row : goal.returns-in-Err-clause-row
returns-in-Err-clause-row g c = λ pid.
    old-refuses pid (meaning c.args.state.now) (entered_told c.args.old) (entered_told c.args.new) 0 c.args.found c.in-Err.errno (c.in-Err.ensures.row pid)

pub returns-in-Err-writable-clause-row : goal.returns-in-Err-writable-clause-row
returns-in-Err-writable-clause-row g c = λ pid.
    let s = meaning c.args.state.now in
    ap (move_entry (known image_layout pid s) (entered_told c.args.old) (entered_told c.args.new)) c.in-Node.is
    ∙ new-refuses pid s (entered_told c.args.old) (entered_told c.args.new) c.in-Node.ino c.in-Ok.dir (c.in-Ok.ensures.row pid) c.in-Err-writable.errno (c.in-Err-writable.ensures.row pid)

pub returns-clause-row : goal.returns-clause-row
returns-clause-row g c = λ pid.
    let s = meaning c.args.state.now in
    let x = meta-there c.args.state.now.tree c.in-Node.ino c.in-Some._meta c.in-Some.ensures in
    let t = c.in-Ok.ensures.row pid in
    let u = c.in-Ok-writable.ensures.row pid in
    let there = node-known pid s c.in-Node.ino x.0 x.1 in
    record {
      above = t.node;
      below = u.node;
      node = x.0.node;
      from = t.host;
      onto = u.host;
      object = c.in-Node.is;
      above_there = t.there;
      below_there = u.there;
      there = there;
      goes_on =
          ap (move_entry (known image_layout pid s) (entered_told c.args.old) (entered_told c.args.new)) c.in-Node.is
          ∙ entry-there pid s (entered_told c.args.old) (entered_told c.args.new) c.in-Node.ino c.in-Ok.dir t c.in-Ok-writable.to u x.0.node there;
    }
