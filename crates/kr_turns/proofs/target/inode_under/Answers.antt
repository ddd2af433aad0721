use Rattle.std.proofs.Common.{sym, ap, ◌∙◌, w32}
use Rattle.std.proofs.Math.Facts.{to_z-of_z}
use Rattle.kr_steps.specs.kr_model.Asking.{descriptor_number}
use Rattle.kr_hostview.specs.kr_ops.Meaning.{meaning}
use Rattle.kr_turns.proofs.TargetLemmas.{is-open, negative, not-open}
use Rattle.kr_turns.proofs.target.inode_under.Goals as goal

pub returns-in_default : goal.returns-in_default
returns-in_default g c =
    sym (negative c.args.pid (meaning c.args.state.now) c.args.fd (ap descriptor_number (sym (to_z-of_z {w = w32} {z = c.args.fd} c.ranges.fd)) ∙ sym c.in_default.ensures))

pub returns-in-None : goal.returns-in-None
returns-in-None g c =
    sym
    (not-open c.args.pid (meaning c.args.state.now) c.args.fd c.in-Some.number (ap descriptor_number (sym (to_z-of_z {w = w32} {z = c.args.fd} c.ranges.fd)) ∙ sym c.in-Some.ensures)
    (sym c.in-None.ensures))

pub returns-in-Some-opened : goal.returns-in-Some-opened
returns-in-Some-opened g c =
    c.inode_of_place.ensures c.args.pid
    ∙ sym
    (is-open c.args.pid (meaning c.args.state.now) c.args.fd c.in-Some.number (ap descriptor_number (sym (to_z-of_z {w = w32} {z = c.args.fd} c.ranges.fd)) ∙ sym c.in-Some.ensures)
    c.in-Some-opened.opened.now (sym c.in-Some-opened.ensures))
