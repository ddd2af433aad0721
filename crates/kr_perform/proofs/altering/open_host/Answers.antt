use Rattle.std.proofs.Common.{sym, ap, ◌∙◌, w32}
use Rattle.std.proofs.Math.Facts.{to_z-of_z}
use Rattle.law_allowed.specs.kr_model.Known.{known}
use Rattle.law_allowed.specs.kr_model.State.{image_layout}
use Rattle.law_steady.specs.Ahead.{of_place}
use Rattle.kr_rows.specs.kr_ops.Meaning.{meaning}
use Rattle.kr_transfer.specs.Channels.{channel_of}
use Rattle.kr_perform.proofs.ForetoldLemmas.{closed-tells, host-tells}
use Rattle.kr_perform.proofs.altering.open_host.Goals as goal

pub returns-in-Some : goal.returns-in-Some
returns-in-Some g c = λ test.
    let k = known image_layout c.args.pid (meaning c.args.state.now) in
    host-tells k c.args.fd c.in-Some.channel (ap (channel_of k) (sym (to_z-of_z {w = w32} {z = c.args.fd} c.ranges.fd)) ∙ sym c.in-Some.ensures) test

pub returns-in-None : goal.returns-in-None
returns-in-None g c = λ test.
    let k = known image_layout c.args.pid (meaning c.args.state.now) in
    closed-tells k c.args.fd (of_place test) (ap (channel_of k) (sym (to_z-of_z {w = w32} {z = c.args.fd} c.ranges.fd)) ∙ sym c.in-None.ensures)
