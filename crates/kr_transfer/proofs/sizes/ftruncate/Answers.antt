use Rattle.std.proofs.Common.{lit<, refl, sym, ap, ◌∙◌, w32}
use Rattle.std.proofs.Math.Facts.{to_z-of_z}
use Rattle.kr_seen.specs.kr_model.FileRows.{cut_file}
use Rattle.kr_seen.specs.kr_model.Known.{known}
use Rattle.kr_seen.specs.kr_model.State as model
use Rattle.kr_seen.specs.kr_ops.Meaning.{meaning}
use Rattle.kr_transfer.specs.Channels.{channel_of}
use Rattle.kr_transfer.proofs.ChannelLemmas.{by-closed, by-open, open-here}
use Rattle.kr_transfer.proofs.sizes.ftruncate.Goals as goal

pub cut-requires : goal.cut-requires
cut-requires g c =
    let k = known model.image_layout c.args.pid (meaning c.args.state.now) in
    (lit< tt, (c.requires, open-here c.args.pid c.args.state.now c.args.fd c.in-Some.channel (ap (channel_of k) (sym (to_z-of_z {w = w32} {z = c.args.fd} c.ranges.fd)) ∙ sym c.in-Some.ensures)))

pub returns-in-Some-clause-performs : goal.returns-in-Some-clause-performs
returns-in-Some-clause-performs g c = λ some.
    let k = known model.image_layout c.args.pid (meaning c.args.state.now) in
    by-open c.args.pid c.args.state.now c.cut.new.state c.cut.result c.args.fd (λ k n o. cut_file k o c.args.len) c.in-Some.channel
    (ap (channel_of k) (sym (to_z-of_z {w = w32} {z = c.args.fd} c.ranges.fd)) ∙ sym c.in-Some.ensures) (c.cut.ensures.performs some)

pub returns-in-None-clause-performs : goal.returns-in-None-clause-performs
returns-in-None-clause-performs g c = λ some.
    let k = known model.image_layout c.args.pid (meaning c.args.state.now) in
    by-closed c.args.pid c.args.state.now c.args.state.now c.refused.result c.args.fd (λ k n o. cut_file k o c.args.len) c.requires.lawful.pids
    (ap (channel_of k) (sym (to_z-of_z {w = w32} {z = c.args.fd} c.ranges.fd)) ∙ sym c.in-None.ensures) c.refused.ensures refl
