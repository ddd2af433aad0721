use Rattle.std.proofs.Common.{sym, ap, ◌∙◌, w32}
use Rattle.std.proofs.Math.Facts.{to_z-of_z}
use Rattle.law_allowed.specs.kr_model.FileRows.{inode_of_open}
use Rattle.law_allowed.specs.kr_model.Known.{known}
use Rattle.law_allowed.specs.kr_model.State.{image_layout}
use Rattle.law_steady.specs.Ahead.{size_alters}
use Rattle.kr_rows.specs.kr_ops.Meaning.{meaning}
use Rattle.kr_transfer.specs.Channels.{channel_of, inode_under}
use Rattle.kr_transfer.specs.declared.channel.Channel.{Channel}
use Rattle.kr_transfer.proofs.ChannelLemmas.{inode-is}
use Rattle.kr_perform.proofs.ForetoldLemmas.{closed-tells, open-tells}
use Rattle.kr_perform.proofs.altering.open_size_alters.Goals as goal

pub returns-in-Some : goal.returns-in-Some
returns-in-Some g c =
    let k = known image_layout c.args.pid (meaning c.args.state.now) in
    let t = c.args.state.now.tree in
    let told = open-tells k c.args.fd (λ o. size_alters t c.args.size (inode_of_open o)) c.in-Some.channel (ap (channel_of k) (sym (to_z-of_z {w = w32} {z = c.args.fd} c.ranges.fd)) ∙ sym c.in-Some.ensures) in
    c.size_alters.ensures ∙ ap (size_alters t c.args.size) (c.inode_of.ensures ∙ ap (λ (d : Channel). inode_under d.host) told.1 ∙ inode-is told.0) ∙ told.2

pub returns-in-None : goal.returns-in-None
returns-in-None g c =
    let k = known image_layout c.args.pid (meaning c.args.state.now) in
    let t = c.args.state.now.tree in
    closed-tells k c.args.fd (λ o. size_alters t c.args.size (inode_of_open o)) (ap (channel_of k) (sym (to_z-of_z {w = w32} {z = c.args.fd} c.ranges.fd)) ∙ sym c.in-None.ensures)
