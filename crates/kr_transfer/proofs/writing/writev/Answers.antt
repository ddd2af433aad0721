use Rattle.std.proofs.Common.{lit<, refl, sym, ap, ◌∙◌, w32}
use Rattle.std.specs.Prelude.{not, if◌then◌else◌}
use Rattle.std.proofs.Math.Facts.{to_z-of_z}
use Rattle.kr_seen.specs.pr_base.declared.errno.Errno.TheVariants.{EBADF, EISDIR}
use Rattle.kr_seen.specs.kr_model.FileRows.{is_dir, write_pieces}
use Rattle.kr_seen.specs.kr_model.Known.{known}
use Rattle.kr_seen.specs.kr_model.Pieces.{with_list}
use Rattle.kr_seen.specs.kr_model.Reply.{refuse}
use Rattle.kr_seen.specs.kr_model.State as model
use Rattle.kr_seen.specs.kr_ops.Meaning.{meaning}
use Rattle.kr_transfer.specs.Channels.{channel_of}
use Rattle.kr_transfer.proofs.ChannelLemmas.{open-here}
use Rattle.kr_transfer.proofs.WrittenLemmas.{wrote-closed, wrote-open}
use Rattle.kr_transfer.proofs.writing.writev.Goals as goal

pub writev_open-requires : goal.writev_open-requires
writev_open-requires g c =
    let k = known model.image_layout c.args.pid (meaning c.args.state.now) in
    (lit< tt, (c.requires, open-here c.args.pid c.args.state.now c.args.fd c.in-Some.channel (ap (channel_of k) (sym (to_z-of_z {w = w32} {z = c.args.fd} c.ranges.fd)) ∙ sym c.in-Some.ensures)))

pub returns-in-Some-clause-writes : goal.returns-in-Some-clause-writes
returns-in-Some-clause-writes g c = λ some.
    let k = known model.image_layout c.args.pid (meaning c.args.state.now) in
    wrote-open c.args.pid c.args.state.now c.writev_open.new.state c.args.fd
    (λ k n o. if not o.write then refuse EBADF else if is_dir o.what then refuse EISDIR else with_list c.args.list c.args.count (write_pieces k n o)) c.writev_open.result c.in-Some.channel
    (ap (channel_of k) (sym (to_z-of_z {w = w32} {z = c.args.fd} c.ranges.fd)) ∙ sym c.in-Some.ensures) (c.writev_open.ensures.writes some)

pub returns-in-None-clause-writes : goal.returns-in-None-clause-writes
returns-in-None-clause-writes g c = λ some.
    let k = known model.image_layout c.args.pid (meaning c.args.state.now) in
    wrote-closed c.args.pid c.args.state.now c.args.state.now c.args.fd
    (λ k n o. if not o.write then refuse EBADF else if is_dir o.what then refuse EISDIR else with_list c.args.list c.args.count (write_pieces k n o)) c.refused.result c.requires.view.lawful.pids
    (ap (channel_of k) (sym (to_z-of_z {w = w32} {z = c.args.fd} c.ranges.fd)) ∙ sym c.in-None.ensures) c.refused.ensures refl
