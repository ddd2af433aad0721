use Rattle.std.proofs.Common.{◌≡◌, ℕ, refl, sym, ap, subst, ◌∙◌, w32}
use Rattle.std.proofs.Math.Facts.{to_z-of_z}
use Rattle.std.specs.Option.{option_map_or}
use Rattle.kr_seen.specs.pr_base.declared.errno.Errno.TheVariants.{ENOTDIR}
use Rattle.kr_seen.specs.kr_model.Asking.{or_badf}
use Rattle.kr_seen.specs.kr_model.DirectoryRows.{list_host, or_zero}
use Rattle.kr_seen.specs.kr_model.Known.{known}
use Rattle.kr_seen.specs.kr_model.Reply.{refuse}
use Rattle.kr_seen.specs.kr_model.State.{image_layout}
use Rattle.kr_seen.specs.kr_ops.Meaning.{meaning}
use Rattle.kr_seen.specs.PerformedRows.{IsPerformed}
use Rattle.kr_transfer.specs.Channels.{channel_of}
use Rattle.kr_transfer.proofs.ChannelLemmas.{by-closed, by-open}
use Rattle.kr_transfer.proofs.entries.getdents64.Goals as goal

pub returns-in-Some-clause-performs : goal.returns-in-Some-clause-performs
returns-in-Some-clause-performs g c = λ some.
    let s = c.args.state.now in
    let k = known image_layout c.args.pid (meaning s) in
    let size : c.or_zero.result ≡ or_zero c.args.n = c.or_zero.ensures ∙ ap or_zero (to_z-of_z {w = w32} {z = c.args.n} c.ranges.n) in
    subst (λ (size : ℕ). IsPerformed c.args.pid (λ k. or_badf k c.args.fd (λ number o. option_map_or (λ p. list_host k number o.at c.args.buf size p.host) o.place (refuse ENOTDIR))) s c.list_open.new.state c.list_open.result) size
    (by-open c.args.pid s c.list_open.new.state c.list_open.result c.args.fd (λ k number o. option_map_or (λ p. list_host k number o.at c.args.buf c.or_zero.result p.host) o.place (refuse ENOTDIR)) c.in-Some.channel
    (ap (channel_of k) (sym (to_z-of_z {w = w32} {z = c.args.fd} c.ranges.fd)) ∙ sym c.in-Some.ensures) (c.list_open.ensures.performs some))

pub returns-in-None-clause-performs : goal.returns-in-None-clause-performs
returns-in-None-clause-performs g c = λ some.
    let s = c.args.state.now in
    let k = known image_layout c.args.pid (meaning s) in
    by-closed c.args.pid s s c.refused.result c.args.fd (λ k number o. option_map_or (λ p. list_host k number o.at c.args.buf (or_zero c.args.n) p.host) o.place (refuse ENOTDIR)) c.requires.view.lawful.pids
    (ap (channel_of k) (sym (to_z-of_z {w = w32} {z = c.args.fd} c.ranges.fd)) ∙ sym c.in-None.ensures) c.refused.ensures refl
