use Rattle.std.proofs.Common.{refl}
use Rattle.std.specs.Option.{option_map_or}
use Rattle.kr_seen.specs.pr_base.declared.errno.Errno.TheVariants.{ENOTDIR}
use Rattle.kr_seen.specs.kr_model.DirectoryRows.{list_host}
use Rattle.kr_seen.specs.kr_model.Known.{known}
use Rattle.kr_seen.specs.kr_model.Reply.{refuse}
use Rattle.kr_seen.specs.kr_model.State.{image_layout}
use Rattle.kr_seen.specs.kr_ops.Meaning.{meaning}
use Rattle.kr_seen.proofs.PerformLemmas.{by-refusal}
use Rattle.kr_transfer.proofs.ChannelLemmas.{by-row}
use Rattle.kr_transfer.proofs.EntriesLemmas.{lists-nowhere, lists-open}
use Rattle.kr_transfer.proofs.entries.list_open.Goals as goal

pub returns-in-Some-clause-performs : goal.returns-in-Some-clause-performs
returns-in-Some-clause-performs g c = λ some o h.
    let s = c.args.state.now in
    let channel = c.args.channel in
    by-row c.args.pid s c.list_host.new.state c.list_host.result (λ k. option_map_or (λ p. list_host k channel.fd o.at c.args.buf c.args.n p.host) o.place (refuse ENOTDIR))
    (λ k. list_host k channel.fd channel.at c.args.buf c.args.n c.in-Some.host)
    (lists-open (known image_layout c.args.pid (meaning s)) channel o h c.args.buf c.args.n c.in-Some.host c.in-Some.is) (c.list_host.ensures.performs some)

pub returns-in-None-clause-performs : goal.returns-in-None-clause-performs
returns-in-None-clause-performs g c = λ some o h.
    let s = c.args.state.now in
    by-refusal c.args.pid _ s s c.refused.result c.requires.view.lawful.pids ENOTDIR
    (lists-nowhere (known image_layout c.args.pid (meaning s)) c.args.channel o h c.args.buf c.args.n c.in-None.is) c.refused.ensures refl
