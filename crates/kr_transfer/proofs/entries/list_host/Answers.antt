use Rattle.std.proofs.Common.{refl, sym}
use Rattle.kr_seen.specs.pr_base.declared.errno.Errno.TheVariants.{ENOENT, ENOTDIR}
use Rattle.kr_seen.specs.kr_model.DirectoryRows.{behind, list_host, list_rest}
use Rattle.kr_seen.specs.kr_model.Known.{known}
use Rattle.kr_seen.specs.kr_model.State.{image_layout}
use Rattle.kr_seen.specs.kr_ops.Meaning.{meaning}
use Rattle.kr_seen.proofs.PerformLemmas.{by-refusal}
use Rattle.kr_transfer.specs.Listing.{all_shown}
use Rattle.kr_transfer.proofs.ChannelLemmas.{by-row}
use Rattle.kr_transfer.proofs.EntriesLemmas.{lists-elsewhere, lists-host, lists-removed}
use Rattle.kr_transfer.proofs.entries.list_host.Goals as goal

pub returns-then-not-is_directory_host-clause-performs : goal.returns-then-not-is_directory_host-clause-performs
returns-then-not-is_directory_host-clause-performs g c = λ some.
    let s = c.args.state.now in
    by-refusal c.args.pid _ s s c.refused.result c.requires.view.lawful.pids ENOTDIR
    (lists-elsewhere (known image_layout c.args.pid (meaning s)) c.args.channel.fd c.args.channel.at c.args.buf c.args.n c.args.host (sym c.if-not-is_directory_host.ensures)) c.refused.ensures refl

pub returns-then-not-is_shown-clause-performs : goal.returns-then-not-is_shown-clause-performs
returns-then-not-is_shown-clause-performs g c = λ some.
    let s = c.args.state.now in
    let k = known image_layout c.args.pid (meaning s) in
    by-refusal c.args.pid _ s s c.refused-then-not-is_shown.result c.requires.view.lawful.pids ENOENT
    (lists-removed k c.args.channel.fd c.args.channel.at c.args.buf c.args.n c.args.host (sym c.if-not-is_directory_host.ensures) (sym c.if-not-is_shown.ensures)) c.refused-then-not-is_shown.ensures refl

pub returns-clause-performs : goal.returns-clause-performs
returns-clause-performs g c = λ some.
    let s = c.args.state.now in
    let k = known image_layout c.args.pid (meaning s) in
    let channel = c.args.channel in
    by-row c.args.pid s c.list_shown.new.state c.list_shown.result (λ k. list_host k channel.fd channel.at c.args.buf c.args.n c.args.host)
    (λ k. list_rest channel.fd c.args.buf c.args.n (behind channel.at (all_shown k c.args.host)))
    (lists-host k channel.fd channel.at c.args.buf c.args.n c.args.host (sym c.if-not-is_directory_host.ensures) (sym c.if-not-is_shown.ensures)) (c.list_shown.ensures.performs some)
