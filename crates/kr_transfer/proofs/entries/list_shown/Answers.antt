use Rattle.std.proofs.Common.{◌≡◌, ◌<◌, ◌≤◌, Option, Some, length, arith, refl, sym, ap, ◌∙◌, [], ◌∷◌}
use Rattle.std.specs.Option.{option_map}
use Rattle.kr_seen.specs.pr_base.declared.errno.Errno.TheVariants.{EFAULT, EINVAL}
use Rattle.kr_seen.specs.rv_mem.Actions.{write_if_allowed}
use Rattle.kr_seen.specs.kr_calls.DirectoryEntries.{record_length}
use Rattle.kr_seen.specs.kr_model.Change.{Seek}
use Rattle.kr_seen.specs.kr_model.DirectoryRows.{behind, list_rest}
use Rattle.kr_seen.specs.kr_model.Known.{known}
use Rattle.kr_seen.specs.kr_model.Reply.{answers, done, refuse}
use Rattle.kr_seen.specs.kr_model.State.{image_layout}
use Rattle.kr_seen.specs.kr_ops.Meaning.{meaning}
use Rattle.kr_seen.proofs.PerformLemmas.{by-refusal, by-reply}
use Rattle.kr_transfer.specs.declared.listing.Listed.{Listed}
use Rattle.kr_transfer.specs.Listing.{all_shown, first_behind, told_entry}
use Rattle.kr_transfer.proofs.ChannelLemmas.{by-row}
use Rattle.kr_transfer.proofs.EntriesLemmas.{lists-nothing, lists-some, lists-too-long}
use Rattle.kr_transfer.proofs.RiseLemmas.{shown-rise}
use Rattle.kr_transfer.proofs.entries.list_shown.Goals as goal

pub returns-then-record_length-n-clause-performs : goal.returns-then-record_length-n-clause-performs
returns-then-record_length-n-clause-performs g c = λ some.
    let s = c.args.state.now in
    let channel = c.args.channel in
    let all = all_shown (known image_layout c.args.pid (meaning s)) c.args.host in
    let found : first_behind channel.at all ≡ Some (told_entry c.in-Ok-Some.entry) = sym c.in-Ok-Some.ensures.entry ∙ ap (λ (o : Option Listed). option_map told_entry o) c.in-Ok-Some.field-0-is in
    let own : c.record_length.result ≡ record_length c.in-Ok-Some.entry.name = c.record_length.ensures ∙ ap record_length c.as_slice.ensures in
    let past = c.if-record_length-n.true in
    let long : c.args.n < record_length c.in-Ok-Some.entry.name = omega arith in
    by-refusal c.args.pid _ s s c.refused.result c.requires.caller.view.lawful.pids EINVAL
    (lists-too-long channel.fd c.args.buf c.args.n channel.at all (shown-rise s c.requires.caller.view c.args.pid c.args.host) (told_entry c.in-Ok-Some.entry) found long) c.refused.ensures refl

pub returns-in-Ok-None-clause-performs : goal.returns-in-Ok-None-clause-performs
returns-in-Ok-None-clause-performs g c = λ some.
    let s = c.args.state.now in
    let channel = c.args.channel in
    let all = all_shown (known image_layout c.args.pid (meaning s)) c.args.host in
    by-reply c.args.pid _ s s c.number.result c.requires.caller.view.lawful.pids (answers 0 [])
    (lists-nothing channel.fd c.args.buf c.args.n channel.at all (sym c.in-Ok-None.ensures.entry ∙ ap (λ (o : Option Listed). option_map told_entry o) c.in-Ok-None.field-0-is)) c.number.ensures (λ mounts. refl)

pub returns-in-Ok-clause-performs : goal.returns-in-Ok-clause-performs
returns-in-Ok-clause-performs g c = λ some.
    let s = c.args.state.now in
    let channel = c.args.channel in
    let all = all_shown (known image_layout c.args.pid (meaning s)) c.args.host in
    let found : first_behind channel.at all ≡ Some (told_entry c.in-Ok-Some.entry) = sym c.in-Ok-Some.ensures.entry ∙ ap (λ (o : Option Listed). option_map told_entry o) c.in-Ok-Some.field-0-is in
    let own : c.record_length.result ≡ record_length c.in-Ok-Some.entry.name = c.record_length.ensures ∙ ap record_length c.as_slice.ensures in
    let past = c.if-record_length-n.false in
    let fits : record_length c.in-Ok-Some.entry.name ≤ c.args.n = omega arith in
    by-row c.args.pid s c.tell.new.state c.tell.result (λ k. list_rest channel.fd c.args.buf c.args.n (behind channel.at (all_shown k c.args.host)))
    (λ k. write_if_allowed c.args.buf c.in-Ok.all.bytes (refuse EFAULT) (done (length c.in-Ok.all.bytes) (Seek channel.fd c.in-Ok.all.last ∷ [])))
    (lists-some channel.fd c.args.buf c.args.n channel.at all (shown-rise s c.requires.caller.view c.args.pid c.args.host) (told_entry c.in-Ok-Some.entry) found fits c.in-Ok.all.bytes c.in-Ok.all.last c.in-Ok.ensures.bytes c.in-Ok.ensures.last)
    (c.tell.ensures.performs some)
