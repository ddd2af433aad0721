use Rattle.std.proofs.Common.{◌≡◌, ◌<◌, ◌≤◌, Option, Some, arith, sym, ap, ◌∙◌}
use Rattle.std.specs.Option.{option_map}
use Rattle.kr_seen.specs.kr_calls.DirectoryEntries.{record_length}
use Rattle.kr_seen.specs.kr_model.Known.{known}
use Rattle.kr_seen.specs.kr_model.State.{image_layout}
use Rattle.kr_seen.specs.kr_ops.Meaning.{meaning}
use Rattle.kr_transfer.specs.declared.listing.Listed.{Listed}
use Rattle.kr_transfer.specs.Listing.{all_shown, first_behind, told_entry}
use Rattle.kr_transfer.proofs.EntriesLemmas.{next-fits, next-is-too-long, none-fits}
use Rattle.kr_transfer.proofs.RiseLemmas.{shown-rise}
use Rattle.kr_transfer.proofs.entries.next_fitting.Goals as goal

pub returns-in_default-clause-entry : goal.returns-in_default-clause-entry
returns-in_default-clause-entry g c =
    let all = all_shown (known image_layout c.args.pid (meaning c.args.state.now)) c.args.host in
    none-fits c.args.after c.args.left all (sym c.in_ok-entry.ensures.entry ∙ ap (λ (o : Option Listed). option_map told_entry o) c.in_default.is)

pub returns-then-record_length-left-clause-entry : goal.returns-then-record_length-left-clause-entry
returns-then-record_length-left-clause-entry g c =
    let all = all_shown (known image_layout c.args.pid (meaning c.args.state.now)) c.args.host in
    let found : first_behind c.args.after all ≡ Some (told_entry c.in-Some.entry) = sym c.in_ok-entry.ensures.entry ∙ ap (λ (o : Option Listed). option_map told_entry o) c.in-Some.is in
    let own : c.record_length.result ≡ record_length c.in-Some.entry.name = c.record_length.ensures ∙ ap record_length c.as_slice.ensures in
    let past = c.if-record_length-left.true in
    let long : c.args.left < record_length c.in-Some.entry.name = omega arith in
    next-is-too-long c.args.after c.args.left all (shown-rise c.args.state.now c.requires.view c.args.pid c.args.host) (told_entry c.in-Some.entry) found long

pub returns-clause-entry : goal.returns-clause-entry
returns-clause-entry g c =
    let all = all_shown (known image_layout c.args.pid (meaning c.args.state.now)) c.args.host in
    let found : first_behind c.args.after all ≡ Some (told_entry c.in-Some.entry) = sym c.in_ok-entry.ensures.entry ∙ ap (λ (o : Option Listed). option_map told_entry o) c.in-Some.is in
    let own : c.record_length.result ≡ record_length c.in-Some.entry.name = c.record_length.ensures ∙ ap record_length c.as_slice.ensures in
    let past = c.if-record_length-left.false in
    let fits : record_length c.in-Some.entry.name ≤ c.args.left = omega arith in
    (fits, next-fits c.args.after c.args.left all (shown-rise c.args.state.now c.requires.view c.args.pid c.args.host) (told_entry c.in-Some.entry) found fits)
