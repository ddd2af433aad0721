use Rattle.std.proofs.Common.{◌+◌, ◌<◌, Some, arith, sym, ap, ◌∙◌}
use Rattle.kr_seen.specs.kr_model.Known.{known}
use Rattle.kr_seen.specs.kr_model.State.{image_layout}
use Rattle.kr_seen.specs.kr_ops.Meaning.{meaning}
use Rattle.kr_transfer.specs.Listing.{first_behind}
use Rattle.kr_transfer.proofs.ListingLemmas.{behind-self, next-process, none-left, same-living}
use Rattle.kr_transfer.proofs.listing.directory_entry.Goals as goal

pub returns-then-after-proc_serial-clause-entry : goal.returns-then-after-proc_serial-clause-entry
returns-then-after-proc_serial-clause-entry g c =
    let k = known image_layout c.args.pid (meaning c.args.state.now) in
    let items = c.args.state.now.living.items in
    let own = c.proc_serial.ensures in
    let test = c.if-after-proc_serial.true in
    let past = c.if-after-lt3.false in
    let behind : c.args.after < 8 + c.index.result.now.pid = omega arith in
    ap (λ e. Some e) c.in_ok-process_entry-2.ensures.entry
    ∙ sym (behind-self c.args.after k.living (omega arith) ∙ ap (first_behind c.args.after) (same-living c.args.after items) ∙ c.loop-k.invariant
    ∙ next-process c.args.after items c.loop-k.k c.index.result.now (omega arith) c.index.ensures behind)

pub returns-clause-entry : goal.returns-clause-entry
returns-clause-entry g c =
    let k = known image_layout c.args.pid (meaning c.args.state.now) in
    let items = c.args.state.now.living.items in
    let past = c.if-after-lt3.false in
    let end = c.loop-k-test.false in
    let count = c.len-k-end.ensures in
    sym (behind-self c.args.after k.living (omega arith) ∙ ap (first_behind c.args.after) (same-living c.args.after items) ∙ c.loop-k.invariant
    ∙ none-left c.args.after items c.loop-k.k (omega arith))
