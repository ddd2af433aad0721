use Rattle.std.proofs.Common.{◌+◌, ◌<◌, Some, arith, sym, ap, ◌∙◌}
use Rattle.kr_seen.specs.kr_files.Descriptors.{Named}
use Rattle.kr_seen.specs.kr_model.State.{named}
use Rattle.kr_seen.specs.kr_ops.Meaning.{meaning}
use Rattle.kr_transfer.proofs.DescriptorLemmas.{first-open, none-open, some-flag}
use Rattle.kr_transfer.proofs.listing.descriptor_entry.Goals as goal

pub loop-fd-init : goal.loop-fd-init
loop-fd-init g c = λ q x there below. let from = c.min-from.ensures in let less = c.saturating_sub.ensures in omega arith

pub returns-in-loop-fd-clause-entry : goal.returns-in-loop-fd-clause-entry
returns-in-loop-fd-clause-entry g c =
    let s = meaning c.args.state.now in
    let there = some-flag (λ (x : Named). x.cloexec) (named c.args.of c.loop-fd.fd s) c.in-Some._flag c.in-Some.ensures in
    let from = c.min-from.ensures in
    let less = c.saturating_sub.ensures in
    let first = c.loop-fd.auto.fd in
    let within = c.loop-fd-test.true in
    let past : c.args.after < 3 + c.loop-fd.fd = omega arith in
    ap (λ e. Some e) c.in_ok-process_entry.ensures.entry ∙ sym (first-open s c.args.pid c.args.of c.args.after c.loop-fd.fd there.0 there.1 past c.loop-fd.invariant)

pub returns-clause-entry : goal.returns-clause-entry
returns-clause-entry g c =
    sym (none-open (meaning c.args.state.now) c.args.pid c.args.of c.args.after (λ q x there.
    let end = c.loop-fd-test.false in
    let small = (c.requires.descriptors c.args.of q x there).0 in
    let below : q < c.loop-fd.fd = omega arith in
    c.loop-fd.invariant q x there below))
