use Rattle.std.proofs.Common.{◌∙◌, ◌+◌, ◌<◌, ◌≤◌, length, drop, get_or, sym, ap, arith, w64}
use Rattle.std.specs.Int.{to_le_bytes}
use Rattle.std.proofs.lemmas.List.{at_drop_all, at_drop_more}
use Rattle.kr_stops.specs.Editing.{after_poke}
use Rattle.pt_faker.proofs.StopLemmas.{only-then}
use Rattle.pt_faker.specs.Carrying.{on_its_memory}
use Rattle.pt_faker.specs.Faking.{put_values}
use Rattle.pt_faker.proofs.AuxiliaryLemmas.{there-still, value-put, value-refused, values-put}
use Rattle.pt_faker.proofs.auxiliary.put_values.Goals as goal

pub returns-then-not-can-clause-puts : goal.returns-then-not-can-clause-puts
returns-then-not-can-clause-puts g c =
    let u = g.T.Tracee.stopped c.loop-value.t in
    let k = c.loop-value.value-index in
    let values = c.args.values.now in
    let within : k < length values = omega (arith, c.loop-value-test.true) in
    value-refused u (there-still (g.T.Tracee.stopped c.args.t.now) u c.pid-pid.ensures.lives c.loop-value.invariant.edits.edits) c.loop-value.next (get_or values k 0) (drop (k + 1) values) (sym c.can.ensures ∙ c.if-not-can.true)
    ∙ sym (at_drop_more (λ vs. on_its_memory (put_values c.loop-value.next vs) u) values k 0 within)
    ∙ c.loop-value.invariant.puts

pub returns-in_err-write-clause-edits : goal.returns-in_err-write-clause-edits
returns-in_err-write-clause-edits g c = only-then c.loop-value.invariant.edits c.in_err-write.ensures.edits

pub loop-value-preserved : goal.loop-value-preserved
loop-value-preserved g c =
    let u = g.T.Tracee.stopped c.loop-value.t in
    let v = g.T.Tracee.stopped c.write.new.t in
    let k = c.loop-value.value-index in
    let values = c.args.values.now in
    let within : k < length values = omega (arith, c.loop-value-test.true) in
    record {
      puts =
          value-put u (there-still (g.T.Tracee.stopped c.args.t.now) u c.pid-pid.ensures.lives c.loop-value.invariant.edits.edits) c.loop-value.next (get_or values k 0) (drop (k + 1) values) v (sym c.can.ensures ∙ c.if-not-can.false)
          (c.in_ok-write.ensures.after ∙ ap (λ bs. after_poke c.loop-value.next bs u) (c.to_le_bytes.ensures ∙ ap (to_le_bytes w64) c.from.ensures))
          ∙ sym (at_drop_more (λ vs. on_its_memory (put_values c.loop-value.next vs) u) values k 0 within)
          ∙ c.loop-value.invariant.puts;
      edits = only-then c.loop-value.invariant.edits c.in_ok-write.ensures.edits;
    }

pub returns-clause-puts : goal.returns-clause-puts
returns-clause-puts g c =
    let u = g.T.Tracee.stopped c.loop-value.t in
    let past : length c.args.values.now ≤ c.loop-value.value-index = omega (arith, c.loop-value-test.false) in
    values-put u (there-still (g.T.Tracee.stopped c.args.t.now) u c.pid-pid.ensures.lives c.loop-value.invariant.edits.edits) c.loop-value.next
    ∙ sym (at_drop_all (λ vs. on_its_memory (put_values c.loop-value.next vs) u) c.args.values.now c.loop-value.value-index past)
    ∙ c.loop-value.invariant.puts
