use Rattle.std.proofs.Common.{◌≡◌, ◌∙◌, ◌+◌, ◌-◌, ◌%◌, ◌^◌, suc, sym, ap, arith}
use Rattle.pt_faker.proofs.StopLemmas.{only-then}
use Rattle.pt_faker.specs.Carrying.{on_its_memory}
use Rattle.pt_faker.specs.Faking.{behind_list}
use Rattle.pt_faker.proofs.AuxiliaryLemmas.{list-ends, list-goes, list-unended, list-unread, other-test, there-still, zero-test}
use Rattle.pt_faker.proofs.auxiliary.behind_list.Goals as goal

pub returns-in_default-clause-behind : goal.returns-in_default-clause-behind
returns-in_default-clause-behind g c = λ next.
    let u = g.T.Tracee.stopped c.loop-word.t in
    let left = c.args.most - c.loop-word._word - 1 in
    let some : c.args.most - c.loop-word._word ≡ suc left = omega (arith, c.loop-word-test.true) in
    list-unread left c.loop-word.next next u (g.T.Tracee.stopped c.read_word.new.t) c.in_default.ensures.read
    ∙ sym (ap (λ n. on_its_memory (behind_list n c.loop-word.next next) u) some)
    ∙ c.loop-word.invariant.goes next

pub returns-in_default-clause-edits : goal.returns-in_default-clause-edits
returns-in_default-clause-edits g c = only-then c.loop-word.invariant.edits c.in_default.ensures.edits

pub returns-then-word-eq0-clause-behind : goal.returns-then-word-eq0-clause-behind
returns-then-word-eq0-clause-behind g c = λ next.
    let u = g.T.Tracee.stopped c.loop-word.t in
    let left = c.args.most - c.loop-word._word - 1 in
    let some : c.args.most - c.loop-word._word ≡ suc left = omega (arith, c.loop-word-test.true) in
    list-ends left c.loop-word.next next u (g.T.Tracee.stopped c.read_word.new.t) c.in-Some.word c.in-Some.ensures.read (zero-test c.in-Some.word c.if-word-eq0.true)
    ∙ sym (ap (λ n. on_its_memory (behind_list n c.loop-word.next next) u) some)
    ∙ c.loop-word.invariant.goes next

pub returns-then-word-eq0-clause-edits : goal.returns-then-word-eq0-clause-edits
returns-then-word-eq0-clause-edits g c = only-then c.loop-word.invariant.edits c.in-Some.ensures.edits

pub loop-word-preserved : goal.loop-word-preserved
loop-word-preserved g c =
    let u = g.T.Tracee.stopped c.loop-word.t in
    let v = g.T.Tracee.stopped c.read_word.new.t in
    let left = c.args.most - c.loop-word._word - 1 in
    let some : c.args.most - c.loop-word._word ≡ suc left = omega (arith, c.loop-word-test.true) in
    let less : c.args.most - (c.loop-word._word + 1) ≡ left = omega arith in
    record {
      goes = λ next.
          ap (λ n. on_its_memory (behind_list n ((c.loop-word.next + 8) % 2 ^ 64) next) v) less
          ∙ list-goes left c.loop-word.next next u v c.in-Some.word c.in-Some.ensures.read (other-test c.in-Some.word c.if-word-eq0.false)
          ∙ sym (ap (λ n. on_its_memory (behind_list n c.loop-word.next next) u) some)
          ∙ c.loop-word.invariant.goes next;
      edits = only-then c.loop-word.invariant.edits c.in-Some.ensures.edits;
    }

pub returns-clause-behind : goal.returns-clause-behind
returns-clause-behind g c = λ next.
    let u = g.T.Tracee.stopped c.loop-word.t in
    let none : c.args.most - c.loop-word._word ≡ 0 = omega (arith, c.loop-word-test.false) in
    list-unended c.loop-word.next next u (there-still (g.T.Tracee.stopped c.args.t.now) u c.pid-pid.ensures.lives c.loop-word.invariant.edits.edits)
    ∙ sym (ap (λ n. on_its_memory (behind_list n c.loop-word.next next) u) none)
    ∙ c.loop-word.invariant.goes next
