use Rattle.std.proofs.Common.{◌≡◌, ◌+◌, ◌-◌, ◌∙◌, [], suc, ap, length, refl, arith}
use Rattle.pt_ident.specs.kr_calls.Expansion.{bytes_with_ends}
use Rattle.kr_exec.specs.Lists.{most_texts}
use Rattle.std.proofs.SliceLists.{length_more}
use Rattle.kr_exec.proofs.ListLemmas.{bytes_more}
use Rattle.pt_faker.proofs.StopLemmas.{only-then}
use Rattle.pt_faker.proofs.AuxiliaryLemmas.{there-still}
use Rattle.pt_faker.specs.Reading.{texts_from, texts_read}
use Rattle.pt_faker.proofs.ReadLemmas.{list-breaks, list-fails, list-goes, list-reads, list-stops}
use Rattle.pt_faker.proofs.lists.read_texts.Goals as goal

pub returns-in-Err-clause-read : goal.returns-in-Err-clause-read
returns-in-Err-clause-read g c =
    let t = g.T.Tracee.stopped c.args.t.now in
    let l = c.loop-text in
    let u = g.T.Tracee.stopped l.t in
    let n = most_texts - l._text - 1 in
    let some : most_texts - l._text ≡ suc n = omega (arith, c.loop-text-test.true) in
    list-fails (texts_from most_texts c.args.at c.args.room []) t u c.pid-pid.ensures.lives (there-still t u c.pid-pid.ensures.lives l.invariant.edits.edits) (most_texts - l._text) n l.next l.room l.texts l.invariant.left some
    (g.T.Tracee.stopped c.read_address.new.t) c.in-Err.errno c.in-Err.ensures.read

pub returns-in-Err-clause-edits : goal.returns-in-Err-clause-edits
returns-in-Err-clause-edits g c = only-then c.loop-text.invariant.edits c.in-Err.ensures.edits

pub returns-then-address-eq0-clause-read : goal.returns-then-address-eq0-clause-read
returns-then-address-eq0-clause-read g c =
    let t = g.T.Tracee.stopped c.args.t.now in
    let l = c.loop-text in
    let u = g.T.Tracee.stopped l.t in
    let n = most_texts - l._text - 1 in
    let some : most_texts - l._text ≡ suc n = omega (arith, c.loop-text-test.true) in
    list-stops (texts_from most_texts c.args.at c.args.room []) t u c.pid-pid.ensures.lives (there-still t u c.pid-pid.ensures.lives l.invariant.edits.edits) (most_texts - l._text) n l.next l.room l.texts l.invariant.left some
    (g.T.Tracee.stopped c.read_address.new.t) c.in-Ok.address c.if-address-eq0.true c.in-Ok.ensures.read

pub returns-then-address-eq0-clause-edits : goal.returns-then-address-eq0-clause-edits
returns-then-address-eq0-clause-edits g c = only-then c.loop-text.invariant.edits c.in-Ok.ensures.edits

pub returns-in-Err-read_text_within-clause-read : goal.returns-in-Err-read_text_within-clause-read
returns-in-Err-read_text_within-clause-read g c =
    let t = g.T.Tracee.stopped c.args.t.now in
    let l = c.loop-text in
    let u = g.T.Tracee.stopped l.t in
    let v = g.T.Tracee.stopped c.read_address.new.t in
    let n = most_texts - l._text - 1 in
    let some : most_texts - l._text ≡ suc n = omega (arith, c.loop-text-test.true) in
    let still = there-still t u c.pid-pid.ensures.lives l.invariant.edits.edits in
    list-breaks (texts_from most_texts c.args.at c.args.room []) t u c.pid-pid.ensures.lives still (most_texts - l._text) n l.next l.room l.texts l.invariant.left some v (there-still u v still c.in-Ok.ensures.edits.edits)
    c.in-Ok.address c.if-address-eq0.false c.in-Ok.ensures.read (g.T.Tracee.stopped c.read_text_within.new.t) c.in-Err-read_text_within.fault c.in-Err-read_text_within.ensures.read

pub returns-in-Err-read_text_within-clause-edits : goal.returns-in-Err-read_text_within-clause-edits
returns-in-Err-read_text_within-clause-edits g c =
    only-then (only-then c.loop-text.invariant.edits c.in-Ok.ensures.edits) c.in-Err-read_text_within.ensures.edits

pub returns-in-Err-push-clause-edits : goal.returns-in-Err-push-clause-edits
returns-in-Err-push-clause-edits g c =
    only-then (only-then c.loop-text.invariant.edits c.in-Ok.ensures.edits) c.in-Ok-read_text_within.ensures.edits

pub loop-text-preserved : goal.loop-text-preserved
loop-text-preserved g c =
    let t = g.T.Tracee.stopped c.args.t.now in
    let l = c.loop-text in
    let u = g.T.Tracee.stopped l.t in
    let v = g.T.Tracee.stopped c.read_address.new.t in
    let n = most_texts - l._text - 1 in
    let some : most_texts - l._text ≡ suc n = omega (arith, c.loop-text-test.true) in
    let less : most_texts - (l._text + 1) ≡ n = omega arith in
    let still = there-still t u c.pid-pid.ensures.lives l.invariant.edits.edits in
    let more : bytes_with_ends c.push.new.self ≡ bytes_with_ends l.texts + (length c.in-Ok-read_text_within.text + 1) = ap bytes_with_ends c.in-Ok-push.ensures.ok ∙ bytes_more l.texts c.in-Ok-read_text_within.text in
    let long : length c.push.new.self ≡ length l.texts + 1 = ap length c.in-Ok-push.ensures.ok ∙ length_more l.texts c.in-Ok-read_text_within.text in
    let within = c.in-Ok-read_text_within.ensures.within in
    record {
      left =
          list-goes (texts_from most_texts c.args.at c.args.room []) t u c.pid-pid.ensures.lives still (most_texts - l._text) n l.next l.room l.texts l.invariant.left some v (there-still u v still c.in-Ok.ensures.edits.edits)
          c.in-Ok.address c.if-address-eq0.false c.in-Ok.ensures.read (g.T.Tracee.stopped c.read_text_within.new.t) c.in-Ok-read_text_within.text _ (most_texts - (l._text + 1)) _ c.len.result c.push.new.self c.in-Ok-push.ensures.ok refl less c.len.ensures refl
          c.in-Ok-read_text_within.ensures.read;
      room = omega (arith, more, c.len.ensures, within, l.invariant.room);
      count = long ∙ ap (λ k. k + 1) l.invariant.count;
      edits = only-then (only-then l.invariant.edits c.in-Ok.ensures.edits) c.in-Ok-read_text_within.ensures.edits;
    }

pub returns-clause-read : goal.returns-clause-read
returns-clause-read g c =
    let t = g.T.Tracee.stopped c.args.t.now in
    let l = c.loop-text in
    let u = g.T.Tracee.stopped l.t in
    let none : most_texts - l._text ≡ 0 = omega (arith, c.loop-text-test.false) in
    list-reads (texts_from most_texts c.args.at c.args.room []) t u (g.T.Tracee.stopped c.end_of.new.t) c.pid-pid.ensures.lives (there-still t u c.pid-pid.ensures.lives l.invariant.edits.edits) (most_texts - l._text) l.next l.room l.texts l.invariant.left none
    (texts_read c.end_of.result) c.end_of.ensures.read

pub returns-clause-edits : goal.returns-clause-edits
returns-clause-edits g c = only-then c.loop-text.invariant.edits c.end_of.ensures.edits
