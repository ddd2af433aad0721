use Rattle.std.proofs.Common.{◌≡◌, ◌+◌, ◌-◌, suc, refl, arith}
use Rattle.kr_exec.specs.Lists.{most_bytes}
use Rattle.pt_faker.proofs.StopLemmas.{only-then}
use Rattle.pt_faker.proofs.AuxiliaryLemmas.{there-still}
use Rattle.pt_faker.specs.Reading.{text_at}
use Rattle.pt_faker.proofs.ReadLemmas.{text-ends, text-fails, text-goes, text-is-long}
use Rattle.pt_faker.proofs.text.read_text.Goals as goal

pub returns-in-Err-clause-read : goal.returns-in-Err-clause-read
returns-in-Err-clause-read g c =
    let t = g.T.Tracee.stopped c.args.t.now in
    let u = g.T.Tracee.stopped c.loop-byte.t in
    let l = c.loop-byte in
    let n = most_bytes - l._byte - 1 in
    let some : most_bytes - l._byte ≡ suc n = omega (arith, c.loop-byte-test.true) in
    text-fails (text_at c.args.at) t u c.pid-pid.ensures.lives (there-still t u c.pid-pid.ensures.lives l.invariant.edits.edits) (most_bytes - l._byte) n l.next l.text l.invariant.left some (g.T.Tracee.stopped c.read_byte.new.t) c.in-Err.errno c.in-Err.ensures.read

pub returns-in-Err-clause-edits : goal.returns-in-Err-clause-edits
returns-in-Err-clause-edits g c = only-then c.loop-byte.invariant.edits c.in-Err.ensures.edits

pub returns-then-byte-eq0-clause-read : goal.returns-then-byte-eq0-clause-read
returns-then-byte-eq0-clause-read g c =
    let t = g.T.Tracee.stopped c.args.t.now in
    let u = g.T.Tracee.stopped c.loop-byte.t in
    let l = c.loop-byte in
    let n = most_bytes - l._byte - 1 in
    let some : most_bytes - l._byte ≡ suc n = omega (arith, c.loop-byte-test.true) in
    text-ends (text_at c.args.at) t u c.pid-pid.ensures.lives (there-still t u c.pid-pid.ensures.lives l.invariant.edits.edits) (most_bytes - l._byte) n l.next l.text l.invariant.left some (g.T.Tracee.stopped c.read_byte.new.t) c.in-Ok.byte c.if-byte-eq0.true c.in-Ok.ensures.read

pub returns-then-byte-eq0-clause-edits : goal.returns-then-byte-eq0-clause-edits
returns-then-byte-eq0-clause-edits g c = only-then c.loop-byte.invariant.edits c.in-Ok.ensures.edits

pub returns-in-Err-append-clause-edits : goal.returns-in-Err-append-clause-edits
returns-in-Err-append-clause-edits g c = only-then c.loop-byte.invariant.edits c.in-Ok.ensures.edits

pub loop-byte-preserved : goal.loop-byte-preserved
loop-byte-preserved g c =
    let t = g.T.Tracee.stopped c.args.t.now in
    let u = g.T.Tracee.stopped c.loop-byte.t in
    let l = c.loop-byte in
    let n = most_bytes - l._byte - 1 in
    let some : most_bytes - l._byte ≡ suc n = omega (arith, c.loop-byte-test.true) in
    let less : most_bytes - (l._byte + 1) ≡ n = omega arith in
    record {
      left =
          text-goes (text_at c.args.at) t u c.pid-pid.ensures.lives (there-still t u c.pid-pid.ensures.lives l.invariant.edits.edits) (most_bytes - l._byte) n l.next l.text l.invariant.left some
          (g.T.Tracee.stopped c.read_byte.new.t) c.in-Ok.byte _ (most_bytes - (l._byte + 1)) c.append.new.self c.if-byte-eq0.false c.in-Ok-append.ensures.ok refl less c.in-Ok.ensures.read;
      edits = only-then l.invariant.edits c.in-Ok.ensures.edits;
    }

pub returns-clause-read : goal.returns-clause-read
returns-clause-read g c =
    let t = g.T.Tracee.stopped c.args.t.now in
    let u = g.T.Tracee.stopped c.loop-byte.t in
    let l = c.loop-byte in
    let none : most_bytes - l._byte ≡ 0 = omega (arith, c.loop-byte-test.false) in
    text-is-long (text_at c.args.at) t u c.pid-pid.ensures.lives (there-still t u c.pid-pid.ensures.lives l.invariant.edits.edits) (most_bytes - l._byte) 0 l.next l.text l.invariant.left none
