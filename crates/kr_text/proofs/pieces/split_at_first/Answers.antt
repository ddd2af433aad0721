use Rattle.std.proofs.Common.{◌≢◌, ◌+◌, ◌≤◌, length, All, arith, add-one, subst}
use Rattle.std.proofs.lemmas.List.{take_rest}
use Rattle.std.proofs.Math.Seq.{take_all}
use Rattle.kr_text.proofs.PieceLemmas.{split_here, split_nowhere}
use Rattle.kr_text.proofs.pieces.split_at_first.Goals as goal

pub returns-then-byte-separator : goal.returns-then-byte-separator
returns-then-byte-separator c =
    rw (take_rest c.args.bytes.now (c.loop-at.at + 1))
    (rw add-one (split_here c.args.separator c.args.bytes.now c.loop-at.at c.loop-at-test.true c.loop-at.invariant c.if-byte-separator.true))

pub returns : goal.returns
returns c =
    let all : length c.args.bytes.now ≤ c.loop-at.at = omega (arith, c.loop-at-test.false) in
    split_nowhere c.args.separator c.args.bytes.now (subst (λ l. All (λ b. b ≢ c.args.separator) l) (take_all c.loop-at.at c.args.bytes.now all) c.loop-at.invariant)
