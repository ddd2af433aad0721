use Rattle.std.proofs.Common.{◌<◌, ◌+◌, ◌*◌, get_or, sym, ◌∙◌, arith}
use Rattle.std.specs.Char.{digit_value}
use Rattle.kr_text.proofs.NumberLemmas.{past_at, numeral_some}
use Rattle.kr_text.proofs.number.numeral.Goals as goal

pub returns-then-from-value-clause-value : goal.returns-then-from-value-clause-value
returns-then-from-value-clause-value c =
    let digit : digit_value (get_or c.args.text.now c.loop-byte.byte-index 0) < c.args.radix = grind arith in
    let past : c.args.most < c.loop-byte.value * c.args.radix + digit_value (get_or c.args.text.now c.loop-byte.byte-index 0) = grind arith in
    sym (numeral_some c.args.radix c.args.most c.args.text.now (grind arith) ∙ sym c.loop-byte.invariant.0 ∙ past_at c.args.radix c.args.most c.loop-byte.value c.loop-byte.byte-index c.args.text.now c.loop-byte-test.true digit (omega (arith, c.requires.low)) past)
