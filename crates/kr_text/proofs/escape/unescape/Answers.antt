use Rattle.std.proofs.Common.{◌≡◌, sym, ap, ◌∙◌, arith, length, Some}
use Rattle.kr_text.proofs.EscapeLemmas.{all_read}
use Rattle.kr_text.proofs.escape.unescape.Goals as goal

pub returns : goal.returns
returns c =
    let none : length c.loop-rest.rest.now ≡ 0 = grind arith in
    ap Some c.from.ensures ∙ sym (all_read c.loop-rest.bytes.items c.loop-rest.rest.now none) ∙ c.loop-rest.invariant
