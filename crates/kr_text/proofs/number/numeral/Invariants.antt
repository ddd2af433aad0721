use Rattle.std.proofs.Common.{◌≡◌, ◌≤◌, drop}
use Rattle.kr_text.proofs.NumberLemmas.{numeral_after}
use Rattle.kr_text.proofs.number.numeral.Given as goal

abbrev pub invariant-loop-byte : goal.invariant-loop-byte
invariant-loop-byte l = (numeral_after l.radix l.most l.value (drop l.byte-index l.text) ≡ numeral_after l.radix l.most 0 l.text) × (l.value ≤ l.most)
