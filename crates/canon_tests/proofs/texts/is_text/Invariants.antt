use Rattle.canon_tests.specs.Spelled.{IsBelowRoot}
use Rattle.canon_tests.proofs.texts.is_text.Given as goal

abbrev pub invariant-loop-part : goal.invariant-loop-part
invariant-loop-part l = IsBelowRoot l.whole
