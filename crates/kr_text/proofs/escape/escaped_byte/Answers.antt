use Rattle.std.proofs.Common.{sym, arith}
use Rattle.kr_text.proofs.EscapeLemmas.{two_digits, no_byte}
use Rattle.kr_text.proofs.escape.escaped_byte.Goals as goal

pub returns-in-None-clause-value : goal.returns-in-None-clause-value
returns-in-None-clause-value c = no_byte _ _ _ _ _ c.in_ok-high.ensures.cases.0 c.in_ok-low.ensures.cases.0 (sym c.in-None.ensures)

pub returns-in-Some-clause-value : goal.returns-in-Some-clause-value
returns-in-Some-clause-value c = two_digits _ _ _ _ _ _ c.in_ok-high.ensures.cases.0 c.in_ok-low.ensures.cases.0 (sym c.in-Some.ensures)

pub returns-in-Some-clause-shorter : goal.returns-in-Some-clause-shorter
returns-in-Some-clause-shorter c = omega (arith, c.in_ok-high.ensures.cases.1, c.in_ok-low.ensures.cases.1)
