use Rattle.std.proofs.Common.{arith}
use Rattle.kr_text.proofs.EscapeLemmas.{at_percent, at_plain, at_other}
use Rattle.kr_text.proofs.escape.first_byte.Goals as goal

pub returns-then-first-eq37-clause-value : goal.returns-then-first-eq37-clause-value
returns-then-first-eq37-clause-value c = rw (at_percent c.args.text.now c.in_ok-first.behind.now c.in_ok-first.first.now c.in_ok-first.ensures.cases.0 c.if-first-eq37.true) c.escaped_byte.ensures.value

pub returns-then-is_plain-clause-value : goal.returns-then-is_plain-clause-value
returns-then-is_plain-clause-value c = at_plain c.args.text.now c.in_ok-first.behind.now c.in_ok-first.first.now c.in_ok-first.ensures.cases.0 c.if-first-eq37.false (grind arith)

pub returns-else-is_plain-clause-value : goal.returns-else-is_plain-clause-value
returns-else-is_plain-clause-value c = at_other c.args.text.now c.in_ok-first.behind.now c.in_ok-first.first.now c.in_ok-first.ensures.cases.0 c.if-first-eq37.false (grind arith)
