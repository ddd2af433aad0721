use Rattle.std.proofs.Common.{◌∙◌, sym}
use Rattle.rv_mem.proofs.MarkLemmas.{set-inside, set-outside, clear-inside, clear-outside}
use Rattle.rv_mem.proofs.marks.masked.Goals as goal

pub returns-then-value-clause-inside : goal.returns-then-value-clause-inside
returns-then-value-clause-inside c k small e = set-inside c.args.word c.args.mask k e ∙ sym c.if-value.true

pub returns-then-value-clause-outside : goal.returns-then-value-clause-outside
returns-then-value-clause-outside c k small e = set-outside c.args.word c.args.mask k e

pub returns-else-value-clause-inside : goal.returns-else-value-clause-inside
returns-else-value-clause-inside c k small e = clear-inside c.args.word c.args.mask k c.ranges.mask.fits small e ∙ sym c.if-value.false

pub returns-else-value-clause-outside : goal.returns-else-value-clause-outside
returns-else-value-clause-outside c k small e = clear-outside c.args.word c.args.mask k c.ranges.mask.fits small e
