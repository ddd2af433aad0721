use Rattle.std.proofs.Common.{◌∙◌, sym, ap, is_some, not}
use Rattle.kr_files.proofs.DescriptorLemmas.{first_free-taken, first_free-found, first_free-end}
use Rattle.kr_files.proofs.descs.Descs.lowest_free.Goals as goal

pub returns-then-is_none-clause-free : goal.returns-then-is_none-clause-free
returns-then-is_none-clause-free c =
    sym (c.loop-fd.invariant ∙ first_free-found c.args.self.now c.loop-fd.fd (ap is_some (sym c.get.ensures) ∙ c.is_none.ensures ∙ ap not c.if-is_none.true) c.loop-fd-test.true)

pub loop-fd-preserved : goal.loop-fd-preserved
loop-fd-preserved c = c.loop-fd.invariant ∙ first_free-taken c.args.self.now c.loop-fd.fd (ap is_some (sym c.get.ensures) ∙ c.is_none.ensures ∙ ap not c.if-is_none.false) c.loop-fd-test.true

pub returns-clause-free : goal.returns-clause-free
returns-clause-free c = sym (c.loop-fd.invariant ∙ first_free-end c.args.self.now c.loop-fd.fd (c.loop-fd-test.false))
