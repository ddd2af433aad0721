use Rattle.std.proofs.Common.{subst, sym, arith}
use Rattle.rv_mem.specs.Code.{AreDecoded}
use Rattle.rv_mem.proofs.page.Page.write.Goals as goal

pub invariant_of-self : goal.invariant_of-self
invariant_of-self c = subst (AreDecoded c.self.inside.code.entries.items) (sym c.in_err-write.ensures.err) c.self.invariant

pub invariant_of-self-2 : goal.invariant_of-self-2
invariant_of-self-2 c =
    subst (AreDecoded c.forget.new.self.entries.items) (sym c.in_ok-write.ensures.ok) (c.forget.ensures c.self.inside.shared c.args.bytes.now (omega arith) c.self.invariant)
