use Rattle.std.proofs.Common.{sym, None, arith}
use Rattle.kr_files.proofs.DescriptorLemmas.{found_in}
use Rattle.kr_files.proofs.descs.Descs.get.Goals as goal

pub returns-in-Some : goal.returns-in-Some
returns-in-Some c =
    found_in c.self.inside.list.items c.args.self.now c.args.fd c.in-Some.slot.now c.self.view_is
    (rw c.deref.ensures.value at (sym (c.in-Some.ensures.lookup.4 (omega arith) None)))

pub returns-in-None : goal.returns-in-None
returns-in-None c =
    found_in c.self.inside.list.items c.args.self.now c.args.fd None c.self.view_is
    (rw c.deref.ensures.value at (sym (c.in-None.ensures.lookup.4 (omega arith) None)))
