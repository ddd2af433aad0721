use Rattle.std.proofs.Common.{◌≡◌, None, arith, subst}
use Rattle.rv_asm.specs.Program.{Program}
use Rattle.rv_asm.specs.Assembly.{first_fault, code_of, IsNear}
use Rattle.std.proofs.lemmas.Grind.{common_steps}
use Rattle.rv_asm.proofs.Programs.{length-code_from}
use Rattle.rv_asm.proofs.Near.{near_faultless}
use Rattle.rv_asm.proofs.program.Asm.finish.Goals as goal

abbrev NearIsFaultless : Program → Type 0
NearIsFaultless p = IsNear p → first_fault p ≡ None

pub returns-in-Some-clause-near : goal.returns-in-Some-clause-near
returns-in-Some-clause-near c =
    subst NearIsFaultless c.self.view_is (near_faultless (record { items = c.self.inside.items.items; places = c.self.inside.places.items }) c.self.inside.size c.self.invariant)

pub returns-in-Some-first_far-clause-near : goal.returns-in-Some-first_far-clause-near
returns-in-Some-first_far-clause-near c =
    subst NearIsFaultless c.self.view_is (near_faultless (record { items = c.self.inside.items.items; places = c.self.inside.places.items }) c.self.inside.size c.self.invariant)

pub returns-clause-size : goal.returns-clause-size
returns-clause-size c =
    let same : c.from.result ≡ code_of c.args.self = grind (arith, common_steps) in
    rw same (length-code_from c.args.self.places 0 c.args.self.items)
