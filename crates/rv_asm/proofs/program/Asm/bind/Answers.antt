use Rattle.rv_asm.proofs.Programs.{sound_bind}
use Rattle.rv_asm.proofs.program.Asm.bind.Goals as goal

pub invariant_of-self : goal.invariant_of-self
invariant_of-self c = sound_bind c.self.inside.items.items c.self.inside.places.items c.self.inside.size c.args.label c.self.invariant
