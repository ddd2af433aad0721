use Rattle.std.proofs.Common.{◌≡◌, ℕ, ◌+◌, arith, subst, sym}
use Rattle.std.specs.Prelude.{◌*◌, length}
use Rattle.rv_asm.proofs.Programs.{sound_all}
use Rattle.rv_asm.proofs.program.Asm.put_all.Goals as goal

pub invariant_of-self-2 : goal.invariant_of-self-2
invariant_of-self-2 c =
    rw (c.in_ok-append.ensures.items, c.in_ok-items.ensures)
    (sound_all c.self.inside.items.items c.self.inside.places.items c.self.inside.size c.args.instrs.now c.self.invariant c.requires (omega (arith, c.self.invariant.room)))
