use Rattle.std.proofs.Common.{◌≡◌, ℕ, length, arith, ap, sym, subst}
use Rattle.rv_asm.specs.Program.{Program, IsProper}
use Rattle.rv_asm.proofs.Programs.{sound_push}
use Rattle.rv_asm.proofs.program.Asm.add.Goals as goal

pub invariant_of-self-2 : goal.invariant_of-self-2
invariant_of-self-2 c =
    let labels : length c.self.inside.places.items ≡ length c.args.self.now.places = ap (λ (p : Program). length p.places) c.self.view_is in
    let P : ℕ → Type 0 = λ (n : ℕ). IsProper n c.args.item in
    rw (c.in_ok-push.ensures.items, c.size-size.ensures)
    (sound_push c.self.inside.items.items c.self.inside.places.items c.self.inside.size c.args.item c.self.invariant (subst P (sym labels) c.requires) (omega (arith, c.size-size.ensures, c.self.invariant.room)))
