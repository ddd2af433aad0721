use Rattle.std.proofs.Common.{◌≡◌, ap, arith}
use Rattle.pt_canon.specs.Remembering.{Walking}
use Rattle.pt_canon.proofs.walker.Walker.pause.Goals as goal

pub overflow_add-self : goal.overflow_add-self
overflow_add-self c = let same : c.self.inside.pauses ≡ c.args.self.now.pauses = ap (λ (w : Walking). w.pauses) c.self.view_is in omega (arith, same, c.requires)
