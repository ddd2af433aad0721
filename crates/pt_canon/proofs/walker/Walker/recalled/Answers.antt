use Rattle.std.proofs.Common.{◌∙◌, ap}
use Rattle.pt_canon.specs.Remembering.{Walking}
use Rattle.pt_canon.proofs.walker.Walker.recalled.Goals as goal

pub invariant_of-self : goal.invariant_of-self
invariant_of-self c = λ paused. absurd (paused (ap (λ (w : Walking). w.pauses) c.self.view_is ∙ c.requires))
