use Rattle.std.proofs.Common.{◌≡◌, ◌∷◌, length, map}
use Rattle.std.specs.List.{All}
use Rattle.pt_bind.specs.pr_base.Parts.{parts_left}
use Rattle.pt_bind.specs.pr_base.Paths.{component_of, components_of, IsComponent}
use Rattle.pt_canon.specs.Looks.{texts_in, IsKnown}
use Rattle.pt_canon.specs.Steadily.{IsSure, WasAsked}
use Rattle.pt_canon.specs.Steps.{left_on, told}
use Rattle.pt_canon.proofs.translation.Translation.along.Given as goal

abbrev pub invariant-parts : goal.invariant-parts
invariant-parts g l =
    let texts = texts_in l.self (g.K.Peeks.peeked l.fn.kernel) in
    record {
      ends : told texts l.mode l.steady (g.K.Peeks.unmet l.kernel) (left_on texts l.mode l.left l.at (map component_of (l.part ∷ parts_left l.parts)) l.slash) ≡ told texts l.mode l.fn.onward.steady (g.K.Peeks.unmet l.fn.kernel) (left_on texts l.mode l.left l.fn.onward.at (components_of l.fn.onward.path) l.fn.onward.slash);
      known : IsKnown texts l.at l.known;
      asked : WasAsked texts l.at l.known l.steady;
      unmet : WasAsked texts l.at l.known (g.K.Peeks.unmet l.kernel);
      fine : All IsComponent (map component_of (l.part ∷ parts_left l.parts));
      sure : IsSure (g.K.Peeks.peeked l.fn.kernel) l.sure-inside.host;
      same : g.K.Peeks.peeked l.kernel ≡ g.K.Peeks.peeked l.fn.kernel;
      rest : g.K.Peeks.kept l.kernel ≡ g.K.Peeks.kept l.fn.kernel;
    }

abbrev pub decreases-parts : goal.decreases-parts
decreases-parts g l = length (parts_left l.parts)
