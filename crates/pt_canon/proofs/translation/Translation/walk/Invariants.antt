use Rattle.std.proofs.Common.{◌≡◌}
use Rattle.pt_bind.specs.pr_base.Paths.{components_of}
use Rattle.pt_bind.specs.Binding.{names_of}
use Rattle.pt_canon.specs.Looks.{texts_in}
use Rattle.pt_canon.specs.Steadily.{behind_looks}
use Rattle.pt_canon.specs.Steps.{ended, left_on}
use Rattle.pt_canon.specs.TextWalk.{text_walk}
use Rattle.pt_canon.proofs.translation.Translation.walk.Given as goal

abbrev pub invariant-links : goal.invariant-links
invariant-links g l =
    let texts = texts_in l.self (g.K.Peeks.peeked l.fn.kernel) in
    record {
      ends : (ended texts l.mode l.onward.steady (left_on texts l.mode l.left l.onward.at (components_of l.onward.path) l.onward.slash)).ends ≡ (ended texts l.mode l.fn.asks (text_walk texts l.mode (names_of l.fn.base) l.fn.path)).ends;
      noted : behind_looks texts (g.K.Peeks.unmet l.kernel) (left_on texts l.mode l.left l.onward.at (components_of l.onward.path) l.onward.slash).looks ≡ behind_looks texts (g.K.Peeks.unmet l.fn.kernel) (text_walk texts l.mode (names_of l.fn.base) l.fn.path).looks;
      same : g.K.Peeks.peeked l.kernel ≡ g.K.Peeks.peeked l.fn.kernel;
      rest : g.K.Peeks.kept l.kernel ≡ g.K.Peeks.kept l.fn.kernel;
    }

abbrev pub decreases-links : goal.decreases-links
decreases-links g l = l.left
