use Rattle.std.proofs.Common.{[], Some, ap, ◌∙◌}
use Rattle.std.proofs.lemmas.List.Elements.{All-nil}
use Rattle.pt_bind.specs.pr_base.Paths.{IsPart}
use Rattle.pt_bind.specs.Binding.{names_of}
use Rattle.kr_walk.specs.kr_view.View.{node_in}
use Rattle.kr_mounts.proofs.CutLemmas.{below_names}
use Rattle.kr_mounts.proofs.location.Locating.start.Goals as goal

pub returns-clause-spot : goal.returns-clause-spot
returns-clause-spot c =
    let none = ap names_of c.new.ensures ∙ below_names [] (All-nil IsPart) in
    λ i. record { text = none i; place = Some (node_in 0 c.args.self.now.root) }
