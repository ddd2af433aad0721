use Rattle.std.proofs.Common.{◌∷◌, ◌++◌, sym, ap, subst, ◌∙◌}
use Rattle.pt_bind.specs.pr_base.Paths.{Component, IsComponent, IsPart, slash}
use Rattle.pt_bind.specs.Binding.{names_of}
use Rattle.kr_mounts.specs.Locations.{stepped}
use Rattle.kr_mounts.proofs.CutLemmas.{below_parts, below_spelled, pushed_below, pushed_names}
use Rattle.kr_mounts.proofs.location.stepped.Goals as goal

pub returns-in-Dot-clause-names : goal.returns-in-Dot-clause-names
returns-in-Dot-clause-names c = ap (stepped (names_of c.args.text)) c.in-Dot.ensures

pub returns-in-DotDot-clause-names : goal.returns-in-DotDot-clause-names
returns-in-DotDot-clause-names c = c.without_last.ensures.names ∙ ap (stepped (names_of c.args.text)) c.in-DotDot.ensures

pub returns-in_ok-push_name-in-Name-clause-names : goal.returns-in_ok-push_name-in-Name-clause-names
returns-in_ok-push_name-in-Name-clause-names c =
    let name = c.in-Name.name.now in
    let is : IsPart name = let P : Component → Type 0 = IsComponent in subst P (sym c.in-Name.ensures) c.requires.part in
    let whole = c.in_ok-push_name-in-Name.ensures ∙ ap (λ t. t ++ slash ∷ name) (below_spelled c.args.text c.requires.below) in
    pushed_names name (names_of c.args.text) c.push_name.new.bytes is (below_parts c.args.text c.requires.below) whole ∙ ap (stepped (names_of c.args.text)) c.in-Name.ensures

pub returns-in_ok-push_name-in-Name-clause-below : goal.returns-in_ok-push_name-in-Name-clause-below
returns-in_ok-push_name-in-Name-clause-below c =
    let name = c.in-Name.name.now in
    let is : IsPart name = let P : Component → Type 0 = IsComponent in subst P (sym c.in-Name.ensures) c.requires.part in
    let whole = c.in_ok-push_name-in-Name.ensures ∙ ap (λ t. t ++ slash ∷ name) (below_spelled c.args.text c.requires.below) in
    pushed_below name (names_of c.args.text) c.push_name.new.bytes is (below_parts c.args.text c.requires.below) whole
