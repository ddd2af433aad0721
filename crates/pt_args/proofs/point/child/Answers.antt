use Rattle.std.proofs.Common.{◌∙◌, ◌++◌, ◌∷◌, [], ap}
use Rattle.pt_canon.specs.pr_base.Paths.{slash}
use Rattle.pt_args.proofs.PartedLemmas.{child_made}
use Rattle.pt_args.proofs.point.child.Goals as goal

pub returns-clause-written : goal.returns-clause-written
returns-clause-written c =
    let made = c.in_ok-append-2.ensures.ok ∙ ap (λ b. b ++ c.args.name.now) (c.in_ok-append.ensures.ok ∙ ap (λ b. b ++ slash ∷ []) c.below_root-path.ensures) in
    (child_made c.args.text c.args.name.now c.append-2.new.self c.requires.text c.requires.name made).0

pub returns-clause-names : goal.returns-clause-names
returns-clause-names c =
    let made = c.in_ok-append-2.ensures.ok ∙ ap (λ b. b ++ c.args.name.now) (c.in_ok-append.ensures.ok ∙ ap (λ b. b ++ slash ∷ []) c.below_root-path.ensures) in
    (child_made c.args.text c.args.name.now c.append-2.new.self c.requires.text c.requires.name made).1
