use Rattle.std.proofs.Common.{Some, sym, ap, ◌∙◌}
use Rattle.kr_tree.specs.pr_base.Paths.{parts_of}
use Rattle.kr_tree.specs.pr_base.Parts.{parts_left}
use Rattle.kr_text.proofs.WalkLemmas.{walk, walk_root, walk_nowhere}
use Rattle.kr_text.proofs.walk.named.Goals as goal

pub loop-name-init : goal.loop-name-init
loop-name-init c =
    let begun = ap parts_of (c.into_iter-name-iterator.ensures.into_iter_gives ∙ c.components-name-items.ensures) in
    ap (λ names. walk c.args.tree.now (Some 1) names) begun ∙ walk_root c.args.tree.now (parts_of c.args.path.now)

pub returns-in-None-entry : goal.returns-in-None-entry
returns-in-None-entry c =
    let t = c.args.tree.now in
    let rest = parts_left c.next.new.self in
    sym (sym c.loop-name.invariant ∙ ap (λ names. walk t (Some c.loop-name.ino) names) c.in-Some.ensures.steps ∙ ap (λ at. walk t at rest) (sym c.in-None-entry.ensures) ∙ walk_nowhere t rest)
