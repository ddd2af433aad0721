use Rattle.std.proofs.Common.{rules, ◌≡◌, ◌∷◌, ◌++◌, [], reverse, ap, subst, sym, ◌∙◌}
use Rattle.kr_tree.specs.pr_base.Paths.{parts_of, below_root}
use Rattle.kr_text.proofs.FullPathLemmas.{names_below, kept_below}
use Rattle.kr_text.proofs.names.FullPath.below.Goals as goal

pub invariant_of-result : goal.invariant_of-result
invariant_of-result c =
    let joined : (c.self.inside.below_root.items ++ 47 ∷ []) ++ c.args.name.now ≡ c.extend_from_slice.new.self.items = search rules in
    subst (λ bytes. below_root (reverse (parts_of bytes)) ≡ bytes) joined (kept_below _ _ c.requires c.self.invariant)

pub returns : goal.returns
returns c =
    let joined : (c.self.inside.below_root.items ++ 47 ∷ []) ++ c.args.name.now ≡ c.extend_from_slice.new.self.items = search rules in
    ap (λ bytes. reverse (parts_of bytes)) (sym joined) ∙ names_below c.self.inside.below_root.items c.args.name.now c.requires ∙ ap (λ names. c.args.name.now ∷ names) c.self.view_is
