use Rattle.std.specs.FinMap as map
use Rattle.std.proofs.Common.{◌∙◌, ap, sym, subst}
use Rattle.kr_tree.specs.Tree.{Inodes}
use Rattle.kr_tree.specs.Lawful.{IsKept}
use Rattle.kr_tree.proofs.NewLemmas.{sound-new_tree, counted-new_tree, used-new_tree}
use Rattle.kr_tree.proofs.OfBytesLemmas.{of_bytes-new_tree}
use Rattle.kr_tree.proofs.tree.Tree.new.Goals as goal

pub invariant_of-result : goal.invariant_of-result
invariant_of-result c =
    let P : Inodes → Type 0 = λ m. IsKept (record { inodes = m; next = 2; names = 0; bytes = 0 }) in
    subst P (sym (c.in_ok-insert.ensures.ok ∙ ap (λ m. map.insert m 1 c.new.result) c.new-store.ensures ∙ ap (map.insert map.empty 1) c.new.ensures))
    (record {
      sound = sound-new_tree c.args.root.mode c.args.root.uid c.args.root.gid;
      counted = counted-new_tree c.args.root.mode c.args.root.uid c.args.root.gid;
      used = used-new_tree c.args.root.mode c.args.root.uid c.args.root.gid;
      bytes = of_bytes-new_tree c.args.root.mode c.args.root.uid c.args.root.gid;
    })
