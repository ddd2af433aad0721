use Rattle.std.proofs.Common.{ℕ, ◌≤◌, ◌∙◌, ap, sym, subst}
use Rattle.kr_tree.specs.Tree.{Tree}
use Rattle.kr_tree.specs.Changes.{size}
use Rattle.kr_tree.proofs.QuietLemmas.{size-le}
use Rattle.kr_tree.proofs.tree.Tree.room_for.Goals as goal

pub overflow_sub-bytes : goal.overflow_sub-bytes
overflow_sub-bytes c =
    let t : Tree = record { inodes = c.self.inside.store; next = c.self.inside.next; names = c.self.inside.names; bytes = c.self.inside.bytes } in
    let P : ℕ → Type 0 = λ n. n ≤ c.self.inside.bytes in
    subst P (sym (c.size.ensures ∙ ap (λ t. size t c.args.file) (sym c.self.view_is))) (size-le t c.self.invariant c.args.file)
