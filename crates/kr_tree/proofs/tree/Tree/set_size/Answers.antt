use Rattle.std.proofs.Common.{◌≡◌, true, ◌+◌, ◌-◌, ◌∙◌, ap, sym, subst}
use Rattle.kr_tree.specs.Tree.{Tree, body_is, is_file, bytes_of}
use Rattle.kr_tree.specs.Changes.{size, sized}
use Rattle.kr_inode.proofs.BytesLemmas.{length-sized}
use Rattle.kr_tree.proofs.OfBytesLemmas.{of_bytes-sized}
use Rattle.kr_tree.proofs.QuietLemmas.{kept-bytes}
use Rattle.kr_tree.proofs.tree.Tree.set_size.Goals as goal

pub invariant_of-self-2 : goal.invariant_of-self-2
invariant_of-self-2 c =
    let t : Tree = record { inodes = c.self.inside.store; next = c.self.inside.next; names = c.self.inside.names; bytes = c.self.inside.bytes } in
    let File : Tree → Type 0 = λ t. body_is is_file t c.args.file ≡ true in
    let view = sym c.self.view_is in
    kept-bytes t c.self.invariant c.args.file (subst File view c.requires) (sized c.args.new) (of_bytes-sized c.args.new) c.args.new (λ x _. sym (length-sized c.args.new (bytes_of x.node.body))) c.in_ok-bytes.ensures.limits.0
    c.in_ok-bytes.bytes (c.in_ok-bytes.ensures.ok ∙ ap (λ t. t.bytes - size t c.args.file + c.args.new) view) c.in_ok-bytes.ensures.limits.1 c.resize.new.self c.in_ok-resize.ensures.ok
