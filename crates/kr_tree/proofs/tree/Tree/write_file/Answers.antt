use Rattle.std.proofs.Common.{◌≡◌, true, ◌+◌, ◌-◌, ◌∙◌, ap, sym, subst, length, Option}
use Rattle.std.specs.Option.{option_map_or}
use Rattle.kr_tree.specs.Tree.{Tree, Inode, body_is, is_file, bytes_of}
use Rattle.kr_tree.specs.Changes.{size, size_written, overwritten}
use Rattle.kr_inode.proofs.BytesLemmas.{length-overwritten}
use Rattle.kr_tree.proofs.OfBytesLemmas.{known_bytes, of_bytes-overwritten}
use Rattle.kr_tree.proofs.QuietLemmas.{kept-bytes}
use Rattle.kr_tree.proofs.tree.Tree.write_file.Goals as goal

pub invariant_of-self-2 : goal.invariant_of-self-2
invariant_of-self-2 c =
    let t : Tree = record { inodes = c.self.inside.store; next = c.self.inside.next; names = c.self.inside.names; bytes = c.self.inside.bytes } in
    let File : Tree → Type 0 = λ t. body_is is_file t c.args.file ≡ true in
    let view = sym c.self.view_is in
    let limit = c.in_ok-bytes.ensures.limits.0 in
    kept-bytes t c.self.invariant c.args.file (subst File view c.requires) (overwritten c.args.at c.args.b.now) (λ bytes. of_bytes-overwritten c.args.at c.args.b.now bytes (known_bytes c.args.b.now c.type_inv.b)) c.size_written-new.result
    (λ x at. c.size_written-new.ensures.within limit
    ∙ ap (size_written c.args.at (length c.args.b.now)) (c.size.ensures ∙ ap (λ t. size t c.args.file) view ∙ ap (λ (o : Option Inode). option_map_or (λ x. length (bytes_of x.node.body)) o 0) at)
    ∙ sym (length-overwritten c.args.at c.args.b.now (bytes_of x.node.body)))
    limit c.in_ok-bytes.bytes (c.in_ok-bytes.ensures.ok ∙ ap (λ t. t.bytes - size t c.args.file + c.size_written-new.result) view) c.in_ok-bytes.ensures.limits.1 c.overwrite.new.self c.in_ok-overwrite.ensures.ok
