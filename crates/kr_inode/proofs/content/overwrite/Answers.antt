use Rattle.std.proofs.Common.{ℕ, ◌<◌, ◌+◌, ◌++◌, ◌∙◌, ap, List, take, drop, length}
use Rattle.kr_inode.proofs.BytesLemmas.{written-grown, some_bytes}
use Rattle.kr_inode.proofs.content.overwrite.Goals as goal

pub returns-clause-ok : goal.returns-clause-ok
returns-clause-ok c =
    let some : 0 < length c.args.b.now = some_bytes c.args.b.now c.is_empty.result c.is_empty.ensures c.if-is_empty.false in
    c.put.ensures
    ∙ ap (λ (l : List ℕ). take c.args.at l ++ c.args.b.now ++ drop (c.args.at + length c.args.b.now) l) c.in_ok-grow.ensures.ok
    ∙ written-grown c.args.at c.args.b.now c.args.bytes.now.items some
