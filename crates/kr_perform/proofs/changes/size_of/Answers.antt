use Rattle.std.proofs.Common.{ap, ◌∙◌}
use Rattle.kr_transfer.specs.kr_inode.declared.node.Meta.{Meta}
use Rattle.kr_attributes.proofs.NodeLemmas.{meta-gone, meta-there}
use Rattle.kr_perform.proofs.ChangeLemmas.{size-gone, size-there}
use Rattle.kr_perform.proofs.changes.size_of.Goals as goal

pub returns-in-Some : goal.returns-in-Some
returns-in-Some g c =
    let there = meta-there c.args.state.now.tree c.args.ino c.in-Some.meta c.in-Some.ensures in
    ap (λ (m : Meta). m.size) there.2 ∙ size-there c.args.state.now.tree c.args.ino there.0 there.1

pub returns-in-None : goal.returns-in-None
returns-in-None g c = size-gone c.args.state.now.tree c.args.ino (meta-gone c.args.state.now.tree c.args.ino c.in-None.ensures)
