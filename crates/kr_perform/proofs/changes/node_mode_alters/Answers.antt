use Rattle.std.proofs.Common.{ap, ◌∙◌, ◌%◌}
use Rattle.std.specs.Prelude.{◌==◌, ◌&&◌, not, nat_lt}
use Rattle.kr_transfer.specs.kr_inode.declared.node.Meta.{Meta}
use Rattle.kr_attributes.proofs.NodeLemmas.{meta-gone, meta-there}
use Rattle.kr_perform.proofs.ChangeLemmas.{mode-gone, mode-there}
use Rattle.kr_perform.proofs.changes.node_mode_alters.Goals as goal

pub returns-in-Some : goal.returns-in-Some
returns-in-Some g c =
    let there = meta-there c.args.state.now.tree c.args.ino c.in-Some.meta c.in-Some.ensures in
    c.is_other_mode.ensures
    ∙ ap (λ (m : Meta). nat_lt 0 m.names && not (m.mode == c.args.mode % 4096)) there.2
    ∙ mode-there c.args.state.now.tree c.args.ino there.0 there.1 (c.args.mode % 4096)

pub returns-in-None : goal.returns-in-None
returns-in-None g c = mode-gone c.args.state.now.tree c.args.ino (c.args.mode % 4096) (meta-gone c.args.state.now.tree c.args.ino c.in-None.ensures)
