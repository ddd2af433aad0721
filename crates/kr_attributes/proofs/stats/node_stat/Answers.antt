use Rattle.std.proofs.Common.{◌+◌, Some, ap, ◌∙◌}
use Rattle.kr_seen.specs.kr_model.AttributeRows.{stat_of}
use Rattle.kr_seen.specs.kr_ops.Meaning.{meaning}
use Rattle.kr_attributes.specs.Facts.{bits_by}
use Rattle.kr_attributes.proofs.NodeLemmas.{kind-gone, meta-gone, meta-there, node-told, none-told}
use Rattle.kr_attributes.proofs.stats.node_stat.Goals as goal

pub returns-in_default : goal.returns-in_default
returns-in_default g c = λ pid. none-told pid (meaning c.args.state.now) c.args.ino (meta-gone c.args.state.now.tree c.args.ino c.in_default.ensures)

pub returns-in_default-kind : goal.returns-in_default-kind
returns-in_default-kind g c = λ pid. none-told pid (meaning c.args.state.now) c.args.ino (kind-gone c.args.state.now.tree c.args.ino c.in_default-kind.ensures)

pub returns : goal.returns
returns g c = λ pid.
    let there = meta-there c.args.state.now.tree c.args.ino c.in-Some.meta c.in-Some.ensures in
    let m = c.in-Some.meta in
    let kind = c.in-Some-kind.kind in
    let mode = c.kind_bits.result + c.from.result in
    ap (λ stat. Some stat) c.stat_of.ensures
    ∙ ap (λ i. Some (stat_of 1 i mode c.links-links.result m.uid m.gid c.size.result)) c.from-2.ensures
    ∙ node-told pid (meaning c.args.state.now) c.args.ino there.0 kind m mode c.links-links.result c.size.result there.1 c.in-Some-kind.ensures there.2
    (ap (λ bits. bits + c.from.result) c.kind_bits.ensures.bits ∙ ap (λ n. bits_by kind + n) c.from.ensures)
    (c.links-links.ensures pid) c.size.ensures
