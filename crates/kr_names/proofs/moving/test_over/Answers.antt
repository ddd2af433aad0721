use Rattle.std.proofs.Common.{sym, ◌∙◌}
use Rattle.kr_seen.specs.kr_model.Known.{known}
use Rattle.kr_seen.specs.kr_model.State.{image_layout}
use Rattle.kr_seen.specs.kr_ops.Meaning.{meaning}
use Rattle.kr_names.proofs.MoveLemmas.{new-kept, onto-over, over-gone, over-kept}
use Rattle.kr_names.proofs.NodeLemmas.{meta-gone, meta-there, node-known, node-unknown}
use Rattle.kr_names.proofs.moving.test_over.Goals as goal

pub returns-then-is_kept-clause-row : goal.returns-then-is_kept-clause-row
returns-then-is_kept-clause-row g c = λ pid above below node h old new.
    over-kept (known image_layout pid (meaning c.args.state.now)) old new c.args.entry.dir c.args.entry.to node above below c.args.over (sym (c.is_kept.ensures pid above node h.above_there h.there) ∙ c.if-is_kept.true)

pub returns-in_default-clause-row : goal.returns-in_default-clause-row
returns-in_default-clause-row g c = λ pid above below node h old new.
    over-gone (known image_layout pid (meaning c.args.state.now)) old new c.args.entry.dir c.args.entry.to node above below c.args.over (sym (c.is_kept.ensures pid above node h.above_there h.there) ∙ c.if-is_kept.false)
    (node-unknown pid (meaning c.args.state.now) c.args.over (meta-gone c.args.state.now.tree c.args.over (sym c.in_default.is ∙ c.meta.ensures)))

pub returns-then-is_kept-2-clause-row : goal.returns-then-is_kept-2-clause-row
returns-then-is_kept-2-clause-row g c = λ pid above below node h old new.
    let s = meaning c.args.state.now in
    let x = meta-there c.args.state.now.tree c.args.over c.in-Some._meta c.in-Some.ensures in
    let there = node-known pid s c.args.over x.0 x.1 in
    new-kept (known image_layout pid s) old new c.args.entry.dir c.args.entry.to node above below c.args.over x.0.node (sym (c.is_kept.ensures pid above node h.above_there h.there) ∙ c.if-is_kept.false) there
    (sym (c.is_kept-2.ensures pid below x.0.node h.below_there there) ∙ c.if-is_kept-2.true)

pub returns-clause-row : goal.returns-clause-row
returns-clause-row g c = λ pid above below node h.
    let s = meaning c.args.state.now in
    let x = meta-there c.args.state.now.tree c.args.over c.in-Some._meta c.in-Some.ensures in
    let there = node-known pid s c.args.over x.0 x.1 in
    onto-over (known image_layout pid s) c.args.entry c.args.over above below node x.0.node c.test_kinds.result (sym (c.is_kept.ensures pid above node h.above_there h.there) ∙ c.if-is_kept.false) there
    (sym (c.is_kept-2.ensures pid below x.0.node h.below_there there) ∙ c.if-is_kept-2.false) (c.test_kinds.ensures.row pid node x.0.node h.there there)
