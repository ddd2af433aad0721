use Rattle.std.proofs.Common.{sym, ◌∙◌}
use Rattle.kr_seen.specs.kr_model.Known.{known}
use Rattle.kr_seen.specs.kr_model.State.{image_layout}
use Rattle.kr_seen.specs.kr_ops.Meaning.{meaning}
use Rattle.kr_names.proofs.MoveLemmas.{free-goes, free-kept, free-left, free-stays}
use Rattle.kr_names.proofs.moving.test_free.Goals as goal

pub returns-then-is_kept : goal.returns-then-is_kept
returns-then-is_kept g c = λ pid above below node h old new.
    free-kept (known image_layout pid (meaning c.args.state.now)) old new c.args.entry.dir c.args.entry.to node above below (sym (c.is_kept.ensures pid above node h.above_there h.there) ∙ c.if-is_kept.true)

pub returns-then-can_move : goal.returns-then-can_move
returns-then-can_move g c = λ pid above below node h old new.
    let k = known image_layout pid (meaning c.args.state.now) in
    free-left k old new c.args.entry.dir c.args.entry.to node above below (sym (c.is_kept.ensures pid above node h.above_there h.there) ∙ c.if-is_kept.false)
    ∙ free-goes k old new c.args.entry.dir c.args.entry.to node (sym (c.can_move.ensures pid node h.there) ∙ c.if-can_move.true)

pub returns-else-can_move : goal.returns-else-can_move
returns-else-can_move g c = λ pid above below node h old new.
    let k = known image_layout pid (meaning c.args.state.now) in
    free-left k old new c.args.entry.dir c.args.entry.to node above below (sym (c.is_kept.ensures pid above node h.above_there h.there) ∙ c.if-is_kept.false)
    ∙ free-stays k old new c.args.entry.dir c.args.entry.to node (sym (c.can_move.ensures pid node h.there) ∙ c.if-can_move.false)
