use Rattle.std.proofs.Common.{sym, ap, subst}
use Rattle.std.specs.Prelude.{map as map_list}
use Rattle.law_walks.specs.kr_model.Lawful.{IsLawful}
use Rattle.kr_ops.specs.Meaning.{ended_meaning, process_meaning}
use Rattle.kr_start.specs.Start.{CanBegin}
use Rattle.kr_start.proofs.StartLemmas.{empty-lawful, can-begin}
use Rattle.kr_start.proofs.FirstLemmas.{idle-means}
use Rattle.kr_start.proofs.first.idle.Goals as goal

pub returns-clause-lawful : goal.returns-clause-lawful
returns-clause-lawful g c =
    let table = g.P.Places.mounts c.args.places.now in
    let means =
    idle-means c.args.user c.args.input c.args.tree c.pin.new.tree table c.new.result.table c.new-3.result c.new-4.result (map_list process_meaning c.new-5.result.items) (map_list ended_meaning c.new-6.result.items) c.pin.ensures
    (ap (λ f. f.table) c.new.ensures) c.new-3.ensures c.new-4.ensures (ap (map_list process_meaning) c.new-5.ensures.items) (ap (map_list ended_meaning) c.new-6.ensures.items) in
    subst (IsLawful g.P.Places.number table) (sym means)
    (empty-lawful g.P.Places.number table c.args.tree c.args.user c.args.input c.trees_are_kept.ensures.kept c.requires.stands c.requires.free)

pub returns-clause-begins : goal.returns-clause-begins
returns-clause-begins g c = λ first begins.
    let table = g.P.Places.mounts c.args.places.now in
    subst (λ t. CanBegin g.P.Places.number table t first) (sym c.pin.ensures)
    (can-begin g.P.Places.number table c.args.tree c.args.user c.args.input c.trees_are_kept.ensures.kept c.requires.stands c.requires.free first begins)
