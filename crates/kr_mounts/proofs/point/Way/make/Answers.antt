use Rattle.std.proofs.Common.{sym, ◌∙◌}
use Rattle.kr_mounts.specs.Growth.{Same}
use Rattle.kr_mounts.proofs.WayLemmas.{made_grows, not_allowed, numbers_grown, put_made, tests_name}
use Rattle.kr_mounts.proofs.point.Way.make.Goals as goal

pub returns-then-not-may_put-clause-made : goal.returns-then-not-may_put-clause-made
returns-then-not-may_put-clause-made c = not_allowed c.args.self.now.user c.args.tree.now c.args.dir c.args.name.now c.args.is_dir (sym c.may_put.ensures ∙ c.if-not-may_put.true)

pub returns-then-not-may_put-clause-grown : goal.returns-then-not-may_put-clause-grown
returns-then-not-may_put-clause-grown c = Same

pub put-requires : goal.put-requires
put-requires c = record { numbers = c.requires.numbers; takes = c.requires.takes; free = c.requires.free; name = tests_name c.args.self.now.user c.args.tree.now c.args.dir c.args.name.now (sym c.may_put.ensures ∙ c.if-not-may_put.false) }

pub returns : goal.returns
returns c =
    let user = c.args.self.now.user in
    let t = c.args.tree.now in
    let kept = c.trees_are_kept.ensures.kept in
    let made = put_made user t c.args.dir c.args.name.now c.args.is_dir c.put.new.tree c.put.result (sym c.may_put.ensures ∙ c.if-not-may_put.false) c.put.ensures in
    let grown = made_grows user t c.args.dir c.args.name.now c.args.is_dir c.put.new.tree c.put.result c.requires.takes c.requires.free made in
    record { made = made; grown = grown; numbers = numbers_grown user t c.put.new.tree kept.sound kept.counted c.requires.numbers grown }
