use Rattle.std.proofs.Common.{Result, sym, ◌∙◌}
use Rattle.kr_walk.specs.kr_tree.Tree.{entry}
use Rattle.kr_mounts.specs.Growth.{Same}
use Rattle.kr_mounts.specs.Points.{at_entry}
use Rattle.kr_mounts.specs.Ways.{IsEntered}
use Rattle.kr_mounts.specs.declared.point.Foot.{Foot}
use Rattle.kr_mounts.specs.declared.location.Stop.{Stop}
use Rattle.kr_mounts.proofs.StopLemmas.{error_is}
use Rattle.kr_mounts.proofs.WayLemmas.{entry_goes, entry_links, made_fails, made_goes}
use Rattle.kr_mounts.proofs.point.Way.enter_entry.Goals as goal

pub returns-then-is_link-clause-entered : goal.returns-then-is_link-clause-entered
returns-then-is_link-clause-entered c =
    entry_links c.args.self.now.user c.args.tree.now c.args.foot.mount.number c.args.foot.inode c.args.name.now (entry c.args.tree.now c.args.foot.inode c.args.name.now) c.in-Some.inode (sym c.in-Some.ensures) (sym c.is_link.ensures ∙ c.if-is_link.true)

pub returns-else-is_link-clause-entered : goal.returns-else-is_link-clause-entered
returns-else-is_link-clause-entered c =
    entry_goes c.args.self.now.user c.args.tree.now c.args.foot.mount.number c.args.foot.inode c.args.name.now (entry c.args.tree.now c.args.foot.inode c.args.name.now) c.in-Some.inode (sym c.in-Some.ensures) (sym c.is_link.ensures ∙ c.if-is_link.false)

pub make-requires : goal.make-requires
make-requires c = record { numbers = c.requires.numbers; takes = c.requires.takes; free = sym c.in-None.ensures }

pub returns-in_err-inode-in-None-clause-entered : goal.returns-in_err-inode-in-None-clause-entered
returns-in_err-inode-in-None-clause-entered c =
    let o = entry c.args.tree.now c.args.foot.inode c.args.name.now in
    let P : Result Foot Stop → Type 0 = IsEntered (at_entry c.args.tree.now c.args.self.now.user c.args.foot.mount.number c.args.foot.inode c.args.name.now o) c.make.new.tree in
    error_is P _ _ (made_fails c.args.self.now.user c.args.tree.now c.args.foot.mount.number c.args.foot.inode c.args.name.now o c.make.new.tree _ (sym c.in-None.ensures) c.in_err-inode-in-None.ensures.made) c.from_residual.ensures.0 c.from_residual.ensures.1

pub returns-in_ok-inode-in-None-clause-entered : goal.returns-in_ok-inode-in-None-clause-entered
returns-in_ok-inode-in-None-clause-entered c =
    made_goes c.args.self.now.user c.args.tree.now c.args.foot.mount.number c.args.foot.inode c.args.name.now (entry c.args.tree.now c.args.foot.inode c.args.name.now) c.make.new.tree c.in_ok-inode-in-None.inode (sym c.in-None.ensures) c.in_ok-inode-in-None.ensures.made

pub returns-then-is_link-clause-grown : goal.returns-then-is_link-clause-grown
returns-then-is_link-clause-grown c = Same

pub returns-else-is_link-clause-grown : goal.returns-else-is_link-clause-grown
returns-else-is_link-clause-grown c = Same
