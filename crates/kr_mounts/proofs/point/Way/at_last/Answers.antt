use Rattle.std.proofs.Common.{[], sym, ◌∙◌}
use Rattle.kr_walk.specs.kr_view.View.{Point}
use Rattle.kr_mounts.specs.Growth.{Same}
use Rattle.kr_mounts.specs.Points.{way}
use Rattle.kr_mounts.specs.Stored.{table_of}
use Rattle.kr_mounts.specs.Ways.{IsReached, wanted_of}
use Rattle.kr_mounts.proofs.StopLemmas.{error_is}
use Rattle.kr_mounts.proofs.WayLemmas.{last_fails, last_fits, last_made, last_misfits, last_refused}
use Rattle.kr_mounts.proofs.point.Way.at_last.Goals as goal

pub returns-then-not-takes_names-clause-reached : goal.returns-then-not-takes_names-clause-reached
returns-then-not-takes_names-clause-reached c =
    let p : Point = record { mount = c.args.foot.mount.number; dir = c.args.foot.inode; name = c.args.name.now } in
    last_refused c.args.self.now.user (table_of c.args.self.now.mounted.now) (wanted_of c.args.wanted) c.args.tree.now p (sym c.takes_names.ensures ∙ c.if-not-takes_names.true)

pub returns-in-Some-misfit-clause-reached : goal.returns-in-Some-misfit-clause-reached
returns-in-Some-misfit-clause-reached c =
    let p : Point = record { mount = c.args.foot.mount.number; dir = c.args.foot.inode; name = c.args.name.now } in
    last_misfits c.args.self.now.user (table_of c.args.self.now.mounted.now) (wanted_of c.args.wanted) c.args.tree.now p c.in-Some.inode c.in-Some-misfit.why (sym c.takes_names.ensures ∙ c.if-not-takes_names.false) (sym c.in-Some.ensures) (sym c.in-Some-misfit.ensures)

pub returns-in-None-misfit-clause-reached : goal.returns-in-None-misfit-clause-reached
returns-in-None-misfit-clause-reached c =
    let p : Point = record { mount = c.args.foot.mount.number; dir = c.args.foot.inode; name = c.args.name.now } in
    last_fits c.args.self.now.user (table_of c.args.self.now.mounted.now) (wanted_of c.args.wanted) c.args.tree.now p c.in-Some.inode (sym c.takes_names.ensures ∙ c.if-not-takes_names.false) (sym c.in-Some.ensures) (sym c.in-None-misfit.ensures)

pub make-requires-clause-takes : goal.make-requires-clause-takes
make-requires-clause-takes c = sym c.takes_names.ensures ∙ c.if-not-takes_names.false

pub make-requires-clause-free : goal.make-requires-clause-free
make-requires-clause-free c = sym c.in-None.ensures

pub returns-in_err-make-in-None-clause-reached : goal.returns-in_err-make-in-None-clause-reached
returns-in_err-make-in-None-clause-reached c =
    let p : Point = record { mount = c.args.foot.mount.number; dir = c.args.foot.inode; name = c.args.name.now } in
    let takes = sym c.takes_names.ensures ∙ c.if-not-takes_names.false in
    error_is (IsReached (way c.args.self.now.user (table_of c.args.self.now.mounted.now) (wanted_of c.args.wanted) c.args.tree.now p.mount p.dir p.name []) p c.make.new.tree) _ _
    (last_fails c.args.self.now.user (table_of c.args.self.now.mounted.now) (wanted_of c.args.wanted) c.args.tree.now p (Unit {0}) c.make.new.tree _ takes (sym c.in-None.ensures) c.in_err-make-in-None.ensures.made) c.from_residual.ensures.0 c.from_residual.ensures.1

pub returns-in_ok-make-in-None-clause-reached : goal.returns-in_ok-make-in-None-clause-reached
returns-in_ok-make-in-None-clause-reached c =
    let p : Point = record { mount = c.args.foot.mount.number; dir = c.args.foot.inode; name = c.args.name.now } in
    let takes = sym c.takes_names.ensures ∙ c.if-not-takes_names.false in
    last_made c.args.self.now.user (table_of c.args.self.now.mounted.now) (wanted_of c.args.wanted) c.args.tree.now p c.make.new.tree _ takes (sym c.in-None.ensures) c.in_ok-make-in-None.ensures.made

pub returns-then-not-takes_names-clause-grown : goal.returns-then-not-takes_names-clause-grown
returns-then-not-takes_names-clause-grown c = Same

pub returns-in-Some-misfit-clause-grown : goal.returns-in-Some-misfit-clause-grown
returns-in-Some-misfit-clause-grown c = Same

pub returns-in-None-misfit-clause-grown : goal.returns-in-None-misfit-clause-grown
returns-in-None-misfit-clause-grown c = Same
