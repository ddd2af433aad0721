use Rattle.std.proofs.Common.{◌≡◌, ℕ, Option, Some, sym, ap, ◌∙◌}
use Rattle.kr_walk.specs.kr_tree.declared.place.Host.TheVariants.{Node, Proc}
use Rattle.kr_walk.specs.kr_tree.declared.place.Place.{Place}
use Rattle.kr_walk.specs.kr_tree.Tree.{entry}
use Rattle.kr_mounts.specs.Growth.{Same}
use Rattle.kr_mounts.specs.Points.{at_entry}
use Rattle.kr_mounts.specs.Stored.{table_of}
use Rattle.kr_mounts.specs.Ways.{entering}
use Rattle.kr_mounts.specs.declared.mounted.MountNumber.{MountNumber}
use Rattle.kr_mounts.proofs.WayLemmas.{same_step, step_at_entry, step_in_processes, step_refused, step_through}
use Rattle.kr_mounts.proofs.point.Way.enter.Goals as goal

pub returns-then-not-takes_names-clause-entered : goal.returns-then-not-takes_names-clause-entered
returns-then-not-takes_names-clause-entered c =
    step_refused c.args.self.now.user (table_of c.args.self.now.mounted.now) c.args.tree.now c.args.foot.mount.number c.args.foot.inode c.args.name.now (sym c.takes_names.ensures ∙ c.if-not-takes_names.true)

pub returns-in-Some-foot_at-clause-entered : goal.returns-in-Some-foot_at-clause-entered
returns-in-Some-foot_at-clause-entered c =
    let at = c.in-Some-foot_at.ensures in
    let place : ◌≡◌ {A = Option (Place ℕ)} (Some (record { mount = c.in-Some.place.mount.number; host = c.in-Some.place.host })) (Some (record { mount = c.in-Some.place.mount.number; host = Node c.in-Some-foot_at.entered.inode })) = (λ i. Some (record { mount = c.in-Some.place.mount.number; host = at.0 i })) in
    let is = sym c.in-Some.ensures ∙ place in
    let goes = step_through c.args.self.now.user (table_of c.args.self.now.mounted.now) c.args.tree.now c.args.foot.mount.number c.args.foot.inode c.args.name.now c.in-Some.place.mount.number c.in-Some-foot_at.entered.inode (sym c.takes_names.ensures ∙ c.if-not-takes_names.false) is in
    λ go. goes go ∙ ap (λ (m : MountNumber). go c.args.tree.now m.number c.in-Some-foot_at.entered.inode) at.1

pub returns-in-None-foot_at-clause-entered : goal.returns-in-None-foot_at-clause-entered
returns-in-None-foot_at-clause-entered c =
    let at = c.in-None-foot_at.ensures in
    let place : ◌≡◌ {A = Option (Place ℕ)} (Some (record { mount = c.in-Some.place.mount.number; host = c.in-Some.place.host })) (Some (record { mount = c.in-Some.place.mount.number; host = Proc at.0 at.1 })) = (λ i. Some (record { mount = c.in-Some.place.mount.number; host = at.2 i })) in
    step_in_processes c.args.self.now.user (table_of c.args.self.now.mounted.now) c.args.tree.now c.args.foot.mount.number c.args.foot.inode c.args.name.now c.in-Some.place.mount.number at.0 at.1 (sym c.takes_names.ensures ∙ c.if-not-takes_names.false) (sym c.in-Some.ensures ∙ place)

pub enter_entry-requires : goal.enter_entry-requires
enter_entry-requires c = record { numbers = c.requires; takes = sym c.takes_names.ensures ∙ c.if-not-takes_names.false }

pub returns-in-None-clause-entered : goal.returns-in-None-clause-entered
returns-in-None-clause-entered c =
    let user = c.args.self.now.user in
    let table = table_of c.args.self.now.mounted.now in
    let t = c.args.tree.now in
    let takes = sym c.takes_names.ensures ∙ c.if-not-takes_names.false in
    same_step (entering user table t c.args.foot.mount.number c.args.foot.inode c.args.name.now) (at_entry t user c.args.foot.mount.number c.args.foot.inode c.args.name.now (entry t c.args.foot.inode c.args.name.now))
    c.enter_entry.new.tree c.enter_entry.result (step_at_entry user table t c.args.foot.mount.number c.args.foot.inode c.args.name.now takes (sym c.in-None.ensures)) c.enter_entry.ensures.entered

pub returns-then-not-takes_names-clause-grown : goal.returns-then-not-takes_names-clause-grown
returns-then-not-takes_names-clause-grown c = Same

pub returns-in-Some-foot_at-clause-grown : goal.returns-in-Some-foot_at-clause-grown
returns-in-Some-foot_at-clause-grown c = Same
