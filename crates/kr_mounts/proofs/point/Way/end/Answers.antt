use Rattle.std.proofs.Common.{[], Ok, sym, ◌∙◌}
use Rattle.kr_walk.specs.kr_view.View.{Point}
use Rattle.kr_mounts.specs.Points.{way}
use Rattle.kr_mounts.specs.Stored.{table_of}
use Rattle.kr_mounts.specs.Ways.{wanted_of}
use Rattle.kr_mounts.proofs.StopLemmas.{ended_memory, ended_short}
use Rattle.kr_mounts.proofs.point.Way.end.Goals as goal

pub returns-in_err-at_last-clause-point : goal.returns-in_err-at_last-clause-point
returns-in_err-at_last-clause-point c =
    let p : Point = record { mount = c.args.foot.mount.number; dir = c.args.foot.inode; name = c.args.name.now } in
    ended_short (Unit {0}) (way c.args.self.now.user (table_of c.args.self.now.mounted.now) (wanted_of c.args.wanted) c.args.tree.now p.mount p.dir p.name []) p c.at_last.new.tree _ c.in_err-at_last.ensures.reached _ c.from_residual.ensures.0 c.from_residual.ensures.1

pub returns-in_err-name-clause-point : goal.returns-in_err-name-clause-point
returns-in_err-name-clause-point c =
    let p : Point = record { mount = c.args.foot.mount.number; dir = c.args.foot.inode; name = c.args.name.now } in
    ended_memory (way c.args.self.now.user (table_of c.args.self.now.mounted.now) (wanted_of c.args.wanted) c.args.tree.now p.mount p.dir p.name []) c.at_last.new.tree _ c.from_residual-in_err-name.ensures.0 c.from_residual-in_err-name.ensures.1

pub returns-clause-point : goal.returns-clause-point
returns-clause-point c =
    let reached = c.in_ok-at_last.ensures.reached in
    let name = sym c.in_ok-name.ensures in
    let number = sym c.number.ensures in
    (reached.0, reached.1 ∙ (λ i. Ok (record { mount = number i; dir = c.args.foot.inode; name = name i })))
