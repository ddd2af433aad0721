use Rattle.std.proofs.Common.{ℤ, sym, ap, ◌∙◌, w32}
use Rattle.std.proofs.Math.Facts.{to_z-of_z}
use Rattle.law_allowed.specs.kr_model.Known.{known}
use Rattle.law_allowed.specs.kr_model.State.{image_layout}
use Rattle.law_allowed.specs.kr_model.Walks.{looks_up}
use Rattle.law_steady.specs.Ahead.{owner_alters, owner_here, seen_looked, unless_empty}
use Rattle.kr_rows.specs.kr_ops.Meaning.{meaning}
use Rattle.kr_transfer.specs.kr_seen.Numbered.{state_numbered}
use Rattle.kr_perform.specs.Operating.{placed_targets}
use Rattle.kr_perform.proofs.OperatingLemmas.{has-bytes, has-none}
use Rattle.kr_perform.proofs.altering.owner_at_alters.Goals as goal

pub returns-then-is_empty : goal.returns-then-is_empty
returns-then-is_empty g c = λ n table.
    let s = meaning c.args.state.now in
    let t = c.args.state.now.tree in
    let k = known image_layout c.args.pid (meaning c.args.state.now) in
    let there = seen_looked (owner_alters t k c.args.uid c.args.gid) (looks_up table c.args.pid (state_numbered n s) (placed_targets n c.args.targets.now.first c.args.targets.now.second)) in
    c.owner_here_alters.ensures ∙ ap (λ (z : ℤ). owner_here t k z c.args.uid c.args.gid) (to_z-of_z {w = w32} {z = c.args.dirfd} c.ranges.dirfd)
    ∙ sym (ap (λ path. unless_empty path (owner_here t k c.args.dirfd c.args.uid c.args.gid) there) (has-none c.args.path.now (sym c.if-is_empty.ensures)))

pub returns-else-is_empty : goal.returns-else-is_empty
returns-else-is_empty g c = λ n table.
    let s = meaning c.args.state.now in
    let t = c.args.state.now.tree in
    let k = known image_layout c.args.pid (meaning c.args.state.now) in
    let there = seen_looked (owner_alters t k c.args.uid c.args.gid) (looks_up table c.args.pid (state_numbered n s) (placed_targets n c.args.targets.now.first c.args.targets.now.second)) in
    c.found_owner_alters.ensures n table c.args.pid
    ∙ sym (ap (λ path. unless_empty path (owner_here t k c.args.dirfd c.args.uid c.args.gid) there) (has-bytes c.args.path.now (sym c.if-is_empty.ensures)).2)
