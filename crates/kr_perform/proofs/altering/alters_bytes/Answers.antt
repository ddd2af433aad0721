use Rattle.std.proofs.Common.{◌≡◌, ℤ, sym, ap, ◌∙◌, rules, w32, to_z, of_z}
use Rattle.law_allowed.specs.kr_calls.declared.request.Request.{Request}
use Rattle.law_allowed.specs.kr_model.FileRows.{inode_of_open}
use Rattle.law_allowed.specs.kr_model.Known.{known}
use Rattle.law_allowed.specs.kr_model.State.{image_layout}
use Rattle.law_allowed.specs.kr_model.Walks.{told}
use Rattle.law_steady.specs.Ahead.{bytes_ahead, of_open, size_alters}
use Rattle.kr_rows.specs.kr_ops.Meaning.{meaning}
use Rattle.kr_transfer.specs.kr_seen.Numbered.{state_numbered}
use Rattle.kr_perform.specs.Operating.{placed_targets}
use Rattle.kr_perform.proofs.altering.alters_bytes.Goals as goal

pub returns-in-Openat : goal.returns-in-Openat
returns-in-Openat g c =
    let number = g.P.Places.number in
    let table = g.P.Places.mounts c.args.places.now in
    let s = c.args.state.now in
    let n = state_numbered number (meaning s) in
    let k = known image_layout c.args.pid (meaning s) in
    let at = placed_targets number c.args.targets.now.first c.args.targets.now.second in
    c.opening_cuts.ensures c.args.pid c.in-Openat.dirfd c.in-Openat.path c.in-Openat.mode
    ∙ sym (ap (λ (r : Request). bytes_ahead s.tree r (told table c.args.pid n r at) k) c.in-Openat.is)

pub returns-in-Ftruncate : goal.returns-in-Ftruncate
returns-in-Ftruncate g c =
    let number = g.P.Places.number in
    let table = g.P.Places.mounts c.args.places.now in
    let s = c.args.state.now in
    let n = state_numbered number (meaning s) in
    let k = known image_layout c.args.pid (meaning s) in
    let at = placed_targets number c.args.targets.now.first c.args.targets.now.second in
    let same : to_z w32 (of_z w32 c.in-Ftruncate.fd) ≡ c.in-Ftruncate.fd = search rules in
    c.open_size_alters.ensures ∙ ap (λ (z : ℤ). of_open k z (λ o. size_alters s.tree c.in-Ftruncate.len (inode_of_open o))) same
    ∙ sym (ap (λ (r : Request). bytes_ahead s.tree r (told table c.args.pid n r at) k) c.in-Ftruncate.is)
