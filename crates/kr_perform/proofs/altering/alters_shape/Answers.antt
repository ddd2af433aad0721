use Rattle.std.proofs.Common.{◌≡◌, ℤ, sym, ap, ◌∙◌, rules, w32, to_z, of_z}
use Rattle.law_allowed.specs.kr_calls.declared.request.Request.{Request}
use Rattle.law_allowed.specs.kr_model.Known.{known}
use Rattle.law_allowed.specs.kr_model.State.{image_layout}
use Rattle.law_allowed.specs.kr_model.Walks.{looks_up, told}
use Rattle.law_steady.specs.Ahead.{mode_alters, of_open, of_place, owner_alters, owner_here, seen_looked, shape_ahead, unless_empty}
use Rattle.kr_rows.specs.kr_ops.Meaning.{meaning}
use Rattle.kr_transfer.specs.kr_seen.Numbered.{state_numbered}
use Rattle.kr_perform.specs.Operating.{placed_targets}
use Rattle.kr_perform.proofs.altering.alters_shape.Goals as goal

pub returns-in-Renameat2 : goal.returns-in-Renameat2
returns-in-Renameat2 g c =
    let number = g.P.Places.number in
    let table = g.P.Places.mounts c.args.places.now in
    let s = c.args.state.now in
    let n = state_numbered number (meaning s) in
    let k = known image_layout c.args.pid (meaning s) in
    let at = placed_targets number c.args.targets.now.first c.args.targets.now.second in
    c.rename_at_alters.ensures c.args.pid c.in-Renameat2.olddir c.in-Renameat2.newdir c.in-Renameat2.old c.in-Renameat2.new
    ∙ sym (ap (λ (r : Request). shape_ahead s.tree r (told table c.args.pid n r at) k) c.in-Renameat2.is)

pub returns-in-Openat : goal.returns-in-Openat
returns-in-Openat g c =
    let number = g.P.Places.number in
    let table = g.P.Places.mounts c.args.places.now in
    let s = c.args.state.now in
    let n = state_numbered number (meaning s) in
    let k = known image_layout c.args.pid (meaning s) in
    let at = placed_targets number c.args.targets.now.first c.args.targets.now.second in
    c.opening_makes.ensures c.args.pid c.in-Openat.dirfd c.in-Openat.path c.in-Openat.mode
    ∙ sym (ap (λ (r : Request). shape_ahead s.tree r (told table c.args.pid n r at) k) c.in-Openat.is)

pub returns-in-Fchmod : goal.returns-in-Fchmod
returns-in-Fchmod g c =
    let number = g.P.Places.number in
    let table = g.P.Places.mounts c.args.places.now in
    let s = c.args.state.now in
    let n = state_numbered number (meaning s) in
    let k = known image_layout c.args.pid (meaning s) in
    let at = placed_targets number c.args.targets.now.first c.args.targets.now.second in
    let same : to_z w32 (of_z w32 c.in-Fchmod.fd) ≡ c.in-Fchmod.fd = search rules in
    c.open_mode_alters.ensures ∙ ap (λ (z : ℤ). of_open k z (of_place (mode_alters s.tree c.in-Fchmod.mode))) same
    ∙ sym (ap (λ (r : Request). shape_ahead s.tree r (told table c.args.pid n r at) k) c.in-Fchmod.is)

pub returns-in-Fchmodat : goal.returns-in-Fchmodat
returns-in-Fchmodat g c =
    let number = g.P.Places.number in
    let table = g.P.Places.mounts c.args.places.now in
    let s = c.args.state.now in
    let n = state_numbered number (meaning s) in
    let k = known image_layout c.args.pid (meaning s) in
    let at = placed_targets number c.args.targets.now.first c.args.targets.now.second in
    c.found_mode_alters.ensures number table c.args.pid
    ∙ sym (ap (λ (r : Request). shape_ahead s.tree r (told table c.args.pid n r at) k) c.in-Fchmodat.is)

pub returns-in-Fchown : goal.returns-in-Fchown
returns-in-Fchown g c =
    let number = g.P.Places.number in
    let table = g.P.Places.mounts c.args.places.now in
    let s = c.args.state.now in
    let n = state_numbered number (meaning s) in
    let k = known image_layout c.args.pid (meaning s) in
    let at = placed_targets number c.args.targets.now.first c.args.targets.now.second in
    let same : to_z w32 (of_z w32 c.in-Fchown.fd) ≡ c.in-Fchown.fd = search rules in
    c.open_owner_alters.ensures ∙ ap (λ (z : ℤ). of_open k z (of_place (owner_alters s.tree k c.in-Fchown.uid c.in-Fchown.gid))) same
    ∙ sym (ap (λ (r : Request). shape_ahead s.tree r (told table c.args.pid n r at) k) c.in-Fchown.is)

pub returns-in-Fchownat : goal.returns-in-Fchownat
returns-in-Fchownat g c =
    let number = g.P.Places.number in
    let table = g.P.Places.mounts c.args.places.now in
    let s = c.args.state.now in
    let n = state_numbered number (meaning s) in
    let k = known image_layout c.args.pid (meaning s) in
    let at = placed_targets number c.args.targets.now.first c.args.targets.now.second in
    let same : to_z w32 (of_z w32 c.in-Fchownat.dirfd) ≡ c.in-Fchownat.dirfd = search rules in
    let there = seen_looked (owner_alters s.tree k c.in-Fchownat.uid c.in-Fchownat.gid) (looks_up table c.args.pid n at) in
    c.owner_at_alters.ensures number table
    ∙ ap (λ path. unless_empty path (owner_here s.tree k (to_z w32 (of_z w32 c.in-Fchownat.dirfd)) c.in-Fchownat.uid c.in-Fchownat.gid) there) c.as_slice.ensures
    ∙ ap (λ (z : ℤ). unless_empty c.in-Fchownat.path (owner_here s.tree k z c.in-Fchownat.uid c.in-Fchownat.gid) there) same
    ∙ sym (ap (λ (r : Request). shape_ahead s.tree r (told table c.args.pid n r at) k) c.in-Fchownat.is)

pub returns-in-Mkdirat : goal.returns-in-Mkdirat
returns-in-Mkdirat g c =
    let number = g.P.Places.number in
    let table = g.P.Places.mounts c.args.places.now in
    let s = c.args.state.now in
    let n = state_numbered number (meaning s) in
    let k = known image_layout c.args.pid (meaning s) in
    let at = placed_targets number c.args.targets.now.first c.args.targets.now.second in
    sym (ap (λ (r : Request). shape_ahead s.tree r (told table c.args.pid n r at) k) c.in-Mkdirat.is)

pub returns-in-Symlinkat : goal.returns-in-Symlinkat
returns-in-Symlinkat g c =
    let number = g.P.Places.number in
    let table = g.P.Places.mounts c.args.places.now in
    let s = c.args.state.now in
    let n = state_numbered number (meaning s) in
    let k = known image_layout c.args.pid (meaning s) in
    let at = placed_targets number c.args.targets.now.first c.args.targets.now.second in
    sym (ap (λ (r : Request). shape_ahead s.tree r (told table c.args.pid n r at) k) c.in-Symlinkat.is)

pub returns-in-Linkat : goal.returns-in-Linkat
returns-in-Linkat g c =
    let number = g.P.Places.number in
    let table = g.P.Places.mounts c.args.places.now in
    let s = c.args.state.now in
    let n = state_numbered number (meaning s) in
    let k = known image_layout c.args.pid (meaning s) in
    let at = placed_targets number c.args.targets.now.first c.args.targets.now.second in
    sym (ap (λ (r : Request). shape_ahead s.tree r (told table c.args.pid n r at) k) c.in-Linkat.is)

pub returns-in-Unlinkat : goal.returns-in-Unlinkat
returns-in-Unlinkat g c =
    let number = g.P.Places.number in
    let table = g.P.Places.mounts c.args.places.now in
    let s = c.args.state.now in
    let n = state_numbered number (meaning s) in
    let k = known image_layout c.args.pid (meaning s) in
    let at = placed_targets number c.args.targets.now.first c.args.targets.now.second in
    sym (ap (λ (r : Request). shape_ahead s.tree r (told table c.args.pid n r at) k) c.in-Unlinkat.is)
