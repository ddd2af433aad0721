use Rattle.std.proofs.Common.{◌≡◌, sym, subst, rules, w32, to_z, of_z}
use Rattle.law_allowed.specs.kr_calls.declared.request.Request.TheVariants as call
use Rattle.kr_perform.specs.Operating.{OperatesAt}
use Rattle.kr_perform.proofs.OperatingLemmas.{at-mounts}
use Rattle.kr_perform.proofs.performing.perform.Goals as goal

pub returns-in-Openat-clause-performs : goal.returns-in-Openat-clause-performs
returns-in-Openat-clause-performs g c =
    let table = g.P.Places.mounts c.args.places.now in
    subst (λ r. OperatesAt g.P.Places.number table c.args.pid r c.args.targets.now.first c.args.targets.now.second c.args.state.now c.openat.new.state c.openat.result) (sym c.in-Openat.is)
    (c.openat.ensures.performs c.in-Openat.dirfd c.in-Openat.path)

pub returns-in-Mkdirat-clause-performs : goal.returns-in-Mkdirat-clause-performs
returns-in-Mkdirat-clause-performs g c =
    let table = g.P.Places.mounts c.args.places.now in
    subst (λ r. OperatesAt g.P.Places.number table c.args.pid r c.args.targets.now.first c.args.targets.now.second c.args.state.now c.mkdirat.new.state c.mkdirat.result) (sym c.in-Mkdirat.is)
    (c.mkdirat.ensures.performs g.P.Places.number table c.in-Mkdirat.dirfd c.in-Mkdirat.path)

pub returns-in-Unlinkat-clause-performs : goal.returns-in-Unlinkat-clause-performs
returns-in-Unlinkat-clause-performs g c =
    let table = g.P.Places.mounts c.args.places.now in
    subst (λ r. OperatesAt g.P.Places.number table c.args.pid r c.args.targets.now.first c.args.targets.now.second c.args.state.now c.unlinkat.new.state c.unlinkat.result) (sym c.in-Unlinkat.is)
    (c.unlinkat.ensures.performs c.in-Unlinkat.dirfd c.in-Unlinkat.path)

pub returns-in-Symlinkat-clause-performs : goal.returns-in-Symlinkat-clause-performs
returns-in-Symlinkat-clause-performs g c =
    let table = g.P.Places.mounts c.args.places.now in
    subst (λ r. OperatesAt g.P.Places.number table c.args.pid r c.args.targets.now.first c.args.targets.now.second c.args.state.now c.symlinkat.new.state c.symlinkat.result) (sym c.in-Symlinkat.is)
    (subst (λ text. OperatesAt g.P.Places.number table c.args.pid (call.Symlinkat text c.in-Symlinkat.dirfd c.in-Symlinkat.path) c.args.targets.now.first c.args.targets.now.second c.args.state.now c.symlinkat.new.state c.symlinkat.result) c.as_slice.ensures (c.symlinkat.ensures.performs g.P.Places.number table c.in-Symlinkat.dirfd c.in-Symlinkat.path))

pub returns-in-Linkat-clause-performs : goal.returns-in-Linkat-clause-performs
returns-in-Linkat-clause-performs g c =
    let table = g.P.Places.mounts c.args.places.now in
    subst (λ r. OperatesAt g.P.Places.number table c.args.pid r c.args.targets.now.first c.args.targets.now.second c.args.state.now c.linkat.new.state c.linkat.result) (sym c.in-Linkat.is)
    (c.linkat.ensures.performs c.in-Linkat.olddir c.in-Linkat.newdir c.in-Linkat.old c.in-Linkat.new c.in-Linkat.flags)

pub returns-in-Faccessat-clause-performs : goal.returns-in-Faccessat-clause-performs
returns-in-Faccessat-clause-performs g c =
    let table = g.P.Places.mounts c.args.places.now in
    subst (λ r. OperatesAt g.P.Places.number table c.args.pid r c.args.targets.now.first c.args.targets.now.second c.args.state.now c.faccessat.new.state c.faccessat.result) (sym c.in-Faccessat.is)
    (c.faccessat.ensures.performs g.P.Places.number table c.in-Faccessat.dirfd c.in-Faccessat.path)

pub returns-in-Fchmodat-clause-performs : goal.returns-in-Fchmodat-clause-performs
returns-in-Fchmodat-clause-performs g c =
    let table = g.P.Places.mounts c.args.places.now in
    subst (λ r. OperatesAt g.P.Places.number table c.args.pid r c.args.targets.now.first c.args.targets.now.second c.args.state.now c.fchmodat.new.state c.fchmodat.result) (sym c.in-Fchmodat.is)
    (c.fchmodat.ensures.performs g.P.Places.number table c.in-Fchmodat.dirfd c.in-Fchmodat.path)

pub returns-in-Fchownat-clause-performs : goal.returns-in-Fchownat-clause-performs
returns-in-Fchownat-clause-performs g c =
    let table = g.P.Places.mounts c.args.places.now in
    let same : to_z w32 (of_z w32 c.in-Fchownat.dirfd) ≡ c.in-Fchownat.dirfd = search rules in
    subst (λ r. OperatesAt g.P.Places.number table c.args.pid r c.args.targets.now.first c.args.targets.now.second c.args.state.now c.fchownat.new.state c.fchownat.result) (sym c.in-Fchownat.is)
    (subst (λ z. OperatesAt g.P.Places.number table c.args.pid (call.Fchownat z c.in-Fchownat.path c.in-Fchownat.uid c.in-Fchownat.gid c.in-Fchownat.flags) c.args.targets.now.first c.args.targets.now.second c.args.state.now c.fchownat.new.state c.fchownat.result) same
    (subst (λ path. OperatesAt g.P.Places.number table c.args.pid (call.Fchownat (to_z w32 (of_z w32 c.in-Fchownat.dirfd)) path c.in-Fchownat.uid c.in-Fchownat.gid c.in-Fchownat.flags) c.args.targets.now.first c.args.targets.now.second c.args.state.now c.fchownat.new.state c.fchownat.result) c.as_slice-in-Fchownat.ensures (c.fchownat.ensures.performs g.P.Places.number table c.in-Fchownat.flags)))

pub returns-in-Newfstatat-clause-performs : goal.returns-in-Newfstatat-clause-performs
returns-in-Newfstatat-clause-performs g c =
    let table = g.P.Places.mounts c.args.places.now in
    let same : to_z w32 (of_z w32 c.in-Newfstatat.dirfd) ≡ c.in-Newfstatat.dirfd = search rules in
    subst (λ r. OperatesAt g.P.Places.number table c.args.pid r c.args.targets.now.first c.args.targets.now.second c.args.state.now c.newfstatat.new.state c.newfstatat.result) (sym c.in-Newfstatat.is)
    (subst (λ z. OperatesAt g.P.Places.number table c.args.pid (call.Newfstatat z c.in-Newfstatat.path c.in-Newfstatat.buf c.in-Newfstatat.flags) c.args.targets.now.first c.args.targets.now.second c.args.state.now c.newfstatat.new.state c.newfstatat.result) same
    (subst (λ path. OperatesAt g.P.Places.number table c.args.pid (call.Newfstatat (to_z w32 (of_z w32 c.in-Newfstatat.dirfd)) path c.in-Newfstatat.buf c.in-Newfstatat.flags) c.args.targets.now.first c.args.targets.now.second c.args.state.now c.newfstatat.new.state c.newfstatat.result) c.as_slice-in-Newfstatat.ensures (c.newfstatat.ensures.performs g.P.Places.number table c.in-Newfstatat.flags)))

pub returns-in-Readlinkat-clause-performs : goal.returns-in-Readlinkat-clause-performs
returns-in-Readlinkat-clause-performs g c =
    let table = g.P.Places.mounts c.args.places.now in
    let same : to_z w32 (of_z w32 c.in-Readlinkat.size) ≡ c.in-Readlinkat.size = search rules in
    subst (λ r. OperatesAt g.P.Places.number table c.args.pid r c.args.targets.now.first c.args.targets.now.second c.args.state.now c.readlinkat.new.state c.readlinkat.result) (sym c.in-Readlinkat.is)
    (subst (λ z. OperatesAt g.P.Places.number table c.args.pid (call.Readlinkat c.in-Readlinkat.dirfd c.in-Readlinkat.path c.in-Readlinkat.buf z) c.args.targets.now.first c.args.targets.now.second c.args.state.now c.readlinkat.new.state c.readlinkat.result) same (c.readlinkat.ensures.performs c.in-Readlinkat.dirfd c.in-Readlinkat.path))

pub returns-in-Chdir-clause-performs : goal.returns-in-Chdir-clause-performs
returns-in-Chdir-clause-performs g c =
    let table = g.P.Places.mounts c.args.places.now in
    subst (λ r. OperatesAt g.P.Places.number table c.args.pid r c.args.targets.now.first c.args.targets.now.second c.args.state.now c.chdir.new.state c.chdir.result) (sym c.in-Chdir.is)
    (c.chdir.ensures.performs g.P.Places.number table c.in-Chdir.path)

pub returns-in-Chroot-clause-performs : goal.returns-in-Chroot-clause-performs
returns-in-Chroot-clause-performs g c =
    let table = g.P.Places.mounts c.args.places.now in
    subst (λ r. OperatesAt g.P.Places.number table c.args.pid r c.args.targets.now.first c.args.targets.now.second c.args.state.now c.chroot.new.state c.chroot.result) (sym c.in-Chroot.is)
    (c.chroot.ensures.performs g.P.Places.number table c.in-Chroot.path)

pub returns-in-Getcwd-clause-performs : goal.returns-in-Getcwd-clause-performs
returns-in-Getcwd-clause-performs g c =
    let table = g.P.Places.mounts c.args.places.now in
    subst (λ r. OperatesAt g.P.Places.number table c.args.pid r c.args.targets.now.first c.args.targets.now.second c.args.state.now c.getcwd.new.state c.getcwd.result) (sym c.in-Getcwd.is)
    (at-mounts c.getcwd.ensures.performs)

pub returns-in-Renameat2-clause-performs : goal.returns-in-Renameat2-clause-performs
returns-in-Renameat2-clause-performs g c =
    let table = g.P.Places.mounts c.args.places.now in
    subst (λ r. OperatesAt g.P.Places.number table c.args.pid r c.args.targets.now.first c.args.targets.now.second c.args.state.now c.renameat2.new.state c.renameat2.result) (sym c.in-Renameat2.is)
    (c.renameat2.ensures.performs c.in-Renameat2.olddir c.in-Renameat2.newdir c.in-Renameat2.old c.in-Renameat2.new)
