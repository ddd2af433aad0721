use Rattle.std.proofs.Common.{◌≡◌, subst, rules, w32, w64, to_z, of_z}
use Rattle.kr_transfer.specs.kr_seen.PerformedRows.{Performs}
use Rattle.law_allowed.specs.kr_model.AttributeRows.{fchmod_row, fchown_row, fstat_row}
use Rattle.law_allowed.specs.kr_model.DescriptorRows.{dup_row, dup3_row, fcntl_row, ioctl_row, close_row, lseek_row}
use Rattle.law_allowed.specs.kr_model.DirectoryRows.{fchdir_row, getdents64_row}
use Rattle.law_allowed.specs.kr_model.FileRows.{read_row, readv_row, write_row, writev_row, ftruncate_row}
use Rattle.kr_perform.proofs.OperatingLemmas.{alone}
use Rattle.kr_perform.proofs.descriptors.perform.Goals as goal

pub returns-in-Dup-clause-performs : goal.returns-in-Dup-clause-performs
returns-in-Dup-clause-performs g c =
    let fd-same : to_z w32 (of_z w32 c.in-Dup.fd) ≡ c.in-Dup.fd = search rules in
    alone c.in-Dup.is (λ _. (subst (λ z. Performs c.args.pid (λ k. dup_row k z) c.args.state.now c.dup.new.state c.dup.result) fd-same c.dup.ensures.performs))

pub returns-in-Dup3-clause-performs : goal.returns-in-Dup3-clause-performs
returns-in-Dup3-clause-performs g c =
    let old-same : to_z w32 (of_z w32 c.in-Dup3.old) ≡ c.in-Dup3.old = search rules in
    let new-same : to_z w32 (of_z w32 c.in-Dup3.new) ≡ c.in-Dup3.new = search rules in
    alone c.in-Dup3.is (λ _. (subst (λ z. Performs c.args.pid (λ k. dup3_row k c.in-Dup3.old z c.in-Dup3.flags) c.args.state.now c.dup3.new.state c.dup3.result) new-same (subst (λ z. Performs c.args.pid (λ k. dup3_row k z (to_z w32 (of_z w32 c.in-Dup3.new)) c.in-Dup3.flags) c.args.state.now c.dup3.new.state c.dup3.result) old-same c.dup3.ensures.performs)))

pub returns-in-Fcntl-clause-performs : goal.returns-in-Fcntl-clause-performs
returns-in-Fcntl-clause-performs g c =
    let fd-same : to_z w32 (of_z w32 c.in-Fcntl.fd) ≡ c.in-Fcntl.fd = search rules in
    let cmd-same : to_z w32 (of_z w32 c.in-Fcntl.cmd) ≡ c.in-Fcntl.cmd = search rules in
    alone c.in-Fcntl.is (λ _. (subst (λ z. Performs c.args.pid (λ k. fcntl_row k c.in-Fcntl.fd z c.in-Fcntl.arg) c.args.state.now c.fcntl.new.state c.fcntl.result) cmd-same (subst (λ z. Performs c.args.pid (λ k. fcntl_row k z (to_z w32 (of_z w32 c.in-Fcntl.cmd)) c.in-Fcntl.arg) c.args.state.now c.fcntl.new.state c.fcntl.result) fd-same c.fcntl.ensures.performs)))

pub returns-in-Ioctl-clause-performs : goal.returns-in-Ioctl-clause-performs
returns-in-Ioctl-clause-performs g c =
    let fd-same : to_z w32 (of_z w32 c.in-Ioctl.fd) ≡ c.in-Ioctl.fd = search rules in
    alone c.in-Ioctl.is (λ _. (subst (λ z. Performs c.args.pid (λ k. ioctl_row k z) c.args.state.now c.args.state.now c.ioctl.result) fd-same c.ioctl.ensures))

pub returns-in-Close-clause-performs : goal.returns-in-Close-clause-performs
returns-in-Close-clause-performs g c =
    let fd-same : to_z w32 (of_z w32 c.in-Close.fd) ≡ c.in-Close.fd = search rules in
    alone c.in-Close.is (λ _. (subst (λ z. Performs c.args.pid (λ k. close_row k z) c.args.state.now c.close.new.state c.close.result) fd-same c.close.ensures.performs))

pub returns-in-Pipe2-clause-performs : goal.returns-in-Pipe2-clause-performs
returns-in-Pipe2-clause-performs g c = alone c.in-Pipe2.is (λ _. c.pipe2.ensures.performs)

pub returns-in-Lseek-clause-performs : goal.returns-in-Lseek-clause-performs
returns-in-Lseek-clause-performs g c =
    let fd-same : to_z w32 (of_z w32 c.in-Lseek.fd) ≡ c.in-Lseek.fd = search rules in
    let off-same : to_z w64 (of_z w64 c.in-Lseek.off) ≡ c.in-Lseek.off = search rules in
    let whence-same : to_z w32 (of_z w32 c.in-Lseek.whence) ≡ c.in-Lseek.whence = search rules in
    alone c.in-Lseek.is (λ _. (subst (λ z. Performs c.args.pid (λ k. lseek_row k c.in-Lseek.fd c.in-Lseek.off z) c.args.state.now c.lseek.new.state c.lseek.result) whence-same (subst (λ z. Performs c.args.pid (λ k. lseek_row k c.in-Lseek.fd z (to_z w32 (of_z w32 c.in-Lseek.whence))) c.args.state.now c.lseek.new.state c.lseek.result) off-same (subst (λ z. Performs c.args.pid (λ k. lseek_row k z (to_z w64 (of_z w64 c.in-Lseek.off)) (to_z w32 (of_z w32 c.in-Lseek.whence))) c.args.state.now c.lseek.new.state c.lseek.result) fd-same c.lseek.ensures.performs))))

pub returns-in-Read-clause-performs : goal.returns-in-Read-clause-performs
returns-in-Read-clause-performs g c =
    let fd-same : to_z w32 (of_z w32 c.in-Read.fd) ≡ c.in-Read.fd = search rules in
    alone c.in-Read.is (λ _. (subst (λ z. Performs c.args.pid (λ k. read_row k z c.in-Read.buf c.in-Read.n) c.args.state.now c.read.new.state c.read.result) fd-same c.read.ensures.performs))

pub returns-in-Readv-clause-performs : goal.returns-in-Readv-clause-performs
returns-in-Readv-clause-performs g c =
    let fd-same : to_z w32 (of_z w32 c.in-Readv.fd) ≡ c.in-Readv.fd = search rules in
    alone c.in-Readv.is (λ _. (subst (λ z. Performs c.args.pid (λ k. readv_row k z c.in-Readv.list c.in-Readv.count) c.args.state.now c.readv.new.state c.readv.result) fd-same c.readv.ensures.performs))

pub returns-in-Write-clause-performs : goal.returns-in-Write-clause-performs
returns-in-Write-clause-performs g c =
    let fd-same : to_z w32 (of_z w32 c.in-Write.fd) ≡ c.in-Write.fd = search rules in
    alone c.in-Write.is (λ _. (subst (λ z. Performs c.args.pid (λ k. write_row k z c.in-Write.buf c.in-Write.n) c.args.state.now c.write.new.state c.write.result.outcome) fd-same (λ some. (c.write.ensures.writes some).performed)))

pub returns-in-Writev-clause-performs : goal.returns-in-Writev-clause-performs
returns-in-Writev-clause-performs g c =
    let fd-same : to_z w32 (of_z w32 c.in-Writev.fd) ≡ c.in-Writev.fd = search rules in
    alone c.in-Writev.is (λ _. (subst (λ z. Performs c.args.pid (λ k. writev_row k z c.in-Writev.list c.in-Writev.count) c.args.state.now c.writev.new.state c.writev.result.outcome) fd-same (λ some. (c.writev.ensures.writes some).performed)))

pub returns-in-Ftruncate-clause-performs : goal.returns-in-Ftruncate-clause-performs
returns-in-Ftruncate-clause-performs g c =
    let fd-same : to_z w32 (of_z w32 c.in-Ftruncate.fd) ≡ c.in-Ftruncate.fd = search rules in
    alone c.in-Ftruncate.is (λ _. (subst (λ z. Performs c.args.pid (λ k. ftruncate_row k z c.in-Ftruncate.len) c.args.state.now c.ftruncate.new.state c.ftruncate.result) fd-same c.ftruncate.ensures.performs))

pub returns-in-Getdents64-clause-performs : goal.returns-in-Getdents64-clause-performs
returns-in-Getdents64-clause-performs g c =
    let fd-same : to_z w32 (of_z w32 c.in-Getdents64.fd) ≡ c.in-Getdents64.fd = search rules in
    let n-same : to_z w32 (of_z w32 c.in-Getdents64.n) ≡ c.in-Getdents64.n = search rules in
    alone c.in-Getdents64.is (λ _. (subst (λ z. Performs c.args.pid (λ k. getdents64_row k c.in-Getdents64.fd c.in-Getdents64.buf z) c.args.state.now c.getdents64.new.state c.getdents64.result) n-same (subst (λ z. Performs c.args.pid (λ k. getdents64_row k z c.in-Getdents64.buf (to_z w32 (of_z w32 c.in-Getdents64.n))) c.args.state.now c.getdents64.new.state c.getdents64.result) fd-same c.getdents64.ensures.performs)))

pub returns-in-Fchdir-clause-performs : goal.returns-in-Fchdir-clause-performs
returns-in-Fchdir-clause-performs g c =
    let fd-same : to_z w32 (of_z w32 c.in-Fchdir.fd) ≡ c.in-Fchdir.fd = search rules in
    alone c.in-Fchdir.is (λ _. (subst (λ z. Performs c.args.pid (λ k. fchdir_row k z) c.args.state.now c.fchdir.new.state c.fchdir.result) fd-same c.fchdir.ensures.performs))

pub returns-in-Fchmod-clause-performs : goal.returns-in-Fchmod-clause-performs
returns-in-Fchmod-clause-performs g c =
    let fd-same : to_z w32 (of_z w32 c.in-Fchmod.fd) ≡ c.in-Fchmod.fd = search rules in
    alone c.in-Fchmod.is (λ _. (subst (λ z. Performs c.args.pid (λ k. fchmod_row k z c.in-Fchmod.mode) c.args.state.now c.fchmod.new.state c.fchmod.result) fd-same c.fchmod.ensures.performs))

pub returns-in-Fchown-clause-performs : goal.returns-in-Fchown-clause-performs
returns-in-Fchown-clause-performs g c =
    let fd-same : to_z w32 (of_z w32 c.in-Fchown.fd) ≡ c.in-Fchown.fd = search rules in
    alone c.in-Fchown.is (λ _. (subst (λ z. Performs c.args.pid (λ k. fchown_row k z c.in-Fchown.uid c.in-Fchown.gid) c.args.state.now c.fchown.new.state c.fchown.result) fd-same c.fchown.ensures.performs))

pub returns-in-Fstat-clause-performs : goal.returns-in-Fstat-clause-performs
returns-in-Fstat-clause-performs g c =
    let fd-same : to_z w32 (of_z w32 c.in-Fstat.fd) ≡ c.in-Fstat.fd = search rules in
    alone c.in-Fstat.is (λ _. (subst (λ z. Performs c.args.pid (λ k. fstat_row k z c.in-Fstat.buf) c.args.state.now c.fstat.new.state c.fstat.result) fd-same c.fstat.ensures.performs))
