-- Calls on descriptors, processes and identity that write numbers and texts write bytes.
use Rattle.std.proofs.Common.{ℕ, Bool, true, ◌&&◌, List, [], ◌∷◌, refl, Option, Some, None, zero, suc, length, ℤ, pos, negsuc, replicate, ◌-◌}
use Rattle.std.specs.Prelude.{codes}
use Rattle.std.specs.Int.{to_le_bytes, w32}
use Rattle.kr_first.specs.pr_base.declared.errno.Errno.TheVariants.{ECHILD, EFAULT, EINVAL, EMFILE}
use Rattle.kr_first.specs.kr_tree.Lawful.{AreBytes}
use Rattle.kr_first.specs.kr_model.Change.{Reap}
use Rattle.kr_first.specs.kr_model.DescriptorRows.{pipe2_row, pipe_numbers, pipe_under}
use Rattle.kr_first.specs.kr_model.IdentityRows.{get_three_row, getgroups_row}
use Rattle.kr_first.specs.kr_model.Known.{Known}
use Rattle.kr_first.specs.kr_model.ProcessRows.{null_or_writable, reap, tell_end, uname_bytes, uname_field, uname_row, unless_null, usage_size, wait4_row, wait_for}
use Rattle.kr_first.specs.kr_model.Reply.{Replying, done}
use Rattle.kr_first.specs.kr_model.State.{Ended}
use Rattle.law_kept.proofs.ActionLemmas.{either_way, tested, wrote}
use Rattle.law_kept.proofs.ListLemmas.{bytes-tested, joined, six-joined, word-bytes, zeros}
use Rattle.law_kept.proofs.RowLemmas.{Puts, answered, refused, waiting, written}

-- ---- descriptors

piped : (buf : ℕ) (cloexec : Bool) (o : Option (ℕ × ℕ)) → Puts (pipe_under buf cloexec o)
piped buf cloexec None = refused EMFILE
piped buf cloexec (Some fds) = written buf (pipe_numbers fds.0 fds.1) (joined (to_le_bytes w32 fds.0) (to_le_bytes w32 fds.1) (word-bytes w32 fds.0) (word-bytes w32 fds.1)) (refused EFAULT) (answered refl)

pub pipe2-puts : (k : Known) (buf flags : ℕ) → Puts (pipe2_row k buf flags)
pipe2-puts k buf flags = either_way _ (refused EMFILE) (piped buf _ _)

-- ---- processes

field-bytes : (text : List ℕ) → AreBytes text → AreBytes (uname_field text)
field-bytes text are = joined text (replicate (65 - length text) 0) are (zeros (65 - length text))

names-bytes : AreBytes uname_bytes
names-bytes =
    six-joined (uname_field (codes "Linux")) (uname_field (codes "proot")) (uname_field (codes "6.1.0")) (uname_field (codes "#1")) (uname_field (codes "riscv64")) (uname_field (codes "(none)"))
    (field-bytes (codes "Linux") (bytes-tested (codes "Linux") refl)) (field-bytes (codes "proot") (bytes-tested (codes "proot") refl)) (field-bytes (codes "6.1.0") (bytes-tested (codes "6.1.0") refl))
    (field-bytes (codes "#1") (bytes-tested (codes "#1") refl)) (field-bytes (codes "riscv64") (bytes-tested (codes "riscv64") refl)) (field-bytes (codes "(none)") (bytes-tested (codes "(none)") refl))

pub uname-puts : (buf : ℕ) → Puts (uname_row buf)
uname-puts buf = written buf uname_bytes names-bytes (refused EFAULT) (answered refl)

null-tested : (at n : ℕ) {next : Bool → Replying} → ((b : Bool) → Puts (next b)) → Puts (null_or_writable at n next)
null-tested at n puts = either_way _ (puts true) (tested puts)

null-written : (at : ℕ) (bytes : List ℕ) {next : Replying} → AreBytes bytes → Puts next → Puts (unless_null at bytes next)
null-written at bytes are puts = either_way _ puts (wrote are puts)

usage-told : (usage : ℕ) (e : Ended) → Puts (unless_null usage (replicate usage_size 0) (done e.pid (Reap e.pid ∷ [])))
usage-told usage e = null-written usage (replicate usage_size 0) (zeros usage_size) (answered refl)

end-told : (status usage : ℕ) (e : Ended) → Puts (tell_end status usage e)
end-told status usage e = null-written status (to_le_bytes w32 e.status) (word-bytes w32 e.status) (usage-told usage e)

reaped : (status usage : ℕ) (e : Ended) → Puts (reap status usage e)
reaped status usage e =
    null-tested status 4 (λ first. null-tested usage 144 (λ second.
    either_way (first && second) (end-told status usage e) (refused EFAULT)))

waited : (lives no_hang : Bool) (status usage : ℕ) (o : Option Ended) → Puts (wait_for lives no_hang status usage o)
waited lives no_hang status usage (Some e) = reaped status usage e
waited lives no_hang status usage None = either_way lives (either_way no_hang (answered refl) waiting) (refused ECHILD)

pub wait4-puts : (k : Known) (caller : ℕ) (pid : ℤ) (status : ℕ) (options : ℤ) (usage : ℕ) → Puts (wait4_row k caller pid status options usage)
wait4-puts k caller pid status options usage = waited _ _ status usage _

-- ---- identity

pub get-three-puts : (own real effective saved : ℕ) → Puts (get_three_row own real effective saved)
get-three-puts own real effective saved =
    let are = word-bytes w32 own in
    tested (λ first. tested (λ second. tested (λ third. either_way _ (wrote are (wrote are (wrote are (answered refl)))) (refused EFAULT))))

pub getgroups-puts : (k : Known) (size : ℤ) (list : ℕ) → Puts (getgroups_row k size list)
getgroups-puts k (pos zero) list = answered refl
getgroups-puts k (pos (suc n)) list = written list (to_le_bytes w32 k.user.gid) (word-bytes w32 k.user.gid) (refused EFAULT) (answered refl)
getgroups-puts k (negsuc n) list = refused EINVAL
