-- The numbers of errors are apart, so that only ENOSYS is answered as ENOSYS.
use Rattle.std.proofs.Common.{◌≡◌, ◌≢◌, ℕ, Bool, true, false, ap, arith}
use Rattle.std.specs.Prelude.{unsigned_abs}
use Rattle.kr_calls.specs.pr_base.declared.errno.Errno.{Errno}
use Rattle.kr_calls.specs.pr_base.declared.errno.Errno.TheVariants.{EPERM, ENOENT, ESRCH, E2BIG, ENOEXEC, EBADF, ECHILD, EAGAIN, ENOMEM, EACCES, EFAULT, EBUSY, EEXIST, EXDEV, ENOTDIR, EISDIR, EINVAL, EMFILE, ENOTTY, EFBIG, ENOSPC, ESPIPE, EPIPE, ERANGE, ENAMETOOLONG, ENOSYS, ENOTEMPTY, ELOOP}
use Rattle.kr_model.specs.declared.outcome.Outcome.{Outcome}
use Rattle.kr_model.specs.declared.outcome.Outcome.TheVariants.{Answer}
use Rattle.kr_model.specs.Reply.{refusal, unbuilt}

abbrev pub is_enosys : Errno → Bool
is_enosys ENOSYS = true
is_enosys _ = false

-- the number in an answer
number_in : Outcome → ℕ
number_in (Answer z) = unsigned_abs z
number_in _ = 0

pub another : (e : Errno) → is_enosys e ≡ false → (refusal e).outcome ≢ unbuilt
unfolding number_in
another EPERM h = λ e. omega (arith, ap number_in e)
another ENOENT h = λ e. omega (arith, ap number_in e)
another ESRCH h = λ e. omega (arith, ap number_in e)
another E2BIG h = λ e. omega (arith, ap number_in e)
another ENOEXEC h = λ e. omega (arith, ap number_in e)
another EBADF h = λ e. omega (arith, ap number_in e)
another ECHILD h = λ e. omega (arith, ap number_in e)
another EAGAIN h = λ e. omega (arith, ap number_in e)
another ENOMEM h = λ e. omega (arith, ap number_in e)
another EACCES h = λ e. omega (arith, ap number_in e)
another EFAULT h = λ e. omega (arith, ap number_in e)
another EBUSY h = λ e. omega (arith, ap number_in e)
another EEXIST h = λ e. omega (arith, ap number_in e)
another EXDEV h = λ e. omega (arith, ap number_in e)
another ENOTDIR h = λ e. omega (arith, ap number_in e)
another EISDIR h = λ e. omega (arith, ap number_in e)
another EINVAL h = λ e. omega (arith, ap number_in e)
another EMFILE h = λ e. omega (arith, ap number_in e)
another ENOTTY h = λ e. omega (arith, ap number_in e)
another EFBIG h = λ e. omega (arith, ap number_in e)
another ENOSPC h = λ e. omega (arith, ap number_in e)
another ESPIPE h = λ e. omega (arith, ap number_in e)
another EPIPE h = λ e. omega (arith, ap number_in e)
another ERANGE h = λ e. omega (arith, ap number_in e)
another ENAMETOOLONG h = λ e. omega (arith, ap number_in e)
another ENOSYS h = λ e. absurd cc
another ENOTEMPTY h = λ e. omega (arith, ap number_in e)
another ELOOP h = λ e. omega (arith, ap number_in e)
