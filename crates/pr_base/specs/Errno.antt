-- The number of each error, as errno(3) names it and the generic Linux headers number it.
use Rattle.std.specs.Prelude.{ℕ}
use Rattle.pr_base.specs.declared.errno.Errno.{Errno}
use Rattle.pr_base.specs.declared.errno.Errno.TheVariants.{EPERM, ENOENT, ESRCH, E2BIG, ENOEXEC, EBADF, ECHILD, EAGAIN, ENOMEM, EACCES, EFAULT, EBUSY, EEXIST, EXDEV, ENOTDIR, EISDIR, EINVAL, EMFILE, ENOTTY, EFBIG, ENOSPC, ESPIPE, EPIPE, ERANGE, ENAMETOOLONG, ENOSYS, ENOTEMPTY, ELOOP}

abbrev pub errno_number : Errno → ℕ
errno_number EPERM = 1
errno_number ENOENT = 2
errno_number ESRCH = 3
errno_number E2BIG = 7
errno_number ENOEXEC = 8
errno_number EBADF = 9
errno_number ECHILD = 10
errno_number EAGAIN = 11
errno_number ENOMEM = 12
errno_number EACCES = 13
errno_number EFAULT = 14
errno_number EBUSY = 16
errno_number EEXIST = 17
errno_number EXDEV = 18
errno_number ENOTDIR = 20
errno_number EISDIR = 21
errno_number EINVAL = 22
errno_number EMFILE = 24
errno_number ENOTTY = 25
errno_number EFBIG = 27
errno_number ENOSPC = 28
errno_number ESPIPE = 29
errno_number EPIPE = 32
errno_number ERANGE = 34
errno_number ENAMETOOLONG = 36
errno_number ENOSYS = 38
errno_number ENOTEMPTY = 39
errno_number ELOOP = 40
