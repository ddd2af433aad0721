-- Calls on the numbers of the user and its groups, as an unprivileged process has them: real, effective and saved are
-- one (section 2 of the manual; the order of tests is our own).
use Rattle.std.specs.Prelude.{ℕ, ◌==◌, ◌&&◌, ◌||◌, Bool, [], ◌∷◌, ℤ, pos, negsuc, zero, suc, if◌then◌else◌}
use Rattle.std.specs.Int.{to_le_bytes, w32}
use Rattle.kr_calls.specs.pr_base.declared.errno.Errno.TheVariants.{EPERM, EFAULT, EINVAL}
use Rattle.kr_calls.specs.rv_mem.Actions.{MayUse, WriteBytes, write_if_allowed}
use Rattle.kr_calls.specs.rv_mem.declared.rights.Use.TheVariants.{Write}
use Rattle.kr_model.specs.Known.{Known}
use Rattle.kr_model.specs.Reply.{Replying, done, refuse}

-- getuid(2), geteuid(2), getgid(2), getegid(2): the user's number, or its group's
abbrev pub get_row : ℕ → Replying
get_row own = done own []

-- all ones, which stand for no number
abbrev pub no_number : ℕ
no_number = 0xffffffff

abbrev pub is_kept : ℕ → ℕ → Bool
is_kept own id = id == no_number || id == own

-- setuid(2), setgid(2): EINVAL of no number, EPERM of another than the own one
abbrev pub set_row : ℕ → ℕ → Replying
set_row own id = if id == no_number then refuse EINVAL else if id == own then done 0 [] else refuse EPERM

-- setreuid(2), setregid(2): EPERM unless each is the own one or none
abbrev pub set_two_row : ℕ → ℕ → ℕ → Replying
set_two_row own real effective = if is_kept own real && is_kept own effective then done 0 [] else refuse EPERM

-- setresuid(2), setresgid(2): the same of three
abbrev pub set_three_row : ℕ → ℕ → ℕ → ℕ → Replying
set_three_row own real effective saved =
    if is_kept own real && is_kept own effective && is_kept own saved then done 0 [] else refuse EPERM

-- getresuid(2), getresgid(2): EFAULT where one of the three addresses can't be written, and then nothing is
abbrev pub get_three_row : ℕ → ℕ → ℕ → ℕ → Replying
get_three_row own real effective saved =
    let bytes = to_le_bytes w32 own in
    MayUse real 4 (Write ∷ []) (λ first. MayUse effective 4 (Write ∷ []) (λ second. MayUse saved 4 (Write ∷ []) (λ third.
    if first && second && third then WriteBytes real bytes (WriteBytes effective bytes (WriteBytes saved bytes (done 0 [])))
    else refuse EFAULT)))

-- getgroups(2): one group, the user's. The size 0 asks for the count; EINVAL of a negative one, EFAULT
abbrev pub getgroups_row : Known → ℤ → ℕ → Replying
getgroups_row k (pos zero) list = done 1 []
getgroups_row k (pos (suc n)) list = write_if_allowed list (to_le_bytes w32 k.user.gid) (refuse EFAULT) (done 1 [])
getgroups_row k (negsuc n) list = refuse EINVAL

-- setgroups(2)
abbrev pub setgroups_row : Replying
setgroups_row = refuse EPERM
