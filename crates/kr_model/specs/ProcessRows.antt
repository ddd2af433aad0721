-- Calls on processes, each in the order of its tests (section 2 of the manual; the order is our own).
use Rattle.std.specs.FinMap as map
use Rattle.std.specs.Prelude.{ℕ, zero, suc, ◌+◌, ◌-◌, ◌*◌, ◌%◌, ◌==◌, ◌&&◌, ◌||◌, ◌++◌, not, Bool, true, false, List, [], ◌∷◌, length, replicate, nat_lt, nat_le, codes, Option, Some, None, ℤ, pos, negsuc, unsigned_abs, if◌then◌else◌}
use Rattle.std.specs.Int.{int_rem_euclid, to_le_bytes, w32}
use Rattle.std.specs.List.{find, list_any}
use Rattle.kr_calls.specs.pr_base.declared.errno.Errno.TheVariants.{ECHILD, EAGAIN, ENOMEM, EFAULT, EINVAL}
use Rattle.kr_calls.specs.rv_mem.Actions.{MayUse, WriteBytes, write_if_allowed}
use Rattle.kr_calls.specs.rv_mem.declared.rights.Use.TheVariants.{Write}
use Rattle.kr_calls.specs.Arguments.{has}
use Rattle.kr_model.specs.Change.{SetUmask, Fork, Reap}
use Rattle.kr_model.specs.Known.{Known}
use Rattle.kr_model.specs.MemoryRows.{all_pages}
use Rattle.kr_model.specs.Reply.{Replying, done, refuse, waits, ends}
use Rattle.kr_model.specs.State.{Ended}

-- ---- numbers and small calls

-- getpid(2), gettid(2) and set_tid_address(2), of which nothing is kept
abbrev pub pid_row : ℕ → Replying
pid_row pid = done pid []

-- getppid(2)
abbrev pub getppid_row : Known → Replying
getppid_row k = done k.caller.parent []

-- sigaction(2) and sigprocmask(2): nothing is done
abbrev pub signals_row : Replying
signals_row = done 0 []

-- umask(2): the low nine bits are kept; the old mask
abbrev pub umask_row : Known → ℕ → Replying
umask_row k m = done k.caller.umask (SetUmask (m % 512) ∷ [])

-- a text in a field of 65 bytes
abbrev pub uname_field : List ℕ → List ℕ
uname_field text = text ++ replicate (65 - length text) 0

abbrev pub uname_bytes : List ℕ
uname_bytes =
    uname_field (codes "Linux") ++ uname_field (codes "proot") ++ uname_field (codes "6.1.0")
    ++ uname_field (codes "#1") ++ uname_field (codes "riscv64") ++ uname_field (codes "(none)")

-- uname(2): EFAULT
abbrev pub uname_row : ℕ → Replying
uname_row buf = write_if_allowed buf uname_bytes (refuse EFAULT) (done 0 [])

-- ---- the end

-- exit(2): the low eight bits of the code, where wait4(2) tells an exit
abbrev pub exit_row : ℤ → Replying
exit_row code = ends (unsigned_abs (int_rem_euclid code (pos 256)) * 256)

-- ---- children

-- the most processes, ended ones included
abbrev pub most_processes : ℕ
most_processes = 256

-- CLONE_CHILD_CLEARTID and CLONE_CHILD_SETTID
abbrev pub clear_tid : ℕ
clear_tid = 0x200000

abbrev pub set_tid : ℕ
set_tid = 0x1000000

-- SIGCHLD 17, with or without these
abbrev pub is_fork : ℕ → Bool
is_fork flags = flags == 17 || flags == 17 + clear_tid || flags == 17 + set_tid || flags == 17 + clear_tid + set_tid

abbrev pub born : Known → ℕ → Option ℕ → Replying
born k sp told_at = done k.next_pid (Fork (record { pid = k.next_pid; sp = sp; told_at = told_at }) ∷ [])

-- the child is told its number where that can be written
abbrev pub told_born : Known → ℕ → ℕ → ℕ → Replying
told_born k flags sp ctid =
    if has flags set_tid then MayUse ctid 4 (Write ∷ []) (λ allowed. born k sp (if allowed then Some ctid else None))
    else born k sp None

-- clone(2): EINVAL of other flags; EAGAIN of processes, ENOMEM of pages; the child's number, 0 in the child. A stack
-- pointer other than 0 is the child's
abbrev pub clone_row : Known → ℕ → ℕ → ℕ → Replying
clone_row k flags sp ctid =
    if not (is_fork flags) then refuse EINVAL
    else if nat_le most_processes (length k.living + length k.ended) then refuse EAGAIN
    else if nat_lt all_pages (k.pages + map.len k.caller.layout) then refuse ENOMEM
    else told_born k flags sp ctid

-- ---- wait4

-- -1 and 0 mean any child, a positive number that child, and another none
abbrev pub is_meant : ℤ → ℕ → Bool
is_meant (pos zero) pid = true
is_meant (pos (suc n)) pid = suc n == pid
is_meant (negsuc zero) pid = true
is_meant (negsuc (suc n)) pid = false

-- at the address 0 nothing is tested and nothing written
abbrev pub null_or_writable : ℕ → ℕ → (Bool → Replying) → Replying
null_or_writable at n next = if at == 0 then next true else MayUse at n (Write ∷ []) next

abbrev pub unless_null : ℕ → List ℕ → Replying → Replying
unless_null at bytes next = if at == 0 then next else WriteBytes at bytes next

-- the size of the structure rusage
abbrev pub usage_size : ℕ
usage_size = 144

-- the status, and then the usage, all zeros
abbrev pub tell_end : ℕ → ℕ → Ended → Replying
tell_end status usage e =
    unless_null status (to_le_bytes w32 e.status) (unless_null usage (replicate usage_size 0) (done e.pid (Reap e.pid ∷ [])))

-- EFAULT, where the child stays
abbrev pub reap : ℕ → ℕ → Ended → Replying
reap status usage e =
    null_or_writable status 4 (λ first. null_or_writable usage usage_size (λ second.
    if first && second then tell_end status usage e else refuse EFAULT))

abbrev pub wait_for : Bool → Bool → ℕ → ℕ → Option Ended → Replying
wait_for lives no_hang status usage (Some e) = reap status usage e
wait_for lives no_hang status usage None = if lives then (if no_hang then done 0 [] else waits) else refuse ECHILD

-- WNOHANG
abbrev pub hangs_not : ℤ → Bool
hangs_not options = has (unsigned_abs options) 1

-- wait4(2): ECHILD without such a child; the ended one of lowest number, EFAULT; with none ended 0 or a wait
abbrev pub wait4_row : Known → ℕ → ℤ → ℕ → ℤ → ℕ → Replying
wait4_row k caller pid status options usage =
    wait_for
    (list_any (λ p. p.parent == caller && is_meant pid p.pid) k.living)
    (hangs_not options)
    status usage
    (find (λ e. e.parent == caller && is_meant pid e.pid) k.ended)
