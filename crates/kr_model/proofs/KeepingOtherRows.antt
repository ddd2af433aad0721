-- Calls on directories, memory, processes and identity keep to their lines.
use Rattle.std.proofs.Common.{◌≡◌, ◌||◌, nat_lt, replicate, ℕ, zero, suc, ◌-◌, Bool, true, false, ◌&&◌, List, [], ◌∷◌, refl, Option, Some, None, ℤ, pos, negsuc}
use Rattle.std.specs.Int.{to_le_bytes, w32}
use Rattle.kr_calls.specs.pr_base.declared.errno.Errno.TheVariants.{EPERM, ENOENT, ECHILD, EAGAIN, ENOMEM, EACCES, EFAULT, ENOTDIR, EINVAL, ERANGE}
use Rattle.kr_calls.specs.CallTable.{Doing, changing_pages, exiting, making, reaping, telling}
use Rattle.kr_calls.specs.Kinds.{Seeks, EntersPath, EntersOpen, ChangesPages, SetsBreak, Forks}
use Rattle.kr_files.specs.kr_tree.declared.place.Host.{Host}
use Rattle.kr_model.specs.Known.{Known}
use Rattle.kr_model.specs.Reply.{Replying, done}
use Rattle.kr_model.specs.Seen.{Looked}
use Rattle.kr_model.specs.Change.{Reap}
use Rattle.kr_model.specs.State.{Ended}
use Rattle.kr_model.specs.DirectoryRows.{Listed, tell_entries, list_rest, list_host, getdents64_row, if_entered, chdir_row, fchdir_row, chroot_row, tell_directory, getcwd_row, shown_by, behind}
use Rattle.kr_model.specs.MemoryRows.{pages_end, page_count, passes_limit, has_page, grow, brk_row, map_at, mmap_row, munmap_row, mprotect_row, lowest_place}
use Rattle.kr_model.specs.ProcessRows.{usage_size, uname_row, exit_row, clone_row, null_or_writable, unless_null, tell_end, reap, wait_for, wait4_row}
use Rattle.kr_model.specs.IdentityRows.{set_row, set_two_row, set_three_row, get_three_row, getgroups_row}
use Rattle.kr_model.proofs.KeepingLemmas.{Keeps, refused, answered, waiting, ending, tested, wrote, either, maybe, by_open}

-- ---- directories

entries_told : {built : Bool} (fd buf : ℕ) (entries : List Listed) → Keeps (telling (Seeks ∷ [])) built false (tell_entries fd buf entries)
entries_told fd buf [] = refused EINVAL refl
entries_told fd buf (e ∷ entries) = tested (λ b. either b (wrote refl (answered refl)) (refused EFAULT refl))

rest_listed : {built : Bool} (fd buf n : ℕ) (entries : List Listed) → Keeps (telling (Seeks ∷ [])) built false (list_rest fd buf n entries)
rest_listed fd buf n [] = answered refl
rest_listed fd buf n (e ∷ entries) = entries_told fd buf _

host_listed : {built : Bool} (k : Known) (fd at buf n : ℕ) (h : Host) → Keeps (telling (Seeks ∷ [])) built false (list_host k fd at buf n h)
host_listed k fd at buf n h = either _ (refused ENOTDIR refl) (maybe (shown_by k h) (λ entries. rest_listed fd buf n (behind at entries)) (refused ENOENT refl))

pub getdents64_keeps : {built : Bool} (k : Known) (fd : ℤ) (buf : ℕ) (n : ℤ) → Keeps (telling (Seeks ∷ [])) built false (getdents64_row k fd buf n)
getdents64_keeps k fd buf n = by_open k fd (λ number o. maybe o.place (λ p. host_listed k number o.at buf _ p.host) (refused ENOTDIR refl))

entered : {does : Doing} {built : Bool} (k : Known) (h : Host) {next : Replying} → Keeps does built false next → Keeps does built false (if_entered k h next)
entered k h keeps = either _ (refused ENOTDIR refl) (either _ (refused EACCES refl) keeps)

pub chdir_keeps : {built : Bool} (k : Known) (l : Looked) → Keeps (making (EntersPath ∷ [])) built false (chdir_row k l)
chdir_keeps k l = entered k l.host (answered refl)

pub fchdir_keeps : {built : Bool} (k : Known) (fd : ℤ) → Keeps (making (EntersOpen ∷ [])) built false (fchdir_row k fd)
fchdir_keeps k fd = by_open k fd (λ n o. maybe o.place (λ p. entered k p.host (answered refl)) (refused ENOTDIR refl))

pub chroot_keeps : {does : Doing} {built : Bool} (k : Known) (l : Looked) → Keeps does built false (chroot_row k l)
chroot_keeps k l = entered k l.host (refused EPERM refl)

directory_told : {built : Bool} (buf size : ℕ) (name : List ℕ) → Keeps (telling []) built false (tell_directory buf size name)
directory_told buf size name = either _ (refused ERANGE refl) (tested (λ b. either b (wrote refl (answered refl)) (refused EFAULT refl)))

pub getcwd_keeps : {built : Bool} (name : Option (List ℕ)) (buf size : ℕ) → Keeps (telling []) built false (getcwd_row name buf size)
getcwd_keeps name buf size = maybe name (directory_told buf size) (refused ENOENT refl)

-- ---- memory

grown : {built : Bool} (k : Known) (a count : ℕ) → Keeps (making (ChangesPages ∷ SetsBreak ∷ [])) built false (grow k a count)
grown k a count = either (passes_limit k count 0 || has_page k.caller.layout (page_count k.caller.brk) count) (answered refl) (answered refl)

pub brk_keeps : {built : Bool} (k : Known) (a : ℕ) → Keeps (making (ChangesPages ∷ SetsBreak ∷ [])) built false (brk_row k a)
brk_keeps k a = either (nat_lt a k.caller.brk_start || nat_lt pages_end a) (answered refl)
    (either (nat_lt (page_count k.caller.brk) (page_count a)) (grown k a (page_count a - page_count k.caller.brk)) (answered refl))

mapped_at : {built : Bool} (k : Known) (first count prot : ℕ) → Keeps changing_pages built false (map_at k first count prot)
mapped_at k first count prot = either _ (refused ENOMEM refl) (answered refl)

pub mmap_keeps : {built : Bool} (k : Known) (a len prot flags : ℕ) → Keeps changing_pages built false (mmap_row k a len prot flags)
mmap_keeps k a len prot flags =
    either _ (either _ (refused ENOMEM refl) (mapped_at k _ _ prot)) (maybe (lowest_place k.caller.layout _) (λ first. mapped_at k first _ prot) (refused ENOMEM refl))

pub munmap_keeps : {built : Bool} (a len : ℕ) → Keeps changing_pages built false (munmap_row a len)
munmap_keeps a len = answered refl

pub mprotect_keeps : {built : Bool} (k : Known) (a len prot : ℕ) → Keeps changing_pages built false (mprotect_row k a len prot)
mprotect_keeps k a len prot = either _ (refused ENOMEM refl) (answered refl)

-- ---- processes

pub uname_keeps : {built : Bool} (buf : ℕ) → Keeps (telling []) built false (uname_row buf)
uname_keeps buf = tested (λ b. either b (wrote refl (answered refl)) (refused EFAULT refl))

pub exit_keeps : {built : Bool} (code : ℤ) → Keeps (exiting code) built false (exit_row code)
exit_keeps code = ending refl

pub clone_keeps : {built : Bool} (k : Known) (flags sp ctid : ℕ) → Keeps (making (Forks ∷ [])) built false (clone_row k flags sp ctid)
clone_keeps k flags sp ctid =
    either _ (refused EINVAL refl) (either _ (refused EAGAIN refl) (either _ (refused ENOMEM refl) (either _ (tested (λ b. answered refl)) (answered refl))))

null_tested : {does : Doing} {built : Bool} (at n : ℕ) {next : Bool → Replying} → ((b : Bool) → Keeps does built false (next b)) → Keeps does built false (null_or_writable at n next)
null_tested at n keeps = either _ (keeps true) (tested keeps)

null_written : {does : Doing} {built : Bool} {w : Bool} → does.writes_memory ≡ true → (at : ℕ) (bytes : List ℕ) {next : Replying} → ((w : Bool) → Keeps does built w next) → Keeps does built w (unless_null at bytes next)
null_written {w} writes at bytes keeps = either _ (keeps w) (wrote writes (keeps true))

usage_told : {built : Bool} {w : Bool} (usage : ℕ) (e : Ended) → Keeps reaping built w (unless_null usage (replicate usage_size 0) (done e.pid (Reap e.pid ∷ [])))
usage_told usage e = null_written refl usage (replicate usage_size 0) (λ w. answered refl)

end_told : {built : Bool} {w : Bool} (status usage : ℕ) (e : Ended) → Keeps reaping built w (tell_end status usage e)
end_told status usage e = null_written refl status (to_le_bytes w32 e.status) (λ w. usage_told usage e)

reaped : {built : Bool} (status usage : ℕ) (e : Ended) → Keeps reaping built false (reap status usage e)
reaped status usage e =
    null_tested status 4 (λ first. null_tested usage 144 (λ second.
    either (first && second) (end_told status usage e) (refused EFAULT refl)))

waited : {built : Bool} (lives no_hang : Bool) (status usage : ℕ) (o : Option Ended) → Keeps reaping built false (wait_for lives no_hang status usage o)
waited lives no_hang status usage (Some e) = reaped status usage e
waited lives no_hang status usage None = either lives (either no_hang (answered refl) (waiting refl)) (refused ECHILD refl)

pub wait4_keeps : {built : Bool} (k : Known) (caller : ℕ) (pid : ℤ) (status : ℕ) (options : ℤ) (usage : ℕ) → Keeps reaping built false (wait4_row k caller pid status options usage)
wait4_keeps k caller pid status options usage = waited _ _ status usage _

-- ---- identity

pub set_keeps : {does : Doing} {built : Bool} (own id : ℕ) → Keeps does built false (set_row own id)
set_keeps own id = either _ (refused EINVAL refl) (either _ (answered refl) (refused EPERM refl))

pub set_two_keeps : {does : Doing} {built : Bool} (own real effective : ℕ) → Keeps does built false (set_two_row own real effective)
set_two_keeps own real effective = either _ (answered refl) (refused EPERM refl)

pub set_three_keeps : {does : Doing} {built : Bool} (own real effective saved : ℕ) → Keeps does built false (set_three_row own real effective saved)
set_three_keeps own real effective saved = either _ (answered refl) (refused EPERM refl)

pub get_three_keeps : {built : Bool} (own real effective saved : ℕ) → Keeps (telling []) built false (get_three_row own real effective saved)
get_three_keeps own real effective saved =
    tested (λ first. tested (λ second. tested (λ third. either _ (wrote refl (wrote refl (wrote refl (answered refl)))) (refused EFAULT refl))))

pub getgroups_keeps : {built : Bool} (k : Known) (size : ℤ) (list : ℕ) → Keeps (telling []) built false (getgroups_row k size list)
getgroups_keeps k (pos zero) list = answered refl
getgroups_keeps k (pos (suc n)) list = tested (λ b. either b (wrote refl (answered refl)) (refused EFAULT refl))
getgroups_keeps k (negsuc n) list = refused EINVAL refl
