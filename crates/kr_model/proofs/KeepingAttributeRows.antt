-- Calls on attributes keep to their lines.
use Rattle.std.proofs.Common.{◌≡◌, ℕ, Bool, true, false, ◌&&◌, List, [], ◌∷◌, refl, Option, ℤ}
use Rattle.std.specs.Prelude.{◌==◌}
use Rattle.kr_calls.specs.pr_base.declared.errno.Errno.TheVariants.{EPERM, ENOENT, EBADF, EACCES, EFAULT, EINVAL}
use Rattle.kr_files.specs.declared.opened.What.{What}
use Rattle.kr_files.specs.declared.opened.What.TheVariants.{File, Dir as DirOpen, In, Out, Err, PipeRead, PipeWrite}
use Rattle.kr_files.specs.kr_tree.Tree.{Body, Directory, RegularFile, SymbolicLink, ProcessDirectory}
use Rattle.kr_files.specs.kr_tree.declared.place.Host.{Host}
use Rattle.kr_files.specs.kr_tree.declared.place.Host.TheVariants as host
use Rattle.kr_calls.specs.declared.stat.Stat.{Stat}
use Rattle.kr_calls.specs.CallTable.{Doing, making, telling}
use Rattle.kr_calls.specs.Kinds.{SetsMode, SetsOwner}
use Rattle.kr_files.specs.kr_inode.declared.user.User.{User}
use Rattle.kr_model.specs.Change.{Change}
use Rattle.kr_model.specs.Known.{Known, known_node}
use Rattle.kr_model.specs.Seen.{Looked}
use Rattle.kr_model.specs.AttributeRows.{unchanged, may_give, node_stat, process_stat, console_stat, pipe_stat, faccessat_row, chmod_host, fchmod_row, fchmodat_row, chown_by, chown_host, fchown_row, fchownat_row, fchownat_here, tell_stat, stat_host, stat_unplaced, fstat_row, newfstatat_row, newfstatat_here, tell_text, readlink_body, readlink_host, readlinkat_row}
use Rattle.kr_model.specs.ChangeKinds.{are_of}
use Rattle.kr_model.proofs.KeepingLemmas.{Keeps, refused, answered, tested, wrote, either, maybe, by_open}

pub faccessat_keeps : {does : Doing} {built : Bool} (k : Known) (l : Looked) (mode : ℕ) → Keeps does built false (faccessat_row k l mode)
faccessat_keeps k l mode = either _ (answered refl) (refused EACCES refl)

host_chmodded : {built : Bool} (k : Known) (mode : ℕ) (at : Host) → Keeps (making (SetsMode ∷ [])) built false (chmod_host k mode at)
host_chmodded k mode (host.Node i) = maybe (known_node k i) (λ n. either _ (refused EPERM refl) (answered refl)) (refused ENOENT refl)
host_chmodded k mode (host.Proc i at) = refused EPERM refl

pub fchmod_keeps : {built : Bool} (k : Known) (fd : ℤ) (mode : ℕ) → Keeps (making (SetsMode ∷ [])) built false (fchmod_row k fd mode)
fchmod_keeps k fd mode = by_open k fd (λ n o. maybe o.place (λ p. host_chmodded k mode p.host) (refused EPERM refl))

pub fchmodat_keeps : {built : Bool} (k : Known) (l : Looked) (mode : ℕ) → Keeps (making (SetsMode ∷ [])) built false (fchmodat_row k l mode)
fchmodat_keeps k l mode = host_chmodded k mode l.host

chowned : {built : Bool} (user owner : User) (uid gid : ℕ) (changes : List Change) → are_of (SetsOwner ∷ []) changes ≡ true → Keeps (making (SetsOwner ∷ [])) built false (chown_by user owner uid gid changes)
chowned user owner uid gid changes kept = either (uid == unchanged && gid == unchanged) (answered refl) (either (may_give user owner uid gid) (answered kept) (refused EPERM refl))

host_chowned : {built : Bool} (k : Known) (uid gid : ℕ) (at : Host) → Keeps (making (SetsOwner ∷ [])) built false (chown_host k uid gid at)
host_chowned k uid gid (host.Node i) = maybe (known_node k i) (λ n. chowned _ _ uid gid _ refl) (refused ENOENT refl)
host_chowned k uid gid (host.Proc i at) = chowned _ _ uid gid _ refl

pub fchown_keeps : {built : Bool} (k : Known) (fd : ℤ) (uid gid : ℕ) → Keeps (making (SetsOwner ∷ [])) built false (fchown_row k fd uid gid)
fchown_keeps k fd uid gid = by_open k fd (λ n o. maybe o.place (λ p. host_chowned k uid gid p.host) (chowned _ _ uid gid _ refl))

pub fchownat_keeps : {built : Bool} (k : Known) (l : Looked) (uid gid : ℕ) → Keeps (making (SetsOwner ∷ [])) built false (fchownat_row k l uid gid)
fchownat_keeps k l uid gid = host_chowned k uid gid l.host

pub fchownat_here_keeps : {built : Bool} (k : Known) (fd : ℤ) (uid gid : ℕ) → Keeps (making (SetsOwner ∷ [])) built false (fchownat_here k fd uid gid)
fchownat_here_keeps k fd uid gid = either _ (host_chowned k uid gid k.caller.cwd) (fchown_keeps k fd uid gid)

told : {built : Bool} (buf : ℕ) (s : Stat) → Keeps (telling []) built false (tell_stat buf s)
told buf s = tested (λ b. either b (wrote refl (answered refl)) (refused EFAULT refl))

host_stat : {built : Bool} (k : Known) (buf : ℕ) (at : Host) → Keeps (telling []) built false (stat_host k buf at)
host_stat k buf (host.Node i) = maybe (k.fact i) (λ f. told buf (node_stat k i f)) (refused ENOENT refl)
host_stat k buf (host.Proc i at) = told buf (process_stat k at)

unplaced : {built : Bool} (k : Known) (buf : ℕ) (what : What) → Keeps (telling []) built false (stat_unplaced k buf what)
unplaced k buf File = refused EBADF refl
unplaced k buf DirOpen = refused EBADF refl
unplaced k buf In = told buf (console_stat k)
unplaced k buf Out = told buf (console_stat k)
unplaced k buf Err = told buf (console_stat k)
unplaced k buf (PipeRead p) = told buf (pipe_stat k p)
unplaced k buf (PipeWrite p) = told buf (pipe_stat k p)

pub fstat_keeps : {built : Bool} (k : Known) (fd : ℤ) (buf : ℕ) → Keeps (telling []) built false (fstat_row k fd buf)
fstat_keeps k fd buf = by_open k fd (λ n o. maybe o.place (λ p. host_stat k buf p.host) (unplaced k buf o.what))

pub newfstatat_keeps : {built : Bool} (k : Known) (l : Looked) (buf : ℕ) → Keeps (telling []) built false (newfstatat_row k l buf)
newfstatat_keeps k l buf = host_stat k buf l.host

pub newfstatat_here_keeps : {built : Bool} (k : Known) (fd : ℤ) (buf : ℕ) → Keeps (telling []) built false (newfstatat_here k fd buf)
newfstatat_here_keeps k fd buf = either _ (host_stat k buf k.caller.cwd) (fstat_keeps k fd buf)

text_told : {built : Bool} (buf size : ℕ) (text : List ℕ) → Keeps (telling []) built false (tell_text buf size text)
text_told buf size text = tested (λ b. either b (wrote refl (answered refl)) (refused EFAULT refl))

body_read : {built : Bool} (buf size : ℕ) (body : Body) → Keeps (telling []) built false (readlink_body buf size body)
body_read buf size (SymbolicLink text) = text_told buf size text
body_read buf size (Directory entries standing) = refused EINVAL refl
body_read buf size (RegularFile bytes) = refused EINVAL refl
body_read buf size (ProcessDirectory standing) = refused EINVAL refl

host_read : {built : Bool} (k : Known) (at : Host) (text : Option (List ℕ)) (buf size : ℕ) → Keeps (telling []) built false (readlink_host k at text buf size)
host_read k (host.Node i) text buf size = maybe (known_node k i) (λ n. body_read buf size n.body) (refused ENOENT refl)
host_read k (host.Proc i at) text buf size = either _ (refused EINVAL refl) (maybe text (text_told buf size) (refused ENOENT refl))

pub readlinkat_keeps : {built : Bool} (k : Known) (l : Looked) (text : Option (List ℕ)) (buf : ℕ) (size : ℤ) → Keeps (telling []) built false (readlinkat_row k l text buf size)
readlinkat_keeps k l text buf size = host_read k l.host text buf _
