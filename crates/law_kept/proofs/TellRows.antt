-- Calls that tell of files and directories write bytes: numbers, names and texts.
use Rattle.std.proofs.Common.{ℕ, ◌<◌, ◌-◌, ◌+◌, Bool, true, false, List, [], ◌∷◌, ◌++◌, take, replicate, length, refl, arith, Option, Some, None, ℤ, cond}
use Rattle.std.specs.Prelude.{◌==◌, IfSome, codes, map as map_list, nat_le, nat_lt, unsigned_abs}
use Rattle.std.specs.Int.{to_le_bytes, w16, w32, w64}
use Rattle.std.specs.List.{AllByRecursion, find}
use Rattle.std.specs.Option.{option_map_or}
use Rattle.kr_first.specs.pr_base.declared.errno.Errno.TheVariants.{EBADF, EFAULT, EINVAL, ENOENT, ENOTDIR, ERANGE}
use Rattle.kr_first.specs.kr_calls.DirectoryEntries.{entry_bytes, head_size, record_length}
use Rattle.kr_first.specs.kr_calls.Stats.{laid, stat_fields, stat_layout}
use Rattle.kr_first.specs.kr_calls.declared.stat.Stat.{Stat}
use Rattle.kr_first.specs.kr_tree.Lawful.{AreBytes, IsOfBytes}
use Rattle.kr_first.specs.kr_tree.Tree.{Body, Directory, Entry, Node, ProcessDirectory, RegularFile, SymbolicLink}
use Rattle.kr_first.specs.kr_tree.declared.place.Host.{Host}
use Rattle.kr_first.specs.kr_tree.declared.place.Host.TheVariants as host
use Rattle.kr_first.specs.kr_tree.declared.place.ProcAt.{ProcAt}
use Rattle.kr_first.specs.kr_tree.declared.place.ProcAt.TheVariants.{Cwd, Dir, Exe, Fd, FdDir, Root, SelfLink}
use Rattle.kr_first.specs.kr_view.Component.{is_process_directory}
use Rattle.kr_first.specs.kr_procfs.Objects.{own_name}
use Rattle.kr_first.specs.kr_files.declared.opened.What.{What}
use Rattle.kr_first.specs.kr_files.declared.opened.What.TheVariants.{Dir as DirOpen, Err, File, In, Out, PipeRead, PipeWrite}
use Rattle.kr_first.specs.kr_model.Asking.{is_over}
use Rattle.kr_first.specs.kr_model.AttributeRows.{console_stat, fstat_row, newfstatat_here, newfstatat_row, node_stat, pipe_stat, process_stat, readlink_body, readlink_host, readlinkat_row, stat_host, stat_unplaced, tell_stat, tell_text}
use Rattle.kr_first.specs.kr_model.DirectoryRows.{Listed, behind, fitting, getcwd_row, getdents64_row, kind_of_body, list_host, list_rest, listed_bytes, listed_entry, listed_process, of_descriptors, of_process, of_processes, shown_by, shown_by_body, shown_by_process, tell_directory, tell_entries, with_dots}
use Rattle.kr_first.specs.kr_model.Known.{Family, Known, known_node}
use Rattle.kr_first.specs.kr_model.Reply.{refuse}
use Rattle.kr_first.specs.kr_model.Seen.{Looked}
use Rattle.law_kept.specs.Bringing.{KnowsBytes}
use Rattle.law_kept.proofs.ActionLemmas.{either_way}
use Rattle.law_kept.proofs.FileRows.{node-bytes}
use Rattle.law_kept.proofs.ListLemmas.{all-passed, bytes-laid, bytes-tested, decimal-bytes, first-of, joined, six-joined, word-bytes, zeros}
use Rattle.law_kept.proofs.RowLemmas.{Puts, answered, by-open, maybe, refused, written}

-- ---- what is listed

-- an entry's name is of bytes, and its kind is one
record IsListable (l : Listed) : Type 0 where
  name : AreBytes l.name
  kind : l.kind < 256

abbrev AreListable : List Listed → Type 0
AreListable entries = AllByRecursion IsListable entries

body-kind : (b : Body) → kind_of_body b < 256
body-kind (Directory entries standing) = omega arith
body-kind (RegularFile bytes) = omega arith
body-kind (SymbolicLink text) = omega arith
body-kind (ProcessDirectory standing) = omega arith

process-kind : (b : Bool) → (cond b 4 10) < 256
process-kind true = omega arith
process-kind false = omega arith

own-name : (at : ProcAt) → AreBytes (own_name at)
own-name SelfLink = bytes-tested (codes "self") refl
own-name (Dir pid) = decimal-bytes pid
own-name (Cwd pid) = bytes-tested (codes "cwd") refl
own-name (Root pid) = bytes-tested (codes "root") refl
own-name (Exe pid) = bytes-tested (codes "exe") refl
own-name (FdDir pid) = bytes-tested (codes "fd") refl
own-name (Fd pid fd) = decimal-bytes fd

process-listable : (at : ProcAt) → IsListable (listed_process at)
process-listable at = record { name = own-name at; kind = process-kind (is_process_directory at) }

dots-listable : (here above : ℕ) (entries : List Listed) → AreListable entries → AreListable (with_dots here above entries)
dots-listable here above entries are = (record { name = bytes-tested (codes ".") refl; kind = omega arith }, (record { name = bytes-tested (codes "..") refl; kind = omega arith }, are))

map-listable : {A : Type 0} (f : A → Listed) (xs : List A) → ((x : A) → IsListable (f x)) → AreListable (map_list f xs)
map-listable f [] each = tt
map-listable f (x ∷ xs) each = (each x, map-listable f xs each)

of-process-listable : (pid : ℕ) → AreListable (of_process pid)
of-process-listable pid = (process-listable (Cwd pid), (process-listable (Root pid), (process-listable (Exe pid), (process-listable (FdDir pid), tt))))

module _ (k : Known) (knows : KnowsBytes k) where
  entry-kind : (o : Option Node) → option_map_or (λ (n : Node). kind_of_body n.body) o 8 < 256
  entry-kind None = omega arith
  entry-kind (Some n) = body-kind n.body

  entries-listable : (entries : List Entry) → AllByRecursion (λ e. AreBytes e.name) entries → AreListable (map_list (listed_entry k) entries)
  entries-listable [] are = tt
  entries-listable (e ∷ entries) are = (record { name = are.0; kind = entry-kind (known_node k e.inode) }, entries-listable entries are.1)

  descriptors-listable : (pid : ℕ) → AreListable (of_descriptors k pid)
  descriptors-listable pid = by (find (λ p. p.pid == pid) k.living)
    where
      by : (o : Option Family) → AreListable (option_map_or (λ (p : Family). map_list (λ fd. listed_process (Fd pid fd)) p.fds) o [])
      by None = tt
      by (Some p) = map-listable (λ fd. listed_process (Fd pid fd)) p.fds (λ fd. process-listable (Fd pid fd))

  processes-listable : AreListable (of_processes k)
  processes-listable = (process-listable SelfLink, map-listable (λ (p : Family). listed_process (Dir p.pid)) k.living (λ p. process-listable (Dir p.pid)))

  body-shows : (i : ℕ) (b : Body) → IsOfBytes b → IfSome (shown_by_body k i b) AreListable
  body-shows i (Directory entries None) are = tt
  body-shows i (Directory entries (Some s)) are = dots-listable i s.inode (map_list (listed_entry k) entries) (entries-listable entries are)
  body-shows i (ProcessDirectory None) are = tt
  body-shows i (ProcessDirectory (Some s)) are = dots-listable i s.inode (of_processes k) processes-listable
  body-shows i (RegularFile bytes) are = tt
  body-shows i (SymbolicLink text) are = tt

  unless-over : (b : Bool) (entries : List Listed) → AreListable entries → IfSome (cond b None (Some entries)) AreListable
  unless-over true entries are = tt
  unless-over false entries are = are

  process-shows : (i : ℕ) (at : ProcAt) → IfSome (shown_by_process k i at) AreListable
  process-shows i (Dir pid) = unless-over (is_over k (Dir pid)) _ (dots-listable _ _ (of_process pid) (of-process-listable pid))
  process-shows i (FdDir pid) = unless-over (is_over k (FdDir pid)) _ (dots-listable _ _ (of_descriptors k pid) (descriptors-listable pid))
  process-shows i SelfLink = tt
  process-shows i (Cwd pid) = tt
  process-shows i (Root pid) = tt
  process-shows i (Exe pid) = tt
  process-shows i (Fd pid fd) = tt

  host-shows : (h : Host) → IfSome (shown_by k h) AreListable
  host-shows (host.Proc i at) = process-shows i at
  host-shows (host.Node i) = by (known_node k i) (node-bytes k knows i)
    where
      by : (o : Option Node) → IfSome o (λ n. IsOfBytes n.body) → IfSome (option_map_or (λ (n : Node). shown_by_body k i n.body) o None) AreListable
      by None are = tt
      by (Some n) are = body-shows i n.body are

  -- ---- getdents64(2)

  fitting-listable : (n : ℕ) (entries : List Listed) → AreListable entries → AreListable (fitting n entries)
  fitting-listable n [] are = tt
  fitting-listable n (e ∷ entries) are = by (nat_le (record_length e.name) n) (fitting-listable (n - record_length e.name) entries are.1)
    where
      by : (b : Bool) → AreListable (fitting (n - record_length e.name) entries) → AreListable (cond b (e ∷ fitting (n - record_length e.name) entries) [])
      by true rest = (are.0, rest)
      by false rest = tt

  entry-bytes : (ino off kind : ℕ) (name : List ℕ) → AreBytes name → kind < 256 → AreBytes (entry_bytes ino off kind name)
  entry-bytes ino off kind name are small =
      let one = to_le_bytes w64 ino in
      let two = to_le_bytes w64 off in
      let three = to_le_bytes w16 (record_length name) in
      six-joined one two three (kind ∷ []) name (replicate (record_length name - (head_size + length name)) 0)
      (word-bytes w64 ino) (word-bytes w64 off) (word-bytes w16 (record_length name)) (small, tt) are (zeros (record_length name - (head_size + length name)))

  listed-are-bytes : (entries : List Listed) → AreListable entries → AreBytes (listed_bytes entries)
  listed-are-bytes [] are = tt
  listed-are-bytes (e ∷ entries) are = joined (entry_bytes e.inode e.serial e.kind e.name) (listed_bytes entries) (entry-bytes e.inode e.serial e.kind e.name are.0.name are.0.kind) (listed-are-bytes entries are.1)

  entries-told : (fd buf : ℕ) (entries : List Listed) → AreListable entries → Puts (tell_entries fd buf entries)
  entries-told fd buf [] are = refused EINVAL
  entries-told fd buf (e ∷ entries) are = written buf (listed_bytes (e ∷ entries)) (listed-are-bytes (e ∷ entries) are) (refused EFAULT) (answered refl)

  rest-listed : (fd buf n : ℕ) (entries : List Listed) → AreListable entries → Puts (list_rest fd buf n entries)
  rest-listed fd buf n [] are = answered refl
  rest-listed fd buf n (e ∷ entries) are = entries-told fd buf _ (fitting-listable n (e ∷ entries) are)

  shown-listed : (fd at buf n : ℕ) (o : Option (List Listed)) → IfSome o AreListable → Puts (option_map_or (λ entries. list_rest fd buf n (behind at entries)) o (refuse ENOENT))
  shown-listed fd at buf n None are = refused ENOENT
  shown-listed fd at buf n (Some entries) are = rest-listed fd buf n (behind at entries) (all-passed IsListable (λ e. nat_lt at e.serial) entries are)

  host-listed : (fd at buf n : ℕ) (h : Host) → Puts (list_host k fd at buf n h)
  host-listed fd at buf n h = either_way _ (refused ENOTDIR) (shown-listed fd at buf n (shown_by k h) (host-shows h))

  pub getdents64-puts : (fd : ℤ) (buf : ℕ) (n : ℤ) → Puts (getdents64_row k fd buf n)
  getdents64-puts fd buf n = by-open k fd (λ number o. maybe o.place (λ p is. host-listed number o.at buf _ p.host) (refused ENOTDIR))

  -- ---- texts

  text-told : (buf size : ℕ) (text : List ℕ) → AreBytes text → Puts (tell_text buf size text)
  text-told buf size text are = written buf (take size text) (first-of size text are) (refused EFAULT) (answered refl)

  body-read : (buf size : ℕ) (body : Body) → IsOfBytes body → Puts (readlink_body buf size body)
  body-read buf size (SymbolicLink text) are = text-told buf size text are
  body-read buf size (Directory entries standing) are = refused EINVAL
  body-read buf size (RegularFile bytes) are = refused EINVAL
  body-read buf size (ProcessDirectory standing) are = refused EINVAL

  node-read : (buf size : ℕ) (o : Option Node) → IfSome o (λ n. IsOfBytes n.body) → Puts (option_map_or (λ (n : Node). readlink_body buf size n.body) o (refuse ENOENT))
  node-read buf size None are = refused ENOENT
  node-read buf size (Some n) are = body-read buf size n.body are

  process-read : (buf size : ℕ) (o : Option (List ℕ)) → IfSome o AreBytes → Puts (option_map_or (tell_text buf size) o (refuse ENOENT))
  process-read buf size None are = refused ENOENT
  process-read buf size (Some text) are = text-told buf size text are

  host-read : (at : Host) (text : Option (List ℕ)) (buf size : ℕ) → IfSome text AreBytes → Puts (readlink_host k at text buf size)
  host-read (host.Node i) text buf size are = node-read buf size (known_node k i) (node-bytes k knows i)
  host-read (host.Proc i at) text buf size are = either_way _ (refused EINVAL) (process-read buf size text are)

  pub readlinkat-puts : (l : Looked) (text : Option (List ℕ)) (buf : ℕ) (size : ℤ) → IfSome text AreBytes → Puts (readlinkat_row k l text buf size)
  readlinkat-puts l text buf size are = host-read l.host text buf (unsigned_abs size) are

-- ---- stat(2)

laid-bytes : (bytes : List ℕ) (fields : List (ℕ × List ℕ)) → AllByRecursion (λ f. AreBytes f.1) fields → AreBytes bytes → AreBytes (laid bytes fields)
laid-bytes bytes [] are own = own
laid-bytes bytes (field ∷ fields) are own = laid-bytes _ fields are.1 (bytes-laid bytes field.0 field.1 are.0 own)

stat-bytes : (s : Stat) → AreBytes (stat_layout s)
stat-bytes s =
    laid-bytes (replicate 128 0) (stat_fields s)
    (word-bytes w64 s.dev, (word-bytes w64 s.ino, (word-bytes w32 s.mode, (word-bytes w32 s.nlink, (word-bytes w32 s.uid, (word-bytes w32 s.gid, (word-bytes w64 s.rdev, (word-bytes w64 s.size, (word-bytes w32 s.blksize, (word-bytes w64 s.blocks, tt))))))))))
    (zeros 128)

module _ (k : Known) where
  stat-told : (buf : ℕ) (s : Stat) → Puts (tell_stat buf s)
  stat-told buf s = written buf (stat_layout s) (stat-bytes s) (refused EFAULT) (answered refl)

  host-told : (buf : ℕ) (at : Host) → Puts (stat_host k buf at)
  host-told buf (host.Node i) = maybe (k.fact i) (λ f is. stat-told buf (node_stat k i f)) (refused ENOENT)
  host-told buf (host.Proc i at) = stat-told buf (process_stat k at)

  unplaced-told : (buf : ℕ) (what : What) → Puts (stat_unplaced k buf what)
  unplaced-told buf File = refused EBADF
  unplaced-told buf DirOpen = refused EBADF
  unplaced-told buf In = stat-told buf (console_stat k)
  unplaced-told buf Out = stat-told buf (console_stat k)
  unplaced-told buf Err = stat-told buf (console_stat k)
  unplaced-told buf (PipeRead p) = stat-told buf (pipe_stat k p)
  unplaced-told buf (PipeWrite p) = stat-told buf (pipe_stat k p)

  pub fstat-puts : (fd : ℤ) (buf : ℕ) → Puts (fstat_row k fd buf)
  fstat-puts fd buf = by-open k fd (λ n o. maybe o.place (λ p is. host-told buf p.host) (unplaced-told buf o.what))

  pub newfstatat-puts : (l : Looked) (buf : ℕ) → Puts (newfstatat_row k l buf)
  newfstatat-puts l buf = host-told buf l.host

  pub newfstatat-here-puts : (fd : ℤ) (buf : ℕ) → Puts (newfstatat_here k fd buf)
  newfstatat-here-puts fd buf = either_way _ (host-told buf k.caller.cwd) (fstat-puts fd buf)

-- ---- the working directory

directory-told : (buf size : ℕ) (name : List ℕ) → AreBytes name → Puts (tell_directory buf size name)
directory-told buf size name are = either_way _ (refused ERANGE) (written buf (name ++ 0 ∷ []) (joined name (0 ∷ []) are (omega arith, tt)) (refused EFAULT) (answered refl))

pub getcwd-puts : (name : Option (List ℕ)) (buf size : ℕ) → IfSome name AreBytes → Puts (getcwd_row name buf size)
getcwd-puts None buf size are = refused ENOENT
getcwd-puts (Some name) buf size are = directory-told buf size name are
