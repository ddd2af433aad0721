-- Calls that read, write, cut and open files move bytes alone.
use Rattle.std.proofs.Common.{◌≡◌, ℕ, Bool, true, false, List, [], ◌∷◌, drop, refl, Option, Some, None, ℤ, cond}
use Rattle.std.specs.Option.{option_map, option_map_or}
use Rattle.std.specs.Prelude.{IfSome}
use Rattle.kr_first.specs.pr_base.declared.errno.Errno.TheVariants.{EACCES, EBADF, EEXIST, EFBIG, EISDIR, ELOOP, EMFILE, ENOENT, ENOSPC, ENOTDIR}
use Rattle.kr_first.specs.kr_tree.Lawful.{AreBytes, IsOfBytes}
use Rattle.kr_first.specs.kr_tree.Tree.{Body, Directory, Node, ProcessDirectory, RegularFile, SymbolicLink, bytes_of}
use Rattle.kr_first.specs.kr_tree.declared.place.Host.{Host}
use Rattle.kr_first.specs.kr_tree.declared.place.Host.TheVariants as host
use Rattle.kr_first.specs.kr_tree.declared.place.Place.{Place}
use Rattle.kr_first.specs.kr_files.declared.opened.Opened.{Opened}
use Rattle.kr_first.specs.kr_files.declared.opened.What.{What}
use Rattle.kr_first.specs.kr_files.declared.opened.What.TheVariants.{Dir, Err, File, In, Out, PipeRead, PipeWrite}
use Rattle.kr_first.specs.kr_model.Change.{Change, OfFound, SetSize}
use Rattle.kr_first.specs.kr_model.DescriptorRows.{file_bytes, open_bytes}
use Rattle.kr_first.specs.kr_model.FileRows.{if_readable, if_writable, make_and_open, open_body, open_directory, open_file, open_found, open_host, open_new, open_under, openat_row, put_in_file, read_pieces, read_pipe, read_row, read_what, readv_row, truncates, write_file, write_pieces, write_pipe, write_row, write_what, writev_row}
use Rattle.kr_first.specs.kr_model.Known.{Fact, Known, known_node}
use Rattle.kr_first.specs.kr_model.Pieces.{Piece, asked, one_piece}
use Rattle.kr_first.specs.kr_model.Reply.{Replying, refuse}
use Rattle.kr_first.specs.kr_model.Seen.{Looked, Opening, OpensFound, OpensNew, OpensNoName, OpensSlashed}
use Rattle.law_kept.specs.Bringing.{BringBytes, KnowsBytes, LookedHasBytes, OpeningHasBytes}
use Rattle.law_kept.proofs.ActionLemmas.{either_way}
use Rattle.law_kept.proofs.ListLemmas.{first-of, rest-of}
use Rattle.law_kept.proofs.RowLemmas.{Puts, all-read, answered, brought, by-open, ending, handed, listed, maybe, refused, usable, waiting, written-to}

-- ---- what is known of nodes

module _ (k : Known) (knows : KnowsBytes k) where
  pub node-bytes : (i : ℕ) → IfSome (known_node k i) (λ n. IsOfBytes n.body)
  node-bytes i = by (k.fact i) refl
    where
      by : (o : Option Fact) → k.fact i ≡ o → IfSome (option_map (λ (f : Fact). f.node) o) (λ n. IsOfBytes n.body)
      by None is = tt
      by (Some f) is = knows.nodes i f is

  body-bytes : (b : Body) → IsOfBytes b → AreBytes (bytes_of b)
  body-bytes (Directory entries standing) are = tt
  body-bytes (RegularFile bytes) are = are
  body-bytes (SymbolicLink text) are = are
  body-bytes (ProcessDirectory standing) are = tt

  host-bytes : (h : Host) → AreBytes (file_bytes k h)
  host-bytes (host.Proc i at) = tt
  host-bytes (host.Node i) = by (known_node k i) (node-bytes i)
    where
      by : (o : Option Node) → IfSome o (λ n. IsOfBytes n.body) → AreBytes (option_map_or (λ (n : Node). bytes_of n.body) o [])
      by None are = tt
      by (Some n) are = body-bytes n.body are

  -- the bytes of an open file
  file-bytes : (o : Opened (Unit {0})) → AreBytes (open_bytes k o)
  file-bytes o = by o.place
    where
      by : (p : Option (Place (Unit {0}))) → AreBytes (option_map_or (λ (p : Place (Unit {0})). file_bytes k p.host) p [])
      by None = tt
      by (Some p) = host-bytes p.host

  -- ---- reading

  pipe-read : (pipe : ℕ) (pieces : List Piece) (o : Option (List ℕ)) → k.pipe pipe ≡ o → Puts (read_pipe k pipe pieces o)
  pipe-read pipe pieces None is = answered refl
  pipe-read pipe pieces (Some []) is = either_way _ waiting (answered refl)
  pipe-read pipe pieces (Some (b ∷ bytes)) is = handed pieces _ _ (first-of (asked pieces) (b ∷ bytes) (knows.pipes pipe (b ∷ bytes) is)) refl

  what-read : (fd : ℕ) (o : Opened (Unit {0})) (pieces : List Piece) (what : What) → Puts (read_what k fd o pieces what)
  what-read fd o pieces File = handed pieces _ _ (first-of (asked pieces) (drop o.at (open_bytes k o)) (rest-of o.at (open_bytes k o) (file-bytes o))) refl
  what-read fd o pieces Dir = refused EISDIR
  what-read fd o pieces In = handed pieces _ _ (first-of (asked pieces) k.input knows.input) refl
  what-read fd o pieces Out = refused EBADF
  what-read fd o pieces Err = refused EBADF
  what-read fd o pieces (PipeRead p) = pipe-read p pieces (k.pipe p) refl
  what-read fd o pieces (PipeWrite p) = refused EBADF

  pieces-read : (fd : ℕ) (o : Opened (Unit {0})) (pieces : List Piece) → Puts (read_pieces k fd o pieces)
  pieces-read fd o pieces = either_way _ (answered refl) (what-read fd o pieces o.what)

  readable : (fd : ℤ) {next : ℕ → Opened (Unit {0}) → Replying} → ((n : ℕ) (o : Opened (Unit {0})) → Puts (next n o)) → Puts (if_readable k fd next)
  readable fd puts = by-open k fd (λ n o. either_way _ (refused EBADF) (either_way _ (refused EISDIR) (puts n o)))

  pub read-puts : (fd : ℤ) (buf n : ℕ) → Puts (read_row k fd buf n)
  read-puts fd buf n = readable fd (λ number o. pieces-read number o (one_piece buf n))

  pub readv-puts : (fd : ℤ) (list count : ℕ) → Puts (readv_row k fd list count)
  readv-puts fd list count = readable fd (λ number o. listed list count (λ pieces. pieces-read number o pieces))

module _ (k : Known) where
  -- ---- writing

  pipe-written : (pipe : ℕ) (pieces : List Piece) (o : Option (List ℕ)) → Puts (write_pipe k pipe pieces o)
  pipe-written pipe pieces None = answered refl
  pipe-written pipe pieces (Some held) = either_way _ ending (either_way _ waiting (all-read _ (λ bytes are. brought (are, tt))))

  put : (fd : ℕ) (o : Opened (Unit {0})) (at : ℕ) (bytes : List ℕ) → AreBytes bytes → Puts (put_in_file k fd o at bytes)
  put fd o at bytes are = either_way _ (refused ENOSPC) (brought (are, (tt, tt)))

  file-written : (fd : ℕ) (o : Opened (Unit {0})) (pieces : List Piece) (at : ℕ) → Puts (write_file k fd o pieces at)
  file-written fd o pieces at = either_way _ (refused EFBIG) (all-read _ (put fd o at))

  what-written : (fd : ℕ) (o : Opened (Unit {0})) (pieces : List Piece) (what : What) → Puts (write_what k fd o pieces what)
  what-written fd o pieces File = file-written fd o pieces _
  what-written fd o pieces Dir = refused EISDIR
  what-written fd o pieces In = refused EBADF
  what-written fd o pieces Out = all-read pieces (λ bytes are. answered refl)
  what-written fd o pieces Err = all-read pieces (λ bytes are. answered refl)
  what-written fd o pieces (PipeRead p) = refused EBADF
  what-written fd o pieces (PipeWrite p) = pipe-written p pieces (k.pipe p)

  pieces-written : (fd : ℕ) (o : Opened (Unit {0})) (pieces : List Piece) → Puts (write_pieces k fd o pieces)
  pieces-written fd o pieces = either_way _ (answered refl) (usable _ pieces (what-written fd o pieces o.what))

  writable-open : (fd : ℤ) {next : ℕ → Opened (Unit {0}) → Replying} → ((n : ℕ) (o : Opened (Unit {0})) → Puts (next n o)) → Puts (if_writable k fd next)
  writable-open fd puts = by-open k fd (λ n o. either_way _ (refused EBADF) (either_way _ (refused EISDIR) (puts n o)))

  pub write-puts : (fd : ℤ) (buf n : ℕ) → Puts (write_row k fd buf n)
  write-puts fd buf n = writable-open fd (λ number o. pieces-written number o (one_piece buf n))

  pub writev-puts : (fd : ℤ) (list count : ℕ) → Puts (writev_row k fd list count)
  writev-puts fd list count = writable-open fd (λ number o. listed list count (λ pieces. pieces-written number o pieces))

  -- ---- opening

  under : (flags : ℕ) (o : Opened (Unit {0})) (after : List Change) (fd : Option ℕ) → AreBytes o.name → BringBytes after → Puts (open_under flags OfFound o after fd)
  under flags o after None are brings = refused EMFILE
  under flags o after (Some fd) are brings = brought (are, brings)

  directory-opened : (flags : ℕ) (at : Host) (readable : Bool) → Puts (open_directory k flags at readable)
  directory-opened flags at readable = either_way _ (refused EISDIR) (either_way _ (refused EACCES) (under flags _ [] _ tt tt))

  -- a cut brings zeros
  cutting-brings : (b : Bool) (i : ℕ) → BringBytes (cond b (SetSize i 0 ∷ []) [])
  cutting-brings true i = (tt, tt)
  cutting-brings false i = tt

  file-opened : (flags i : ℕ) (n : Node) (dir : ℕ) (name : List ℕ) → AreBytes name → Puts (open_file k flags i n dir name)
  file-opened flags i n dir name are = either_way _ (refused ENOTDIR) (either_way _ (refused EACCES) (under flags _ _ _ are (cutting-brings (truncates flags) i)))

  -- the entry that was looked up
  entry-name : (o : Option (ℕ × List ℕ)) → IfSome o (λ e. AreBytes e.1) → AreBytes (option_map_or (λ (e : ℕ × List ℕ). e.1) o [])
  entry-name None are = tt
  entry-name (Some e) are = are

  body-opened : (flags : ℕ) (l : Looked) (i : ℕ) (n : Node) (body : Body) → LookedHasBytes l → Puts (open_body k flags l i n body)
  body-opened flags l i n (Directory entries standing) are = directory-opened flags (host.Node i) _
  body-opened flags l i n (ProcessDirectory standing) are = directory-opened flags (host.Node i) _
  body-opened flags l i n (SymbolicLink text) are = refused ELOOP
  body-opened flags l i n (RegularFile bytes) are = file-opened flags i n _ _ (entry-name l.entry are)

  host-opened : (flags : ℕ) (l : Looked) (at : Host) → LookedHasBytes l → Puts (open_host k flags l at)
  host-opened flags l (host.Node i) are = maybe (known_node k i) (λ n is. body-opened flags l i n n.body are) (refused ENOENT)
  host-opened flags l (host.Proc i at) are = either_way _ (directory-opened flags (host.Proc i at) true) (refused ELOOP)

  found-opened : (flags : ℕ) (l : Looked) → LookedHasBytes l → Puts (open_found k flags l)
  found-opened flags l are = either_way _ (refused EEXIST) (host-opened flags l l.host are)

  made-and-opened : (flags mode d : ℕ) (name : List ℕ) (fd : Option ℕ) → AreBytes name → Puts (make_and_open k flags mode d name fd)
  made-and-opened flags mode d name None are = refused EMFILE
  made-and-opened flags mode d name (Some fd) are = either_way _ (refused ENOSPC) (brought ((are, tt), (are, tt)))

  new-opened : (flags mode : ℕ) (dir : Host) (name : List ℕ) → AreBytes name → Puts (open_new k flags mode dir name)
  new-opened flags mode dir name are = written-to k dir (λ d n. made-and-opened flags mode d name _ are)

  no-name : (b : Bool) → Puts (refuse (cond b EEXIST EISDIR))
  no-name true = refused EEXIST
  no-name false = refused EISDIR

  pub openat-puts : (o : Opening) (flags mode : ℕ) → OpeningHasBytes o → Puts (openat_row k o flags mode)
  openat-puts (OpensNoName last) flags mode are = no-name _
  openat-puts OpensSlashed flags mode are = refused EISDIR
  openat-puts (OpensFound l) flags mode are = found-opened flags l are
  openat-puts (OpensNew dir name) flags mode are = new-opened flags mode dir name are
