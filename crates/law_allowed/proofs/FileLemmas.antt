-- Calls that read, write and cut files are allowed.
use Rattle.std.specs.FinMap as map
use Rattle.std.proofs.Common.{◌≡◌, subst, ℕ, ◌+◌, ◌-◌, ◌≤◌, ◌<◌, Bool, true, false, not, ◌&&◌, nat_lt, nat_eq, max, List, [], ◌∷◌, length, drop, refl, sym, ap, ◌∙◌, arith, cond, Some, None, Option, IsSome, ℤ}
use Rattle.std.specs.Prelude.{◌==◌, nat_le}
use Rattle.std.specs.Option.{option_map, option_map_or}
use Rattle.std.proofs.lemmas.Bool.Decides.{nat_tests}
use Rattle.std.proofs.lemmas.List.{length-take, length-drop}
use Rattle.law_lawful.specs.pr_base.declared.errno.Errno.TheVariants.{EBADF, EISDIR, EINVAL, EFBIG, ENOSPC}
use Rattle.law_lawful.specs.rv_mem.declared.rights.Use.TheVariants.{Read}
use Rattle.law_lawful.specs.kr_inode.Changes.{size_written}
use Rattle.law_lawful.specs.kr_tree.Changes as tree
use Rattle.law_lawful.specs.kr_tree.Lawful.{AreBytes}
use Rattle.law_lawful.specs.kr_tree.Tree.{Inode, Node, Body, Directory, RegularFile, SymbolicLink, ProcessDirectory, inode, body, body_is, is_file, bytes_of}
use Rattle.law_lawful.specs.kr_tree.declared.place.Host.{Host}
use Rattle.law_lawful.specs.kr_tree.declared.place.Host.TheVariants as host
use Rattle.law_lawful.specs.kr_tree.declared.place.Place.{Place}
use Rattle.law_lawful.proofs.kr_tree.AddLemmas.{passing}
use Rattle.law_lawful.proofs.kr_tree.NameLemmas.{then_some}
use Rattle.law_lawful.specs.kr_view.View.{Row, is_there}
use Rattle.law_lawful.specs.kr_files.declared.opened.Opened.{Opened}
use Rattle.law_lawful.specs.kr_files.declared.opened.What.{What}
use Rattle.law_lawful.specs.kr_files.declared.opened.What.TheVariants.{File, Dir, In, Out, Err, PipeRead, PipeWrite}
use Rattle.law_lawful.specs.kr_files.Descriptors.{Named}
use Rattle.law_lawful.specs.kr_files.Files.{file_at}
use Rattle.law_lawful.specs.kr_files.WithoutMounts.{without_mount}
use Rattle.law_lawful.specs.kr_model.Applied.{Mounts}
use Rattle.law_lawful.specs.kr_model.Asking.{has_no_room_for}
use Rattle.law_lawful.specs.kr_model.Change.{Change}
use Rattle.law_lawful.specs.kr_model.Conditions.{IsOpen}
use Rattle.law_lawful.specs.kr_model.DescriptorRows.{open_bytes}
use Rattle.law_lawful.specs.kr_model.FileRows.{is_dir, is_file_open, inode_of_open, read_pipe, read_file, read_input, read_what, read_pieces, if_readable, read_row, readv_row, pipe_limit, write_pipe, write_place, put_in_file, write_file, write_what, write_pieces, if_writable, write_row, writev_row, cut_file, ftruncate_row}
use Rattle.law_lawful.specs.kr_model.Known.{Known, Fact, known}
use Rattle.law_lawful.specs.kr_model.Lawful.{IsLawful, IsOpenIn, is_file_at}
use Rattle.law_lawful.specs.kr_model.Pieces.{Piece, asked, cut_to, one_piece}
use Rattle.law_lawful.specs.kr_model.Reply.{Replying}
use Rattle.law_lawful.specs.kr_model.State.{Image, image_layout, State, process, named, opened}
use Rattle.law_lawful.specs.Laws.{CanAllBeMade}
use Rattle.law_allowed.specs.Allowed.{IsAllowed}
use Rattle.law_allowed.proofs.KnownLemmas.{not-less, not-most, open-named, by-open}
use Rattle.law_allowed.proofs.PieceLemmas.{asked-cut, usable, all-read, handed, listed}
use Rattle.law_allowed.specs.Lasting.{AreModest}
use Rattle.law_allowed.proofs.RowLemmas.{quietly, Allowed, unchanged, refuses, ended, either, row-allowed}

-- a file has no more bytes than a file may
file-limited : (b : Body) → is_file b ≡ true → (P : Body → Type 0) → P b → ((bytes : List ℕ) → P (RegularFile bytes) → length bytes ≤ tree.file_limit) → length (bytes_of b) ≤ tree.file_limit
file-limited (Directory es s) is P p all = absurd cc
file-limited (RegularFile bytes) is P p all = all bytes p
file-limited (SymbolicLink text) is P p all = absurd cc
file-limited (ProcessDirectory s) is P p all = absurd cc

-- one written byte lies within the size that is counted
written-within : (at count old : ℕ) → 0 < count → at + count ≤ size_written at count old
written-within at count old some = by (nat_eq count 0) refl
  where
    by : (b : Bool) → nat_eq count 0 ≡ b → at + count ≤ cond b old (max old (at + count))
    by true e = let none : count ≡ 0 = grind (arith, nat_tests) in absurd (omega arith)
    by false e = omega arith

abbrev with_place : {M : Type 0} → Opened M → Option (Place M) → Opened M
with_place o q = record { place = q; dir = o.dir; name = o.name; what = o.what; read = o.read; write = o.write; append = o.append; at = o.at }

module _ {M : Type 0} (number : M → ℕ) (table : List Row) (mounts : Mounts M) (pid : ℕ) (s : State M Image) (l : IsLawful number table s) (lives : IsSome (process pid s)) where
  abbrev k : Known
  k = known image_layout pid s

  abbrev Can : List Change → Type 0
  Can cs = CanAllBeMade number table mounts pid s cs × AreModest s.user cs

  -- an open file is one of the tree, of as many bytes as the row knows
  record OpenFile (o : Opened M) : Type 0 where
    file : body_is is_file s.tree (inode_of_open (without_mount o)) ≡ true
    sized : length (open_bytes k (without_mount o)) ≡ tree.size s.tree (inode_of_open (without_mount o))
    limited : length (open_bytes k (without_mount o)) ≤ tree.file_limit

  -- what is open under a descriptor is lawful
  pub open-lawful : (fd : ℕ) (o : Opened M) → opened pid fd s ≡ Some o → IsOpenIn number s.tree table o
  open-lawful fd o e =
      let found = then_some (λ (x : Named). file_at s.files x.number) (named pid fd s) o e in
      l.files found.0.number o found.2

  known-size : (o : Option Inode) → length (option_map_or (λ (n : Node). bytes_of n.body) (option_map (λ (f : Fact). f.node) (option_map (λ (x : Inode). record { node = x.node; names = x.names; directories = x.directories }) o)) [])
      ≡ option_map_or (λ (x : Inode). length (bytes_of x.node.body)) o 0
  known-size None = refl
  known-size (Some x) = refl

  limited-size : (i : ℕ) → body_is is_file s.tree i ≡ true → tree.size s.tree i ≤ tree.file_limit
  limited-size i is =
      let own = passing is_file (inode s.tree i) is in
      let x : Inode = own.0 in
      let size = ap (λ (o : Option Inode). option_map_or (λ (x : Inode). length (bytes_of x.node.body)) o 0) own.1 in
      let few = file-limited x.node.body own.2 (λ b. body s.tree i ≡ Some b) (ap (option_map (λ (x : Inode). x.node.body)) own.1) (l.tree.sound.files_limited i) in
      omega arith

  open-file : (o : Opened M) → IsOpenIn number s.tree table o → is_file_open o.what ≡ true → OpenFile o
  open-file o is file = by o.place refl
    where
      at : (p : Place M) (h : Host) → o.place ≡ Some p → p.host ≡ h → is_file_at s.tree h ≡ true → OpenFile o
      at p (host.Proc i q) placed same passes = absurd cc
      at p (host.Node i) placed same passes =
          let own : o.place ≡ Some (record { mount = p.mount; host = host.Node i }) = placed ∙ ap (λ h. Some (record { mount = p.mount; host = h })) same in
          let number_is : inode_of_open (without_mount o) ≡ i = ap (λ q. inode_of_open (without_mount (with_place o q))) own in
          let bytes = ap (λ q. length (open_bytes k (without_mount (with_place o q)))) own in
          let size : length (open_bytes k (without_mount o)) ≡ tree.size s.tree i = bytes ∙ known-size (inode s.tree i) in
          let few = limited-size i passes in
          record {
            file = subst (λ q. body_is is_file s.tree q ≡ true) (sym number_is) passes;
            sized = size ∙ ap (tree.size s.tree) (sym number_is);
            limited = omega arith;
          }

      by : (q : Option (Place M)) → o.place ≡ q → OpenFile o
      by None e = let there = is.files file in absurd (let no : false ≡ true = sym (ap (λ (q : Option (Place M)). is_there q) e) ∙ there in cc)
      by (Some p) e = at p p.host e refl ((is.placed p e).2 ∙ file)

  -- ---- reading

  pipe-read : (pipe : ℕ) (pieces : List Piece) (o : Option (List ℕ)) → map.get s.files.pipes pipe ≡ o → Allowed Can false (read_pipe k pipe pieces o)
  pipe-read pipe pieces None e = unchanged
  pipe-read pipe pieces (Some []) e = either (k.writer pipe) (λ _. unchanged) (λ _. unchanged)
  pipe-read pipe pieces (Some (b ∷ bytes)) e = handed pieces _ _ (λ some. ((lives, subst (λ (o : Option (List ℕ)). IsSome o) (sym e) refl, tt), quietly refl))

  -- where a read ends is in the file
  file-read : (fd : ℕ) → IsOpen pid fd s → (o : Opened M) → OpenFile o → (pieces : List Piece) → Allowed Can false (read_file k fd (without_mount o) pieces)
  file-read fd is_open o file pieces =
      let bytes : List ℕ = open_bytes k (without_mount o) in
      let limited = file.limited in
      let rest = length-drop o.at bytes in
      let taken = length-take (asked pieces) (drop o.at bytes) in
      handed pieces _ _ (λ some. ((lives, (is_open, omega arith), tt), quietly refl))

  input-read : (pieces : List Piece) → Allowed Can false (read_input k pieces)
  input-read pieces =
      let rest = length-drop s.taken s.input in
      let taken = length-take (asked pieces) (drop s.taken s.input) in
      let before = l.input in
      handed pieces _ _ (λ some. ((lives, omega arith, tt), quietly refl))

  what-read : (fd : ℕ) → IsOpen pid fd s → (o : Opened M) → IsOpenIn number s.tree table o → (pieces : List Piece) (what : What) → o.what ≡ what → Allowed Can false (read_what k fd (without_mount o) pieces what)
  what-read fd is_open o is pieces File e = file-read fd is_open o (open-file o is (ap is_file_open e)) pieces
  what-read fd is_open o is pieces Dir e = refuses EISDIR
  what-read fd is_open o is pieces In e = input-read pieces
  what-read fd is_open o is pieces Out e = refuses EBADF
  what-read fd is_open o is pieces Err e = refuses EBADF
  what-read fd is_open o is pieces (PipeRead p) e = pipe-read p pieces (k.pipe p) refl
  what-read fd is_open o is pieces (PipeWrite p) e = refuses EBADF

  pieces-read : (fd : ℕ) → IsOpen pid fd s → (o : Opened M) → IsOpenIn number s.tree table o → (pieces : List Piece) → Allowed Can false (read_pieces k fd (without_mount o) pieces)
  pieces-read fd is_open o is pieces = either (asked pieces == 0) (λ _. unchanged) (λ _. what-read fd is_open o is pieces o.what refl)

  readable : (fd : ℤ) (next : ℕ → Opened (Unit {0}) → Replying) → ((n : ℕ) (o : Opened M) → IsOpen pid n s → IsOpenIn number s.tree table o → Allowed Can false (next n (without_mount o))) → Allowed Can false (if_readable k fd next)
  readable fd next allowed =
      by-open pid s fd _ (λ n o e. either (not o.read) (λ _. refuses EBADF) (λ _. either (is_dir o.what) (λ _. refuses EISDIR) (λ _. allowed n o (open-named pid s n o e) (open-lawful n o e))))

  pub read-row : (fd : ℤ) (buf n : ℕ) → Allowed Can false (read_row k fd buf n)
  read-row fd buf n = readable fd _ (λ q o is_open is. pieces-read q is_open o is (one_piece buf n))

  pub readv-row : (fd : ℤ) (list count : ℕ) → Allowed Can false (readv_row k fd list count)
  readv-row fd list count = readable fd _ (λ q o is_open is. listed list count (λ pieces. pieces-read q is_open o is pieces))

  -- ---- writing

  pipe-written : (pipe : ℕ) (pieces : List Piece) (o : Option (List ℕ)) → map.get s.files.pipes pipe ≡ o → Allowed Can false (write_pipe k pipe pieces o)
  pipe-written pipe pieces None e = unchanged
  pipe-written pipe pieces (Some held) e =
      either (not (k.reader pipe)) (λ _. ended ((lives, lives, tt), quietly refl))
      (λ _. either (nat_le pipe_limit (length held)) (λ _. unchanged)
      (λ _. all-read (cut_to (pipe_limit - length held) pieces) (λ bytes count are. ended ((lives, subst (λ (o : Option (List ℕ)). IsSome o) (sym e) refl, tt), quietly refl))))

  put : (fd : ℕ) → IsOpen pid fd s → (o : Opened M) → OpenFile o → (at : ℕ) (bytes : List ℕ) → 0 < length bytes → at + length bytes ≤ tree.file_limit → AreBytes bytes → Allowed Can false (put_in_file k fd (without_mount o) at bytes)
  put fd is_open o file at bytes some small are =
      let old : ℕ = length (open_bytes k (without_mount o)) in
      let i : ℕ = inode_of_open (without_mount o) in
      let new : ℕ = size_written at (length bytes) old in
      either (has_no_room_for old new k) (λ _. refuses ENOSPC)
      (λ room.
      let fits = not-less tree.byte_limit (s.tree.bytes - old + new) room in
      let within = written-within at (length bytes) old some in
      let sized = file.sized in
      ended ((lives, record { sized = record { file = file.file; small = small; room = has-room (s.tree.bytes - tree.size s.tree i + (at + length bytes)) (omega arith) }; are_bytes = are }, (lives, (is_open, omega arith), tt)), quietly refl))
    where
      has-room : (n : ℕ) → n ≤ tree.byte_limit → nat_lt tree.byte_limit n ≡ false
      has-room n few = grind (arith, nat_tests)

  file-written : (fd : ℕ) → IsOpen pid fd s → (o : Opened M) → OpenFile o → (pieces : List Piece) → 0 < asked pieces → (at : ℕ) → Allowed Can false (write_file k fd (without_mount o) pieces at)
  file-written fd is_open o file pieces some at =
      either (nat_le tree.file_limit at) (λ _. refuses EFBIG)
      (λ below.
      let low = not-most tree.file_limit at below in
      let cut = asked-cut (tree.file_limit - at) pieces in
      all-read (cut_to (tree.file_limit - at) pieces) (λ bytes count are. put fd is_open o file at bytes (omega arith) (omega arith) are))

  what-written : (fd : ℕ) → IsOpen pid fd s → (o : Opened M) → IsOpenIn number s.tree table o → (pieces : List Piece) → 0 < asked pieces → (what : What) → o.what ≡ what → Allowed Can false (write_what k fd (without_mount o) pieces what)
  what-written fd is_open o is pieces some File e = file-written fd is_open o (open-file o is (ap is_file_open e)) pieces some (write_place k (without_mount o))
  what-written fd is_open o is pieces some Dir e = refuses EISDIR
  what-written fd is_open o is pieces some In e = refuses EBADF
  what-written fd is_open o is pieces some Out e = all-read pieces (λ bytes count are. ended ((lives, are, tt), quietly refl))
  what-written fd is_open o is pieces some Err e = all-read pieces (λ bytes count are. ended ((lives, are, tt), quietly refl))
  what-written fd is_open o is pieces some (PipeRead p) e = refuses EBADF
  what-written fd is_open o is pieces some (PipeWrite p) e = pipe-written p pieces (k.pipe p) refl

  pieces-written : (fd : ℕ) → IsOpen pid fd s → (o : Opened M) → IsOpenIn number s.tree table o → (pieces : List Piece) → Allowed Can false (write_pieces k fd (without_mount o) pieces)
  pieces-written fd is_open o is pieces = either (asked pieces == 0) (λ _. unchanged) (λ some. usable Read pieces (what-written fd is_open o is pieces (above some) o.what refl))
    where
      above : (asked pieces == 0) ≡ false → 0 < asked pieces
      above e = grind (arith, nat_tests)

  writable : (fd : ℤ) (next : ℕ → Opened (Unit {0}) → Replying) → ((n : ℕ) (o : Opened M) → IsOpen pid n s → IsOpenIn number s.tree table o → Allowed Can false (next n (without_mount o))) → Allowed Can false (if_writable k fd next)
  writable fd next allowed =
      by-open pid s fd _ (λ n o e. either (not o.write) (λ _. refuses EBADF) (λ _. either (is_dir o.what) (λ _. refuses EISDIR) (λ _. allowed n o (open-named pid s n o e) (open-lawful n o e))))

  pub write-row : (fd : ℤ) (buf n : ℕ) → Allowed Can false (write_row k fd buf n)
  write-row fd buf n = writable fd _ (λ q o is_open is. pieces-written q is_open o is (one_piece buf n))

  pub writev-row : (fd : ℤ) (list count : ℕ) → Allowed Can false (writev_row k fd list count)
  writev-row fd list count = writable fd _ (λ q o is_open is. listed list count (λ pieces. pieces-written q is_open o is pieces))

  -- ---- the size of a file

  both : (a b : Bool) → not (a && b) ≡ false → a ≡ true
  both true b e = refl
  both false b e = absurd cc

  cut : (o : Opened M) → IsOpenIn number s.tree table o → (len : ℕ) → Allowed Can false (cut_file k (without_mount o) len)
  cut o is len =
      either (not (is_file_open o.what && o.write)) (λ _. refuses EINVAL)
      (λ opened.
      let file = open-file o is (both (is_file_open o.what) o.write opened) in
      either (nat_lt tree.file_limit len) (λ _. refuses EFBIG)
      (λ small. either (has_no_room_for (length (open_bytes k (without_mount o))) len k) (λ _. refuses ENOSPC)
      (λ room. ended (
        (
          lives,
          record {
            file = file.file;
            small = not-less tree.file_limit len small;
            room = subst (λ n. nat_lt tree.byte_limit (s.tree.bytes - n + len) ≡ false) file.sized room;
          },
          tt,
        ),
        quietly refl,
      ))))

  pub ftruncate-row : (fd : ℤ) (len : ℕ) → Allowed Can false (ftruncate_row k fd len)
  ftruncate-row fd len = by-open pid s fd _ (λ n o e. cut o (open-lawful n o e) len)

-- calls that read, write and cut files
pub record AreFileRowsAllowed {M : Type 0} (number : M → ℕ) (table : List Row) (mounts : Mounts M) (pid : ℕ) : Type 0 where
  pub read : (fd : ℤ) (buf n : ℕ) → IsAllowed number table mounts pid (λ k. read_row k fd buf n)
  pub readv : (fd : ℤ) (list count : ℕ) → IsAllowed number table mounts pid (λ k. readv_row k fd list count)
  pub write : (fd : ℤ) (buf n : ℕ) → IsAllowed number table mounts pid (λ k. write_row k fd buf n)
  pub writev : (fd : ℤ) (list count : ℕ) → IsAllowed number table mounts pid (λ k. writev_row k fd list count)
  pub ftruncate : (fd : ℤ) (len : ℕ) → IsAllowed number table mounts pid (λ k. ftruncate_row k fd len)

pub file-rows : (M : Type 0) (number : M → ℕ) (table : List Row) (mounts : Mounts M) (pid : ℕ) → AreFileRowsAllowed number table mounts pid
file-rows M number table mounts pid = record {
  read = λ fd buf n. row-allowed number table mounts pid (λ t next. Unit {0}) (λ k. read_row k fd buf n) (λ s l lives rests. read-row number table mounts pid s l lives fd buf n);
  readv = λ fd list count. row-allowed number table mounts pid (λ t next. Unit {0}) (λ k. readv_row k fd list count) (λ s l lives rests. readv-row number table mounts pid s l lives fd list count);
  write = λ fd buf n. row-allowed number table mounts pid (λ t next. Unit {0}) (λ k. write_row k fd buf n) (λ s l lives rests. write-row number table mounts pid s l lives fd buf n);
  writev = λ fd list count. row-allowed number table mounts pid (λ t next. Unit {0}) (λ k. writev_row k fd list count) (λ s l lives rests. writev-row number table mounts pid s l lives fd list count);
  ftruncate = λ fd len. row-allowed number table mounts pid (λ t next. Unit {0}) (λ k. ftruncate_row k fd len) (λ s l lives rests. ftruncate-row number table mounts pid s l lives fd len);
}
