-- What calls read that end their caller.
use Rattle.std.proofs.Common.{◌≡◌, ℕ, ◌+◌, ◌-◌, ◌*◌, ◌++◌, Bool, true, false, ◌&&◌, ◌||◌, not, cond, List, [], ◌∷◌, length, Option, Some, None, IsSome, is_some, refl, sym, ap, ◌∙◌, subst, ℤ}
use Rattle.std.specs.Prelude.{◌==◌, nat_le, nat_lt, OnErr, OnOk, Result, Ok, Err, if◌then◌else◌}
use Rattle.std.specs.Option.{option_and_then, option_map, option_map_or}
use Rattle.std.proofs.lemmas.Bool.{and_parts}
use Rattle.kr_seen.specs.pr_base.declared.errno.Errno.{Errno}
use Rattle.kr_seen.specs.pr_base.declared.errno.Errno.TheVariants.{EBADF, EFAULT, EFBIG, EINVAL, EISDIR, ENOSPC}
use Rattle.kr_seen.specs.rv_mem.Actions.{CarriedOut, ReadBytes, allows_uses, carried_out, read_if_allowed}
use Rattle.kr_seen.specs.rv_mem.Memory.{Memory, after_read}
use Rattle.kr_seen.specs.rv_mem.Pages.{allows_all, any_marked, bytes_from}
use Rattle.kr_seen.specs.rv_mem.declared.rights.Use.{Use}
use Rattle.kr_seen.specs.rv_mem.declared.rights.Use.TheVariants.{Read}
use Rattle.kr_seen.specs.kr_calls.CallTable.{sigpipe}
use Rattle.kr_seen.specs.kr_calls.declared.request.Request.{Request}
use Rattle.kr_seen.specs.kr_calls.declared.request.Request.TheVariants as call
use Rattle.kr_seen.specs.kr_files.declared.opened.Opened.{Opened}
use Rattle.kr_seen.specs.kr_files.WithoutMounts.{without_mount}
use Rattle.kr_seen.specs.kr_files.declared.opened.What.{What}
use Rattle.kr_seen.specs.kr_files.declared.opened.What.TheVariants.{Dir, Err as Error, File, In, Out, PipeRead, PipeWrite}
use Rattle.kr_seen.specs.kr_tree.Changes.{file_limit, size_written}
use Rattle.kr_seen.specs.kr_model.Applied.{all_applied, images}
use Rattle.kr_seen.specs.kr_model.Asking.{descriptor_number, has_no_room_for, of_number, or_closed}
use Rattle.kr_seen.specs.kr_model.Change.{Change, PutIntoPipe, Seek, WriteErr, WriteFile, WriteOut}
use Rattle.kr_seen.specs.kr_model.DescriptorRows.{open_bytes}
use Rattle.kr_seen.specs.kr_model.FileRows.{if_writable, inode_of_open, is_dir, pipe_limit, put_in_file, write_file, write_pieces, write_pipe, write_place, write_row, write_what, writev_row}
use Rattle.kr_seen.specs.kr_model.Known.{Known, known}
use Rattle.kr_seen.specs.kr_model.Laws.{may_end}
use Rattle.kr_seen.specs.kr_model.Operation.{operation}
use Rattle.kr_seen.specs.kr_model.Pieces.{Piece, asked, cut_to, if_summed, if_usable, may_use_all, move_limit, one_piece, pieces_of, read_all, with_list}
use Rattle.kr_seen.specs.kr_model.Reply.{Reply, Replying, done, ends, refuse, waits}
use Rattle.kr_seen.specs.kr_model.Seen.{Seen}
use Rattle.kr_seen.specs.kr_model.State.{Image, State, image_layout, opened, process}
use Rattle.kr_seen.specs.kr_model.declared.outcome.Outcome.TheVariants.{Ended}
use Rattle.kr_seen.proofs.kr_model.LineLemmas.{row_ended}
use Rattle.kr_seen.specs.kr_ops.declared.state.State.{State as Code}
use Rattle.kr_seen.specs.kr_ops.Making.{IsAsBefore}
use Rattle.kr_seen.specs.kr_ops.Meaning.{meaning}
use Rattle.kr_seen.specs.kr_ops.Sound.{IsSound}
use Rattle.kr_seen.specs.Carrying.{memory_of, with_memory_of}
use Rattle.kr_seen.proofs.CarryLemmas.{own-memory}
use Rattle.kr_seen.specs.Using.{HasMemory, Reads}
use Rattle.kr_seen.proofs.UsingLemmas.{has-memory, memory-is, twice}
use Rattle.kr_calm.specs.Noted.{IsNoted, ListsAreNoted, NotedAsRead, is_read, is_unread, kills, noted}

-- ---- a list that is read twice

or-twice : (a b : Bool) → ((a || b) || b) ≡ (a || b)
or-twice true b = refl
or-twice false true = refl
or-twice false false = refl

module _ (list count : ℕ) (next : List Piece → Replying) where
  abbrev rest : List ℕ → Replying
  rest bytes = if_summed (pieces_of count bytes) next

  list-read : (m : Memory) → nat_lt 1024 count ≡ false → allows_all m.pages list (16 * count) Read ≡ true → carried_out (with_list list count next) m ≡ carried_out (rest (bytes_from m.pages list (16 * count))) (after_read m list (16 * count))
  list-read m few allowed =
      ap (λ b. carried_out (if b then refuse EINVAL else read_if_allowed list (16 * count) (Read ∷ []) (refuse EFAULT) rest) m) few
      ∙ ap (λ b. carried_out (if b then ReadBytes list (16 * count) rest else refuse EFAULT) m) allowed

  list-read-twice : (m : Memory) → nat_lt 1024 count ≡ false → allows_all m.pages list (16 * count) Read ≡ true → carried_out (with_list list count next) (after_read m list (16 * count)) ≡ carried_out (with_list list count next) m
  list-read-twice m few allowed =
      list-read (after_read m list (16 * count)) few allowed
      ∙ ap (λ b. carried_out (rest (bytes_from m.pages list (16 * count))) (record { pages = m.pages; read_marked = b })) (or-twice m.read_marked (any_marked m.pages list (16 * count)))
      ∙ sym (list-read m few allowed)

-- ---- a descriptor on which a write kills

module _ (k : Known) (fd : ℤ) (next : ℕ → Opened (Unit {0}) → Replying) where
  -- a write goes on there
  pub record GoesOn : Type 0 where
    pub number : ℕ
    pub opened : Opened (Unit {0})
    pub unread : is_unread k opened.what ≡ true
    pub row : if_writable k fd next ≡ next number opened

not-dir : (k : Known) (what : What) → is_unread k what ≡ true → is_dir what ≡ false
not-dir k (PipeWrite p) e = refl
not-dir k _ e = absurd cc

kills-on : (k : Known) (fd : ℤ) (next : ℕ → Opened (Unit {0}) → Replying) → kills k fd ≡ true → GoesOn k fd next
kills-on k fd next e = by-number (descriptor_number fd) refl e
  where
    by-open : (n : ℕ) → descriptor_number fd ≡ Some n → (o : Option (Opened (Unit {0}))) → k.opened n ≡ o → option_map_or (λ (o : Opened (Unit {0})). o.write && is_unread k o.what) o false ≡ true → GoesOn k fd next
    by-open n is None found e = absurd cc
    by-open n is (Some o) found e =
        let parts = and_parts o.write (is_unread k o.what) e in
        record {
          number = n;
          opened = o;
          unread = parts.1;
          row =
              ap (λ d. of_number k d (λ n o. if not o.write then refuse EBADF else if is_dir o.what then refuse EISDIR else next n o)) is
              ∙ ap (λ x. or_closed x (λ o. if not o.write then refuse EBADF else if is_dir o.what then refuse EISDIR else next n o)) found
              ∙ ap (λ b. if not b then refuse EBADF else if is_dir o.what then refuse EISDIR else next n o) parts.0
              ∙ ap (λ b. if b then refuse EISDIR else next n o) (not-dir k o.what parts.1);
        }

    by-number : (d : Option ℕ) → descriptor_number fd ≡ d → option_map_or (λ (o : Opened (Unit {0})). o.write && is_unread k o.what) (option_and_then k.opened d) false ≡ true → GoesOn k fd next
    by-number None is e = absurd cc
    by-number (Some n) is e = by-open n is (k.opened n) refl e

writev-alike : (k : Known) (fd : ℤ) (list count : ℕ) (m : Memory) (b : Bool) → (kills k fd && is_read list count m) ≡ b → carried_out (writev_row k fd list count) (if b then after_read m list (16 * count) else m) ≡ carried_out (writev_row k fd list count) m
writev-alike k fd list count m false e = refl
writev-alike k fd list count m true e =
    let parts = and_parts (kills k fd) (is_read list count m) e in
    let reads = and_parts (not (nat_lt 1024 count)) (allows_all m.pages list (16 * count) Read) parts.1 in
    let on = kills-on k fd (λ number o. with_list list count (write_pieces k number o)) parts.0 in
    ap (λ row. carried_out row (after_read m list (16 * count))) on.row
    ∙ list-read-twice list count (write_pieces k on.number on.opened) m (few (nat_lt 1024 count) reads.0) reads.1
    ∙ sym (ap (λ row. carried_out row m) on.row)
  where
    few : (b : Bool) → not b ≡ true → b ≡ false
    few true e = absurd cc
    few false e = refl

-- ---- rows that end their caller

abbrev Dies : CarriedOut Reply → Type 0
Dies d = d.reply.outcome ≡ Ended

-- bytes that are read for an answer
read-lives : (pieces : List Piece) (next : List ℕ → Replying) → ((bytes : List ℕ) (m : Memory) → Dies (carried_out (next bytes) m) → ⊥) → (m : Memory) → Dies (carried_out (read_all pieces next) m) → ⊥
read-lives [] next lives m e = lives [] m e
read-lives (p ∷ pieces) next lives m e = read-lives pieces (λ others. next (bytes_from m.pages p.at p.count ++ others)) (λ bytes n e. lives (bytes_from m.pages p.at p.count ++ bytes) n e) (after_read m p.at p.count) e

answer-lives : (b : Bool) (e : Errno) (n : ℕ) (changes : List Change) (m : Memory) → Dies (carried_out (cond b (refuse e) (done n changes)) m) → ⊥
answer-lives true e n changes m died = absurd cc
answer-lives false e n changes m died = absurd cc

put-lives : (k : Known) (fd : ℕ) (o : Opened (Unit {0})) (at : ℕ) (bytes : List ℕ) (m : Memory) → Dies (carried_out (put_in_file k fd o at bytes) m) → ⊥
put-lives k fd o at bytes m e =
    let size = length (open_bytes k o) in
    answer-lives (has_no_room_for size (size_written at (length bytes) size) k) ENOSPC (length bytes) (WriteFile (inode_of_open o) at bytes ∷ Seek fd (at + length bytes) ∷ []) m e

-- what dies by a write reads nothing more
abbrev DiesUnread : Known → What → Memory → CarriedOut Reply → Type 0
DiesUnread k what m d = Dies d → (is_unread k what ≡ true) × (d.memory ≡ m)

pipe-dies : (k : Known) (p : ℕ) (pieces : List Piece) (m : Memory) (held : Option (List ℕ)) → Dies (carried_out (write_pipe k p pieces held) m) → (is_some held && not (k.reader p) ≡ true) × ((carried_out (write_pipe k p pieces held) m).memory ≡ m)
pipe-dies k p pieces m None e = absurd cc
pipe-dies k p pieces m (Some held) e = by (k.reader p) (nat_le pipe_limit (length held)) e
  where
    by : (reads full : Bool) → Dies (carried_out (cond (not reads) (ends sigpipe) (cond full waits (read_all (cut_to (pipe_limit - length held) pieces) (λ bytes. done (length bytes) (PutIntoPipe p bytes ∷ []))))) m)
        → (not reads ≡ true) × ((carried_out (cond (not reads) (ends sigpipe) (cond full waits (read_all (cut_to (pipe_limit - length held) pieces) (λ bytes. done (length bytes) (PutIntoPipe p bytes ∷ []))))) m).memory ≡ m)
    by false full e = (refl, refl)
    by true true e = absurd cc
    by true false e = absurd (read-lives (cut_to (pipe_limit - length held) pieces) (λ bytes. done (length bytes) (PutIntoPipe p bytes ∷ [])) (λ bytes n e. absurd cc) m e)

file-lives : (k : Known) (fd : ℕ) (o : Opened (Unit {0})) (pieces : List Piece) (at : ℕ) (m : Memory) → Dies (carried_out (write_file k fd o pieces at) m) → ⊥
file-lives k fd o pieces at m e = by (nat_le file_limit at) e
  where
    by : (b : Bool) → Dies (carried_out (cond b (refuse EFBIG) (read_all (cut_to (file_limit - at) pieces) (put_in_file k fd o at))) m) → ⊥
    by true e = absurd cc
    by false e = read-lives (cut_to (file_limit - at) pieces) (put_in_file k fd o at) (put-lives k fd o at) m e

what-dies : (k : Known) (fd : ℕ) (o : Opened (Unit {0})) (pieces : List Piece) (m : Memory) (what : What) → DiesUnread k what m (carried_out (write_what k fd o pieces what) m)
what-dies k fd o pieces m File e = absurd (file-lives k fd o pieces (write_place k o) m e)
what-dies k fd o pieces m Dir e = absurd cc
what-dies k fd o pieces m In e = absurd cc
what-dies k fd o pieces m Out e = absurd (read-lives pieces (λ bytes. done (length bytes) (WriteOut bytes ∷ [])) (λ bytes n e. absurd cc) m e)
what-dies k fd o pieces m Error e = absurd (read-lives pieces (λ bytes. done (length bytes) (WriteErr bytes ∷ [])) (λ bytes n e. absurd cc) m e)
what-dies k fd o pieces m (PipeRead p) e = absurd cc
what-dies k fd o pieces m (PipeWrite p) e = pipe-dies k p pieces m (k.pipe p) e

-- tests read nothing
all-used : (P : CarriedOut Reply → Type 0) (what : Use) (pieces : List Piece) (next : Bool → Replying) (m : Memory) → ((b : Bool) → P (carried_out (next b) m)) → P (carried_out (may_use_all what pieces next) m)
all-used P what [] next m holds = holds true
all-used P what (p ∷ pieces) next m holds =
    all-used P what pieces (λ others. next (allows_uses m.pages p.at p.count (what ∷ []) && others)) m (λ b. holds (allows_uses m.pages p.at p.count (what ∷ []) && b))

pieces-die : (k : Known) (fd : ℕ) (o : Opened (Unit {0})) (pieces : List Piece) (m : Memory) → DiesUnread k o.what m (carried_out (write_pieces k fd o pieces) m)
pieces-die k fd o pieces m = by (asked pieces == 0)
  where
    used : (b : Bool) → DiesUnread k o.what m (carried_out (cond b (write_what k fd o pieces o.what) (refuse EFAULT)) m)
    used true = what-dies k fd o pieces m o.what
    used false = λ e. absurd cc

    by : (b : Bool) → DiesUnread k o.what m (carried_out (cond b (done 0 []) (if_usable Read pieces (write_what k fd o pieces o.what))) m)
    by true = λ e. absurd cc
    by false = all-used (DiesUnread k o.what m) Read pieces (λ allowed. if allowed then write_what k fd o pieces o.what else refuse EFAULT) m used

-- ---- what is open

-- a row that goes on where a descriptor is open for writing, and dies there
module _ (k : Known) (m : Memory) (P : CarriedOut Reply → Type 0) where
  abbrev OnlyWhereOpen : (ℕ → Opened (Unit {0}) → Replying) → Type 0
  OnlyWhereOpen next = (n : ℕ) (o : Opened (Unit {0})) → o.write ≡ true → Dies (carried_out (next n o) m) → (is_unread k o.what ≡ true) × P (carried_out (next n o) m)

  open-dies : (fd : ℤ) (next : ℕ → Opened (Unit {0}) → Replying) → OnlyWhereOpen next → Dies (carried_out (if_writable k fd next) m) → (kills k fd ≡ true) × P (carried_out (if_writable k fd next) m)
  open-dies fd next holds e = by-number (descriptor_number fd) e
    where
      by-kind : (n : ℕ) (o : Opened (Unit {0})) (write dir : Bool) → o.write ≡ write → Dies (carried_out (cond (not write) (refuse EBADF) (cond dir (refuse EISDIR) (next n o))) m)
          → ((write && is_unread k o.what) ≡ true) × P (carried_out (cond (not write) (refuse EBADF) (cond dir (refuse EISDIR) (next n o))) m)
      by-kind n o false dir is e = absurd cc
      by-kind n o true true is e = absurd cc
      by-kind n o true false is e = holds n o is e

      by-open : (n : ℕ) (o : Option (Opened (Unit {0}))) → Dies (carried_out (or_closed o (λ o. if not o.write then refuse EBADF else if is_dir o.what then refuse EISDIR else next n o)) m)
          → (option_map_or (λ (o : Opened (Unit {0})). o.write && is_unread k o.what) o false ≡ true) × P (carried_out (or_closed o (λ o. if not o.write then refuse EBADF else if is_dir o.what then refuse EISDIR else next n o)) m)
      by-open n None e = absurd cc
      by-open n (Some o) e = by-kind n o o.write (is_dir o.what) refl e

      by-number : (d : Option ℕ) → Dies (carried_out (of_number k d (λ n o. if not o.write then refuse EBADF else if is_dir o.what then refuse EISDIR else next n o)) m)
          → (option_map_or (λ (o : Opened (Unit {0})). o.write && is_unread k o.what) (option_and_then k.opened d) false ≡ true) × P (carried_out (of_number k d (λ n o. if not o.write then refuse EBADF else if is_dir o.what then refuse EISDIR else next n o)) m)
      by-number None e = absurd cc
      by-number (Some n) e = by-open n (k.opened n) e

write-dies : (k : Known) (fd : ℤ) (buf n : ℕ) (m : Memory) → Dies (carried_out (write_row k fd buf n) m) → (carried_out (write_row k fd buf n) m).memory ≡ m
write-dies k fd buf n m e =
    (open-dies k m (λ d. d.memory ≡ m) fd (λ number o. write_pieces k number o (one_piece buf n)) (λ number o write e. pieces-die k number o (one_piece buf n) m e) e).1

-- the list was read, and nothing else
abbrev ListRead : ℕ → ℕ → Memory → CarriedOut Reply → Type 0
ListRead list count m d = (is_read list count m ≡ true) × (d.memory ≡ after_read m list (16 * count))

list-dies : (k : Known) (list count : ℕ) (m : Memory) (n : ℕ) (o : Opened (Unit {0})) → Dies (carried_out (with_list list count (write_pieces k n o)) m)
    → (is_unread k o.what ≡ true) × ListRead list count m (carried_out (with_list list count (write_pieces k n o)) m)
list-dies k list count m n o e = by-count (nat_lt 1024 count) e
  where
    summed : (b : Bool) → Dies (carried_out (cond b (refuse EINVAL) (write_pieces k n o (cut_to move_limit (pieces_of count (bytes_from m.pages list (16 * count)))))) (after_read m list (16 * count)))
        → (is_unread k o.what ≡ true) × ((carried_out (cond b (refuse EINVAL) (write_pieces k n o (cut_to move_limit (pieces_of count (bytes_from m.pages list (16 * count)))))) (after_read m list (16 * count))).memory ≡ after_read m list (16 * count))
    summed true e = absurd cc
    summed false e = pieces-die k n o (cut_to move_limit (pieces_of count (bytes_from m.pages list (16 * count)))) (after_read m list (16 * count)) e

    by-rights : (allowed : Bool) → Dies (carried_out (cond allowed (ReadBytes list (16 * count) (λ bytes. if_summed (pieces_of count bytes) (write_pieces k n o))) (refuse EFAULT)) m)
        → (is_unread k o.what ≡ true) × ((allowed ≡ true) × ((carried_out (cond allowed (ReadBytes list (16 * count) (λ bytes. if_summed (pieces_of count bytes) (write_pieces k n o))) (refuse EFAULT)) m).memory ≡ after_read m list (16 * count)))
    by-rights false e = absurd cc
    by-rights true e = let died = summed (nat_lt 0x7fffffffffffffff (asked (pieces_of count (bytes_from m.pages list (16 * count))))) e in (died.0, (refl, died.1))

    by-count : (many : Bool) → Dies (carried_out (cond many (refuse EINVAL) (read_if_allowed list (16 * count) (Read ∷ []) (refuse EFAULT) (λ bytes. if_summed (pieces_of count bytes) (write_pieces k n o)))) m)
        → (is_unread k o.what ≡ true) × (((not many && allows_all m.pages list (16 * count) Read) ≡ true) × ((carried_out (cond many (refuse EINVAL) (read_if_allowed list (16 * count) (Read ∷ []) (refuse EFAULT) (λ bytes. if_summed (pieces_of count bytes) (write_pieces k n o)))) m).memory ≡ after_read m list (16 * count)))
    by-count true e = absurd cc
    by-count false e = by-rights (allows_all m.pages list (16 * count) Read) e

writev-dies : (k : Known) (fd : ℤ) (list count : ℕ) (m : Memory) → Dies (carried_out (writev_row k fd list count) m) → (carried_out (writev_row k fd list count) m).memory ≡ (if kills k fd && is_read list count m then after_read m list (16 * count) else m)
writev-dies k fd list count m e =
    let died = open-dies k m (ListRead list count m) fd (λ number o. with_list list count (write_pieces k number o)) (λ number o write e. list-dies k list count m number o e) e in
    died.1.1 ∙ sym (ap (λ b. if b && is_read list count m then after_read m list (16 * count) else m) died.0 ∙ ap (λ b. if b then after_read m list (16 * count) else m) died.1.0)

-- ---- calls

noted-alike : (pid : ℕ) (request : Request) (seen : Seen) (k : Known) (m : Memory) → carried_out (operation pid request seen k) (noted k request m) ≡ carried_out (operation pid request seen k) m
noted-alike pid (call.Writev fd list count) seen k m = writev-alike k fd list count m (kills k fd && is_read list count m) refl
noted-alike pid _ seen k m = refl

noted-ending : (pid : ℕ) (request : Request) (seen : Seen) (k : Known) (m : Memory) → may_end request ≡ true → Dies (carried_out (operation pid request seen k) m) → (carried_out (operation pid request seen k) m).memory ≡ noted k request m
noted-ending pid (call.Exit code) seen k m may e = refl
noted-ending pid (call.ExitGroup code) seen k m may e = refl
noted-ending pid (call.Write fd buf n) seen k m may e = write-dies k fd buf n m e
noted-ending pid (call.Writev fd list count) seen k m may e = writev-dies k fd list count m e
noted-ending pid _ seen k m may e = absurd cc

-- whatever the request is
rows-noted : (pid : ℕ) (request : Request) (seen : Seen) (k : Known) (m : Memory) → NotedAsRead pid request seen k m
rows-noted pid request seen k m = record {
  alike = noted-alike pid request seen k m;
  ending = λ e. noted-ending pid request seen k m (row_ended pid request seen k m e).0 e;
}

pub lists_are_noted : ListsAreNoted
lists_are_noted pid request seen k m kind = rows-noted pid request seen k m

-- ---- states

module _ {T : Type 0} {M : ℕ} (pid : ℕ) (old : Code T M) (sound : IsSound old) (lives : IsSome (process pid (meaning old))) where
  -- nothing was read
  pub nothing-read : (new : Code T M) → IsAsBefore old new → HasMemory pid (memory_of pid (meaning old)) old new
  nothing-read new same = has-memory old new pid (memory_of pid (meaning old)) sound lives same.served (same.same ∙ sym (own-memory pid (meaning old) sound.pids)) refl

  pub as-before : HasMemory pid (memory_of pid (meaning old)) old old
  as-before = nothing-read old (record { same = refl; served = sound.served })

  -- bytes were read, or can't be
  pub front-read : {A E : Type 0} (new : Code T M) (at n size : ℕ) (bytes : List ℕ) (r : Result A E) → size ≡ n
      → OnOk r (Reads pid at size bytes old new) → OnErr r (allows_all (memory_of pid (meaning old)).pages at size Read ≡ false) → OnErr r (IsAsBefore old new)
      → HasMemory pid (if allows_all (memory_of pid (meaning old)).pages at n Read then after_read (memory_of pid (meaning old)) at n else memory_of pid (meaning old)) old new
  front-read new at n size bytes (Ok x) same read bad stays =
      let m = memory_of pid (meaning old) in
      subst (λ m. HasMemory pid m old new)
      (ap (λ n. after_read m at n) same ∙ sym (ap (λ b. if b then after_read m at n else m) (ap (λ n. allows_all m.pages at n Read) (sym same) ∙ read.allowed))) read.leaves
  front-read new at n size bytes (Err e) same read bad stays =
      let m = memory_of pid (meaning old) in
      subst (λ m. HasMemory pid m old new) (sym (ap (λ b. if b then after_read m at n else m) (ap (λ n. allows_all m.pages at n Read) (sym same) ∙ bad))) (nothing-read new stays)

  pub list-read-so : (new : Code T M) (list count : ℕ) → nat_lt 1024 count ≡ false
      → HasMemory pid (if allows_all (memory_of pid (meaning old)).pages list (16 * count) Read then after_read (memory_of pid (meaning old)) list (16 * count) else memory_of pid (meaning old)) old new
      → HasMemory pid (if is_read list count (memory_of pid (meaning old)) then after_read (memory_of pid (meaning old)) list (16 * count) else memory_of pid (meaning old)) old new
  list-read-so new list count few read =
      let m = memory_of pid (meaning old) in
      subst (λ m. HasMemory pid m old new) (sym (ap (λ b. if not b && allows_all m.pages list (16 * count) Read then after_read m list (16 * count) else m) few)) read

  pub list-too-long : (list count : ℕ) → nat_lt 1024 count ≡ true
      → HasMemory pid (if is_read list count (memory_of pid (meaning old)) then after_read (memory_of pid (meaning old)) list (16 * count) else memory_of pid (meaning old)) old old
  list-too-long list count many =
      let m = memory_of pid (meaning old) in
      subst (λ m. HasMemory pid m old old) (sym (ap (λ b. if not b && allows_all m.pages list (16 * count) Read then after_read m list (16 * count) else m) many)) as-before

  -- the row that follows
  pub is-noted : (request : Request) (new : Code T M) → HasMemory pid (noted (known image_layout pid (meaning old)) request (memory_of pid (meaning old))) old new → IsNoted pid request old new
  is-noted request new leaves =
      let m = memory_of pid (meaning old) in
      let k = known image_layout pid (meaning old) in
      let memory : memory_of pid (meaning new) ≡ noted k request m = ap (memory_of pid) leaves.means ∙ memory-is pid (noted k request m) (meaning old) lives in
      record {
        leaves = leaves;
        alike = λ seen.
            ap (λ k. carried_out (operation pid request seen k) (memory_of pid (meaning new))) leaves.known ∙ ap (carried_out (operation pid request seen k)) memory ∙ noted-alike pid request seen k m;
        after = λ mounts done.
            ap (λ (s : State T Image). all_applied images mounts pid done.reply.changes s)
            (ap (with_memory_of pid done.memory) leaves.means ∙ twice pid done.memory (noted k request m) (meaning old));
        ending = λ seen ended. ap (λ (m : Memory). m.read_marked) (memory ∙ sym ((rows-noted pid request seen k m).ending ended));
      }

-- ---- descriptors, and requests

module _ {T : Type 0} (pid : ℕ) (s : State T Image) where
  pub write-kills : (fd : ℤ) (n : ℕ) (o : Opened T) → Some n ≡ descriptor_number fd → Some o ≡ opened pid n s → (b : Bool) → b ≡ is_unread (known image_layout pid s) o.what → o.write ≡ true → b ≡ kills (known image_layout pid s) fd
  write-kills fd n o number found b unread write =
      let test : Opened (Unit {0}) → Bool = λ o. o.write && is_unread (known image_layout pid s) o.what in
      unread ∙ sym (ap (λ w. w && is_unread (known image_layout pid s) o.what) write)
      ∙ ap (λ x. option_map_or test (option_map without_mount x) false) found
      ∙ ap (λ d. option_map_or test (option_and_then (known image_layout pid s).opened d) false) number

module _ (k : Known) (fd : ℤ) (list count : ℕ) (m : Memory) (r : Request) (is : r ≡ call.Writev fd list count) where
  pub noted-there : kills k fd ≡ true → noted k r m ≡ (if is_read list count m then after_read m list (16 * count) else m)
  noted-there kill = ap (λ r. noted k r m) is ∙ ap (λ b. if b && is_read list count m then after_read m list (16 * count) else m) kill

  pub not-noted : kills k fd ≡ false → noted k r m ≡ m
  not-noted kill = ap (λ r. noted k r m) is ∙ ap (λ b. if b && is_read list count m then after_read m list (16 * count) else m) kill

pub noted-elsewhere : (k : Known) (r : Request) (m : Memory) → ((fd : ℤ) (list count : ℕ) → r ≡ call.Writev fd list count → ⊥) → noted k r m ≡ m
noted-elsewhere k (call.Writev fd list count) m other = absurd (other fd list count refl)
noted-elsewhere k _ m other = refl
