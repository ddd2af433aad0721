-- The open files and pipes of a machine, by their numbers.
use Rattle.std.specs.FinMap as map
use Rattle.std.specs.Prelude.{◌≡◌, ◌≢◌, ℕ, ◌+◌, ◌-◌, ◌<◌, ◌^◌, Bool, true, false, not, ◌&&◌, List, [], length, drop, nat_lt, nat_le, Option, Some, None, is_some, if◌then◌else◌, refl}
use Rattle.std.specs.List.{list_any}
use Rattle.std.specs.Option.{option_map, option_map_or, option_and_then}
use Rattle.std.specs.Ordering.{nat_cmp}
use Rattle.std.specs.Coded.{Coded, code_by, coded×, coded_ℕ, coded_list}
use Rattle.kr_files.specs.declared.descs.Descriptor.{Descriptor}
use Rattle.kr_files.specs.declared.opened.Opened.{Opened}
use Rattle.kr_files.specs.declared.opened.What.{What}
use Rattle.kr_files.specs.declared.opened.What.TheVariants.{File, Dir, In, Out, Err, PipeRead, PipeWrite}
use Rattle.kr_files.specs.declared.opened.PipeState.{PipeState}
use Rattle.kr_files.specs.Descriptors.{Descriptors, Meanings, meanings, named_count, lowest_pair}
use Rattle.kr_tree.specs.pr_base.Maps.{changed, mapped}
use Rattle.kr_files.specs.Opened.{is_reader, is_writer, pipe_end}
use Rattle.kr_files.specs.declared.opened.Moved.{Moved}
use Rattle.kr_files.specs.declared.opened.Wrote.{Wrote}
use Rattle.kr_files.specs.Pipes.{after_write, moved_of, wrote_of, read_waits}

-- an open file, and how many descriptors name it
pub record Counted (M : Type 0) : Type 0 where
  pub opened : Opened M
  pub count : ℕ

-- open files by number, the bytes of each pipe by number, and the last number that was given of either
-- kind. The first one is 1, and none is used again
pub record Table (M : Type 0) : Type 0 where
  pub files : map.FinMap nat_cmp (Counted M)
  pub pipes : map.FinMap nat_cmp (List ℕ)
  pub last_file : ℕ
  pub last_pipe : ℕ

module _ {M : Type 0} where
  -- with n more descriptors
  abbrev pub counted_more : ℕ → Counted M → Counted M
  counted_more n h = record h { count = h.count + n }

  -- with what is open changed
  abbrev pub on_opened : (Opened M → Opened M) → Counted M → Counted M
  on_opened f h = record h { opened = f h.opened }

  abbrev pub empty_table : Table M
  empty_table = record { files = map.empty; pipes = map.empty; last_file = 0; last_pipe = 0 }

  -- ---- looking

  -- what is open under a number
  abbrev pub file_at : Table M → ℕ → Option (Opened M)
  file_at t n = option_map (λ h. h.opened) (map.get t.files n)

  -- whether some open file is of a kind that passes a test
  abbrev pub has_kind : (What → Bool) → map.FinMap nat_cmp (Counted M) → Bool
  has_kind test files = list_any (λ h. test h.opened.what) (map.values files)

  -- whether the end of a pipe for reading is open, and that for writing
  abbrev pub has_reader : Table M → ℕ → Bool
  has_reader t p = has_kind (is_reader p) t.files

  abbrev pub has_writer : Table M → ℕ → Bool
  has_writer t p = has_kind (is_writer p) t.files

  -- whether a read of a pipe waits, and whether a write does: it is empty and has a writer, or full and has a reader
  abbrev pub reads_wait : Table M → ℕ → Bool
  reads_wait t p = option_map_or (λ bytes. read_waits bytes (has_writer t p)) (map.get t.pipes p) false

  abbrev pub writes_wait : Table M → ℕ → Bool
  writes_wait t p = has_reader t p && option_map_or (λ bytes. nat_le 65536 (length bytes)) (map.get t.pipes p) false

  -- how a pipe stands
  abbrev pub pipe_state_of : Table M → ℕ → Option PipeState
  pipe_state_of t p =
      option_map (λ bytes. record { bytes = length bytes; reader = has_reader t p; writer = has_writer t p }) (map.get t.pipes p)

  -- ---- opening

  -- with one more open file, which one descriptor names
  abbrev pub with_file : Opened M → Table M → Table M
  with_file o t = record t {
    files = map.insert t.files (t.last_file + 1) (record { opened = o; count = 1 });
    last_file = t.last_file + 1;
  }

  -- whether one more pipe is made: two descriptors are free, and there are fewer than 4,096 pipes
  abbrev pub takes_pipe : {X : Type 0} → Table M → map.FinMap nat_cmp X → Bool
  takes_pipe t d = is_some (lowest_pair d) && nat_lt (map.len t.pipes) 4096

  -- with one more pipe, which is empty, and its two ends, the reader first
  abbrev pub with_pipe : Table M → Table M
  with_pipe t =
      let p = t.last_pipe + 1 in
      let ends = with_file (pipe_end (PipeWrite p) false true) (with_file (pipe_end (PipeRead p) true false) t) in
      record ends { pipes = map.insert t.pipes p []; last_pipe = p }

  -- ---- descriptors that come and go

  -- with one more descriptor that names a file
  abbrev pub with_copy : ℕ → Table M → Table M
  with_copy n t = record t { files = changed t.files n (counted_more 1) }

  -- the pipes after an open file of this kind went and left these files: a pipe goes with its last end
  abbrev pub pipes_left : What → map.FinMap nat_cmp (Counted M) → map.FinMap nat_cmp (List ℕ) → map.FinMap nat_cmp (List ℕ)
  pipes_left (PipeRead p) files pipes = if has_kind (is_writer p) files then pipes else map.remove pipes p
  pipes_left (PipeWrite p) files pipes = if has_kind (is_reader p) files then pipes else map.remove pipes p
  pipes_left File files pipes = pipes
  pipes_left Dir files pipes = pipes
  pipes_left In files pipes = pipes
  pipes_left Out files pipes = pipes
  pipes_left Err files pipes = pipes

  -- without the file of a number
  abbrev pub without_file : ℕ → What → Table M → Table M
  without_file n what t =
      let files = map.remove t.files n in
      record t { files = files; pipes = pipes_left what files t.pipes }

  -- whether a descriptor of a file is its last one
  abbrev pub is_last : Table M → ℕ → Bool
  is_last t n = option_map_or (λ h. not (nat_lt 1 h.count)) (map.get t.files n) false

  -- with one descriptor less that names a file; the last one takes the file away
  unfoldable pub closed : ℕ → Table M → Table M
  closed n t =
      option_map_or
      (λ h. if nat_lt 1 h.count
      then record t { files = map.insert t.files n (record h { count = h.count - 1 }) }
      else without_file n h.opened.what t)
      (map.get t.files n) t

  -- with a copy of each of a process's descriptors
  abbrev pub with_copies : Meanings → Table M → Table M
  with_copies d t = record t { files = mapped (λ n. counted_more (named_count d n)) t.files }

  -- ---- changes of what is open

  -- with what is open under a number changed
  abbrev pub with_opened : ℕ → (Opened M → Opened M) → Table M → Table M
  with_opened n f t = record t { files = changed t.files n (on_opened f) }

  abbrev pub at_offset : ℕ → Opened M → Opened M
  at_offset at o = record o { at = at }

  abbrev pub with_append : Bool → Opened M → Opened M
  with_append on o = record o { append = on }

  -- with each open file changed
  abbrev pub with_all_opened : (Opened M → Opened M) → Table M → Table M
  with_all_opened f t = record t { files = mapped (λ n. on_opened f) t.files }

  -- ---- bytes of pipes

  -- what a read of n bytes answers, and what a write does
  abbrev pub read_answer : Table M → ℕ → ℕ → Option Moved
  read_answer t p n = option_map (λ bytes. moved_of bytes (has_writer t p) n) (map.get t.pipes p)

  abbrev pub write_answer : Table M → ℕ → List ℕ → Option Wrote
  write_answer t p b = option_map (λ bytes. wrote_of bytes (has_reader t p) b) (map.get t.pipes p)

  -- with these bytes in a pipe
  abbrev pub with_bytes : ℕ → List ℕ → Table M → Table M
  with_bytes p bytes t = record t { pipes = map.insert t.pipes p bytes }

  -- after a read of n bytes
  abbrev pub pipe_after_read : ℕ → ℕ → Table M → Table M
  pipe_after_read p n t = option_map_or (λ bytes. with_bytes p (drop n bytes) t) (map.get t.pipes p) t

  -- after a write
  abbrev pub pipe_after_write : ℕ → List ℕ → Table M → Table M
  pipe_after_write p b t =
      option_map_or (λ bytes. with_bytes p (after_write bytes (has_reader t p) b) t) (map.get t.pipes p) t

-- ---- where they are kept

-- the numbers of the open files by the keys under which they are kept, and the open files
pub record Kept (M : Type 0) : Type 0 where
  pub keys : map.FinMap nat_cmp ℕ
  pub table : Table M

abbrev pub kept_code : {M : Type 0} → Coded (Counted M) → Coded (Kept M)
kept_code code =
    code_by
    (map.FinMap nat_cmp ℕ × (map.FinMap nat_cmp (Counted _) × (map.FinMap nat_cmp (List ℕ) × (ℕ × ℕ))))
    (coded× (map.code coded_ℕ coded_ℕ) (coded× (map.code coded_ℕ code) (coded× (map.code coded_ℕ (coded_list coded_ℕ)) (coded× coded_ℕ coded_ℕ))))
    (λ f. (f.keys, (f.table.files, (f.table.pipes, (f.table.last_file, f.table.last_pipe)))))
    (λ p. record {
      keys = p.0;
      table = record { files = p.1.0; pipes = p.1.1.0; last_file = p.1.1.1.0; last_pipe = p.1.1.1.1 };
    })
    (λ _. refl)

-- a new open file has a key that was free, and a descriptor that was
pub record Gives (old new : map.FinMap nat_cmp ℕ) (old_descs new_descs : Descriptors) (fd number : ℕ) (cloexec : Bool) : Type 0 where
  pub key : ℕ
  pub was_free : map.get old key ≡ None
  pub keys : new ≡ map.insert old key number
  pub descs : new_descs ≡ map.insert old_descs fd (record { key = key; number = number; cloexec = cloexec })

-- two new open files have keys that were free, and the ends of a pipe
pub record GivesPair (old new : map.FinMap nat_cmp ℕ) (old_descs new_descs : Descriptors) (first second number : ℕ) (cloexec : Bool) : Type 0 where
  pub reader : ℕ
  pub writer : ℕ
  pub reader_free : map.get old reader ≡ None
  pub writer_free : map.get old writer ≡ None
  pub apart : writer ≢ reader
  pub keys : new ≡ map.insert (map.insert old reader number) writer (number + 1)
  pub descs : new_descs ≡ map.insert
      (map.insert old_descs first (record { key = reader; number = number; cloexec = cloexec }))
      second (record { key = writer; number = number + 1; cloexec = cloexec })

module _ {M : Type 0} where
  -- every descriptor names an open file: the one that its key leads to has its number
  abbrev pub NamesOpenFiles : Kept M → Descriptors → Type 0
  NamesOpenFiles f d = (fd : ℕ) (x : Descriptor) → map.get d fd ≡ Some x → map.get f.keys x.key ≡ Some x.number

  -- what a descriptor leads to
  abbrev pub opened_at : Kept M → Descriptors → ℕ → Option (Opened M)
  opened_at f d fd = option_and_then (λ x. file_at f.table x.number) (map.get d fd)

  -- how many descriptors name what a descriptor names
  abbrev pub count_at : Kept M → Descriptors → ℕ → ℕ
  count_at f d fd = option_map_or (λ x. option_map_or (λ h. h.count) (map.get f.table.files x.number) 0) (map.get d fd) 0

  -- with the table changed; every file stays under its key
  abbrev pub on_table : (Table M → Table M) → Kept M → Kept M
  on_table change f = record f { table = change f.table }

  -- changed by what a descriptor is
  abbrev pub by_descriptor : Descriptors → ℕ → (Descriptor → Kept M → Kept M) → Kept M → Kept M
  by_descriptor d fd change f = option_map_or (λ x. change x f) (map.get d fd) f

  -- with a copy of a descriptor
  abbrev pub copied : Descriptor → Kept M → Kept M
  copied x f = on_table (with_copy x.number) f

  -- with a descriptor closed. Its key is free where it was the last one
  abbrev pub released : Descriptor → Kept M → Kept M
  released x f = record {
    keys = (if is_last f.table x.number then map.remove f.keys x.key else f.keys);
    table = closed x.number f.table;
  }

  -- each open file's count of descriptors has room for a copy of each of these
  abbrev pub FitsCopies : Kept M → Descriptors → Type 0
  FitsCopies f d = (n : ℕ) (h : Counted M) → map.get f.table.files n ≡ Some h → h.count + named_count (meanings d) n < 2 ^ 32
