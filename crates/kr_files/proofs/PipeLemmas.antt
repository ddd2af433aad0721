-- Reading and writing of pipes: from the pipes as they are kept to their bytes.
use Rattle.std.specs.FinMap as map
use Rattle.std.proofs.Common.{◌≡◌, ◌≤◌, ◌-◌, length-append, length-drop, inl, inr, subst, ℕ, zero, suc, Bool, true, false, ◌&&◌, ◌||◌, List, [], ◌∷◌, ◌++◌, length, take, drop, refl, sym, ap, ◌∙◌, arith, cond, Option, Some, None}
use Rattle.std.specs.Prelude.{◌==◌, min, nat_le, IsSome}
use Rattle.std.specs.Option.{option_map, option_map_or}
use Rattle.std.proofs.lemmas.Bool.{and_parts, cases_eq, false≢true}
use Rattle.std.proofs.lemmas.Bool.Decides.{nat_tests}
use Rattle.std.proofs.lemmas.List.{append-nil, length-take}
use Rattle.std.proofs.lemmas.Option.{same_Some}
use Rattle.kr_files.specs.declared.opened.Moved.TheVariants.{Bytes, NotReady as ReadNotReady}
use Rattle.kr_files.specs.declared.opened.Wrote.{Wrote}
use Rattle.kr_files.specs.declared.opened.Wrote.TheVariants.{Took, NotReady as WriteNotReady, NoReader}
use Rattle.kr_files.specs.Files.{Kept, has_reader, has_writer, reads_wait, writes_wait, on_table, pipe_after_read, pipe_after_write, pipe_state_of}
use Rattle.kr_tree.specs.pr_base.Maps.{changed}
use Rattle.kr_files.specs.OpenFiles.{Store}
use Rattle.kr_files.specs.Pipes.{moved_of, wrote_of, after_write, read_waits}
use Rattle.kr_files.specs.StoredPipes.{Pipe, PipeTable, holding, reader_open}
use Rattle.kr_files.specs.Sound.{IsSound, is_noted, kept_of}
use Rattle.kr_tree.proofs.pr_base.MapLemmas.{some-insert, get-insert_same, get-insert_other, insert-same, changed-some, get-mapped, mapped-insert}
use Rattle.kr_files.proofs.CloseLemmas.{bytes_of}

pub get_bytes : (pipes : PipeTable) (p : ℕ) → map.get (bytes_of pipes) p ≡ option_map (λ (q : Pipe). q.bytes) (map.get pipes p)
get_bytes pipes p = get-mapped (λ k q. q.bytes) pipes p

there : (o : Option Pipe) → IsSome (option_map (λ (q : Pipe). q.bytes) o) → (q : Pipe) × (o ≡ Some q)
there None h = absurd (cc)
there (Some q) h = (q, refl)

-- a pipe whose bytes are there is there
pub pipe_there : (pipes : PipeTable) (p : ℕ) → IsSome (map.get (bytes_of pipes) p) → (q : Pipe) × (map.get pipes p ≡ Some q)
pipe_there pipes p h = there (map.get pipes p) (subst IsSome (get_bytes pipes p) h)

-- what is told of a pipe that is there
pub told : {Y : Type 0} (f : Pipe → Y) (o : Option Pipe) (q : Pipe) (y : Y) → o ≡ Some q → option_map f o ≡ Some y → f q ≡ y
told f o q y here is = same_Some (f q) y (sym (ap (option_map f) here) ∙ is)

pub reader_told : (pipes : PipeTable) (p : ℕ) (q : Pipe) → map.get pipes p ≡ Some q → reader_open p pipes ≡ q.reader
reader_told pipes p q here = ap (λ o. option_map_or (λ (r : Pipe). r.reader) o false) here

is_empty : (bs : List ℕ) → (length bs == 0) ≡ true → bs ≡ []
is_empty [] h = refl
is_empty (b ∷ bs) h = let e : (length (b ∷ bs) == 0) ≡ false = grind (arith, nat_tests) in absurd (false≢true (sym e ∙ h))

drop_nothing : (n : ℕ) (bs : List ℕ) → bs ≡ [] → drop n bs ≡ bs
drop_nothing n bs e = ap (drop n) e ∙ none n ∙ sym e
  where
    none : (n : ℕ) → ◌≡◌ {A = List ℕ} (drop n []) []
    none zero = refl
    none (suc n) = refl

no_room : (bs b : List ℕ) → nat_le 65536 (length bs) ≡ true → bs ++ take (65536 - length bs) b ≡ bs
no_room bs b full =
    let e : 65536 - length bs ≡ 0 = grind (arith, nat_tests) in
    ap (λ n. bs ++ take n b) e ∙ append-nil bs

module _ {M : Type 0} (o : Store M) (pipes : PipeTable) (last_file last_pipe : ℕ) (s : IsSound o.files pipes last_file last_pipe) (p : ℕ) where
  abbrev kept : Kept M
  kept = kept_of o pipes last_file last_pipe

  pub state-none : map.get pipes p ≡ None → pipe_state_of kept.table p ≡ None
  state-none none = ap (option_map _) (get_bytes pipes p ∙ ap (option_map (λ (q : Pipe). q.bytes)) none)

  module _ (q : Pipe) (here : map.get pipes p ≡ Some q) where
    held : map.get (bytes_of pipes) p ≡ Some q.bytes
    held = get_bytes pipes p ∙ ap (option_map (λ (r : Pipe). r.bytes)) here

    pub reader_is : q.reader ≡ has_reader kept.table p
    reader_is = s.noted true p q here

    pub writer_is : q.writer ≡ has_writer kept.table p
    writer_is = s.noted false p q here

    pub state-some : pipe_state_of kept.table p ≡ Some (record { bytes = length q.bytes; reader = q.reader; writer = q.writer })
    state-some =
        ap (option_map (λ bytes. record { bytes = length bytes; reader = has_reader kept.table p; writer = has_writer kept.table p })) held
        ∙ ap (λ r. Some (record { bytes = length q.bytes; reader = r; writer = has_writer kept.table p })) (sym reader_is)
        ∙ ap (λ w. Some (record { bytes = length q.bytes; reader = q.reader; writer = w })) (sym writer_is)

    pub state_found : (bytes : ℕ) (reader writer : Bool) → bytes ≡ length q.bytes → reader ≡ q.reader → writer ≡ q.writer
        → Some (record { bytes = bytes; reader = reader; writer = writer }) ≡ pipe_state_of kept.table p
    state_found bytes reader writer e f g =
        ap (λ n. Some (record { bytes = n; reader = reader; writer = writer })) e
        ∙ ap (λ r. Some (record { bytes = length q.bytes; reader = r; writer = writer })) f
        ∙ ap (λ w. Some (record { bytes = length q.bytes; reader = q.reader; writer = w })) g
        ∙ sym state-some

    pub reads_wait-is : reads_wait kept.table p ≡ read_waits q.bytes q.writer
    reads_wait-is = ap (λ o. option_map_or (λ bytes. read_waits bytes (has_writer kept.table p)) o false) held ∙ ap (read_waits q.bytes) (sym writer_is)

    pub writes_wait-is : writes_wait kept.table p ≡ (q.reader && nat_le 65536 (length q.bytes))
    writes_wait-is = ap (λ o. has_reader kept.table p && option_map_or (λ bytes. nat_le 65536 (length bytes)) o false) held ∙ ap (λ b. b && nat_le 65536 (length q.bytes)) (sym reader_is)

    -- other bytes in a pipe
    pub sound-holding : (b : List ℕ) → length b ≤ 65536 → IsSound o.files (map.insert pipes p (holding b q)) last_file last_pipe
    sound-holding b small = record {
      file_numbers = s.file_numbers;
      pipe_numbers = λ k r at. elim (cases_eq k p) [
        | inl same ↦ s.pipe_numbers k q (ap (map.get pipes) same ∙ here)
        | inr other ↦ s.pipe_numbers k r (sym (get-insert_other pipes p (holding b q) k other) ∙ at)
      ];
      has_pipe = λ side k n h at is. some-insert pipes p k (holding b q) (s.has_pipe side k n h at is);
      has_end = λ k r at. elim (cases_eq k p) [
        | inl same ↦ subst (λ (x : Pipe). (x.reader || x.writer) ≡ true) (same_Some (holding b q) r (sym (get-insert_same pipes p (holding b q)) ∙ sym (ap (map.get (map.insert pipes p (holding b q))) same) ∙ at)) (s.has_end p q here)
        | inr other ↦ s.has_end k r (sym (get-insert_other pipes p (holding b q) k other) ∙ at)
      ];
      bounded = λ k r at. elim (cases_eq k p) [
        | inl same ↦ subst (λ (x : Pipe). length x.bytes ≤ 65536) (same_Some (holding b q) r (sym (get-insert_same pipes p (holding b q)) ∙ sym (ap (map.get (map.insert pipes p (holding b q))) same) ∙ at)) small
        | inr other ↦ s.bounded k r (sym (get-insert_other pipes p (holding b q) k other) ∙ at)
      ];
      noted = λ side k r at. elim (cases_eq k p) [
        | inl same ↦ ap (is_noted side) (sym (same_Some (holding b q) r (sym (get-insert_same pipes p (holding b q)) ∙ sym (ap (map.get (map.insert pipes p (holding b q))) same) ∙ at)))
            ∙ flags side ∙ s.noted side k q (ap (map.get pipes) same ∙ here)
        | inr other ↦ s.noted side k r (sym (get-insert_other pipes p (holding b q) k other) ∙ at)
      ];
      single = s.single;
    }
      where
        flags : (side : Bool) → is_noted side (holding b q) ≡ is_noted side q
        flags true = refl
        flags false = refl

    with_bytes_kept : (b : List ℕ) → kept_of o (map.insert pipes p (holding b q)) last_file last_pipe
        ≡ record { keys = o.keys; table = record { files = o.files; pipes = map.insert (bytes_of pipes) p b; last_file = last_file; last_pipe = last_pipe } }
    with_bytes_kept b =
        ap (λ held. record { keys = o.keys; table = record { files = o.files; pipes = held; last_file = last_file; last_pipe = last_pipe } }) (mapped-insert (λ k (r : Pipe). r.bytes) pipes p (holding b q))

    kept_same : (b : List ℕ) → b ≡ q.bytes → ◌≡◌ {A = Kept M} kept (record { keys = o.keys; table = record { files = o.files; pipes = map.insert (bytes_of pipes) p b; last_file = last_file; last_pipe = last_pipe } })
    kept_same b e =
        ap (λ held. record { keys = o.keys; table = record { files = o.files; pipes = held; last_file = last_file; last_pipe = last_pipe } })
        (sym (insert-same (bytes_of pipes) p q.bytes held) ∙ ap (map.insert (bytes_of pipes) p) (sym e))

    -- ---- reading

    module _ (n : ℕ) where
      read_after : on_table (pipe_after_read p n) kept ≡ record { keys = o.keys; table = record { files = o.files; pipes = map.insert (bytes_of pipes) p (drop n q.bytes); last_file = last_file; last_pipe = last_pipe } }
      read_after = ap (λ r. record { keys = o.keys; table = option_map_or (λ bytes. record { files = o.files; pipes = map.insert (bytes_of pipes) p (drop n bytes); last_file = last_file; last_pipe = last_pipe }) r kept.table }) held

      read_answer : option_map (λ bytes. moved_of bytes (has_writer kept.table p) n) (map.get (bytes_of pipes) p) ≡ Some (moved_of q.bytes q.writer n)
      read_answer = ap (option_map (λ bytes. moved_of bytes (has_writer kept.table p) n)) held ∙ ap (λ w. Some (moved_of q.bytes w n)) (sym writer_is)

      pub read-waits : read_waits q.bytes q.writer ≡ true → option_map (λ bytes. moved_of bytes (has_writer kept.table p) n) (map.get (bytes_of pipes) p) ≡ Some ReadNotReady
      read-waits waits = read_answer ∙ ap (λ b. Some (cond b ReadNotReady (Bytes (take n q.bytes)))) waits

      pub read-waits_after : read_waits q.bytes q.writer ≡ true → kept ≡ on_table (pipe_after_read p n) kept
      read-waits_after waits = kept_same (drop n q.bytes) (drop_nothing n q.bytes (is_empty q.bytes (and_parts _ _ waits).0)) ∙ sym read_after

      pub read-moves : (bytes : List ℕ) → read_waits q.bytes q.writer ≡ false → bytes ≡ take n q.bytes → option_map (λ bytes. moved_of bytes (has_writer kept.table p) n) (map.get (bytes_of pipes) p) ≡ Some (Bytes bytes)
      read-moves bytes ready is = read_answer ∙ ap (λ b. Some (cond b ReadNotReady (Bytes (take n q.bytes)))) ready ∙ ap (λ b. Some (Bytes b)) (sym is)

      pub read-moves_after : kept_of o (changed pipes p (λ r. holding (drop n r.bytes) r)) last_file last_pipe ≡ on_table (pipe_after_read p n) kept
      read-moves_after =
          ap (λ ps. kept_of o ps last_file last_pipe) (changed-some pipes p (λ r. holding (drop n r.bytes) r) q here)
          ∙ with_bytes_kept (drop n q.bytes) ∙ sym read_after

      pub sound-read : IsSound o.files (changed pipes p (λ r. holding (drop n r.bytes) r)) last_file last_pipe
      sound-read = subst (λ ps. IsSound o.files ps last_file last_pipe) (sym (changed-some pipes p (λ r. holding (drop n r.bytes) r) q here)) (sound-holding (drop n q.bytes) (omega (arith, length-drop n q.bytes, s.bounded p q here)))

    -- ---- writing

    module _ (b : List ℕ) where
      write_after : on_table (pipe_after_write p b) kept ≡ record { keys = o.keys; table = record { files = o.files; pipes = map.insert (bytes_of pipes) p (after_write q.bytes q.reader b); last_file = last_file; last_pipe = last_pipe } }
      write_after =
          ap (λ r. record { keys = o.keys; table = option_map_or (λ bytes. record { files = o.files; pipes = map.insert (bytes_of pipes) p (after_write bytes (has_reader kept.table p) b); last_file = last_file; last_pipe = last_pipe }) r kept.table }) held
          ∙ ap (λ r. record { keys = o.keys; table = record { files = o.files; pipes = map.insert (bytes_of pipes) p (after_write q.bytes r b); last_file = last_file; last_pipe = last_pipe } }) (sym reader_is)

      abbrev write_answers : Wrote → Type 0
      write_answers wrote = option_map (λ bytes. wrote_of bytes (has_reader kept.table p) b) (map.get (bytes_of pipes) p) ≡ Some wrote

      write_answer : write_answers (wrote_of q.bytes q.reader b)
      write_answer = ap (option_map (λ bytes. wrote_of bytes (has_reader kept.table p) b)) held ∙ ap (λ r. Some (wrote_of q.bytes r b)) (sym reader_is)

      pub write-no_reader : q.reader ≡ false → option_map (λ bytes. wrote_of bytes (has_reader kept.table p) b) (map.get (bytes_of pipes) p) ≡ Some NoReader
      write-no_reader none = write_answer ∙ ap (λ r. Some (wrote_of q.bytes r b)) none

      pub write-no_reader_after : q.reader ≡ false → kept ≡ on_table (pipe_after_write p b) kept
      write-no_reader_after none = kept_same (after_write q.bytes q.reader b) (ap (λ r. after_write q.bytes r b) none) ∙ sym write_after

      pub write-waits : q.reader ≡ true → nat_le 65536 (length q.bytes) ≡ true → option_map (λ bytes. wrote_of bytes (has_reader kept.table p) b) (map.get (bytes_of pipes) p) ≡ Some WriteNotReady
      write-waits some full = write_answer ∙ ap (λ r. Some (wrote_of q.bytes r b)) some ∙ ap (λ f. Some (cond f WriteNotReady (Took (min (length b) (65536 - length q.bytes))))) full

      pub write-waits_after : q.reader ≡ true → nat_le 65536 (length q.bytes) ≡ true → kept ≡ on_table (pipe_after_write p b) kept
      write-waits_after some full = kept_same (after_write q.bytes q.reader b) (ap (λ r. after_write q.bytes r b) some ∙ no_room q.bytes b full) ∙ sym write_after

      pub write-takes : (count : ℕ) → q.reader ≡ true → nat_le 65536 (length q.bytes) ≡ false → count ≡ min (length b) (65536 - length q.bytes)
          → option_map (λ bytes. wrote_of bytes (has_reader kept.table p) b) (map.get (bytes_of pipes) p) ≡ Some (Took count)
      write-takes count some room is =
          write_answer ∙ ap (λ r. Some (wrote_of q.bytes r b)) some ∙ ap (λ f. Some (cond f WriteNotReady (Took (min (length b) (65536 - length q.bytes))))) room ∙ ap (λ c. Some (Took c)) (sym is)

      pub write-takes_after : q.reader ≡ true → kept_of o (changed pipes p (λ r. holding (r.bytes ++ take (65536 - length r.bytes) b) r)) last_file last_pipe ≡ on_table (pipe_after_write p b) kept
      write-takes_after some =
          ap (λ ps. kept_of o ps last_file last_pipe) (changed-some pipes p (λ r. holding (r.bytes ++ take (65536 - length r.bytes) b) r) q here)
          ∙ with_bytes_kept (q.bytes ++ take (65536 - length q.bytes) b)
          ∙ ap (λ bytes. record { keys = o.keys; table = record { files = o.files; pipes = map.insert (bytes_of pipes) p bytes; last_file = last_file; last_pipe = last_pipe } }) (sym (ap (λ r. after_write q.bytes r b) some))
          ∙ sym write_after

      pub sound-write : IsSound o.files (changed pipes p (λ r. holding (r.bytes ++ take (65536 - length r.bytes) b) r)) last_file last_pipe
      sound-write =
          subst (λ ps. IsSound o.files ps last_file last_pipe) (sym (changed-some pipes p (λ r. holding (r.bytes ++ take (65536 - length r.bytes) b) r) q here))
          (sound-holding (q.bytes ++ take (65536 - length q.bytes) b)
          (omega (arith, length-append q.bytes (take (65536 - length q.bytes) b), length-take (65536 - length q.bytes) b, s.bounded p q here)))
