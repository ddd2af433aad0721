-- What holds of every table of open files.
use Rattle.std.specs.FinMap as map
use Rattle.std.proofs.Common.{◌≡◌, ◌≤◌, subst, ℕ, true, false, List, length, refl, sym, ap, ◌∙◌, Option, Some, None}
use Rattle.std.specs.Prelude.{◌||◌, IsSome}
use Rattle.std.specs.Option.{option_map, option_and_then}
use Rattle.kr_files.specs.declared.descs.Descriptor.{Descriptor}
use Rattle.kr_files.specs.Descriptors.{Descriptors}
use Rattle.kr_files.specs.Files.{Counted, Kept, NamesOpenFiles, file_at, has_writer}
use Rattle.kr_files.specs.Laws.{HaveKeys, AreCounted, IsKept, OpenHaveFiles}
use Rattle.kr_files.specs.OpenFiles.{Store}
use Rattle.kr_files.specs.Opened.{is_reader, is_writer}
use Rattle.kr_files.specs.Sound.{IsSound, kept_of}
use Rattle.kr_files.specs.StoredPipes.{Pipe, PipeTable}
use Rattle.kr_files.proofs.CloseLemmas.{bytes_of}
use Rattle.kr_files.proofs.OpenFileLemmas.{value_of, mapped_some}
use Rattle.kr_files.proofs.PipeLemmas.{get_bytes, pipe_there}
use Rattle.kr_files.proofs.SoundLemmas.{equal_same}

has_bytes : (pipes : PipeTable) (p : ℕ) → IsSome (map.get pipes p) → IsSome (map.get (bytes_of pipes) p)
has_bytes pipes p there =
    let q = value_of (map.get pipes p) there in
    subst IsSome (sym (get_bytes pipes p ∙ ap (option_map (λ (q : Pipe). q.bytes)) q.1)) refl

module _ {M : Type 0} where
  pub kept-sound : (o : Store M) (pipes : PipeTable) (last_file last_pipe : ℕ) → IsSound o.files pipes last_file last_pipe
      → HaveKeys o.keys o.files → AreCounted o.files → IsKept (kept_of o pipes last_file last_pipe)
  kept-sound o pipes last_file last_pipe s keys counts = record {
    keys = keys;
    counts = counts;
    file_numbers = s.file_numbers;
    pipe_numbers = λ p there. let q = pipe_there pipes p there in s.pipe_numbers p q.0 q.1;
    reads = λ p n h at is. has_bytes pipes p (s.has_pipe true p n h at (ap (is_reader p) is ∙ equal_same p));
    writes = λ p n h at is. has_bytes pipes p (s.has_pipe false p n h at (ap (is_writer p) is ∙ equal_same p));
    one_reader = λ p m n g h at_m at_n is_g is_h. s.single true p m n g h at_m at_n (ap (is_reader p) is_g ∙ equal_same p) (ap (is_reader p) is_h ∙ equal_same p);
    one_writer = λ p m n g h at_m at_n is_g is_h. s.single false p m n g h at_m at_n (ap (is_writer p) is_g ∙ equal_same p) (ap (is_writer p) is_h ∙ equal_same p);
    ends = λ p there.
        let q = pipe_there pipes p there in
        sym (ap (λ b. b || has_writer (kept_of o pipes last_file last_pipe).table p) (s.noted true p q.0 q.1)) ∙ sym (ap (λ b. q.0.reader || b) (s.noted false p q.0 q.1)) ∙ s.has_end p q.0 q.1;
    bytes = λ p bytes at.
        let q = mapped_some (λ (q : Pipe). q.bytes) (map.get pipes p) bytes (sym (get_bytes pipes p) ∙ at) in
        subst (λ (b : List ℕ). length b ≤ 65536) q.2 (s.bounded p q.0 q.1);
  }

  -- what is open is there
  pub open_there : (f : Kept M) (d : Descriptors) → IsKept f → NamesOpenFiles f d → OpenHaveFiles f d
  open_there f d kept names fd = (back (map.get d fd), there (map.get d fd) refl)
    where
      back : (o : Option Descriptor) → IsSome (option_and_then (λ (x : Descriptor). file_at f.table x.number) o) → IsSome o
      back None h = h
      back (Some x) h = refl

      file_there : (o : Option (Counted M)) → IsSome o → IsSome (option_map (λ (h : Counted M). h.opened) o)
      file_there None h = h
      file_there (Some h) e = refl

      there : (o : Option Descriptor) → map.get d fd ≡ o → IsSome o → IsSome (option_and_then (λ (x : Descriptor). file_at f.table x.number) o)
      there None e h = h
      there (Some x) e h = file_there (map.get f.table.files x.number) (kept.keys.leads x.key x.number (names fd x e))
