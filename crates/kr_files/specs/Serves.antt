-- The descriptors of a process, and what else names the open files.
use Rattle.std.specs.FinMap as map
use Rattle.std.specs.Prelude.{◌≡◌, ◌≢◌, ◌≤◌, ◌<◌, ℕ, ◌+◌, Bool, Some, IsSome, Result, IfOk, OnOk, OnErr}
use Rattle.kr_files.specs.declared.descs.Descriptor.{Descriptor}
use Rattle.kr_files.specs.Descriptors.{Descriptors, meanings, named_count, lowest_free, lowest_pair, with_copy_at}
use Rattle.kr_files.specs.Files.{Counted, Kept, NamesOpenFiles, Gives, GivesPair, with_file, with_pipe, with_copies, with_all_opened, with_opened, on_table, by_descriptor, copied, released}
use Rattle.kr_files.specs.declared.opened.FilesRefusal.{FilesRefusal}
use Rattle.kr_files.specs.declared.opened.Opened.{Opened}

module _ {M : Type 0} where
  -- a process's descriptors name open files, and each file's count is that of these descriptors and of
  -- what else names it
  pub record Serves (f : Kept M) (d : Descriptors) (others : ℕ → ℕ) : Type 0 where
    pub names : NamesOpenFiles f d
    pub below : (fd : ℕ) (x : Descriptor) → map.get d fd ≡ Some x → (fd < 1024) × (x.number ≤ f.table.last_file)
    pub counted : (n : ℕ) (h : Counted M) → map.get f.table.files n ≡ Some h → h.count ≡ named_count (meanings d) n + others n

  -- nothing else names a file that isn't opened yet
  abbrev pub IsFresh : Kept M → (ℕ → ℕ) → Type 0
  IsFresh f others = (n : ℕ) → f.table.last_file < n → others n ≡ 0

-- where a process's descriptors are served, they are after each call of that process, by what its contract says
pub record CallsServe (M : Type 0) : Type 0 where
  pub open_ : (f g : Kept M) (d e : Descriptors) (others : ℕ → ℕ) (r : Result ℕ FilesRefusal) (o : Opened M) (from : ℕ) (cloexec : Bool)
      → Serves f d others → IsFresh f others
      → IfOk r (λ fd. lowest_free d from ≡ Some fd) → OnOk r (g.table ≡ with_file o f.table)
      → IfOk r (λ fd. Gives f.keys g.keys d e fd (f.table.last_file + 1) cloexec) → OnErr r (g ≡ f) → OnErr r (e ≡ d) → Serves g e others
  pub pipe : (f g : Kept M) (d e : Descriptors) (others : ℕ → ℕ) (r : Result (ℕ × ℕ) FilesRefusal) (cloexec : Bool)
      → Serves f d others → IsFresh f others
      → IfOk r (λ fds. lowest_pair d ≡ Some (fds.0, fds.1)) → OnOk r (g.table ≡ with_pipe f.table)
      → IfOk r (λ fds. GivesPair f.keys g.keys d e fds.0 fds.1 (f.table.last_file + 1) cloexec) → OnErr r (g ≡ f) → OnErr r (e ≡ d) → Serves g e others
  pub dup : (f : Kept M) (d : Descriptors) (others : ℕ → ℕ) (fd from to : ℕ) (cloexec : Bool)
      → Serves f d others → IsSome (map.get d fd) → lowest_free d from ≡ Some to → Serves (by_descriptor d fd copied f) (with_copy_at d fd to cloexec) others
  pub dup_to : (f : Kept M) (d : Descriptors) (others : ℕ → ℕ) (fd to : ℕ) (cloexec : Bool)
      → Serves f d others → IsSome (map.get d fd) → to < 1024 → to ≢ fd
      → Serves (by_descriptor d to released (by_descriptor d fd copied f)) (with_copy_at d fd to cloexec) others
  pub close : (f : Kept M) (d : Descriptors) (others : ℕ → ℕ) (fd : ℕ)
      → Serves f d others → IsSome (map.get d fd) → Serves (by_descriptor d fd released f) (map.remove d fd) others
  -- what else names files still does
  pub close_others : (f : Kept M) (d e : Descriptors) (others : ℕ → ℕ) (fd : ℕ)
      → Serves f d others → IsSome (map.get d fd)
      → NamesOpenFiles f e → ((q : ℕ) (x : Descriptor) → map.get e q ≡ Some x → q < 1024) → ((n : ℕ) → named_count (meanings e) n ≤ others n)
      → NamesOpenFiles (by_descriptor d fd released f) e
  -- a child's descriptors are the same, and each names what the other does
  pub fork : (f : Kept M) (d : Descriptors) (others : ℕ → ℕ)
      → Serves f d others → Serves (on_table (with_copies (meanings d)) f) d (λ n. others n + named_count (meanings d) n)
  -- what is open may change
  pub changes : (f : Kept M) (d : Descriptors) (others : ℕ → ℕ) (fd : ℕ) (change : Opened M → Opened M)
      → Serves f d others → Serves (by_descriptor d fd (λ x. on_table (with_opened x.number change)) f) d others
  pub names_change : (f : Kept M) (d : Descriptors) (others : ℕ → ℕ) (change : Opened M → Opened M)
      → Serves f d others → Serves (on_table (with_all_opened change) f) d others
