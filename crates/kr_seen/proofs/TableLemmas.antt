-- Each call does on open files with the numbers of their mounts what it does on open files.
use Rattle.std.specs.FinMap as map
use Rattle.std.proofs.Common.{◌≡◌, ℕ, ◌+◌, ◌-◌, Bool, true, false, ◌||◌, List, [], ◌∷◌, drop, refl, sym, ap, ◌∙◌, cond, Option, Some, None, nat_lt}
use Rattle.std.specs.Prelude.{map as map_list}
use Rattle.std.specs.List.{list_any}
use Rattle.std.specs.Option.{option_map, option_map_or, option_and_then}
use Rattle.std.specs.Ordering.{nat_cmp}
use Rattle.kr_ops.specs.pr_base.Maps.{mapped}
use Rattle.kr_ops.proofs.pr_base.MapLemmas.{entries-mapped, get-mapped, mapped-insert, mapped-remove}
use Rattle.kr_ops.specs.kr_view.Leads.{numbered}
use Rattle.kr_ops.specs.kr_files.declared.opened.Opened.{Opened}
use Rattle.kr_ops.specs.kr_files.declared.opened.What.{What}
use Rattle.kr_ops.specs.kr_files.declared.opened.What.TheVariants.{File, Dir, In, Out, Err, PipeRead, PipeWrite}
use Rattle.kr_ops.specs.kr_files.Descriptors.{Meanings, named_count}
use Rattle.kr_ops.specs.kr_files.Files.{Counted, Table, file_at, has_kind, has_reader, with_file, with_pipe, with_copy, with_copies, pipes_left, without_file, closed, counted_more, on_opened, with_opened, with_all_opened, with_bytes, pipe_after_read, pipe_after_write}
use Rattle.kr_ops.specs.kr_files.Opened.{is_reader, is_writer, pipe_end, remembers, nameless, named_at, after_removal, after_rename}
use Rattle.kr_ops.specs.kr_files.Pipes.{after_write}
use Rattle.kr_ops.proofs.kr_files.MountLemmas.{mapped-changed, mapped-mapped}
use Rattle.kr_ops.specs.kr_model.State.{place_of}
use Rattle.kr_seen.specs.Numbered.{opened_numbered, counted_numbered, table_numbered}

-- a table with one descriptor less of a file that is there
abbrev with_less : {M : Type 0} → ℕ → Table M → Counted M → Table M
with_less n t h = cond (nat_lt 1 h.count) (record t { files = map.insert t.files n (record h { count = h.count - 1 }) }) (without_file n h.opened.what t)

module _ {T : Type 0} (number : T → ℕ) where
  abbrev counted : Counted T → Counted ℕ
  counted h = counted_numbered number h

  abbrev files_numbered : map.FinMap nat_cmp (Counted T) → map.FinMap nat_cmp (Counted ℕ)
  files_numbered files = mapped (λ n. counted_numbered number) files

  -- the same ends of pipes are open
  pub kind-numbered : (test : What → Bool) (files : map.FinMap nat_cmp (Counted T)) → has_kind test (files_numbered files) ≡ has_kind test files
  kind-numbered test files =
      ap (λ (es : List (ℕ × Counted ℕ)). list_any (λ (h : Counted ℕ). test h.opened.what) (map_list (λ (e : ℕ × Counted ℕ). e.1) es)) (entries-mapped (λ n. counted_numbered number) files)
      ∙ by (map.entries files)
    where
      by : (es : List (ℕ × Counted T)) → list_any (λ (h : Counted ℕ). test h.opened.what) (map_list (λ (e : ℕ × Counted ℕ). e.1) (map_list (λ (e : ℕ × Counted T). (e.0, counted e.1)) es)) ≡ list_any (λ (h : Counted T). test h.opened.what) (map_list (λ (e : ℕ × Counted T). e.1) es)
      by [] = refl
      by (e ∷ es) = ap (λ b. test e.1.opened.what || b) (by es)

  -- ---- what an open file remembers

  chosen : (b : Bool) (o p : Opened T) → opened_numbered number (cond b o p) ≡ cond b (opened_numbered number o) (opened_numbered number p)
  chosen true o p = refl
  chosen false o p = refl

  pub removal-opened : (dir : ℕ) (name : List ℕ) (o : Opened T) → opened_numbered number (after_removal dir name o) ≡ after_removal dir name (opened_numbered number o)
  removal-opened dir name o = chosen (remembers dir name o) (nameless o) o

  pub rename-opened : (dir : ℕ) (name : List ℕ) (to : ℕ) (new : List ℕ) (o : Opened T) → opened_numbered number (after_rename dir name to new o) ≡ after_rename dir name to new (opened_numbered number o)
  rename-opened dir name to new o =
      let kept = after_removal to new o in
      chosen (remembers dir name kept) (named_at to new kept) kept
      ∙ ap (λ (k : Opened ℕ). cond (remembers dir name k) (named_at to new k) k) (removal-opened to new o)

  module _ (t : Table T) where
    on_files : (a b : map.FinMap nat_cmp (Counted ℕ)) → a ≡ b → ◌≡◌ {A = Table ℕ}
        (record { files = a; pipes = t.pipes; last_file = t.last_file; last_pipe = t.last_pipe })
        (record { files = b; pipes = t.pipes; last_file = t.last_file; last_pipe = t.last_pipe })
    on_files a b e = ap (λ fs. record { files = fs; pipes = t.pipes; last_file = t.last_file; last_pipe = t.last_pipe }) e

    -- ---- looking

    pub file-numbered : (n : ℕ) → file_at (table_numbered number t) n ≡ option_map (opened_numbered number) (file_at t n)
    file-numbered n = ap (option_map (λ (h : Counted ℕ). h.opened)) (get-mapped (λ k. counted_numbered number) t.files n) ∙ by (map.get t.files n)
      where
        by : (o : Option (Counted T)) → option_map (λ (h : Counted ℕ). h.opened) (option_map counted o) ≡ option_map (opened_numbered number) (option_map (λ (h : Counted T). h.opened) o)
        by None = refl
        by (Some h) = refl

    pub place-numbered : (n : ℕ) → place_of (table_numbered number t) n ≡ option_map (numbered number) (place_of t n)
    place-numbered n = ap (option_and_then (λ (o : Opened ℕ). o.place)) (file-numbered n) ∙ by (file_at t n)
      where
        by : (o : Option (Opened T)) → option_and_then (λ (o : Opened ℕ). o.place) (option_map (opened_numbered number) o) ≡ option_map (numbered number) (option_and_then (λ (o : Opened T). o.place) o)
        by None = refl
        by (Some o) = refl

    -- ---- descriptors that come and go

    pub with_file-numbered : (o : Opened T) → table_numbered number (with_file o t) ≡ with_file (opened_numbered number o) (table_numbered number t)
    with_file-numbered o =
        ap (λ fs. record { files = fs; pipes = t.pipes; last_file = t.last_file + 1; last_pipe = t.last_pipe })
        (mapped-insert (λ n. counted_numbered number) t.files (t.last_file + 1) (record { opened = o; count = 1 }))

    pub with_pipe-numbered : table_numbered number (with_pipe t) ≡ with_pipe (table_numbered number t)
    with_pipe-numbered =
        let reader : Counted T = record { opened = pipe_end (PipeRead (t.last_pipe + 1)) true false; count = 1 } in
        let writer : Counted T = record { opened = pipe_end (PipeWrite (t.last_pipe + 1)) false true; count = 1 } in
        ap (λ fs. record { files = fs; pipes = map.insert t.pipes (t.last_pipe + 1) []; last_file = t.last_file + 1 + 1; last_pipe = t.last_pipe + 1 })
        (mapped-insert (λ n. counted_numbered number) (map.insert t.files (t.last_file + 1) reader) (t.last_file + 1 + 1) writer
        ∙ ap (λ m. map.insert m (t.last_file + 1 + 1) (counted writer)) (mapped-insert (λ n. counted_numbered number) t.files (t.last_file + 1) reader))

    pub with_copy-numbered : (n : ℕ) → table_numbered number (with_copy n t) ≡ with_copy n (table_numbered number t)
    with_copy-numbered n = on_files _ _ (mapped-changed (counted_numbered number) t.files n (counted_more 1) (counted_more 1) (λ h. refl))

    pub with_copies-numbered : (d : Meanings) → table_numbered number (with_copies d t) ≡ with_copies d (table_numbered number t)
    with_copies-numbered d =
        on_files _ _ (mapped-mapped (counted_numbered number) t.files (λ n. counted_more (named_count d n)) (λ n. counted_more (named_count d n)) (λ n h. refl))

    left_kind : (test : What → Bool) (n : ℕ) → has_kind test (map.remove t.files n) ≡ has_kind test (map.remove (files_numbered t.files) n)
    left_kind test n = sym (kind-numbered test (map.remove t.files n)) ∙ ap (λ fs. has_kind test fs) (mapped-remove (λ k. counted_numbered number) t.files n)

    left-numbered : (n : ℕ) (what : What) → pipes_left what (map.remove t.files n) t.pipes ≡ pipes_left what (map.remove (files_numbered t.files) n) t.pipes
    left-numbered n (PipeRead p) = ap (λ b. cond b t.pipes (map.remove t.pipes p)) (left_kind (is_writer p) n)
    left-numbered n (PipeWrite p) = ap (λ b. cond b t.pipes (map.remove t.pipes p)) (left_kind (is_reader p) n)
    left-numbered n File = refl
    left-numbered n Dir = refl
    left-numbered n In = refl
    left-numbered n Out = refl
    left-numbered n Err = refl

    without_file-numbered : (n : ℕ) (what : What) → table_numbered number (without_file n what t) ≡ without_file n what (table_numbered number t)
    without_file-numbered n what =
        let files = mapped-remove (λ k. counted_numbered number) t.files n in
        let pipes = left-numbered n what in
        λ i. record { files = files i; pipes = pipes i; last_file = t.last_file; last_pipe = t.last_pipe }

    pub closed-numbered : (n : ℕ) → table_numbered number (closed n t) ≡ closed n (table_numbered number t)
    unfolding closed
    closed-numbered n = by (map.get t.files n) ∙ sym (ap (λ o. option_map_or (with_less n (table_numbered number t)) o (table_numbered number t)) (get-mapped (λ k. counted_numbered number) t.files n))
      where
        by_count : (h : Counted T) (b : Bool)
            → table_numbered number (cond b (record t { files = map.insert t.files n (record h { count = h.count - 1 }) }) (without_file n h.opened.what t))
            ≡ cond b (record (table_numbered number t) { files = map.insert (files_numbered t.files) n (record (counted h) { count = h.count - 1 }) }) (without_file n h.opened.what (table_numbered number t))
        by_count h true = on_files _ _ (mapped-insert (λ k. counted_numbered number) t.files n (record h { count = h.count - 1 }))
        by_count h false = without_file-numbered n h.opened.what

        by : (o : Option (Counted T)) → table_numbered number (option_map_or (with_less n t) o t) ≡ option_map_or (with_less n (table_numbered number t)) (option_map counted o) (table_numbered number t)
        by None = refl
        by (Some h) = by_count h (nat_lt 1 h.count)

    -- ---- what is open

    -- what is open under a number changed, by what is the same of an open file with a number
    pub opened_with-numbered : (n : ℕ) (f : Opened T → Opened T) (g : Opened ℕ → Opened ℕ) → ((o : Opened T) → opened_numbered number (f o) ≡ g (opened_numbered number o))
        → table_numbered number (with_opened n f t) ≡ with_opened n g (table_numbered number t)
    opened_with-numbered n f g same =
        on_files _ _ (mapped-changed (counted_numbered number) t.files n (on_opened f) (on_opened g) (λ h. ap (λ o. record { opened = o; count = h.count }) (same h.opened)))

    pub all_opened-numbered : (f : Opened T → Opened T) (g : Opened ℕ → Opened ℕ) → ((o : Opened T) → opened_numbered number (f o) ≡ g (opened_numbered number o))
        → table_numbered number (with_all_opened f t) ≡ with_all_opened g (table_numbered number t)
    all_opened-numbered f g same =
        on_files _ _ (mapped-mapped (counted_numbered number) t.files (λ n. on_opened f) (λ n. on_opened g) (λ n h. ap (λ o. record { opened = o; count = h.count }) (same h.opened)))

    -- ---- bytes of pipes

    pub read-numbered : (p n : ℕ) → table_numbered number (pipe_after_read p n t) ≡ pipe_after_read p n (table_numbered number t)
    read-numbered p n = by (map.get t.pipes p)
      where
        by : (o : Option (List ℕ)) → table_numbered number (option_map_or (λ bytes. with_bytes p (drop n bytes) t) o t) ≡ option_map_or (λ bytes. with_bytes p (drop n bytes) (table_numbered number t)) o (table_numbered number t)
        by None = refl
        by (Some bytes) = refl

    pub write-numbered : (p : ℕ) (b : List ℕ) → table_numbered number (pipe_after_write p b t) ≡ pipe_after_write p b (table_numbered number t)
    write-numbered p b = by (map.get t.pipes p)
      where
        by : (o : Option (List ℕ))
            → table_numbered number (option_map_or (λ bytes. with_bytes p (after_write bytes (has_reader t p) b) t) o t)
            ≡ option_map_or (λ bytes. with_bytes p (after_write bytes (has_reader (table_numbered number t) p) b) (table_numbered number t)) o (table_numbered number t)
        by None = refl
        by (Some bytes) = ap (λ r. with_bytes p (after_write bytes r b) (table_numbered number t)) (sym (kind-numbered (is_reader p) t.files))
