-- Each call does on a table without its mounts what it does on the table.
use Rattle.std.specs.FinMap as map
use Rattle.std.proofs.Common.{◌≡◌, ℕ, ◌+◌, ◌-◌, Bool, true, false, List, [], drop, refl, sym, ap, ◌∙◌, cond, Option, Some, None, nat_lt, length}
use Rattle.std.specs.Option.{option_map, option_map_or}
use Rattle.std.specs.Ordering.{nat_cmp}
use Rattle.std.proofs.lemmas.Option.{none-some, same_Some}
use Rattle.kr_files.specs.declared.opened.Opened.{Opened}
use Rattle.kr_files.specs.declared.opened.What.{What}
use Rattle.kr_files.specs.declared.opened.What.TheVariants.{File, Dir, In, Out, Err, PipeRead, PipeWrite}
use Rattle.kr_files.specs.Descriptors.{Meanings, named_count}
use Rattle.kr_files.specs.Files.{Counted, Table, file_at, has_kind, has_reader, has_writer, pipe_state_of, with_file, with_pipe, with_copy, with_copies, pipes_left, without_file, closed, counted_more, on_opened, with_opened, at_offset, with_append, with_all_opened, with_bytes, pipe_after_read, pipe_after_write}
use Rattle.kr_tree.specs.pr_base.Maps.{changed, mapped}
use Rattle.kr_files.specs.Opened.{is_reader, is_writer, pipe_end, remembers, nameless, named_at, after_removal, after_rename}
use Rattle.kr_files.specs.Pipes.{after_write}
use Rattle.kr_files.specs.WithoutMounts.{without_mount, counted_without_mount, without_mounts}
use Rattle.kr_files.proofs.KindLemmas.{same_bools, some_kind, kind_some}
use Rattle.kr_tree.proofs.pr_base.MapLemmas.{same_values, by_key, get-changed_same, get-changed_other, get-mapped, mapped-insert, mapped-remove}

module _ {X Y : Type 0} (u : X → Y) where
  pub mapped-changed : (m : map.FinMap nat_cmp X) (k : ℕ) (f : X → X) (g : Y → Y) → ((x : X) → u (f x) ≡ g (u x)) → mapped (λ n. u) (changed m k f) ≡ changed (mapped (λ n. u) m) k g
  mapped-changed m k f g same =
      same_values _ _ (by_key (λ q. map.get (mapped (λ n. u) (changed m k f)) q ≡ map.get (changed (mapped (λ n. u) m) k g) q) k
      (get-mapped (λ n. u) (changed m k f) k ∙ ap (option_map u) (get-changed_same m k f) ∙ natural (map.get m k) ∙ sym (ap (option_map g) (get-mapped (λ n. u) m k)) ∙ sym (get-changed_same (mapped (λ n. u) m) k g))
      (λ q other. get-mapped (λ n. u) (changed m k f) q ∙ ap (option_map u) (get-changed_other m k f q other) ∙ sym (get-mapped (λ n. u) m q) ∙ sym (get-changed_other (mapped (λ n. u) m) k g q other)))
    where
      natural : (o : Option X) → option_map u (option_map f o) ≡ option_map g (option_map u o)
      natural None = refl
      natural (Some x) = ap Some (same x)

  pub mapped-mapped : (m : map.FinMap nat_cmp X) (f : ℕ → X → X) (g : ℕ → Y → Y) → ((n : ℕ) (x : X) → u (f n x) ≡ g n (u x)) → mapped (λ n. u) (mapped f m) ≡ mapped g (mapped (λ n. u) m)
  mapped-mapped m f g same =
      same_values _ _ (λ q. get-mapped (λ n. u) (mapped f m) q ∙ ap (option_map u) (get-mapped f m q) ∙ natural q (map.get m q) ∙ sym (ap (option_map (g q)) (get-mapped (λ n. u) m q)) ∙ sym (get-mapped g (mapped (λ n. u) m) q))
    where
      natural : (q : ℕ) (o : Option X) → option_map u (option_map (f q) o) ≡ option_map (g q) (option_map u o)
      natural q None = refl
      natural q (Some x) = ap Some (same q x)

module _ {M : Type 0} where
  of_mapped : (o : Option (Counted M)) (h : Counted (Unit {0})) → option_map counted_without_mount o ≡ Some h → (g : Counted M) × (o ≡ Some g) × (counted_without_mount g ≡ h)
  of_mapped None h e = absurd (none-some h e)
  of_mapped (Some g) h e = (g, refl, same_Some (counted_without_mount g) h e)

  -- the same ends of pipes are open
  pub has_kind-without_mounts : (test : What → Bool) (files : map.FinMap nat_cmp (Counted M)) → has_kind test (mapped (λ n. counted_without_mount) files) ≡ has_kind test files
  has_kind-without_mounts test files =
      same_bools _ _
      (λ any.
      let found = some_kind test (mapped (λ n. counted_without_mount) files) any in
      let g = of_mapped (map.get files found.0) found.1 (sym (get-mapped (λ n. counted_without_mount) files found.0) ∙ found.2) in
      kind_some test files found.0 g.0 g.1 (ap (λ (h : Counted (Unit {0})). test h.opened.what) g.2 ∙ found.3))
      (λ any.
      let found = some_kind test files any in
      kind_some test (mapped (λ n. counted_without_mount) files) found.0 (counted_without_mount found.1) (get-mapped (λ n. counted_without_mount) files found.0 ∙ ap (option_map counted_without_mount) found.2) found.3)

  chosen : (b : Bool) (o p : Opened M) → without_mount (cond b o p) ≡ cond b (without_mount o) (without_mount p)
  chosen true o p = refl
  chosen false o p = refl

  pub removal-without_mount : (dir : ℕ) (name : List ℕ) (o : Opened M) → without_mount (after_removal dir name o) ≡ after_removal dir name (without_mount o)
  removal-without_mount dir name o = chosen (remembers dir name o) (nameless o) o

  pub rename-without_mount : (dir : ℕ) (name : List ℕ) (to : ℕ) (new : List ℕ) (o : Opened M) → without_mount (after_rename dir name to new o) ≡ after_rename dir name to new (without_mount o)
  rename-without_mount dir name to new o =
      let kept = after_removal to new o in
      chosen (remembers dir name kept) (named_at to new kept) kept
      ∙ ap (λ (k : Opened (Unit {0})). cond (remembers dir name k) (named_at to new k) k) (removal-without_mount to new o)

  module _ (t : Table M) where
    on_files : (a b : map.FinMap nat_cmp (Counted (Unit {0}))) → a ≡ b → ◌≡◌ {A = Table (Unit {0})}
        (record { files = a; pipes = t.pipes; last_file = t.last_file; last_pipe = t.last_pipe })
        (record { files = b; pipes = t.pipes; last_file = t.last_file; last_pipe = t.last_pipe })
    on_files a b e = ap (λ fs. record { files = fs; pipes = t.pipes; last_file = t.last_file; last_pipe = t.last_pipe }) e

    pub file_at-without_mounts : (n : ℕ) → file_at (without_mounts t) n ≡ option_map without_mount (file_at t n)
    file_at-without_mounts n = ap (option_map (λ (h : Counted (Unit {0})). h.opened)) (get-mapped (λ k. counted_without_mount) t.files n) ∙ twice (map.get t.files n)
      where
        twice : (o : Option (Counted M)) → option_map (λ (h : Counted (Unit {0})). h.opened) (option_map counted_without_mount o) ≡ option_map without_mount (option_map (λ (h : Counted M). h.opened) o)
        twice None = refl
        twice (Some h) = refl

    pub pipe_state-without_mounts : (p : ℕ) → pipe_state_of (without_mounts t) p ≡ pipe_state_of t p
    pipe_state-without_mounts p =
        ap (λ r. option_map (λ bytes. record { bytes = length bytes; reader = r; writer = has_writer (without_mounts t) p }) (map.get t.pipes p)) (has_kind-without_mounts (is_reader p) t.files)
        ∙ ap (λ w. option_map (λ bytes. record { bytes = length bytes; reader = has_reader t p; writer = w }) (map.get t.pipes p)) (has_kind-without_mounts (is_writer p) t.files)

    -- open
    pub with_file-without_mounts : (o : Opened M) → without_mounts (with_file o t) ≡ with_file (without_mount o) (without_mounts t)
    with_file-without_mounts o =
        ap (λ fs. record { files = fs; pipes = t.pipes; last_file = t.last_file + 1; last_pipe = t.last_pipe })
        (mapped-insert (λ n. counted_without_mount) t.files (t.last_file + 1) (record { opened = o; count = 1 }))

    -- dup
    pub with_copy-without_mounts : (n : ℕ) → without_mounts (with_copy n t) ≡ with_copy n (without_mounts t)
    with_copy-without_mounts n = on_files _ _ (mapped-changed counted_without_mount t.files n (counted_more 1) (counted_more 1) (λ h. refl))

    -- fork
    pub with_copies-without_mounts : (d : Meanings) → without_mounts (with_copies d t) ≡ with_copies d (without_mounts t)
    with_copies-without_mounts d =
        on_files _ _ (mapped-mapped counted_without_mount t.files (λ n. counted_more (named_count d n)) (λ n. counted_more (named_count d n)) (λ n h. refl))

    -- seek
    pub seek-without_mounts : (n at : ℕ) → without_mounts (with_opened n (at_offset at) t) ≡ with_opened n (at_offset at) (without_mounts t)
    seek-without_mounts n at = on_files _ _ (mapped-changed counted_without_mount t.files n (on_opened (at_offset at)) (on_opened (at_offset at)) (λ h. refl))

    -- set_append
    pub append-without_mounts : (n : ℕ) (on : Bool) → without_mounts (with_opened n (with_append on) t) ≡ with_opened n (with_append on) (without_mounts t)
    append-without_mounts n on = on_files _ _ (mapped-changed counted_without_mount t.files n (on_opened (with_append on)) (on_opened (with_append on)) (λ h. refl))

    -- pipe_read
    pub read-without_mounts : (p n : ℕ) → without_mounts (pipe_after_read p n t) ≡ pipe_after_read p n (without_mounts t)
    read-without_mounts p n =
        elim (map.get t.pipes p) as (λ o. without_mounts (option_map_or (λ bytes. with_bytes p (drop n bytes) t) o t) ≡ option_map_or (λ bytes. with_bytes p (drop n bytes) (without_mounts t)) o (without_mounts t)) [
          | None ↦ refl
          | Some bytes ↦ refl
        ]

    -- pipe_write
    pub write-without_mounts : (p : ℕ) (b : List ℕ) → without_mounts (pipe_after_write p b t) ≡ pipe_after_write p b (without_mounts t)
    write-without_mounts p b =
        elim (map.get t.pipes p) as (λ o. without_mounts (option_map_or (λ bytes. with_bytes p (after_write bytes (has_reader t p) b) t) o t) ≡ option_map_or (λ bytes. with_bytes p (after_write bytes (has_reader (without_mounts t) p) b) (without_mounts t)) o (without_mounts t)) [
          | None ↦ refl
          | Some bytes ↦ ap (λ r. with_bytes p (after_write bytes r b) (without_mounts t)) (sym (has_kind-without_mounts (is_reader p) t.files))
        ]

    -- removed
    pub removal-without_mounts : (dir : ℕ) (name : List ℕ) → without_mounts (with_all_opened (after_removal dir name) t) ≡ with_all_opened (after_removal dir name) (without_mounts t)
    removal-without_mounts dir name =
        on_files _ _ (mapped-mapped counted_without_mount t.files (λ n. on_opened (after_removal dir name)) (λ n. on_opened (after_removal dir name))
        (λ n h. ap (λ o. record { opened = o; count = h.count }) (removal-without_mount dir name h.opened)))

    -- renamed
    pub rename-without_mounts : (dir : ℕ) (name : List ℕ) (to : ℕ) (new : List ℕ) → without_mounts (with_all_opened (after_rename dir name to new) t) ≡ with_all_opened (after_rename dir name to new) (without_mounts t)
    rename-without_mounts dir name to new =
        on_files _ _ (mapped-mapped counted_without_mount t.files (λ n. on_opened (after_rename dir name to new)) (λ n. on_opened (after_rename dir name to new))
        (λ n h. ap (λ o. record { opened = o; count = h.count }) (rename-without_mount dir name to new h.opened)))

    -- pipe
    pub with_pipe-without_mounts : without_mounts (with_pipe t) ≡ with_pipe (without_mounts t)
    with_pipe-without_mounts =
        let reader : Counted M = record { opened = pipe_end (PipeRead (t.last_pipe + 1)) true false; count = 1 } in
        let writer : Counted M = record { opened = pipe_end (PipeWrite (t.last_pipe + 1)) false true; count = 1 } in
        ap (λ fs. record { files = fs; pipes = map.insert t.pipes (t.last_pipe + 1) []; last_file = t.last_file + 1 + 1; last_pipe = t.last_pipe + 1 })
        (mapped-insert (λ n. counted_without_mount) (map.insert t.files (t.last_file + 1) reader) (t.last_file + 1 + 1) writer
        ∙ ap (λ m. map.insert m (t.last_file + 1 + 1) (counted_without_mount writer)) (mapped-insert (λ n. counted_without_mount) t.files (t.last_file + 1) reader))

    left_kind : (test : What → Bool) (n : ℕ) → has_kind test (map.remove (mapped (λ k. counted_without_mount) t.files) n) ≡ has_kind test (map.remove t.files n)
    left_kind test n =
        ap (λ (fs : map.FinMap nat_cmp (Counted (Unit {0}))). has_kind test fs) (sym (mapped-remove (λ k. counted_without_mount) t.files n)) ∙ has_kind-without_mounts test (map.remove t.files n)

    left-without_mounts : (n : ℕ) (what : What) → pipes_left what (map.remove t.files n) t.pipes ≡ pipes_left what (map.remove (mapped (λ k. counted_without_mount) t.files) n) t.pipes
    left-without_mounts n (PipeRead p) = ap (λ b. cond b t.pipes (map.remove t.pipes p)) (sym (left_kind (is_writer p) n))
    left-without_mounts n (PipeWrite p) = ap (λ b. cond b t.pipes (map.remove t.pipes p)) (sym (left_kind (is_reader p) n))
    left-without_mounts n File = refl
    left-without_mounts n Dir = refl
    left-without_mounts n In = refl
    left-without_mounts n Out = refl
    left-without_mounts n Err = refl

    without_file-without_mounts : (n : ℕ) (what : What) → without_mounts (without_file n what t) ≡ without_file n what (without_mounts t)
    without_file-without_mounts n what =
        let files = mapped-remove (λ k. counted_without_mount) t.files n in
        let pipes = left-without_mounts n what in
        λ i. record { files = files i; pipes = pipes i; last_file = t.last_file; last_pipe = t.last_pipe }

    -- close, and what dup_to closes
    pub closed-without_mounts : (n : ℕ) → without_mounts (closed n t) ≡ closed n (without_mounts t)
    unfolding closed
    closed-without_mounts n =
        elim (map.get t.files n) as (λ o. without_mounts (option_map_or (λ (h : Counted M). cond (nat_lt 1 h.count) (record t { files = map.insert t.files n (record h { count = h.count - 1 }) }) (without_file n h.opened.what t)) o t)
        ≡ option_map_or (λ (h : Counted (Unit {0})). cond (nat_lt 1 h.count) (record (without_mounts t) { files = map.insert (without_mounts t).files n (record h { count = h.count - 1 }) }) (without_file n h.opened.what (without_mounts t))) (option_map counted_without_mount o) (without_mounts t)) [
          | None ↦ refl
          | Some h ↦ elim (nat_lt 1 h.count) as (λ b. without_mounts (cond b (record t { files = map.insert t.files n (record h { count = h.count - 1 }) }) (without_file n h.opened.what t))
              ≡ cond b (record (without_mounts t) { files = map.insert (without_mounts t).files n (record (counted_without_mount h) { count = h.count - 1 }) }) (without_file n h.opened.what (without_mounts t))) [
                | true ↦ on_files _ _ (mapped-insert (λ k. counted_without_mount) t.files n (record h { count = h.count - 1 }))
                | false ↦ without_file-without_mounts n h.opened.what
              ]
        ]
        ∙ sym (ap (λ o. option_map_or (λ (h : Counted (Unit {0})). cond (nat_lt 1 h.count) (record (without_mounts t) { files = map.insert (without_mounts t).files n (record h { count = h.count - 1 }) }) (without_file n h.opened.what (without_mounts t))) o (without_mounts t)) (get-mapped (λ k. counted_without_mount) t.files n))
