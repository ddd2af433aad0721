-- Tables of open files after each change: what is open in them, and their pipes.
use Rattle.std.specs.FinMap as map
use Rattle.std.proofs.Common.{◌≡◌, ◌≢◌, subst, ℕ, ◌+◌, ◌-◌, ◌≤◌, Bool, true, false, nat_lt, List, [], length, refl, sym, ap, ◌∙◌, arith, cond, Option, Some, None, IsSome}
use Rattle.std.specs.Option.{option_map, option_map_or, is_some}
use Rattle.std.specs.Ordering.{nat_cmp}
use Rattle.std.proofs.lemmas.Bool.{lt-ltb}
use Rattle.std.proofs.lemmas.Option.{none-some}
use Rattle.kr_model.specs.pr_base.Maps.{changed, mapped}
use Rattle.kr_model.proofs.pr_base.MapLemmas.{by_key, get-insert_same, get-insert_other, get-remove_same, get-remove_other, get-changed_same, get-changed_other, get-mapped, some-insert, stays-changed as told-changed}
use Rattle.kr_model.specs.kr_tree.Tree.{Tree}
use Rattle.kr_model.proofs.kr_tree.NameLemmas.{some_is}
use Rattle.kr_model.specs.kr_files.declared.opened.Opened.{Opened}
use Rattle.kr_model.specs.kr_files.declared.opened.What.{What}
use Rattle.kr_model.specs.kr_files.declared.opened.What.TheVariants.{File, Dir, In, Out, Err, PipeRead, PipeWrite}
use Rattle.kr_model.specs.kr_files.Files.{Table, Counted, has_kind, with_file, closed, without_file, pipes_left}
use Rattle.kr_model.specs.kr_files.Opened.{is_reader, is_writer}
use Rattle.kr_model.proofs.kr_files.KindLemmas.{kind_some}
use Rattle.kr_model.specs.Lawful.{HasPipes}
use Rattle.kr_model.specs.State.{Process}
use Rattle.kr_model.specs.Uses.{names_of_file}
use Rattle.law_lawful.proofs.SumLemmas.{same-test}
use Rattle.law_lawful.proofs.CountLemmas.{AreCounts}

abbrev pub Files : Type 0 → Type 0
Files M = map.FinMap nat_cmp (Counted M)

module _ {M : Type 0} where
  -- ---- what is there

  pub some-changed : (files : Files M) (k : ℕ) (f : Counted M → Counted M) (q : ℕ) → IsSome (map.get files q) → IsSome (map.get (changed files k f) q)
  some-changed files k f q there = told-changed (λ (o : Option (Counted M)). is_some o) files k f (λ h. refl) q ∙ there

  pub some-mapped : (files : Files M) (f : ℕ → Counted M → Counted M) (q : ℕ) → IsSome (map.get files q) → IsSome (map.get (mapped f files) q)
  some-mapped files f q there = subst (λ o. IsSome o) (sym (get-mapped f files q)) (by (map.get files q) there)
    where
      by : (o : Option (Counted M)) → IsSome o → IsSome (option_map (f q) o)
      by None h = h
      by (Some x) h = refl

  -- ---- what is open

  -- what holds of all that is open
  pub record AllOpened (P : Opened M → Type 0) (files : Files M) : Type 0 where
    pub each : (n : ℕ) (h : Counted M) → map.get files n ≡ Some h → P h.opened

  -- all that is open in the second was so in the first
  pub record OpenStays (old new : Files M) : Type 0 where
    pub each : (n : ℕ) (h : Counted M) → map.get new n ≡ Some h → (g : Counted M) × (map.get old n ≡ Some g) × (h.opened ≡ g.opened)

  pub opened-stays : (P : Opened M → Type 0) (old new : Files M) → OpenStays old new → AllOpened P old → AllOpened P new
  opened-stays P old new stays all = record { each = λ n h e. let g = stays.each n h e in subst P (sym g.2) (all.each n g.0 g.1) }

  pub opened-added : (P : Opened M → Type 0) (files : Files M) (k : ℕ) (h : Counted M) → AllOpened P files → P h.opened → AllOpened P (map.insert files k h)
  opened-added P files k h all own = record {
    each = by_key (λ n. (g : Counted M) → map.get (map.insert files k h) n ≡ Some g → P g.opened) k
        (λ g e. subst (λ (x : Counted M). P x.opened) (some_is h g (sym (get-insert_same files k h) ∙ e)) own)
        (λ q d g e. all.each q g (sym (get-insert_other files k h q d) ∙ e));
  }

  pub stays-changed : (files : Files M) (k : ℕ) (f : Counted M → Counted M) → ((h : Counted M) → (f h).opened ≡ h.opened) → OpenStays files (changed files k f)
  stays-changed files k f same = record {
    each = by_key (λ n. (h : Counted M) → map.get (changed files k f) n ≡ Some h → (g : Counted M) × (map.get files n ≡ Some g) × (h.opened ≡ g.opened)) k
        (λ h e. at h (map.get files k) refl (sym (get-changed_same files k f) ∙ e))
        (λ q d h e. (h, sym (get-changed_other files k f q d) ∙ e, refl));
  }
    where
      at : (h : Counted M) (o : Option (Counted M)) → map.get files k ≡ o → option_map f o ≡ Some h → (g : Counted M) × (map.get files k ≡ Some g) × (h.opened ≡ g.opened)
      at h None is e = absurd cc
      at h (Some g) is e = (g, is, ap (λ (x : Counted M). x.opened) (sym (some_is (f g) h e)) ∙ same g)

  pub stays-mapped : (files : Files M) (f : ℕ → Counted M → Counted M) → ((n : ℕ) (h : Counted M) → (f n h).opened ≡ h.opened) → OpenStays files (mapped f files)
  stays-mapped files f same = record { each = λ n h e. at n h (map.get files n) refl (sym (get-mapped f files n) ∙ e) }
    where
      at : (n : ℕ) (h : Counted M) (o : Option (Counted M)) → map.get files n ≡ o → option_map (f n) o ≡ Some h → (g : Counted M) × (map.get files n ≡ Some g) × (h.opened ≡ g.opened)
      at n h None is e = absurd cc
      at n h (Some g) is e = (g, is, ap (λ (x : Counted M). x.opened) (sym (some_is (f n g) h e)) ∙ same n g)

  stays-removed : (files : Files M) (k : ℕ) → OpenStays files (map.remove files k)
  stays-removed files k = record {
    each = by_key (λ n. (h : Counted M) → map.get (map.remove files k) n ≡ Some h → (g : Counted M) × (map.get files n ≡ Some g) × (h.opened ≡ g.opened)) k
        (λ h e. absurd (none-some h (sym (get-remove_same files k) ∙ e)))
        (λ q d h e. (h, sym (get-remove_other files k q d) ∙ e, refl));
  }

  stays-counted : (files : Files M) (k : ℕ) (h g : Counted M) → map.get files k ≡ Some h → g.opened ≡ h.opened → OpenStays files (map.insert files k g)
  stays-counted files k h g is same = record {
    each = by_key (λ n. (x : Counted M) → map.get (map.insert files k g) n ≡ Some x → (y : Counted M) × (map.get files n ≡ Some y) × (x.opened ≡ y.opened)) k
        (λ x e. (h, is, ap (λ (x : Counted M). x.opened) (sym (some_is g x (sym (get-insert_same files k g) ∙ e))) ∙ same))
        (λ q d x e. (x, sym (get-insert_other files k g q d) ∙ e, refl));
  }

  -- ---- pipes

  -- the same ends of pipes are open, or fewer
  pub record WhatStays (old new : Files M) : Type 0 where
    pub each : (n : ℕ) (h : Counted M) → map.get new n ≡ Some h → (g : Counted M) × (map.get old n ≡ Some g) × (h.opened.what ≡ g.opened.what)

  pub what-open : {old new : Files M} → OpenStays old new → WhatStays old new
  what-open stays = record { each = λ n h e. let g = stays.each n h e in (g.0, g.1, ap (λ (o : Opened M). o.what) g.2) }

  pub what-changed : (files : Files M) (k : ℕ) (f : Counted M → Counted M) → ((h : Counted M) → (f h).opened.what ≡ h.opened.what) → WhatStays files (changed files k f)
  what-changed files k f same = record {
    each = by_key (λ n. (h : Counted M) → map.get (changed files k f) n ≡ Some h → (g : Counted M) × (map.get files n ≡ Some g) × (h.opened.what ≡ g.opened.what)) k
        (λ h e. at h (map.get files k) refl (sym (get-changed_same files k f) ∙ e))
        (λ q d h e. (h, sym (get-changed_other files k f q d) ∙ e, refl));
  }
    where
      at : (h : Counted M) (o : Option (Counted M)) → map.get files k ≡ o → option_map f o ≡ Some h → (g : Counted M) × (map.get files k ≡ Some g) × (h.opened.what ≡ g.opened.what)
      at h None is e = absurd cc
      at h (Some g) is e = (g, is, ap (λ (x : Counted M). x.opened.what) (sym (some_is (f g) h e)) ∙ same g)

  pub what-mapped : (files : Files M) (f : ℕ → Counted M → Counted M) → ((n : ℕ) (h : Counted M) → (f n h).opened.what ≡ h.opened.what) → WhatStays files (mapped f files)
  what-mapped files f same = record { each = λ n h e. at n h (map.get files n) refl (sym (get-mapped f files n) ∙ e) }
    where
      at : (n : ℕ) (h : Counted M) (o : Option (Counted M)) → map.get files n ≡ o → option_map (f n) o ≡ Some h → (g : Counted M) × (map.get files n ≡ Some g) × (h.opened.what ≡ g.opened.what)
      at n h None is e = absurd cc
      at n h (Some g) is e = (g, is, ap (λ (x : Counted M). x.opened.what) (sym (some_is (f n g) h e)) ∙ same n g)

  -- the same pipes, whose ends stay
  pub pipes-stay : (t : Table M) → HasPipes t → (files : Files M) (last : ℕ) → WhatStays t.files files → HasPipes (record { files = files; pipes = t.pipes; last_file = last; last_pipe = t.last_pipe })
  pipes-stay t has files last stays = record {
    numbered = has.numbered;
    reads = λ p n h e is. let g = stays.each n h e in has.reads p n g.0 g.1 (sym g.2 ∙ is);
    writes = λ p n h e is. let g = stays.each n h e in has.writes p n g.0 g.1 (sym g.2 ∙ is);
    one_reader = λ p m n g h at e is too. let x = stays.each m g at in let y = stays.each n h e in has.one_reader p m n x.0 y.0 x.1 y.1 (sym x.2 ∙ is) (sym y.2 ∙ too);
    one_writer = λ p m n g h at e is too. let x = stays.each m g at in let y = stays.each n h e in has.one_writer p m n x.0 y.0 x.1 y.1 (sym x.2 ∙ is) (sym y.2 ∙ too);
    bytes = has.bytes;
  }

  -- one more open file, which is no end of a pipe, or one that no other is
  pub record IsLone (t : Table M) (o : Opened M) : Type 0 where
    pub reads : (p : ℕ) → o.what ≡ PipeRead p → IsSome (map.get t.pipes p)
    pub writes : (p : ℕ) → o.what ≡ PipeWrite p → IsSome (map.get t.pipes p)
    pub one_reader : (p n : ℕ) (h : Counted M) → map.get t.files n ≡ Some h → h.opened.what ≡ PipeRead p → o.what ≡ PipeRead p → ⊥
    pub one_writer : (p n : ℕ) (h : Counted M) → map.get t.files n ≡ Some h → h.opened.what ≡ PipeWrite p → o.what ≡ PipeWrite p → ⊥

  module _ (t : Table M) (has : HasPipes t) (o : Opened M) (lone : IsLone t o) where
    abbrev k : ℕ
    k = t.last_file + 1

    abbrev new : Counted M
    new = record { opened = o; count = 1 }

    abbrev files : Files M
    files = map.insert t.files k new

    what-new : (h : Counted M) → map.get files k ≡ Some h → o.what ≡ h.opened.what
    what-new h e = ap (λ (x : Counted M). x.opened.what) (some_is new h (sym (get-insert_same t.files k new) ∙ e))

    old : (q : ℕ) (h : Counted M) → q ≢ k → map.get files q ≡ Some h → map.get t.files q ≡ Some h
    old q h d e = sym (get-insert_other t.files k new q d) ∙ e

    one-end : (what : ℕ → What) → ((p m n : ℕ) (g h : Counted M) → map.get t.files m ≡ Some g → map.get t.files n ≡ Some h → g.opened.what ≡ what p → h.opened.what ≡ what p → m ≡ n)
        → ((p n : ℕ) (h : Counted M) → map.get t.files n ≡ Some h → h.opened.what ≡ what p → o.what ≡ what p → ⊥)
        → (p m n : ℕ) (g h : Counted M) → map.get files m ≡ Some g → map.get files n ≡ Some h → g.opened.what ≡ what p → h.opened.what ≡ what p → m ≡ n
    one-end what one none p m n g h =
        by_key (λ m. (n : ℕ) → map.get files m ≡ Some g → map.get files n ≡ Some h → g.opened.what ≡ what p → h.opened.what ≡ what p → m ≡ n) k
        (by_key (λ n. map.get files k ≡ Some g → map.get files n ≡ Some h → g.opened.what ≡ what p → h.opened.what ≡ what p → k ≡ n) k
        (λ at e is too. refl)
        (λ q d at e is too. absurd (none p q h (old q h d e) too (what-new g at ∙ is))))
        (λ r c. by_key (λ n. map.get files r ≡ Some g → map.get files n ≡ Some h → g.opened.what ≡ what p → h.opened.what ≡ what p → r ≡ n) k
        (λ at e is too. absurd (none p r g (old r g c at) is (what-new h e ∙ too)))
        (λ q d at e is too. one p r q g h (old r g c at) (old q h d e) is too))
        m n

    pub pipes-opened : HasPipes (with_file o t)
    pipes-opened = record {
      numbered = has.numbered;
      reads = λ p n h. by_key (λ n. map.get files n ≡ Some h → h.opened.what ≡ PipeRead p → IsSome (map.get t.pipes p)) k
          (λ e is. lone.reads p (what-new h e ∙ is)) (λ q d e is. has.reads p q h (old q h d e) is) n;
      writes = λ p n h. by_key (λ n. map.get files n ≡ Some h → h.opened.what ≡ PipeWrite p → IsSome (map.get t.pipes p)) k
          (λ e is. lone.writes p (what-new h e ∙ is)) (λ q d e is. has.writes p q h (old q h d e) is) n;
      one_reader = one-end PipeRead has.one_reader lone.one_reader;
      one_writer = one-end PipeWrite has.one_writer lone.one_writer;
      bytes = has.bytes;
    }

  -- ---- a pipe's bytes

  -- other bytes in a pipe that is there
  pub pipes-bytes : (t : Table M) → HasPipes t → (p : ℕ) (bytes : List ℕ) → IsSome (map.get t.pipes p) → length bytes ≤ 65536
      → HasPipes (record { files = t.files; pipes = map.insert t.pipes p bytes; last_file = t.last_file; last_pipe = t.last_pipe })
  pipes-bytes t has p bytes there small = record {
    numbered = by_key (λ q. IsSome (map.get (map.insert t.pipes p bytes) q) → q ≤ t.last_pipe) p (λ _. has.numbered p there) (λ q d h. has.numbered q (subst (λ o. IsSome o) (get-insert_other t.pipes p bytes q d) h));
    reads = λ q n h e is. some-insert t.pipes p q bytes (has.reads q n h e is);
    writes = λ q n h e is. some-insert t.pipes p q bytes (has.writes q n h e is);
    one_reader = has.one_reader;
    one_writer = has.one_writer;
    bytes = by_key (λ q. (bs : List ℕ) → map.get (map.insert t.pipes p bytes) q ≡ Some bs → length bs ≤ 65536) p
        (λ bs e. let same = ap length (some_is bytes bs (sym (get-insert_same t.pipes p bytes) ∙ e)) in omega arith)
        (λ q d bs e. has.bytes q bs (sym (get-insert_other t.pipes p bytes q d) ∙ e));
  }

  -- a new pipe, which no open file is an end of yet
  module _ (t : Table M) (has : HasPipes t) where
    abbrev next_pipe : ℕ
    next_pipe = t.last_pipe + 1

    pub pipes-new : HasPipes (record { files = t.files; pipes = map.insert t.pipes next_pipe []; last_file = t.last_file; last_pipe = next_pipe })
    pipes-new = record {
      numbered = by_key (λ q. IsSome (map.get (map.insert t.pipes next_pipe []) q) → q ≤ t.last_pipe + 1) next_pipe (λ _. omega arith)
          (λ q d h. let before = has.numbered q (subst (λ o. IsSome o) (get-insert_other t.pipes next_pipe [] q d) h) in omega arith);
      reads = λ q n h e is. some-insert t.pipes next_pipe q [] (has.reads q n h e is);
      writes = λ q n h e is. some-insert t.pipes next_pipe q [] (has.writes q n h e is);
      one_reader = has.one_reader;
      one_writer = has.one_writer;
      bytes = by_key (λ q. (bs : List ℕ) → map.get (map.insert t.pipes next_pipe []) q ≡ Some bs → length bs ≤ 65536) next_pipe
          (λ bs e. let same = ap length (some_is [] bs (sym (get-insert_same t.pipes next_pipe []) ∙ e)) in omega arith)
          (λ q d bs e. has.bytes q bs (sym (get-insert_other t.pipes next_pipe [] q d) ∙ e));
    }

  -- ---- a file that is closed

  module _ (t : Table M) (has : HasPipes t) (n : ℕ) (h : Counted M) (is : map.get t.files n ≡ Some h) where
    abbrev left : Files M
    left = map.remove t.files n

    -- without a pipe that has no end any more
    pipe-gone : (p : ℕ) → ((m : ℕ) (g : Counted M) → map.get left m ≡ Some g → g.opened.what ≡ PipeRead p → ⊥) → ((m : ℕ) (g : Counted M) → map.get left m ≡ Some g → g.opened.what ≡ PipeWrite p → ⊥)
        → HasPipes (record { files = left; pipes = map.remove t.pipes p; last_file = t.last_file; last_pipe = t.last_pipe })
    pipe-gone p no_reader no_writer =
        let stay = pipes-stay t has left t.last_file (what-open (stays-removed t.files n)) in
        record {
          numbered = by_key (λ q. IsSome (map.get (map.remove t.pipes p) q) → q ≤ t.last_pipe) p
              (λ there. absurd (let none = get-remove_same t.pipes p in cc))
              (λ q d there. has.numbered q (subst (λ o. IsSome o) (get-remove_other t.pipes p q d) there));
          reads = λ q m g e end. kept q (λ same. no_reader m g e (end ∙ ap PipeRead same)) (stay.reads q m g e end);
          writes = λ q m g e end. kept q (λ same. no_writer m g e (end ∙ ap PipeWrite same)) (stay.writes q m g e end);
          one_reader = stay.one_reader;
          one_writer = stay.one_writer;
          bytes = by_key (λ q. (bs : List ℕ) → map.get (map.remove t.pipes p) q ≡ Some bs → length bs ≤ 65536) p
              (λ bs e. absurd (none-some bs (sym (get-remove_same t.pipes p) ∙ e)))
              (λ q d bs e. has.bytes q bs (sym (get-remove_other t.pipes p q d) ∙ e));
        }
      where
        kept : (q : ℕ) → (q ≡ p → ⊥) → IsSome (map.get t.pipes q) → IsSome (map.get (map.remove t.pipes p) q)
        kept q d there = subst (λ o. IsSome o) (sym (get-remove_other t.pipes p q d)) there

    -- an end that was the only one of its side
    no-other : (what : What) → h.opened.what ≡ what → ((m : ℕ) (g : Counted M) → map.get t.files m ≡ Some g → g.opened.what ≡ what → m ≡ n) → (m : ℕ) (g : Counted M) → map.get left m ≡ Some g → g.opened.what ≡ what → ⊥
    no-other what own one = by_key (λ m. (g : Counted M) → map.get left m ≡ Some g → g.opened.what ≡ what → ⊥) n
        (λ g e end. none-some g (sym (get-remove_same t.files n) ∙ e))
        (λ q d g e end. d (one q g (sym (get-remove_other t.files n q d) ∙ e) end))

    no-kind : (test : What → Bool) (what : What) → test what ≡ true → has_kind test left ≡ false → (m : ℕ) (g : Counted M) → map.get left m ≡ Some g → g.opened.what ≡ what → ⊥
    no-kind test what passes none m g e end = absurd (let no : false ≡ true = sym none ∙ kind_some test left m g e (ap test end ∙ passes) in cc)

    abbrev left_by : What → Table M
    left_by what = record { files = left; pipes = pipes_left what left t.pipes; last_file = t.last_file; last_pipe = t.last_pipe }

    same-pipes : HasPipes (record { files = left; pipes = t.pipes; last_file = t.last_file; last_pipe = t.last_pipe })
    same-pipes = pipes-stay t has left t.last_file (what-open (stays-removed t.files n))

    pipes-left : (what : What) → h.opened.what ≡ what → HasPipes (left_by what)
    pipes-left File own = same-pipes
    pipes-left Dir own = same-pipes
    pipes-left In own = same-pipes
    pipes-left Out own = same-pipes
    pipes-left Err own = same-pipes
    pipes-left (PipeRead p) own = by (has_kind (is_writer p) left) refl
      where
        by : (b : Bool) → has_kind (is_writer p) left ≡ b → HasPipes (record { files = left; pipes = cond b t.pipes (map.remove t.pipes p); last_file = t.last_file; last_pipe = t.last_pipe })
        by true e = same-pipes
        by false e =
            pipe-gone p (no-other (PipeRead p) own (λ m g at end. has.one_reader p m n g h at is end own)) (no-kind (is_writer p) (PipeWrite p) (same-test p p refl) e)
    pipes-left (PipeWrite p) own = by (has_kind (is_reader p) left) refl
      where
        by : (b : Bool) → has_kind (is_reader p) left ≡ b → HasPipes (record { files = left; pipes = cond b t.pipes (map.remove t.pipes p); last_file = t.last_file; last_pipe = t.last_pipe })
        by true e = same-pipes
        by false e =
            pipe-gone p (no-kind (is_reader p) (PipeRead p) (same-test p p refl) e) (no-other (PipeWrite p) own (λ m g at end. has.one_writer p m n g h at is end own))

  -- ---- closing

  abbrev closed_by : Table M → ℕ → Option (Counted M) → Table M
  closed_by t n o = option_map_or (λ (h : Counted M). cond (nat_lt 1 h.count) (record t { files = map.insert t.files n (record h { count = h.count - 1 }) }) (without_file n h.opened.what t)) o t

  pub pipes-closed : (t : Table M) → HasPipes t → (n : ℕ) → HasPipes (closed n t)
  unfolding closed
  pipes-closed t has n = by (map.get t.files n) refl
    where
      more : (h : Counted M) → map.get t.files n ≡ Some h → (b : Bool) → HasPipes (cond b (record t { files = map.insert t.files n (record h { count = h.count - 1 }) }) (without_file n h.opened.what t))
      more h e true = pipes-stay t has (map.insert t.files n (record h { count = h.count - 1 })) t.last_file (what-open (stays-counted t.files n h (record h { count = h.count - 1 }) e refl))
      more h e false = pipes-left t has n h e h.opened.what refl

      by : (o : Option (Counted M)) → map.get t.files n ≡ o → HasPipes (closed_by t n o)
      by None e = has
      by (Some h) e = more h e (nat_lt 1 h.count)

  pub stays-closed : (t : Table M) (n : ℕ) → OpenStays t.files (closed n t).files
  unfolding closed
  stays-closed t n = by (map.get t.files n) refl
    where
      more : (h : Counted M) → map.get t.files n ≡ Some h → (b : Bool) → OpenStays t.files (cond b (record t { files = map.insert t.files n (record h { count = h.count - 1 }) }) (without_file n h.opened.what t)).files
      more h e true = stays-counted t.files n h (record h { count = h.count - 1 }) e refl
      more h e false = stays-removed t.files n

      by : (o : Option (Counted M)) → map.get t.files n ≡ o → OpenStays t.files (closed_by t n o).files
      by None e = record { each = λ q h at. (h, at, refl) }
      by (Some h) e = more h e (nat_lt 1 h.count)

  -- a file that a process still names is still open
  pub named-closed : {X : Type 0} {pins extra : ℕ → ℕ} {tree : Tree} {files : Table M} {living : List (Process M X)} → AreCounts pins extra tree files living
      → (n : ℕ) → 1 ≤ extra n → (q : ℕ) → 1 ≤ names_of_file q living → IsSome (map.get files.files q) → IsSome (map.get (closed n files).files q)
  unfolding closed
  named-closed {files = files} {living = living} counts n extra_named q named there = by (map.get files.files n) refl
    where
      more : (h : Counted M) → map.get files.files n ≡ Some h → (b : Bool) → nat_lt 1 h.count ≡ b → IsSome (map.get (cond b (record files { files = map.insert files.files n (record h { count = h.count - 1 }) }) (without_file n h.opened.what files)).files q)
      more h e true many = some-insert files.files n q (record h { count = h.count - 1 }) there
      more h e false few =
          subst (λ o. IsSome o) (sym (get-remove_other files.files n q (λ same.
          let count = (counts.counts n h e).0 in
          let own = ap (λ k. names_of_file k living) same in
          let many : nat_lt 1 h.count ≡ true = lt-ltb 1 h.count (omega arith) in
          absurd (let no : false ≡ true = sym few ∙ many in cc)))) there

      by : (o : Option (Counted M)) → map.get files.files n ≡ o → IsSome (map.get (closed_by files n o).files q)
      by None e = there
      by (Some h) e = more h e (nat_lt 1 h.count) refl
