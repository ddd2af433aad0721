-- What is opened, copied and piped keeps a lawful state.
use Rattle.std.specs.FinMap as map
use Rattle.std.proofs.Common.{◌≡◌, ◌≢◌, ℕ, ◌+◌, ◌<◌, Bool, true, false, List, [], refl, sym, ap, subst, ◌∙◌, arith, Option, Some, None, IsSome}
use Rattle.std.specs.Prelude.{IfSome}
use Rattle.std.specs.Option.{option_map, option_map_or, option_and_then}
use Rattle.kr_model.proofs.pr_base.MapLemmas.{by_key, get-insert_same, get-insert_other}
use Rattle.kr_model.specs.kr_tree.Tree.{Tree, inode}
use Rattle.kr_model.specs.kr_tree.Holds.{holds_at}
use Rattle.kr_model.specs.kr_tree.declared.place.Place.{Place}
use Rattle.kr_model.proofs.kr_tree.NameLemmas.{some_is}
use Rattle.kr_model.specs.kr_view.View.{Row, is_there}
use Rattle.kr_model.specs.kr_files.declared.opened.Opened.{Opened}
use Rattle.kr_model.specs.kr_files.declared.opened.What.{What}
use Rattle.kr_model.specs.kr_files.declared.opened.What.TheVariants.{File, Dir, In, Out, Err, PipeRead, PipeWrite}
use Rattle.kr_model.specs.kr_files.Descriptors.{Meanings, Named, named_count}
use Rattle.kr_model.specs.kr_files.Files.{Table, Counted, counted_more, with_file, with_copy, closed}
use Rattle.kr_model.specs.kr_files.Opened.{pipe_end}
use Rattle.kr_model.specs.Applied.{Mounts, held_at, released_at, in_mount, open_in, copy_over, pipe_made}
use Rattle.kr_model.specs.Bare.{pins_of}
use Rattle.kr_model.specs.Change.{OpenFile, CopyDescriptor, MakePipe, MountOf}
use Rattle.kr_model.specs.Conditions.{KeepsLawful}
use Rattle.kr_model.specs.FileRows.{is_dir, is_file_open}
use Rattle.kr_model.specs.Lawful.{IsLawful, IsOpenIn}
use Rattle.kr_model.specs.State.{Image, Process, State, inode_of, place_of, process, named, with_descs}
use Rattle.kr_model.specs.Uses.{at_inode}
use Rattle.law_lawful.specs.Holding.{one_at}
use Rattle.law_lawful.proofs.HoldingLemmas.{one-same, one-other}
use Rattle.law_lawful.proofs.TreeChangeLemmas.{still-same, still-on}
use Rattle.law_lawful.proofs.CountLemmas.{AreCounts, held-uses, opened-counts, copied-counts, closed-counts, living-counts}
use Rattle.law_lawful.proofs.FileChangeLemmas.{some-changed, opened-stays, stays-changed, what-open, IsLone, pipes-opened, pipes-new, pipes-stay}
use Rattle.law_lawful.proofs.AfterLemmas.{some-of, is-some, object-there, NamesFiles, Parts, uses-descs, names-descs}
use Rattle.law_lawful.proofs.DescriptorChangeLemmas.{replaced-count, here-some, here-none, held-at-still, released-at-still, names-more, names-inserted, parts-added, parts-closed, three-after, start, parts, living_after, unnamed-next, parts-descs, parts-opened}

-- the pipe of an end
abbrev end_of : What → ℕ
end_of (PipeRead p) = p
end_of (PipeWrite p) = p
end_of File = 0
end_of Dir = 0
end_of In = 0
end_of Out = 0
end_of Err = 0

abbrev in_m : {M : Type 0} → M → Place (Unit {0}) → Place M
in_m m q = record { mount = m; host = q.host }

module _ {M : Type 0} (number : M → ℕ) (table : List Row) where
  -- what a file that is open stands at is there
  place-there : (t : Tree) (o : Opened M) → IsOpenIn number t table o → (p : Option (Place M)) → o.place ≡ p → IfSome p (λ p. IsSome (inode t (inode_of p.host)))
  place-there t o is None e = tt
  place-there t o is (Some p) e = object-there t p.host (is.placed p e).0.object

  -- an end of a pipe stands nowhere
  pipe-end-open : (t : Tree) (what : What) (read write : Bool) → is_file_open what ≡ false → is_dir what ≡ false → IsOpenIn number t table (pipe_end what read write)
  pipe-end-open t what read write file dir = record {
    placed = λ p e. absurd cc;
    files = λ e. absurd (let no : false ≡ true = sym file ∙ e in cc);
    directories = λ e. absurd (let no : false ≡ true = sym dir ∙ e in cc);
    others = λ _ _. refl;
    name = λ some. absurd (some refl);
  }

  module _ (pid : ℕ) (s : State M Image) (l : IsLawful number table s) (p : Process M Image) (e : process pid s ≡ Some p) where
    -- ---- opened

    -- the same place, in a mount
    same-place : (m : M) (i : ℕ) (o : Option (Place (Unit {0}))) → at_inode i 1 (option_map (λ (q : Place (Unit {0})). in_m m q) o) ≡ at_inode i 1 o
    same-place m i None = refl
    same-place m i (Some q) = refl

    mount-there : (m : M) (o : Option (Place (Unit {0}))) → IfSome (option_map (λ (q : Place (Unit {0})). in_m m q) o) (λ (q : Place M). IsSome (inode s.tree (inode_of q.host))) → IfSome o (λ q. IsSome (inode s.tree (inode_of q.host)))
    mount-there m None h = tt
    mount-there m (Some q) h = h

    -- what has a place is no end of a pipe
    placed-no-end : (m : M) (o : Opened (Unit {0})) → IsOpenIn number s.tree table (in_mount m o) → is_there o.place ≡ true → (what : What) → is_file_open what ≡ false → is_dir what ≡ false → o.what ≡ what → ⊥
    placed-no-end m o is there what file dir own =
        absurd (let no : false ≡ true = sym (is.others (ap is_file_open own ∙ file) (ap is_dir own ∙ dir)) ∙ seen o.place ∙ there in cc)
      where
        seen : (q : Option (Place (Unit {0}))) → is_there (option_map (λ (q : Place (Unit {0})). in_m m q) q) ≡ is_there q
        seen None = refl
        seen (Some q) = refl

    -- what has a place is no second reader or writer of a pipe
    placed-lone : (m : M) (o : Opened (Unit {0})) → IsOpenIn number s.tree table (in_mount m o) → is_there o.place ≡ true → IsLone s.files (in_mount m o)
    placed-lone m o is there = record {
      reads = λ q end. absurd (placed-no-end m o is there (PipeRead q) refl refl end);
      writes = λ q end. absurd (placed-no-end m o is there (PipeWrite q) refl refl end);
      one_reader = λ q n h at end own. placed-no-end m o is there (PipeRead q) refl refl own;
      one_writer = λ q n h at end own. placed-no-end m o is there (PipeWrite q) refl refl own;
    }

    pub open-in-keeps : (fd : ℕ) → fd < 1024 → map.get p.descs fd ≡ None → (cloexec : Bool) (o : Opened (Unit {0})) (m : M) → IsOpenIn number s.tree table (in_mount m o) → IsLone s.files (in_mount m o)
        → IsLawful number table (open_in pid fd cloexec o m s)
    open-in-keeps fd small free cloexec o m is lone =
        let new : Named = record { number = s.files.last_file + 1; cloexec = cloexec } in
        let f : Meanings → Meanings = λ d. map.insert d fd new in
        let opened = opened-counts (start number table pid s l) (in_mount m o) (held_at o.place s.tree)
        (λ i. held-uses s.tree o.place (mount-there m o.place (place-there s.tree (in_mount m o) is (in_mount m o).place refl)) i ∙ ap (λ n. holds_at s.tree i + n) (sym (same-place m i o.place)))
        (let none = unnamed-next number table pid s l (s.files.last_file + 1) (omega arith) in omega arith) in
        let counts = living-counts opened (λ n. 0) (living_after number table pid s l f) (λ i. uses-descs pid i f s.living)
        (λ n.
        let names = names-descs s.next_pid pid f s.living p l.pids.living e n in
        let more = replaced-count p.descs fd new n small in
        let none = here-none p.descs fd n free in
        omega arith) in
        three-after number table pid s l (held_at o.place s.tree) (with_file (in_mount m o) s.files) f (held-at-still table s.tree l.tree o.place)
        (parts-descs number table pid s l (with_file (in_mount m o) s.files) f (parts-opened number table pid s l (in_mount m o) is lone)
        (λ q at. names-inserted (with_file (in_mount m o) s.files).files q fd new small
        (is-some _ (record { opened = in_mount m o; count = 1 }) (get-insert_same s.files.files (s.files.last_file + 1) (record { opened = in_mount m o; count = 1 })))
        ((parts-opened number table pid s l (in_mount m o) is lone).descriptors pid q at)))
        counts

    -- ---- copied

    module _ (fd to : ℕ) (small : to < 1024) (cloexec : Bool) (x : Named) (at : map.get p.descs fd ≡ Some x) where
      abbrev copy : Named
      copy = record { number = x.number; cloexec = cloexec }

      abbrev put : Meanings → Meanings
      put d = map.insert d to copy

      abbrev more : Table M
      more = with_copy x.number s.files

      some-more : (q : ℕ) → IsSome (map.get s.files.files q) → IsSome (map.get more.files q)
      some-more = some-changed s.files.files x.number (counted_more 1)

      file : (h : Counted M) × (map.get s.files.files x.number ≡ Some h)
      file = some-of (map.get s.files.files x.number) (((parts number table pid s l).descriptors pid p e).each fd x at).1

      copy-parts : Parts number table s.tree more (living_after number table pid s l put)
      copy-parts =
          let before = parts number table pid s l in
          let same = stays-changed s.files.files x.number (counted_more 1) (λ h. refl) in
          let one : Parts number table s.tree more s.living = record {
            processes = before.processes;
            descriptors = λ q r is. names-more s.files.files more.files r some-more (before.descriptors q r is);
            opens = opened-stays (IsOpenIn number s.tree table) s.files.files more.files same before.opens;
            pipes = pipes-stay s.files l.pipes more.files s.files.last_file (what-open same);
          } in
          parts-descs number table pid s l more put one (λ q is. names-inserted more.files q to copy small (some-more x.number ((((parts number table pid s l).descriptors pid p e).each fd x at).1)) (one.descriptors pid q is))

      copy-counts : AreCounts (pins_of table) (λ q. 0 + one_at x.number q) (held_at (place_of s.files x.number) s.tree) more s.living
      copy-counts = by file
        where
          by : (h : Counted M) × (map.get s.files.files x.number ≡ Some h) → AreCounts (pins_of table) (λ q. 0 + one_at x.number q) (held_at (place_of s.files x.number) s.tree) more s.living
          by own =
              let h : Counted M = own.0 in
              let is : place_of s.files x.number ≡ h.opened.place = ap (λ (f : Option (Counted M)). option_and_then (λ (o : Opened M). o.place) (option_map (λ (h : Counted M). h.opened) f)) own.1 in
              let open_ = (parts number table pid s l).opens.each x.number h own.1 in
              copied-counts (start number table pid s l) x.number h own.1 (held_at (place_of s.files x.number) s.tree)
              (λ i. held-uses s.tree (place_of s.files x.number) (place-there s.tree h.opened open_ (place_of s.files x.number) (sym is)) i ∙ ap (λ o. holds_at s.tree i + at_inode i 1 o) is)

      pub copy-over-keeps : (y : Option Named) → map.get p.descs to ≡ y → IsLawful number table (copy_over pid to cloexec x y s)
      copy-over-keeps None free =
          three-after number table pid s l (held_at (place_of s.files x.number) s.tree) more put (held-at-still table s.tree l.tree (place_of s.files x.number)) copy-parts
          (living-counts copy-counts (λ n. 0) (living_after number table pid s l put) (λ i. uses-descs pid i put s.living)
          (λ n.
          let names = names-descs s.next_pid pid put s.living p l.pids.living e n in
          let put_in = replaced-count p.descs to copy n small in
          let none = here-none p.descs to n free in
          omega arith))
      copy-over-keeps (Some y) was =
          let held : Tree = held_at (place_of s.files x.number) s.tree in
          let first = held-at-still table s.tree l.tree (place_of s.files x.number) in
          let counts : AreCounts (pins_of table) (λ n. one_at y.number n) held more (living_after number table pid s l put) =
          living-counts copy-counts (λ n. one_at y.number n) (living_after number table pid s l put) (λ i. uses-descs pid i put s.living)
          (λ n.
          let names = names-descs s.next_pid pid put s.living p l.pids.living e n in
          let put_in = replaced-count p.descs to copy n small in
          let old = here-some p.descs to y n was in
          omega arith) in
          three-after number table pid s l (released_at (place_of more y.number) held) (closed y.number more) put (still-on first (released-at-still table held first.kept (place_of more y.number)))
          (parts-closed number table pid s.tree held more (living_after number table pid s l put) (pins_of table) (λ n. one_at y.number n) counts copy-parts y.number (let same = one-same y.number in omega arith))
          (closed-counts counts y.number (λ n. 0) (λ n. omega arith))

    -- ---- piped

    module _ (first second : ℕ) (small : first < 1024) (small_too : second < 1024) (apart : first ≢ second) (cloexec : Bool) (free : map.get p.descs first ≡ None) (free_too : map.get p.descs second ≡ None) where
      abbrev pipe : ℕ
      pipe = s.files.last_pipe + 1

      -- with the pipe, before its ends are open
      abbrev piped : Table M
      piped = record { files = s.files.files; pipes = map.insert s.files.pipes pipe []; last_file = s.files.last_file; last_pipe = pipe }

      abbrev reader : Opened M
      reader = pipe_end (PipeRead pipe) true false

      abbrev writer : Opened M
      writer = pipe_end (PipeWrite pipe) false true

      abbrev one_open : Table M
      one_open = with_file reader piped

      abbrev both_open : Table M
      both_open = with_file writer one_open

      abbrev read_named : Named
      read_named = record { number = s.files.last_file + 1; cloexec = cloexec }

      abbrev write_named : Named
      write_named = record { number = s.files.last_file + 1 + 1; cloexec = cloexec }

      abbrev put_both : Meanings → Meanings
      put_both d = map.insert (map.insert d first read_named) second write_named

      there : IsSome (map.get piped.pipes pipe)
      there = is-some _ [] (get-insert_same s.files.pipes pipe [])

      is-pipe : (what : What) (q : ℕ) → what ≡ PipeRead q → end_of what ≡ q
      is-pipe what q e = ap end_of e

      no-old-reader : (q n : ℕ) (h : Counted M) → map.get s.files.files n ≡ Some h → h.opened.what ≡ PipeRead q → pipe ≡ q → ⊥
      no-old-reader q n h at end same = let low = l.pipes.numbered q (l.pipes.reads q n h at end) in absurd (omega arith)

      no-old-writer : (q n : ℕ) (h : Counted M) → map.get s.files.files n ≡ Some h → h.opened.what ≡ PipeWrite q → pipe ≡ q → ⊥
      no-old-writer q n h at end same = let low = l.pipes.numbered q (l.pipes.writes q n h at end) in absurd (omega arith)

      lone-reader : IsLone piped reader
      lone-reader = record {
        reads = λ q end. subst (λ k. IsSome (map.get piped.pipes k)) (ap end_of end) there;
        writes = λ q end. absurd cc;
        one_reader = λ q n h at end own. no-old-reader q n h at end (ap end_of own);
        one_writer = λ q n h at end own. absurd cc;
      }

      lone-writer : IsLone one_open writer
      lone-writer = record {
        reads = λ q end. absurd cc;
        writes = λ q end. subst (λ k. IsSome (map.get piped.pipes k)) (ap end_of end) there;
        one_reader = λ q n h at end own. absurd cc;
        one_writer = λ q n h at end own. by_key (λ n. map.get one_open.files n ≡ Some h → ⊥) (s.files.last_file + 1)
            (λ at.
            let same : PipeRead pipe ≡ h.opened.what = ap (λ (g : Counted M). g.opened.what) (some_is _ h (sym (get-insert_same s.files.files (s.files.last_file + 1) (record { opened = reader; count = 1 })) ∙ at)) in
            let no : PipeRead pipe ≡ PipeWrite q = same ∙ end in absurd cc)
            (λ k d at. no-old-writer q k h (sym (get-insert_other s.files.files (s.files.last_file + 1) (record { opened = reader; count = 1 }) k d) ∙ at) end (ap end_of own))
            n at;
      }

      piped-parts : Parts number table s.tree both_open s.living
      piped-parts =
          let before = parts number table pid s l in
          let pipes = pipes-new s.files l.pipes in
          let zero_open : Parts number table s.tree piped s.living = record { processes = before.processes; descriptors = before.descriptors; opens = before.opens; pipes = pipes } in
          let one = parts-added number table pid s.tree piped s.living zero_open reader (pipe-end-open s.tree (PipeRead pipe) true false refl refl) (pipes-opened piped pipes reader lone-reader) in
          parts-added number table pid s.tree one_open s.living one writer (pipe-end-open s.tree (PipeWrite pipe) false true refl refl) (pipes-opened one_open one.pipes writer lone-writer)

      some-reader : IsSome (map.get both_open.files (s.files.last_file + 1))
      some-reader = is-some _ (record { opened = reader; count = 1 })
          (get-insert_other one_open.files (s.files.last_file + 1 + 1) (record { opened = writer; count = 1 }) (s.files.last_file + 1) (λ e. absurd (omega arith))
          ∙ get-insert_same s.files.files (s.files.last_file + 1) (record { opened = reader; count = 1 }))

      some-writer : IsSome (map.get both_open.files (s.files.last_file + 1 + 1))
      some-writer = is-some _ (record { opened = writer; count = 1 }) (get-insert_same one_open.files (s.files.last_file + 1 + 1) (record { opened = writer; count = 1 }))

      put-names : (q : Process M Image) → NamesFiles both_open.files q → NamesFiles both_open.files (with_descs put_both q)
      put-names q own =
          let one = names-inserted both_open.files q first read_named small some-reader own in
          let two = names-inserted both_open.files (with_descs (λ d. map.insert d first read_named) q) second write_named small_too some-writer one in
          record { each = two.each }

      put-count : (n : ℕ) → named_count (put_both p.descs) n ≡ named_count p.descs n + (one_at (s.files.last_file + 1) n + one_at (s.files.last_file + 1 + 1) n)
      put-count n =
          let one = replaced-count p.descs first read_named n small in
          let two = replaced-count (map.insert p.descs first read_named) second write_named n small_too in
          let none = here-none p.descs first n free in
          let none_too = here-none (map.insert p.descs first read_named) second n (get-insert_other p.descs first read_named second (λ e. apart (sym e)) ∙ free_too) in
          omega arith

      piped-counts : AreCounts (pins_of table) (λ n. 0) s.tree both_open (living_after number table pid s l put_both)
      piped-counts =
          let above = unnamed-next number table pid s l (s.files.last_file + 1) (omega arith) in
          let above_too = unnamed-next number table pid s l (s.files.last_file + 1 + 1) (omega arith) in
          let one = opened-counts (start number table pid s l) reader s.tree (λ i. omega arith) (omega arith) in
          let other = one-other (s.files.last_file + 1) (s.files.last_file + 1 + 1) (λ e. absurd (omega arith)) in
          let two = opened-counts one writer s.tree (λ i. omega arith) (omega arith) in
          let all = living-counts two (λ n. 0) (living_after number table pid s l put_both) (λ i. uses-descs pid i put_both s.living)
          (λ n.
          let names = names-descs s.next_pid pid put_both s.living p l.pids.living e n in
          let count = put-count n in
          omega arith) in
          record { holds = all.holds; counts = all.counts; numbered = all.numbered }

      pub pipe-made-keeps : IsLawful number table (pipe_made pid first second cloexec s)
      pipe-made-keeps =
          three-after number table pid s l s.tree both_open put_both (still-same table s.tree l.tree)
          (parts-descs number table pid s l both_open put_both piped-parts (λ q is. put-names q (piped-parts.descriptors pid q is)))
          piped-counts

  -- ---- the changes

  named-as : (pid fd : ℕ) (s : State M Image) (p : Process M Image) → process pid s ≡ Some p → named pid fd s ≡ map.get p.descs fd
  named-as pid fd s p e = ap (option_and_then (λ (p : Process M Image). map.get p.descs fd)) e

  module _ (mounts : Mounts M) (pid : ℕ) where
    pub open-keeps : (fd : ℕ) (cloexec : Bool) (from : MountOf) (o : Opened (Unit {0})) → KeepsLawful number table mounts pid (OpenFile fd cloexec from o)
    open-keeps fd cloexec from o s l lives can =
        let p = some-of (process pid s) lives in
        subst (λ m. IsLawful number table (option_map_or (λ m. open_in pid fd cloexec o m s) m s)) (sym can.taken)
        (open-in-keeps pid s l p.0 p.1 fd can.free.small (sym (named-as pid fd s p.0 p.1) ∙ can.free.free) cloexec o can.mount can.opens (placed-lone pid s l p.0 p.1 can.mount o can.opens can.placed))

    pub copy-keeps : (fd to : ℕ) (cloexec : Bool) → KeepsLawful number table mounts pid (CopyDescriptor fd to cloexec)
    copy-keeps fd to cloexec s l lives can =
        let p = some-of (process pid s) lives in
        let x = some-of (named pid fd s) can.old in
        subst (λ o. IsLawful number table (option_map_or (λ x. copy_over pid to cloexec x (named pid to s) s) o s)) (sym x.1)
        (copy-over-keeps pid s l p.0 p.1 fd to can.small cloexec x.0 (sym (named-as pid fd s p.0 p.1) ∙ x.1) (named pid to s) (sym (named-as pid to s p.0 p.1)))

    pub pipe-keeps : (first second : ℕ) (cloexec : Bool) → KeepsLawful number table mounts pid (MakePipe first second cloexec)
    pipe-keeps first second cloexec s l lives can =
        let p = some-of (process pid s) lives in
        pipe-made-keeps pid s l p.0 p.1 first second can.reader.small can.writer.small can.apart cloexec
        (sym (named-as pid first s p.0 p.1) ∙ can.reader.free) (sym (named-as pid second s p.0 p.1) ∙ can.writer.free)
