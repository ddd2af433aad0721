-- A fork keeps a lawful state.
use Rattle.std.specs.FinMap as map
use Rattle.std.proofs.Common.{◌≡◌, ℕ, zero, suc, ◌+◌, ◌≤◌, ◌<◌, Bool, true, false, ◌||◌, List, [], ◌∷◌, ◌++◌, refl, sym, ap, subst, ◌∙◌, cond, arith, inl, inr, Option, Some, None, IsSome, length-append}
use Rattle.std.specs.Prelude.{map as map_list, ◌==◌, sum, IfSome, ◌⊎◌}
use Rattle.std.specs.List.{find, list_any}
use Rattle.std.specs.Int.{to_le_bytes, w32}
use Rattle.std.specs.Option.{option_map, option_map_or, option_and_then}
use Rattle.kr_model.specs.pr_base.Maps.{changed}
use Rattle.kr_model.proofs.pr_base.MapLemmas.{same_values, by_key, get-changed_same, get-changed_other, get-mapped}
use Rattle.kr_model.specs.rv_mem.Pages.{Pages, IsWhole, IsPlaced}
use Rattle.kr_model.proofs.rv_mem.LayoutLemmas.{layouts_follow}
use Rattle.kr_model.proofs.rv_mem.SpaceLemmas.{IsWhole-written, IsPlaced-written}
use Rattle.kr_model.specs.kr_tree.Tree.{Tree, inode}
use Rattle.kr_model.specs.kr_tree.Lawful.{IsKept}
use Rattle.kr_model.specs.kr_tree.Holds.{holds_at}
use Rattle.kr_model.specs.kr_tree.declared.place.Place.{Place}
use Rattle.kr_model.proofs.kr_tree.NameLemmas.{some_is}
use Rattle.kr_model.specs.kr_view.View.{Row}
use Rattle.kr_model.specs.kr_files.declared.opened.Opened.{Opened}
use Rattle.kr_model.specs.kr_files.Descriptors.{Meanings, Named, named_below, named_count}
use Rattle.kr_model.specs.kr_files.Files.{Table, Counted, counted_more, with_copy, with_copies}
use Rattle.kr_model.specs.Applied.{Mounts, images, told, held_at, held_for, child_of, forked_from}
use Rattle.kr_model.specs.Bare.{pins_of}
use Rattle.kr_model.specs.Change.{Birth, Fork}
use Rattle.kr_model.specs.Conditions.{KeepsLawful, CanFork}
use Rattle.kr_model.specs.Lawful.{IsLawful, IsProcessIn, RiseFrom}
use Rattle.kr_model.specs.State.{Image, image_layout, Process, State, Ended, inode_of, place_of, process, is_pid}
use Rattle.kr_model.specs.Uses.{at_inode, uses_of, process_use}
use Rattle.kr_model.proofs.BareLemmas.{mapped-append}
use Rattle.kr_model.proofs.LayoutLemmas.{layout-told}
use Rattle.law_lawful.specs.Holding.{one_at}
use Rattle.law_lawful.proofs.SumLemmas.{passed-test, same-test, other-test, sum-end, sum-found, sum-least}
use Rattle.law_lawful.proofs.HoldingLemmas.{one-same, one-other}
use Rattle.law_lawful.proofs.StandingLemmas.{held-there}
use Rattle.law_lawful.proofs.TreeChangeLemmas.{Still, still-same, still-on, still-leaves}
use Rattle.law_lawful.proofs.ProcessChangeLemmas.{found-above}
use Rattle.law_lawful.proofs.CountLemmas.{AreCounts, held-uses, of-uses, copied-counts, living-counts}
use Rattle.law_lawful.proofs.FileChangeLemmas.{Files, some-mapped, opened-stays, stays-mapped, what-open, pipes-stay}
use Rattle.law_lawful.proofs.AfterLemmas.{some-of, NamesFiles, Parts, parts-of, lawful-after}
use Rattle.law_lawful.proofs.DescriptorChangeLemmas.{held-at-still}

-- ---- numbers that rise

rise-end : (low next : ℕ) (ns : List ℕ) → low ≤ next → RiseFrom low next ns → RiseFrom low (next + 1) (ns ++ next ∷ [])
rise-end low next [] l rise = (l, omega arith, tt)
rise-end low next (n ∷ ns) l rise = let below = rise.1 in (rise.0, omega arith, rise-end (suc n) next ns (omega arith) rise.2)

rise-further : (low next more : ℕ) (ns : List ℕ) → next ≤ more → RiseFrom low next ns → RiseFrom low more ns
rise-further low next more [] l rise = tt
rise-further low next more (n ∷ ns) l rise = let below = rise.1 in (rise.0, omega arith, rise-further (suc n) next more ns l rise.2)

next-not-ended : (low next : ℕ) (es : List Ended) → RiseFrom low next (map_list (λ e. e.pid) es) → list_any (λ e. e.pid == next) es ≡ false
next-not-ended low next [] rise = refl
next-not-ended low next (e ∷ es) rise =
    let below = rise.1 in
    ap (λ b. b || list_any (λ (f : Ended). f.pid == next) es) (other-test e.pid next (λ same. absurd (omega arith))) ∙ next-not-ended (suc e.pid) next es rise.2

-- ---- one more that lives

module _ {M X : Type 0} where
  found-end : (q : ℕ) (ps : List (Process M X)) (c p : Process M X) → find (is_pid q) (ps ++ c ∷ []) ≡ Some p → (find (is_pid q) ps ≡ Some p) ⊎ ((c ≡ p) × (c.pid ≡ q))
  found-end q [] c p e = by (c.pid == q) refl e
    where
      by : (b : Bool) → (c.pid == q) ≡ b → cond b (Some c) None ≡ Some p → (find (is_pid q) [] ≡ Some p) ⊎ ((c ≡ p) × (c.pid ≡ q))
      by true is e = inr (some_is c p e, passed-test c.pid q is)
      by false is e = absurd cc
  found-end q (x ∷ ps) c p e = by (x.pid == q) (found-end q ps c p) e
    where
      by : (b : Bool) → (find (is_pid q) (ps ++ c ∷ []) ≡ Some p → (find (is_pid q) ps ≡ Some p) ⊎ ((c ≡ p) × (c.pid ≡ q))) → cond b (Some x) (find (is_pid q) (ps ++ c ∷ [])) ≡ Some p → (cond b (Some x) (find (is_pid q) ps) ≡ Some p) ⊎ ((c ≡ p) × (c.pid ≡ q))
      by true later e = inl e
      by false later e = later e

  sum-more-one : (g : Process M X → ℕ) (ps : List (Process M X)) (c : Process M X) → sum (map_list g (ps ++ c ∷ [])) ≡ sum (map_list g ps) + g c
  sum-more-one g ps c = ap sum (mapped-append g ps (c ∷ [])) ∙ sum-end (map_list g ps) (g c)

-- ---- copies of all descriptors

module _ {M : Type 0} (d : Meanings) (files : Table M) where
  -- with a copy of each of the first descriptors
  unfoldable copies_below : ℕ → Table M
  copies_below zero = files
  copies_below (suc fd) = option_map_or (λ (x : Named). with_copy x.number (copies_below fd)) (map.get d fd) (copies_below fd)

  same-zero : (o : Option (Counted M)) → o ≡ option_map (counted_more 0) o
  same-zero None = refl
  same-zero (Some h) = let e : h.count ≡ h.count + 0 = omega arith in ap (λ n. Some (record h { count = n })) e

  more-more : (a b c : ℕ) (o : Option (Counted M)) → c ≡ a + b → option_map (counted_more b) (option_map (counted_more a) o) ≡ option_map (counted_more c) o
  more-more a b c None e = refl
  more-more a b c (Some h) e = let same : h.count + a + b ≡ h.count + c = omega arith in ap (λ n. Some (record h { count = n })) same

  get-copies : (k n : ℕ) → map.get (copies_below k).files n ≡ option_map (counted_more (named_below d n k)) (map.get files.files n)
  unfolding copies_below named_below
  get-copies zero n = same-zero (map.get files.files n)
  get-copies (suc fd) n = by (map.get d fd) (get-copies fd)
    where
      by : (o : Option Named) → ((n : ℕ) → map.get (copies_below fd).files n ≡ option_map (counted_more (named_below d n fd)) (map.get files.files n))
          → map.get (option_map_or (λ (x : Named). with_copy x.number (copies_below fd)) o (copies_below fd)).files n
          ≡ option_map (counted_more (named_below d n fd + option_map_or (λ (x : Named). one_at x.number n) o 0)) (map.get files.files n)
      by None before = before n ∙ ap (λ k. option_map (counted_more k) (map.get files.files n)) (let e : named_below d n fd ≡ named_below d n fd + 0 = omega arith in e)
      by (Some x) before = by_key (λ n. map.get (changed (copies_below fd).files x.number (counted_more 1)) n ≡ option_map (counted_more (named_below d n fd + one_at x.number n)) (map.get files.files n)) x.number
          (get-changed_same (copies_below fd).files x.number (counted_more 1) ∙ ap (option_map (counted_more 1)) (before x.number)
          ∙ more-more (named_below d x.number fd) 1 (named_below d x.number fd + one_at x.number x.number) (map.get files.files x.number) (let one = one-same x.number in omega arith))
          (λ q other. get-changed_other (copies_below fd).files x.number (counted_more 1) q other ∙ before q
          ∙ ap (λ k. option_map (counted_more k) (map.get files.files q)) (let none = one-other x.number q other in let e : named_below d q fd ≡ named_below d q fd + one_at x.number q = omega arith in e))
          n

  last-copies : (k : ℕ) → ((copies_below k).last_file ≡ files.last_file) × ((copies_below k).pipes ≡ files.pipes) × ((copies_below k).last_pipe ≡ files.last_pipe)
  unfolding copies_below
  last-copies zero = (refl, refl, refl)
  last-copies (suc fd) = by (map.get d fd) (last-copies fd)
    where
      by : (o : Option Named) → ((copies_below fd).last_file ≡ files.last_file) × ((copies_below fd).pipes ≡ files.pipes) × ((copies_below fd).last_pipe ≡ files.last_pipe)
          → ((option_map_or (λ (x : Named). with_copy x.number (copies_below fd)) o (copies_below fd)).last_file ≡ files.last_file)
          × ((option_map_or (λ (x : Named). with_copy x.number (copies_below fd)) o (copies_below fd)).pipes ≡ files.pipes)
          × ((option_map_or (λ (x : Named). with_copy x.number (copies_below fd)) o (copies_below fd)).last_pipe ≡ files.last_pipe)
      by None before = before
      by (Some x) before = before

  files-copies : (copies_below 1024).files ≡ (with_copies d files).files
  files-copies = same_values (copies_below 1024).files (with_copies d files).files (λ n. get-copies 1024 n ∙ sym (get-mapped (λ n. counted_more (named_count d n)) files.files n))

module _ {M X : Type 0} {pins extra : ℕ → ℕ} {t : Tree} {files : Table M} {living : List (Process M X)} (c : AreCounts pins extra t files living) where
  -- what an open file stands at is there, since it is held
  file-there : (n : ℕ) (h : Counted M) → map.get files.files n ≡ Some h → (o : Option (Place M)) → h.opened.place ≡ o → IfSome o (λ p. IsSome (inode t (inode_of p.host)))
  file-there n h e None place = tt
  file-there n h e (Some p) place =
      let i : ℕ = inode_of p.host in
      let below = c.numbered n h e in
      let some = (c.counts n h e).1 in
      let own : option_map_or (uses_of i) (map.get files.files n) 0 ≡ h.count =
      ap (λ (o : Option (Counted M)). option_map_or (uses_of i) o 0) e ∙ ap (λ (o : Option (Place M)). at_inode i h.count o) place ∙ ap (λ b. cond b h.count 0) (same-test i i refl) in
      let least = sum-least (uses_of i) files.files (suc files.last_file) n (omega arith) in
      let all = c.holds i in
      subst (λ o. IsSome o) (sym (held-there t i (omega arith)).1) refl

-- ---- the holds of all descriptors

module _ {M : Type 0} (table : List Row) (pins : ℕ → ℕ) (d : Meanings) (files : Table M) (living : List (Process M Image)) (t : Tree) (kept : IsKept t)
    (c : AreCounts pins (λ n. 0) t files living) (names : (fd : ℕ) (x : Named) → map.get d fd ≡ Some x → IsSome (map.get files.files x.number)) where
  -- an open file that was copied is the same but for its count
  copied-file : (k n : ℕ) (h : Counted M) → map.get files.files n ≡ Some h → map.get (copies_below d files k).files n ≡ Some (counted_more (named_below d n k) h)
  copied-file k n h e = get-copies d files k n ∙ ap (option_map (counted_more (named_below d n k))) e

  -- each descriptor holds what it names once more
  record HeldFor (k : ℕ) : Type 0 where
    pub counts : AreCounts pins (λ n. named_below d n k) (held_for d files k t) (copies_below d files k) living
    pub still : Still table t (held_for d files k t)

  held-for : (k : ℕ) → HeldFor k
  unfolding held_for copies_below named_below
  held-for zero = record { counts = c; still = still-same table t kept }
  held-for (suc fd) = let both = by (map.get d fd) refl (held-for fd) in record { counts = both.0; still = both.1 }
    where
      named-by : (x : Named) → map.get d fd ≡ Some x → HeldFor fd → (h : Counted M) → map.get files.files x.number ≡ Some h
          → AreCounts pins (λ n. named_below d n fd + one_at x.number n) (held_at (place_of files x.number) (held_for d files fd t)) (with_copy x.number (copies_below d files fd)) living
      named-by x at before h e =
          let more : Counted M = counted_more (named_below d x.number fd) h in
          let is : place_of files x.number ≡ h.opened.place = ap (λ (f : Option (Counted M)). option_and_then (λ (o : Opened M). o.place) (option_map (λ (h : Counted M). h.opened) f)) e in
          copied-counts before.counts x.number more (copied-file fd x.number h e) (held_at (place_of files x.number) (held_for d files fd t))
          (λ i. held-uses (held_for d files fd t) (place_of files x.number) (file-there before.counts x.number more (copied-file fd x.number h e) (place_of files x.number) (sym is)) i
          ∙ ap (λ o. holds_at (held_for d files fd t) i + at_inode i 1 o) is)

      by : (o : Option Named) → map.get d fd ≡ o → HeldFor fd
          → (AreCounts pins (λ n. named_below d n fd + option_map_or (λ (x : Named). one_at x.number n) o 0) (held_at (option_and_then (λ (x : Named). place_of files x.number) o) (held_for d files fd t))
          (option_map_or (λ (x : Named). with_copy x.number (copies_below d files fd)) o (copies_below d files fd)) living)
          × Still table t (held_at (option_and_then (λ (x : Named). place_of files x.number) o) (held_for d files fd t))
      by None at before = (living-counts before.counts (λ n. named_below d n fd + 0) living (λ i. refl) (λ n. omega arith), before.still)
      by (Some x) at before =
          let h = some-of (map.get files.files x.number) (names fd x at) in
          (named-by x at before h.0 h.1, still-on before.still (held-at-still table (held_for d files fd t) before.still.kept (place_of files x.number)))

-- ---- the child

module _ {M : Type 0} (number : M → ℕ) (table : List Row) (s : State M Image) (l : IsLawful number table s) (b : Birth) (p : Process M Image) (pid : ℕ) (e : process pid s ≡ Some p) (can : CanFork b s p) where
  abbrev child : Process M Image
  child = child_of images b p

  abbrev family : List (Process M Image)
  family = s.living ++ child ∷ []

  abbrev copied : Table M
  copied = with_copies p.descs s.files

  abbrev all_held : Tree
  all_held = held_for p.descs s.files 1024 s.tree

  abbrev with_both : Tree
  with_both = held_at (Some p.exe) (held_at (Some p.cwd) all_held)

  parts : Parts number table s.tree s.files s.living
  parts = parts-of number table s l

  held : HeldFor table (pins_of table) p.descs s.files s.living s.tree l.tree (of-uses (pins_of table) s l.uses) (λ fd x at. ((parts.descriptors pid p e).each fd x at).1) 1024
  held = held-for table (pins_of table) p.descs s.files s.living s.tree l.tree (of-uses (pins_of table) s l.uses) (λ fd x at. ((parts.descriptors pid p e).each fd x at).1) 1024

  -- the copies of all descriptors, counted
  copied-counted : AreCounts (pins_of table) (λ n. named_count p.descs n) all_held copied s.living
  copied-counted =
      let counts = held.counts in
      let files = files-copies p.descs s.files in
      let last = (last-copies p.descs s.files 1024).0 in
      of-parts (copies_below p.descs s.files 1024) counts files last
    where
      of-parts : (t : Table M) → AreCounts (pins_of table) (λ n. named_count p.descs n) all_held t s.living → t.files ≡ copied.files → t.last_file ≡ s.files.last_file → AreCounts (pins_of table) (λ n. named_count p.descs n) all_held copied s.living
      of-parts t counts files last =
          let Q : Files M → ℕ → Type 0 = λ m k. AreCounts (pins_of table) (λ n. named_count p.descs n) all_held (record { files = m; pipes = s.files.pipes; last_file = k; last_pipe = s.files.last_pipe }) s.living in
          let same : Q t.files t.last_file = record { holds = counts.holds; counts = counts.counts; numbered = counts.numbered } in
          subst (λ m. Q m s.files.last_file) files (subst (λ k. Q t.files k) last same)

  -- where the parent stands and what it executes is there, since it is held
  stands-there : (t : Tree) (i : ℕ) → 0 < holds_at t i → IsSome (inode t i)
  stands-there t i some = subst (λ o. IsSome o) (sym (held-there t i some).1) refl

  cwd-there : IsSome (inode all_held (inode_of p.cwd.host))
  cwd-there =
      let i : ℕ = inode_of p.cwd.host in
      let own = sum-found (process_use i) (is_pid pid) s.living p e in
      let one : cond {A = ℕ} (i == i) 1 0 ≡ 1 = ap (λ b. cond {A = ℕ} b 1 0) (same-test i i refl) in
      let all = copied-counted.holds i in
      stands-there all_held i (omega arith)

  exe-there : IsSome (inode (held_at (Some p.cwd) all_held) (inode_of p.exe.host))
  exe-there =
      let i : ℕ = inode_of p.exe.host in
      let own = sum-found (process_use i) (is_pid pid) s.living p e in
      let one : cond {A = ℕ} (i == i) 1 0 ≡ 1 = ap (λ b. cond {A = ℕ} b 1 0) (same-test i i refl) in
      let all = copied-counted.holds i in
      let more = held-uses all_held (Some p.cwd) cwd-there i in
      stands-there (held_at (Some p.cwd) all_held) i (omega arith)

  family-still : Still table s.tree with_both
  family-still =
      let one = held-at-still table all_held held.still.kept (Some p.cwd) in
      still-on held.still (still-on one (held-at-still table (held_at (Some p.cwd) all_held) one.kept (Some p.exe)))

  whole-told : (at : Option ℕ) (m : Pages) → IsWhole m → IsWhole (told b.pid at m)
  whole-told None m whole = whole
  whole-told (Some at) m whole = IsWhole-written m at (to_le_bytes w32 b.pid) whole

  placed-told : (at : Option ℕ) (m : Pages) → IsPlaced m → IsPlaced (told b.pid at m)
  placed-told None m placed = placed
  placed-told (Some at) m placed = IsPlaced-written m at (to_le_bytes w32 b.pid) placed

  child-pages : map.len child.image.memory.pages ≡ map.len p.image.memory.pages
  child-pages = sym (layouts_follow.count child.image.memory.pages) ∙ ap (λ m. map.len m) (layout-told b.pid b.told_at p.image.memory.pages) ∙ layouts_follow.count p.image.memory.pages

  child-fits : IsProcessIn number s.tree table child
  child-fits =
      let own = l.processes pid p e in
      let same = child-pages in
      let few = own.pages in
      record {
        cwd = own.cwd;
        exe = own.exe;
        exe_name = own.exe_name;
        breaks = own.breaks;
        whole = whole-told b.told_at p.image.memory.pages own.whole;
        paged = placed-told b.told_at p.image.memory.pages own.paged;
        pages = omega arith;
      }

  some-copied : (n : ℕ) → IsSome (map.get s.files.files n) → IsSome (map.get copied.files n)
  some-copied = some-mapped s.files.files (λ n. counted_more (named_count p.descs n))

  each-family : (P Q : Process M Image → Type 0) → ((x : Process M Image) → P x → Q x) → Q child → ((q : ℕ) (x : Process M Image) → find (is_pid q) s.living ≡ Some x → P x) → (q : ℕ) (x : Process M Image) → find (is_pid q) family ≡ Some x → Q x
  each-family P Q stays own all q x at =
      elim (found-end q s.living child x at) [
        | inl old ↦ stays x (all q x old)
        | inr new ↦ subst Q new.0 own
      ]

  names-copied : (x : Process M Image) → NamesFiles s.files.files x → NamesFiles copied.files x
  names-copied x own = record { each = λ fd y at. let before = own.each fd y at in (before.0, some-copied y.number before.1) }

  apart-family : (q : ℕ) → IsSome (find (is_pid q) family) → list_any (λ (f : Ended). f.pid == q) s.ended ≡ false
  apart-family q there =
      let x = some-of (find (is_pid q) family) there in
      elim (found-end q s.living child x.0 x.1) [
        | inl old ↦ l.pids.apart q (subst (λ o. IsSome o) (sym old) refl)
        | inr new ↦
            let same : s.next_pid ≡ q = sym can.next ∙ new.1 in
            subst (λ k. list_any (λ (f : Ended). f.pid == k) s.ended ≡ false) same (next-not-ended 2 s.next_pid s.ended l.pids.ended)
      ]

  pub forked-keeps : IsLawful number table (forked_from images b p s)
  forked-keeps =
      let t : State M Image = forked_from images b p s in
      let same = stays-mapped s.files.files (λ n. counted_more (named_count p.descs n)) (λ n h. refl) in
      let next = can.next in
      let bounds = found-above s.next_pid 2 pid s.living p l.pids.living e in
      let low = bounds.0 in
      let high = bounds.1 in
      let pids : map_list (λ (x : Process M Image). x.pid) family ≡ map_list (λ (x : Process M Image). x.pid) s.living ++ s.next_pid ∷ [] =
      mapped-append (λ (x : Process M Image). x.pid) s.living (child ∷ []) ∙ ap (λ n. map_list (λ (x : Process M Image). x.pid) s.living ++ n ∷ []) can.next in
      let after : b.pid + 1 ≡ s.next_pid + 1 = omega arith in
      lawful-after number table s l t (still-leaves table s.tree with_both family-still)
      (record {
        processes = each-family (IsProcessIn number s.tree table) (IsProcessIn number s.tree table) (λ x is. is) child-fits parts.processes;
        descriptors = each-family (NamesFiles s.files.files) (NamesFiles copied.files) names-copied (let own = names-copied p (parts.descriptors pid p e) in record { each = own.each }) parts.descriptors;
        opens = opened-stays _ s.files.files copied.files same parts.opens;
        pipes = pipes-stay s.files l.pipes copied.files s.files.last_file (what-open same);
      })
      (record {
        holds = λ i.
            let before = copied-counted.holds i in
            let one = held-uses all_held (Some p.cwd) cwd-there i in
            let two = held-uses (held_at (Some p.cwd) all_held) (Some p.exe) exe-there i in
            let sums = sum-more-one (process_use i) s.living child in
            omega arith;
        counts = λ n h at.
            let before = copied-counted.counts n h at in
            let count = before.0 in
            let sums = sum-more-one (λ (x : Process M Image). named_count x.descs n) s.living child in
            (omega arith, before.1);
        numbered = copied-counted.numbered;
      })
      (let sums = sum-more-one (λ (x : Process M Image). map.len (image_layout x.image)) s.living child in
      let pages = child-pages in
      let own = layouts_follow.count child.image.memory.pages in
      let room = can.room in
      omega arith)
      (record {
        living = subst (λ ns. RiseFrom 2 (b.pid + 1) ns) (sym pids) (subst (λ n. RiseFrom 2 n (map_list (λ (x : Process M Image). x.pid) s.living ++ s.next_pid ∷ [])) (sym after) (rise-end 2 s.next_pid (map_list (λ (x : Process M Image). x.pid) s.living) (omega arith) l.pids.living));
        ended = rise-further 2 s.next_pid (b.pid + 1) (map_list (λ (x : Ended). x.pid) s.ended) (omega arith) l.pids.ended;
        apart = apart-family;
        few = let long = length-append s.living (child ∷ []) in let few = can.few in omega arith;
      })
      l.input

module _ {M : Type 0} (number : M → ℕ) (table : List Row) (mounts : Mounts M) (pid : ℕ) where
  pub fork-keeps : (b : Birth) → KeepsLawful number table mounts pid (Fork b)
  fork-keeps b s l lives can =
      let p = some-of (process pid s) lives in
      subst (λ o. IsLawful number table (option_map_or (λ p. forked_from images b p s) o s)) (sym p.1)
      (forked-keeps number table s l b p.0 pid p.1 (subst (λ o. IfSome o (CanFork b s)) p.1 can))
