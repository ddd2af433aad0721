-- Descriptors that come and go keep a lawful state.
use Rattle.std.specs.FinMap as map
use Rattle.std.proofs.Common.{◌≡◌, ℕ, zero, suc, ◌+◌, ◌≤◌, ◌<◌, Bool, true, false, List, refl, sym, ap, subst, ◌∙◌, cond, arith, Option, Some, None, IsSome}
use Rattle.std.specs.List.{find}
use Rattle.std.specs.Ordering.{nat_cmp}
use Rattle.std.specs.Option.{option_map_or, option_and_then}
use Rattle.std.proofs.lemmas.Option.{none-some}
use Rattle.kr_model.proofs.pr_base.MapLemmas.{by_key, get-insert_same, get-insert_other, get-remove_same, get-remove_other, some-insert}
use Rattle.kr_model.specs.kr_tree.Tree.{Tree}
use Rattle.kr_model.specs.kr_tree.Lawful.{IsKept}
use Rattle.kr_model.specs.kr_tree.declared.place.Place.{Place}
use Rattle.kr_model.proofs.kr_tree.NameLemmas.{some_is}
use Rattle.kr_model.specs.kr_view.View.{Row}
use Rattle.kr_model.specs.kr_files.declared.opened.Opened.{Opened}
use Rattle.kr_model.specs.kr_files.Descriptors.{Meanings, Named, named_count}
use Rattle.kr_model.specs.kr_files.Files.{Table, Counted, with_file, closed}
use Rattle.kr_model.specs.Applied.{held_at, released_at, close_named, close, is_closed_on_exec, close_below, close_on_exec_below}
use Rattle.kr_model.specs.Bare.{pins_of}
use Rattle.kr_model.specs.Lawful.{IsLawful, IsProcessIn, IsOpenIn, HasPipes}
use Rattle.kr_model.specs.State.{Image, Process, State, inode_of, place_of, process, named, is_pid, with_process, with_descs}
use Rattle.kr_model.specs.Uses.{names_of_file}
use Rattle.law_lawful.specs.Holding.{one_at}
use Rattle.law_lawful.proofs.SumLemmas.{same-test, other-test, sum-found}
use Rattle.law_lawful.proofs.HoldingLemmas.{one-same}
use Rattle.law_lawful.proofs.TreeChangeLemmas.{Still, still-same, still-leaves, held-still, released-still}
use Rattle.law_lawful.proofs.ProcessChangeLemmas.{here, below-changed, here-least, below-none, sum-none}
use Rattle.law_lawful.proofs.CountLemmas.{AreCounts, of-uses, to-uses, closed-counts, living-counts}
use Rattle.law_lawful.proofs.FileChangeLemmas.{opened-added, opened-stays, stays-closed, IsLone, pipes-opened, pipes-closed, named-closed}
use Rattle.law_lawful.proofs.AfterLemmas.{some-of, NamesFiles, Parts, parts-of, parts-with, lawful-after, pids-with, uses-descs, names-descs, pages-same}

-- ---- counts of descriptors

pub replaced-count : (d : Meanings) (fd : ℕ) (x : Named) (n : ℕ) → fd < 1024 → named_count (map.insert d fd x) n + here d n fd ≡ named_count d n + one_at x.number n
replaced-count d fd x n small =
    let sums = below-changed d (map.insert d fd x) n fd 1024 small (λ q other. get-insert_other d fd x q other) in
    let new = ap (λ (o : Option Named). option_map_or (λ (y : Named). one_at y.number n) o 0) (get-insert_same d fd x) in
    omega arith

pub removed-count : (d : Meanings) (fd n : ℕ) → fd < 1024 → named_count (map.remove d fd) n + here d n fd ≡ named_count d n
removed-count d fd n small =
    let sums = below-changed d (map.remove d fd) n fd 1024 small (λ q other. get-remove_other d fd q other) in
    let new = ap (λ (o : Option Named). option_map_or (λ (y : Named). one_at y.number n) o 0) (get-remove_same d fd) in
    omega arith

pub here-some : (d : Meanings) (fd : ℕ) (x : Named) (n : ℕ) → map.get d fd ≡ Some x → here d n fd ≡ one_at x.number n
here-some d fd x n e = ap (λ (o : Option Named). option_map_or (λ (y : Named). one_at y.number n) o 0) e

pub here-none : (d : Meanings) (fd n : ℕ) → map.get d fd ≡ None → here d n fd ≡ 0
here-none d fd n e = ap (λ (o : Option Named). option_map_or (λ (y : Named). one_at y.number n) o 0) e

-- ---- trees with a hold more or less

module _ {N : Type 0} (table : List Row) (t : Tree) (h : IsKept t) where
  pub held-at-still : (o : Option (Place N)) → Still table t (held_at o t)
  held-at-still None = still-same table t h
  held-at-still (Some p) = held-still table t (inode_of p.host) h

  pub released-at-still : (o : Option (Place N)) → Still table t (released_at o t)
  released-at-still None = still-same table t h
  released-at-still (Some p) = released-still table t (inode_of p.host) h

module _ {M : Type 0} where
  -- ---- what descriptors name

  pub names-more : (files more : map.FinMap nat_cmp (Counted M)) (p : Process M Image) → ((q : ℕ) → IsSome (map.get files q) → IsSome (map.get more q)) → NamesFiles files p → NamesFiles more p
  names-more files more p stays own = record { each = λ fd x e. let before = own.each fd x e in (before.0, stays x.number before.1) }

  pub names-inserted : (files : map.FinMap nat_cmp (Counted M)) (p : Process M Image) (fd : ℕ) (x : Named) → fd < 1024 → IsSome (map.get files x.number) → NamesFiles files p → NamesFiles files (with_descs (λ d. map.insert d fd x) p)
  names-inserted files p fd x small there own = record {
    each = λ q y e. by_key (λ q. map.get (map.insert p.descs fd x) q ≡ Some y → (q < 1024) × IsSome (map.get files y.number)) fd
        (λ e. (small, subst (λ (z : Named). IsSome (map.get files z.number)) (some_is x y (sym (get-insert_same p.descs fd x) ∙ e)) there))
        (λ q d e. own.each q y (sym (get-insert_other p.descs fd x q d) ∙ e))
        q e;
  }

  pub names-removed : (files : map.FinMap nat_cmp (Counted M)) (p : Process M Image) (fd : ℕ) → NamesFiles files p → NamesFiles files (with_descs (λ d. map.remove d fd) p)
  names-removed files p fd own = record {
    each = λ q y e. by_key (λ q. map.get (map.remove p.descs fd) q ≡ Some y → (q < 1024) × IsSome (map.get files y.number)) fd
        (λ e. absurd (none-some y (sym (get-remove_same p.descs fd) ∙ e)))
        (λ q d e. own.each q y (sym (get-remove_other p.descs fd q d) ∙ e))
        q e;
  }

  -- what a process names is named
  pub named-least : (n pid fd : ℕ) (x : Named) (ps : List (Process M Image)) (p : Process M Image) → find (is_pid pid) ps ≡ Some p → fd < 1024 → map.get p.descs fd ≡ Some x → x.number ≡ n → 1 ≤ names_of_file n ps
  named-least n pid fd x ps p e small at same =
      let all = sum-found (λ (p : Process M Image). named_count p.descs n) (is_pid pid) ps p e in
      let own = here-least p.descs n fd 1024 small in
      let one = here-some p.descs fd x n at in
      let is : one_at x.number n ≡ 1 = ap (λ b. cond {A = ℕ} b 1 0) (same-test x.number n same) in
      omega arith

  pub process-descs : (number : M → ℕ) (table : List Row) (t : Tree) (f : Meanings → Meanings) (p : Process M Image) → IsProcessIn number t table p → IsProcessIn number t table (with_descs f p)
  process-descs number table t f p own = record { cwd = own.cwd; exe = own.exe; exe_name = own.exe_name; breaks = own.breaks; whole = own.whole; paged = own.paged; pages = own.pages }

module _ {M : Type 0} (number : M → ℕ) (table : List Row) (pid : ℕ) where
  -- one more open file
  pub parts-added : (t : Tree) (files : Table M) (living : List (Process M Image)) → Parts number table t files living → (o : Opened M) → IsOpenIn number t table o → HasPipes (with_file o files) → Parts number table t (with_file o files) living
  parts-added t files living before o is pipes = record {
    processes = before.processes;
    descriptors = λ q p e. names-more files.files (map.insert files.files (files.last_file + 1) (record { opened = o; count = 1 })) p (λ k there. some-insert files.files (files.last_file + 1) k (record { opened = o; count = 1 }) there) (before.descriptors q p e);
    opens = opened-added (IsOpenIn number t table) files.files (files.last_file + 1) (record { opened = o; count = 1 }) before.opens is;
    pipes = pipes;
  }

  -- one descriptor less that names an open file
  pub parts-closed : (t tree : Tree) (files : Table M) (living : List (Process M Image)) (pins extra : ℕ → ℕ) → AreCounts pins extra tree files living → Parts number table t files living → (n : ℕ) → 1 ≤ extra n
      → Parts number table t (closed n files) living
  parts-closed t tree files living pins extra counts before n named = record {
    processes = before.processes;
    descriptors = λ q r is.
        let names = before.descriptors q r is in
        record {
          each = λ k y at.
              let own = names.each k y at in
              (own.0, named-closed counts n named y.number (named-least y.number q k y living r is own.0 at refl) own.1);
        };
    opens = opened-stays (IsOpenIn number t table) files.files (closed n files).files (stays-closed files n) before.opens;
    pipes = pipes-closed files before.pipes n;
  }

  -- a state with another tree, other open files, and other descriptors of the caller
  abbrev pub of_three : Tree → Table M → (Meanings → Meanings) → State M Image → State M Image
  of_three tree files f s = record {
    tree = tree;
    user = s.user;
    files = files;
    input = s.input;
    taken = s.taken;
    out = s.out;
    err = s.err;
    living = with_process pid (with_descs f) s.living;
    ended = s.ended;
    next_pid = s.next_pid;
  }

  pub three-after : (s : State M Image) → IsLawful number table s → (tree : Tree) (files : Table M) (f : Meanings → Meanings) → Still table s.tree tree → Parts number table s.tree files (with_process pid (with_descs f) s.living)
      → AreCounts (pins_of table) (λ n. 0) tree files (with_process pid (with_descs f) s.living) → IsLawful number table (of_three tree files f s)
  three-after s l tree files f still parts counts =
      let t : State M Image = of_three tree files f s in
      lawful-after number table s l t (still-leaves table s.tree tree still) parts (to-uses (pins_of table) (λ n. 0) t counts (λ n. refl))
      (let same = pages-same pid (with_descs f) (λ p. refl) s.living in let room = l.room in omega arith)
      (pids-with s t pid (with_descs f) (λ p. refl) refl refl refl l.pids) l.input

  module _ (s : State M Image) (l : IsLawful number table s) where
    abbrev pub start : AreCounts (pins_of table) (λ n. 0) s.tree s.files s.living
    start = of-uses (pins_of table) s l.uses

    abbrev pub parts : Parts number table s.tree s.files s.living
    parts = parts-of number table s l

    abbrev pub living_after : (Meanings → Meanings) → List (Process M Image)
    living_after f = with_process pid (with_descs f) s.living

    -- a number that isn't drawn yet is named by nobody
    pub unnamed-next : (n : ℕ) → s.files.last_file < n → names_of_file n s.living ≡ 0
    unnamed-next n above = sum-none s.next_pid (λ (p : Process M Image). named_count p.descs n) 2 s.living l.pids.living (λ q p e. below-none p.descs n 1024 (λ fd small. none q p e fd (map.get p.descs fd) refl))
      where
        none : (q : ℕ) (p : Process M Image) → find (is_pid q) s.living ≡ Some p → (fd : ℕ) (o : Option Named) → map.get p.descs fd ≡ o → here p.descs n fd ≡ 0
        none q p e fd None at = here-none p.descs fd n at
        none q p e fd (Some x) at =
            let file = some-of (map.get s.files.files x.number) ((parts.descriptors q p e).each fd x at).1 in
            let low = l.uses.numbered x.number file.0 file.1 in
            here-some p.descs fd x n at ∙ ap (λ b. cond {A = ℕ} b 1 0) (other-test x.number n (λ same. absurd (omega arith)))

    -- the caller's other descriptors
    pub parts-descs : (files : Table M) (f : Meanings → Meanings) → Parts number table s.tree files s.living → ((p : Process M Image) → process pid s ≡ Some p → NamesFiles files.files (with_descs f p)) → Parts number table s.tree files (living_after f)
    parts-descs files f before names =
        parts-with number table s.tree files s.living pid (with_descs f) (λ p. refl) before (λ p e. process-descs number table s.tree f p (before.processes pid p e)) names

    pub parts-opened : (o : Opened M) → IsOpenIn number s.tree table o → IsLone s.files o → Parts number table s.tree (with_file o s.files) s.living
    parts-opened o is lone = parts-added s.tree s.files s.living parts o is (pipes-opened s.files l.pipes o lone)

    -- ---- a descriptor less

    close-named-keeps : (p : Process M Image) → process pid s ≡ Some p → (fd : ℕ) (x : Named) → map.get p.descs fd ≡ Some x → IsLawful number table (close_named pid fd x s)
    close-named-keeps p e fd x at =
        let own = (parts.descriptors pid p e).each fd x at in
        let f : Meanings → Meanings = λ d. map.remove d fd in
        let one : AreCounts (pins_of table) (λ n. one_at x.number n) s.tree s.files (living_after f) =
        living-counts start (λ n. one_at x.number n) (living_after f) (λ i. uses-descs pid i f s.living)
        (λ n. let names = names-descs s.next_pid pid f s.living p l.pids.living e n in let less = removed-count p.descs fd n own.0 in let was = here-some p.descs fd x n at in omega arith) in
        let before = parts-descs s.files f parts (λ q at. names-removed s.files.files q fd (parts.descriptors pid q at)) in
        three-after s l (released_at (place_of s.files x.number) s.tree) (closed x.number s.files) f (released-at-still table s.tree l.tree (place_of s.files x.number))
        (parts-closed s.tree s.tree s.files (living_after f) (pins_of table) (λ n. one_at x.number n) one before x.number (let same = one-same x.number in omega arith))
        (closed-counts one x.number (λ n. 0) (λ n. omega arith))

  pub close-keeps : (s : State M Image) → IsLawful number table s → (fd : ℕ) → IsLawful number table (close pid fd s)
  unfolding close
  close-keeps s l fd = by (process pid s) refl
    where
      named-by : (p : Process M Image) → process pid s ≡ Some p → (o : Option Named) → map.get p.descs fd ≡ o → IsLawful number table (option_map_or (λ (x : Named). close_named pid fd x s) o s)
      named-by p e None at = l
      named-by p e (Some x) at = close-named-keeps s l p e fd x at

      by : (o : Option (Process M Image)) → process pid s ≡ o → IsLawful number table (option_map_or (λ (x : Named). close_named pid fd x s) (option_and_then (λ (p : Process M Image). map.get p.descs fd) o) s)
      by None e = l
      by (Some p) e = named-by p e (map.get p.descs fd) refl

  pub close-below-keeps : (count : ℕ) (s : State M Image) → IsLawful number table s → IsLawful number table (close_below pid count s)
  unfolding close_below
  close-below-keeps zero s l = l
  close-below-keeps (suc fd) s l = close-keeps (close_below pid fd s) (close-below-keeps fd s l) fd

  pub close-on-exec-keeps : (count : ℕ) (s : State M Image) → IsLawful number table s → IsLawful number table (close_on_exec_below pid count s)
  unfolding close_on_exec_below
  close-on-exec-keeps zero s l = l
  close-on-exec-keeps (suc fd) s l = by (close_on_exec_below pid fd s) (close-on-exec-keeps fd s l) (is_closed_on_exec pid fd (close_on_exec_below pid fd s))
    where
      by : (before : State M Image) → IsLawful number table before → (b : Bool) → IsLawful number table (cond b (close pid fd before) before)
      by before l true = close-keeps before l fd
      by before l false = l
