-- The state in which a run begins is lawful.
use Rattle.std.specs.FinMap as map
use Rattle.std.proofs.Common.{◌≡◌, ℕ, zero, suc, ◌≤◌, ◌<◌, Bool, true, false, cond, List, [], ◌∷◌, length, Option, Some, None, IsSome, refl, sym, ap, subst, ◌∙◌, arith}
use Rattle.std.specs.Prelude.{◌==◌, ◌||◌, nat_eq, map as map_list}
use Rattle.std.specs.List.{find, list_any}
use Rattle.std.specs.Option.{option_map, option_map_or}
use Rattle.std.specs.Ordering.{nat_cmp}
use Rattle.std.proofs.lemmas.Option.{none-some, same_Some}
use Rattle.kr_text.specs.kr_inode.declared.user.User.{User}
use Rattle.elf_load.specs.rv_mem.Pages.{IsWhole, IsPlaced}
use Rattle.kr_text.specs.kr_tree.Tree.{Tree, Inode, inode, is_directory, is_file}
use Rattle.kr_text.specs.kr_tree.Changes.{held}
use Rattle.kr_text.specs.kr_tree.Holds.{holds_at}
use Rattle.kr_text.specs.kr_tree.Lawful.{IsKept}
use Rattle.kr_text.specs.kr_tree.declared.place.Host.{Host}
use Rattle.kr_text.specs.kr_tree.declared.place.Host.TheVariants.{Node, Proc}
use Rattle.kr_text.specs.kr_tree.declared.place.Place.{Place}
use Rattle.law_walks.specs.kr_view.View.{Row, StandsIn, is_there, row}
use Rattle.law_walks.specs.kr_view.Component.{is_directory_at, is_processes}
use Rattle.law_walks.specs.kr_view.InTree.{IsPlaceOf, IsObjectOf}
use Rattle.law_walks.specs.kr_view.Leads.{numbered}
use Rattle.law_walks.specs.kr_files.declared.opened.What.{What}
use Rattle.law_walks.specs.kr_files.declared.opened.What.TheVariants.{In, Out, Err}
use Rattle.law_walks.specs.kr_files.Files.{Counted, empty_table}
use Rattle.law_walks.specs.kr_model.Applied.{in_mount, open_in}
use Rattle.law_walks.specs.kr_model.Bare.{pins_of}
use Rattle.law_walks.specs.kr_model.FileRows.{is_dir, is_file_open}
use Rattle.law_walks.specs.kr_model.Lawful.{IsLawful, IsOpenIn, IsProcessIn, HasPipes, RiseFrom, is_file_at}
use Rattle.law_walks.specs.kr_model.MemoryRows.{process_pages}
use Rattle.law_walks.specs.kr_model.State.{Image, Process, State, Ended, image_layout, inode_of, process, is_pid}
use Rattle.law_walks.specs.kr_model.Uses.{sum_to, process_use, file_uses, process_uses, names_of_file, AreUses}
use Rattle.elf_load.proofs.rv_mem.LayoutLemmas.{layouts_follow}
use Rattle.kr_ops.proofs.law_lawful.SumLemmas.{passed-test, sum-cons}
use Rattle.kr_ops.proofs.law_lawful.HoldingLemmas.{holds-held}
use Rattle.kr_ops.proofs.law_lawful.TreeChangeLemmas.{Still, still-on, still-leaves, held-still}
use Rattle.kr_ops.proofs.law_lawful.StandingLemmas.{mounts-still}
use Rattle.kr_ops.proofs.law_lawful.AfterLemmas.{some-of, object-there, parts-of, Parts, NamesFiles, lawful-after}
use Rattle.kr_ops.proofs.law_lawful.OpeningLemmas.{open-in-keeps}
use Rattle.kr_start.specs.Start.{pinned, First, first_process, first_pid, without_processes, with_first, console, is_console, HasNoHolds, CanBegin, IsIdle}
use Rattle.kr_start.proofs.PinLemmas.{AreThere, is_there-some, some-is_there, pinned-stays, pinned-still, pinned-holds, held-stays}

-- ---- an empty table

no-value : {X : Type 0} (k : ℕ) (x : X) → map.get (map.empty {X = X} {R = nat_cmp}) k ≡ Some x → ⊥
no-value k x e = absurd (none-some x (sym (map.get-empty nat_cmp k) ∙ e))

no-sum : {X : Type 0} (f : X → ℕ) (n : ℕ) → sum_to f map.empty n ≡ 0
unfolding sum_to
no-sum f zero = refl
no-sum f (suc n) =
    let none = ap (λ o. option_map_or f o 0) (map.get-empty nat_cmp n) in
    let rest = no-sum f n in
    omega arith

pub no-files : (T : Type 0) (i : ℕ) → file_uses {M = T} empty_table i ≡ 0
no-files T i = no-sum _ 1

-- ---- before a process lives

source-found : (rows : List Row) (i : ℕ) → list_any (λ (r : Row). nat_eq r.source i) rows ≡ true → (k : ℕ) × (r : Row) × (row rows k ≡ Some r) × (r.source ≡ i)
source-found [] i e = absurd cc
source-found (r ∷ rows) i e = by (nat_eq r.source i) refl (source-found rows i) e
  where
    by : (b : Bool) → nat_eq r.source i ≡ b → (list_any (λ (r : Row). nat_eq r.source i) rows ≡ true → (k : ℕ) × (q : Row) × (row rows k ≡ Some q) × (q.source ≡ i))
        → (b || list_any (λ (r : Row). nat_eq r.source i) rows) ≡ true → (k : ℕ) × (q : Row) × (row (r ∷ rows) k ≡ Some q) × (q.source ≡ i)
    by true is later e = (0, r, refl, passed-test r.source i is)
    by false is later e = let at = later e in (suc at.0, at.1, at.2, at.3)

sources-there : (table : List Row) (t : Tree) → StandsIn t table → AreThere table t
sources-there table t stands = record { each = λ i e. by i (source-found table i e) }
  where
    there : (o : Option Inode) (d : Bool) → option_map is_directory (option_map (λ (x : Inode). x.node.body) o) ≡ Some d → IsSome o
    there None d e = absurd (none-some d e)
    there (Some x) d e = refl

    by : (i : ℕ) → (k : ℕ) × (r : Row) × (row table k ≡ Some r) × (r.source ≡ i) → IsSome (inode t i)
    by i at = subst (λ i. IsSome (inode t i)) at.3 (there (inode t at.1.source) at.1.is_dir (stands.sources at.0 at.1 at.2))

module _ {T : Type 0} (number : T → ℕ) (table : List Row) (t : Tree) (user : User) (input : List ℕ) (kept : IsKept t) (stands : StandsIn t table) (free : HasNoHolds t) where
  abbrev first_tree : Tree
  first_tree = pinned table t

  abbrev before : State T Image
  before = without_processes first_tree user input

  still : Still table t first_tree
  still = pinned-still table table t kept

  holds : (i : ℕ) → holds_at first_tree i ≡ pins_of table i
  holds i = pinned-holds table t (sources-there table t stands) i ∙ ap (λ n. cond (n == 0) (pins_of table i) n) (free i)

  no-pipes : HasPipes {M = T} empty_table
  no-pipes = record {
    numbered = λ p some. let is = some-of (map.get (map.empty {X = List ℕ} {R = nat_cmp}) p) some in absurd (no-value p is.0 is.1);
    reads = λ p n h e. absurd (no-value n h e);
    writes = λ p n h e. absurd (no-value n h e);
    one_reader = λ p m n g h e. absurd (no-value m g e);
    one_writer = λ p m n g h e. absurd (no-value m g e);
    bytes = λ p bytes e. absurd (no-value p bytes e);
  }

  pub empty-lawful : IsLawful number table before
  empty-lawful =
      let leaves = still-leaves table t first_tree still in
      record {
        tree = still.kept;
        mounts = mounts-still t first_tree table stands leaves.stay (λ i. let e = holds i in omega arith) leaves.points;
        processes = λ pid p e. absurd (none-some p e);
        files = λ n o e. absurd (none-some o (sym (ap (option_map (λ (h : Counted T). h.opened)) (map.get-empty nat_cmp n)) ∙ e));
        pipes = no-pipes;
        descriptors = λ pid fd x e. absurd (none-some x e);
        uses = record {
          holds = λ i. let own = holds i in let none = no-files T i in omega arith;
          counts = λ n h e. absurd (no-value n h e);
          numbered = λ n h e. absurd (no-value n h e);
        };
        room = omega arith;
        pids = record { living = tt; ended = tt; apart = λ pid e. refl; few = omega arith };
        input = omega arith;
      }

  -- ---- the first process

  place-there : (p : Place ℕ) → IsPlaceOf t table p → IsPlaceOf first_tree table p
  place-there p is = record { mounted = is.mounted; object = object p.host is.object }
    where
      object : (h : Host) → IsObjectOf t h → IsObjectOf first_tree h
      object (Node i) h = pinned-stays is_there (λ g x. refl) table t i ∙ h
      object (Proc i at) h = pinned-stays (λ (o : Option Inode). option_map_or (λ (x : Inode). is_processes x.node.body) o false) (λ g x. refl) table t i ∙ h

  directory-there : (h : Host) → is_directory_at first_tree h ≡ is_directory_at t h
  directory-there (Node i) = pinned-stays (λ (o : Option Inode). option_map_or (λ (x : Inode). is_directory x.node.body) o false) (λ g x. refl) table t i
  directory-there (Proc i at) = refl

  file-there : (h : Host) → is_file_at first_tree h ≡ is_file_at t h
  file-there (Node i) = pinned-stays (λ (o : Option Inode). option_map_or (λ (x : Inode). is_file x.node.body) o false) (λ g x. refl) table t i
  file-there (Proc i at) = refl

  -- what can begin in a tree can begin where the sources of its mounts are held
  pub can-begin : (first : First T) → CanBegin number table t first → CanBegin number table first_tree first
  can-begin first begins = record {
    cwd = (place-there (numbered number first.cwd) begins.cwd.0, directory-there first.cwd.host ∙ begins.cwd.1);
    exe = (place-there (numbered number first.exe) begins.exe.0, file-there first.exe.host ∙ begins.exe.1);
    exe_name = begins.exe_name;
    break = begins.break;
  }

module _ {T : Type 0} (number : T → ℕ) (table : List Row) (s : State T Image) (l : IsLawful number table s) (idle : IsIdle s) where
  module _ (first : First T) (begins : CanBegin number table s.tree first) (whole : IsWhole first.image.memory.pages) (paged : IsPlaced first.image.memory.pages) (pages : map.len first.image.memory.pages ≤ process_pages) where
    abbrev born : State T Image
    born = with_first first s

    own : IsProcessIn number s.tree table (first_process first)
    own = record {
      cwd = begins.cwd;
      exe = begins.exe;
      exe_name = begins.exe_name;
      breaks = (omega arith, begins.break);
      whole = whole;
      paged = paged;
      pages = pages;
    }

    found-one : (pid : ℕ) (p : Process T Image) → find (is_pid pid) (first_process first ∷ []) ≡ Some p → first_process first ≡ p
    found-one pid p e = by (first_pid == pid) e
      where
        by : (b : Bool) → cond b (Some (first_process first)) None ≡ Some p → first_process first ≡ p
        by true e = same_Some (first_process first) p e
        by false e = absurd (none-some p e)

    born-parts : Parts number table s.tree s.files (first_process first ∷ [])
    born-parts =
        let before = parts-of number table s l in
        record {
          processes = λ pid p e. subst (IsProcessIn number s.tree table) (found-one pid p e) own;
          descriptors = λ pid p e. subst (λ q. NamesFiles s.files.files q) (found-one pid p e) (record { each = λ fd x at. absurd (no-value fd x at) });
          opens = before.opens;
          pipes = before.pipes;
        }

    exe-object : IsSome (inode (held (inode_of first.cwd.host) s.tree) (inode_of first.exe.host))
    exe-object =
        is_there-some (inode (held (inode_of first.cwd.host) s.tree) (inode_of first.exe.host))
        (held-stays is_there (λ g x. refl) s.tree (inode_of first.cwd.host) (inode_of first.exe.host)
        ∙ some-is_there (inode s.tree (inode_of first.exe.host)) (object-there s.tree first.exe.host begins.exe.0.object))

    no-names : (n : ℕ) → names_of_file n s.living ≡ 0
    no-names n = ap (names_of_file n) idle.living

    none-open : (n : ℕ) (h : Counted T) → map.get s.files.files n ≡ Some h → ⊥
    none-open n h e = let count = l.uses.counts n h e in let none = no-names n in absurd (let least = count.1 in let is = count.0 in let no : 1 ≤ 0 = omega arith in omega arith)

    born-uses : AreUses (pins_of table) born
    born-uses = record {
      holds = λ i.
          let before = l.uses.holds i in
          let none : process_uses s.living i ≡ 0 = ap (λ ps. process_uses ps i) idle.living in
          let one = holds-held (inode_of first.cwd.host) s.tree (object-there s.tree first.cwd.host begins.cwd.0.object) i in
          let two = holds-held (inode_of first.exe.host) (held (inode_of first.cwd.host) s.tree) exe-object i in
          let uses = sum-cons (process_use i (first_process first)) [] in
          omega arith;
      counts = λ n h e. absurd (none-open n h e);
      numbered = λ n h e. absurd (none-open n h e);
    }

    pub born-lawful : IsLawful number table born
    born-lawful =
        let cwd = held-still table s.tree (inode_of first.cwd.host) l.tree in
        let both = still-on cwd (held-still table (held (inode_of first.cwd.host) s.tree) (inode_of first.exe.host) cwd.kept) in
        lawful-after number table s l born (still-leaves table s.tree born.tree both) born-parts born-uses
        (let count = layouts_follow.count first.image.memory.pages in let all = sum-cons (map.len (image_layout first.image)) [] in omega arith)
        (record { living = (omega arith, (let next = idle.next_pid in omega arith), tt); ended = ended-rise; apart = λ pid lives. none-ended pid; few = let none : length s.ended ≡ 0 = ap length idle.ended in omega arith })
        l.input
      where
        ended-rise : RiseFrom 2 born.next_pid (map_list (λ e. e.pid) s.ended)
        ended-rise = subst (λ es. RiseFrom 2 born.next_pid (map_list (λ (e : Ended). e.pid) es)) (sym idle.ended) tt

        none-ended : (pid : ℕ) → list_any (λ (e : Ended). e.pid == pid) s.ended ≡ false
        none-ended pid = ap (list_any (λ (e : Ended). e.pid == pid)) idle.ended

-- ---- the console

module _ {T : Type 0} (number : T → ℕ) (table : List Row) where
  -- it has no place, and is no end of a pipe
  console-opens : (t : Tree) (m : T) (what : What) (read write : Bool) → is_file_open what ≡ false → is_dir what ≡ false → IsOpenIn number t table (in_mount m (console what read write))
  console-opens t m what read write file dir = record {
    placed = λ p e. absurd (none-some p e);
    files = λ e. absurd (let no : false ≡ true = sym file ∙ e in cc);
    directories = λ e. absurd (let no : false ≡ true = sym dir ∙ e in cc);
    others = λ _ _. refl;
    name = λ some. absurd (some refl);
  }

  pub console-keeps : (pid : ℕ) (s : State T Image) → IsLawful number table s → (p : Process T Image) → process pid s ≡ Some p → (fd : ℕ) → fd < 1024 → map.get p.descs fd ≡ None
      → (what : What) (read write : Bool) (m : T) → is_console what ≡ true → IsLawful number table (open_in pid fd false (console what read write) m s)
  console-keeps pid s l p e fd small free In read write m is =
      open-in-keeps number table pid s l p e fd small free false (console In read write) m (console-opens s.tree m In read write refl refl)
      (record { reads = λ q end. absurd cc; writes = λ q end. absurd cc; one_reader = λ q n h at end own. absurd cc; one_writer = λ q n h at end own. absurd cc })
  console-keeps pid s l p e fd small free Out read write m is =
      open-in-keeps number table pid s l p e fd small free false (console Out read write) m (console-opens s.tree m Out read write refl refl)
      (record { reads = λ q end. absurd cc; writes = λ q end. absurd cc; one_reader = λ q n h at end own. absurd cc; one_writer = λ q n h at end own. absurd cc })
  console-keeps pid s l p e fd small free Err read write m is =
      open-in-keeps number table pid s l p e fd small free false (console Err read write) m (console-opens s.tree m Err read write refl refl)
      (record { reads = λ q end. absurd cc; writes = λ q end. absurd cc; one_reader = λ q n h at end own. absurd cc; one_writer = λ q n h at end own. absurd cc })
  console-keeps pid s l p e fd small free what read write m is = absurd cc

pub sources-held : (table : List Row) (t : Tree) → StandsIn t table → HasNoHolds t → (i : ℕ) → holds_at (pinned table t) i ≡ pins_of table i
sources-held table t stands free i = pinned-holds table t (sources-there table t stands) i ∙ ap (λ n. cond (n == 0) (pins_of table i) n) (free i)
