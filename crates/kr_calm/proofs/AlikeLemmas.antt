-- States that are asked alike: with the numbers of their mounts, and with another memory of a process.
use Rattle.std.specs.FinMap as map
use Rattle.std.proofs.Common.{◌≡◌, ℕ, zero, suc, Bool, true, false, ◌&&◌, ◌||◌, not, cond, List, [], ◌∷◌, length, Option, Some, None, refl, sym, ap, ◌∙◌}
use Rattle.std.specs.Prelude.{◌==◌, map as map_list, if◌then◌else◌}
use Rattle.std.specs.List.{list_any}
use Rattle.std.specs.Option.{option_and_then, option_map, option_map_or}
use Rattle.kr_seen.specs.rv_mem.Memory.{Memory}
use Rattle.kr_seen.specs.kr_inode.declared.user.Right.TheVariants.{Search}
use Rattle.kr_seen.specs.kr_inode.declared.user.User.{User}
use Rattle.kr_seen.specs.kr_tree.Rights.{may}
use Rattle.kr_seen.specs.kr_tree.Tree.{Tree, body_is, entry, is_directory}
use Rattle.kr_seen.specs.kr_tree.declared.place.Host.{Host}
use Rattle.kr_seen.specs.kr_tree.declared.place.Place.{Place}
use Rattle.kr_seen.specs.kr_view.Leads.{numbered}
use Rattle.kr_seen.specs.kr_view.View.{Row}
use Rattle.kr_seen.specs.kr_files.declared.opened.Opened.{Opened}
use Rattle.kr_seen.specs.kr_files.Descriptors.{Meanings, Named}
use Rattle.kr_seen.specs.kr_files.Files.{Table, file_at}
use Rattle.kr_seen.specs.kr_model.Applied.{with_image}
use Rattle.kr_seen.specs.kr_model.Change.{Change, MoveName, RemoveName, SetMode}
use Rattle.kr_seen.specs.kr_model.FileRows.{is_dir}
use Rattle.kr_seen.specs.kr_model.State.{Image, Process, State, at_pid, inode_of}
use Rattle.kr_seen.specs.Numbered.{opened_numbered, process_numbered, state_numbered, table_numbered}
use Rattle.kr_seen.proofs.TableLemmas.{file-numbered}
use Rattle.kr_seen.specs.Carrying.{with_memory, with_memory_of}
use Rattle.kr_calm.specs.Above.{is_at_or_below}
use Rattle.kr_calm.specs.Foreseen.{foreseen_of, guarded, may_shut}
use Rattle.kr_calm.specs.InUse.{any_opened_below, is_in_use, is_remembered, open_directory, passes_at, process_remembers, process_uses, remembered_directory}
use Rattle.kr_calm.specs.Rules.{breaks_3, is_above_use, of_entry, serves, serves_row, takes_in_use}
use Rattle.kr_calm.proofs.UseLemmas.{none-below, one-below}

-- ---- what is foreseen

module _ {M N X Y : Type 0} where
  -- the same tree and user, and the same directories in use
  pub record AreAskedAlike (s : State M X) (t : State N Y) : Type 0 where
    pub tree : t.tree ≡ s.tree
    pub user : t.user ≡ s.user
    pub in_use : (test : Host → Bool) → is_in_use test t ≡ is_in_use test s
    pub remembered : (test : ℕ → Bool) → is_remembered test t ≡ is_remembered test s

  module _ (s : State M X) (t : State N Y) (alike : AreAskedAlike s t) where
    above-alike : (i : ℕ) → is_above_use t i ≡ is_above_use s i
    above-alike i = ap (λ (tree : Tree). is_in_use (λ host. is_at_or_below tree i (inode_of host)) t) alike.tree ∙ alike.in_use (λ host. is_at_or_below s.tree i (inode_of host))

    entry-alike : (dir : ℕ) (name : List ℕ) → of_entry t.tree dir name (is_above_use t) ≡ of_entry s.tree dir name (is_above_use s)
    entry-alike dir name = ap (λ (tree : Tree). of_entry tree dir name (is_above_use t)) alike.tree ∙ by (entry s.tree dir name)
      where
        by : (o : Option ℕ) → option_map_or (is_above_use t) o false ≡ option_map_or (is_above_use s) o false
        by None = refl
        by (Some i) = above-alike i

    serves-alike : (table : List Row) (i : ℕ) → serves table t i ≡ serves table s i
    serves-alike table i =
        ap (λ (tree : Tree). body_is is_directory tree i && (list_any (serves_row tree i) table || (is_in_use (λ host. is_at_or_below tree i (inode_of host)) t || is_remembered (is_at_or_below tree i) t))) alike.tree
        ∙ ap (λ b. body_is is_directory s.tree i && (list_any (serves_row s.tree i) table || (b || is_remembered (is_at_or_below s.tree i) t))) (alike.in_use (λ host. is_at_or_below s.tree i (inode_of host)))
        ∙ ap (λ b. body_is is_directory s.tree i && (list_any (serves_row s.tree i) table || (is_above_use s i || b))) (alike.remembered (is_at_or_below s.tree i))

    takes-alike : (c : Change) → takes_in_use t c ≡ takes_in_use s c
    takes-alike (RemoveName dir name) = entry-alike dir name
    takes-alike (MoveName dir name to new) =
        ap (λ b. b || of_entry t.tree to new (is_above_use t)) (entry-alike dir name) ∙ ap (λ b. of_entry s.tree dir name (is_above_use s) || b) (entry-alike to new)
    takes-alike _ = refl

    guarded-alike : (table : List Row) (i : ℕ) → guarded table t i ≡ guarded table s i
    guarded-alike table i =
        ap (λ (tree : Tree). if may tree t.user i Search && serves table t i then Some i else None) alike.tree
        ∙ ap (λ (user : User). if may s.tree user i Search && serves table t i then Some i else None) alike.user
        ∙ ap (λ b. if may s.tree s.user i Search && b then Some i else None) (serves-alike table i)

    shut-alike : (table : List Row) (c : Change) → may_shut table t c ≡ may_shut table s c
    shut-alike table (SetMode i mode) = guarded-alike table i
    shut-alike table _ = refl

    pub foreseen-alike : (table : List Row) (cs : List Change) → foreseen_of table t cs ≡ foreseen_of table s cs
    foreseen-alike table [] = refl
    foreseen-alike table (c ∷ cs) =
        let third = ap (λ (tree : Tree). breaks_3 table tree c) alike.tree in
        let fourth = takes-alike c in
        let fifth = shut-alike table c in
        λ j. record { takes_source = third j; takes_used = fourth j; shutting = fifth j }

-- ---- lists of processes

any-mapped : {A B : Type 0} (f : A → B) (test : B → Bool) (other : A → Bool) → ((x : A) → test (f x) ≡ other x) → (xs : List A) → list_any test (map_list f xs) ≡ list_any other xs
any-mapped f test other same [] = refl
any-mapped f test other same (x ∷ xs) = ap (λ b. b || list_any test (map_list f xs)) (same x) ∙ ap (λ b. other x || b) (any-mapped f test other same xs)

-- ---- with the numbers of mounts

module _ {T : Type 0} (number : T → ℕ) where
  directory-numbered : (test : Host → Bool) (o : Opened T) → open_directory test (opened_numbered number o) ≡ open_directory test o
  directory-numbered test o = by o.place
    where
      by : (p : Option (Place T)) → option_map_or test (if is_dir o.what then option_map (λ (p : Place ℕ). p.host) (option_map (numbered number) p) else None) false
          ≡ option_map_or test (if is_dir o.what then option_map (λ (p : Place T). p.host) p else None) false
      by None = refl
      by (Some p) = refl

  module _ (test : Opened T → Bool) (other : Opened ℕ → Bool) (same : (o : Opened T) → other (opened_numbered number o) ≡ test o) (files : Table T) (d : Meanings) where
    passes-numbered : (fd : ℕ) → passes_at other (table_numbered number files) d fd ≡ passes_at test files d fd
    passes-numbered fd = by (map.get d fd)
      where
        by-open : (o : Option (Opened T)) → option_map_or other (option_map (opened_numbered number) o) false ≡ option_map_or test o false
        by-open None = refl
        by-open (Some o) = same o

        by : (m : Option Named) → option_map_or other (option_and_then (λ (x : Named). file_at (table_numbered number files) x.number) m) false ≡ option_map_or test (option_and_then (λ (x : Named). file_at files x.number) m) false
        by None = refl
        by (Some x) = ap (λ o. option_map_or other o false) (file-numbered number files x.number) ∙ by-open (file_at files x.number)

    any-numbered : (n : ℕ) → any_opened_below n other (table_numbered number files) d ≡ any_opened_below n test files d
    any-numbered zero = none-below other (table_numbered number files) d ∙ sym (none-below test files d)
    any-numbered (suc fd) =
        one-below other (table_numbered number files) d fd ∙ ap (λ b. b || passes_at other (table_numbered number files) d fd) (any-numbered fd)
        ∙ ap (λ b. any_opened_below fd test files d || b) (passes-numbered fd) ∙ sym (one-below test files d fd)

  module _ {X : Type 0} (s : State T X) where
    pub in_use-numbered : (test : Host → Bool) → is_in_use test (state_numbered number s) ≡ is_in_use test s
    in_use-numbered test =
        any-mapped (process_numbered number) (process_uses test (table_numbered number s.files)) (process_uses test s.files)
        (λ p. ap (λ b. test p.cwd.host || b) (any-numbered (open_directory test) (open_directory test) (directory-numbered test) s.files p.descs 1024)) s.living

    remembered-numbered : (test : ℕ → Bool) → is_remembered test (state_numbered number s) ≡ is_remembered test s
    remembered-numbered test =
        any-mapped (process_numbered number) (process_remembers test (table_numbered number s.files)) (process_remembers test s.files)
        (λ p. ap (λ b. (not (length p.exe_name == 0) && test p.exe_dir) || b) (any-numbered (remembered_directory test) (remembered_directory test) (λ o. refl) s.files p.descs 1024)) s.living

    pub numbered-alike : AreAskedAlike s (state_numbered number s)
    numbered-alike = record { tree = refl; user = refl; in_use = in_use-numbered; remembered = remembered-numbered }

-- ---- with another memory

module _ {T : Type 0} (pid : ℕ) (memory : Memory) (s : State T Image) where
  abbrev with_another : Process T Image → Process T Image
  with_another p = at_pid pid (with_image (with_memory memory)) p

  memory-uses : (test : Host → Bool) (p : Process T Image) → process_uses test s.files (with_another p) ≡ process_uses test s.files p
  memory-uses test p = by (p.pid == pid)
    where
      by : (b : Bool) → process_uses test s.files (cond b (with_image (with_memory memory) p) p) ≡ process_uses test s.files p
      by true = refl
      by false = refl

  memory-remembers : (test : ℕ → Bool) (p : Process T Image) → process_remembers test s.files (with_another p) ≡ process_remembers test s.files p
  memory-remembers test p = by (p.pid == pid)
    where
      by : (b : Bool) → process_remembers test s.files (cond b (with_image (with_memory memory) p) p) ≡ process_remembers test s.files p
      by true = refl
      by false = refl

  pub memory-alike : AreAskedAlike s (with_memory_of pid memory s)
  memory-alike = record {
    tree = refl;
    user = refl;
    in_use = λ test. any-mapped with_another (process_uses test s.files) (process_uses test s.files) (memory-uses test) s.living;
    remembered = λ test. any-mapped with_another (process_remembers test s.files) (process_remembers test s.files) (memory-remembers test) s.living;
  }
