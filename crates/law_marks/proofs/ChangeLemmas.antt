-- Changes of a state in which something was done to what each process computes on, and of one without marks.
use Rattle.std.specs.FinMap as map
use Rattle.std.proofs.Common.{◌≡◌, ℕ, zero, suc, ◌+◌, Bool, true, false, List, [], ◌∷◌, ◌++◌, cond, Option, Some, None, refl, sym, ap, ◌∙◌}
use Rattle.std.specs.Int.{to_le_bytes, w32}
use Rattle.std.specs.Prelude.{map as map_list, not, ◌==◌}
use Rattle.std.specs.List.{filter}
use Rattle.std.specs.Option.{option_and_then, option_map, option_map_or}
use Rattle.kr_turns.specs.kr_model.pr_base.Maps.{changed}
use Rattle.kr_turns.specs.kr_model.rv_mem.Memory.{Memory}
use Rattle.kr_turns.specs.kr_model.rv_mem.Pages.{Pages}
use Rattle.kr_turns.specs.kr_model.kr_tree.Changes as tree
use Rattle.kr_turns.specs.kr_model.kr_tree.declared.place.Host.{Host}
use Rattle.kr_turns.specs.kr_model.kr_tree.declared.place.Place.{Place}
use Rattle.kr_turns.specs.kr_model.kr_files.Descriptors.{Meanings, Named}
use Rattle.kr_turns.specs.kr_model.kr_files.Files.{at_offset, with_all_opened, with_append, with_opened}
use Rattle.kr_turns.specs.kr_model.kr_files.Opened.{after_removal, after_rename}
use Rattle.kr_turns.specs.kr_model.kr_files.declared.opened.Opened.{Opened}
use Rattle.kr_turns.specs.kr_model.Applied.{Mounts, all_applied, applied, child_of, close, close_below, close_named, close_on_exec_below, copy_named, copy_over, end, exe_after_removal, exe_after_rename, exe_remembers, executed, forked_from, gone, images, is_closed_on_exec, let_go, mount_of, moved_to, on_opened_of, open_in, orphaned, pages_after, pipe_made, released_at, told, with_brk, with_cwd, with_exe, with_exe_name, with_files, with_image, with_living, with_parent, with_program, with_tree, with_umask}
use Rattle.kr_turns.specs.kr_model.Change.{Birth, Change, AddNode, LinkNode, RemoveName, MoveName, SetMode, SetOwner, SetSize, WriteFile, OpenFile, CopyDescriptor, CloseDescriptor, SetCloexec, Seek, SetAppend, MakePipe, TakeFromPipe, PutIntoPipe, TakeInput, WriteOut, WriteErr, ChangePages, SetBreak, SetUmask, ChangeDirectory, Fork, End, Reap, ReplaceImage, ReplaceExecutable, CloseOnExec, MountOf, OfFound, OfDirectory, OfDescriptor, PageChange, MapPages, UnmapPages, ProtectPages}
use Rattle.kr_turns.specs.kr_model.State.{Image, Process, State, inode_of, named, process, with_descs, with_process}
use Rattle.kr_turns.proofs.kr_seen.kr_model.BareLemmas.{kept-mapped, mapped-append}
use Rattle.law_marks.specs.Laws.{ChangesSeeNoMarks}
use Rattle.law_marks.specs.Unmarked.{unmarked_change, unmarked_image, unmarked_in, unmarked_pages}
use Rattle.law_marks.proofs.MemoryLemmas.{mapped-unmarked, protected-unmarked, twice-unmarked, unmapped-unmarked, written-unmarked}
use Rattle.law_marks.proofs.ProcessLemmas.{cwd-each, each, exe-each, list-each, named-each, one-each, opened-each, process-each, process_in-each}

module _ {M X : Type 0} (g : X → X) where
  -- what is done to a process beside what it computes on
  abbrev IsBeside : (Process M X → Process M X) → Type 0
  IsBeside f = (p : Process M X) → f (with_image g p) ≡ with_image g (f p)

  abbrev StandsApart : (State M X → State M X) → Type 0
  StandsApart f = (s : State M X) → f (each g s) ≡ each g (f s)

  -- ---- names that executables remember

  renamed : (dir : ℕ) (name : List ℕ) (b : Bool) (p : Process M X) → cond b (with_exe_name dir name (with_image g p)) (with_image g p) ≡ with_image g (cond b (with_exe_name dir name p) p)
  renamed dir name true p = refl
  renamed dir name false p = refl

  removal_beside : (dir : ℕ) (name : List ℕ) → IsBeside (exe_after_removal dir name)
  removal_beside dir name p = renamed 0 [] (exe_remembers dir name p) p

  abbrev renaming : ℕ → List ℕ → ℕ → List ℕ → Process M X → Process M X
  renaming dir name to new kept = cond (exe_remembers dir name kept) (with_exe_name to new kept) kept

  rename_beside : (dir : ℕ) (name : List ℕ) (to : ℕ) (new : List ℕ) → IsBeside (exe_after_rename dir name to new)
  rename_beside dir name to new p =
      let kept : Process M X = exe_after_removal to new p in
      ap (renaming dir name to new) (removal_beside to new p) ∙ renamed to new (exe_remembers dir name kept) kept

  -- ---- parts of changes

  process_apart : (pid : ℕ) (f : Process M X → Process M X) → IsBeside f → StandsApart (with_living (with_process pid f))
  process_apart pid f beside s = process_in-each g f f beside pid s

  descs_apart : (pid : ℕ) (f : Meanings → Meanings) → StandsApart (with_living (with_process pid (with_descs f)))
  descs_apart pid f = process_apart pid (with_descs f) (λ p. refl)

  in_list : (pid : ℕ) (f : Meanings → Meanings) (ps : List (Process M X)) → with_process pid (with_descs f) (map_list (with_image g) ps) ≡ map_list (with_image g) (with_process pid (with_descs f) ps)
  in_list pid f ps = one-each g (with_descs f) (with_descs f) (λ p. refl) pid ps

  -- where something was found
  maybe_apart : {A : Type 0} (f : A → State M X → State M X) → ((x : A) → StandsApart (f x)) → (s : State M X) (there found : Option A) → there ≡ found
      → option_map_or (λ x. f x (each g s)) there (each g s) ≡ each g (option_map_or (λ x. f x s) found s)
  maybe_apart f apart s there found same = ap (λ o. option_map_or (λ x. f x (each g s)) o (each g s)) same ∙ by found
    where
      by : (o : Option _) → option_map_or (λ x. f x (each g s)) o (each g s) ≡ each g (option_map_or (λ x. f x s) o s)
      by None = refl
      by (Some x) = apart x s

  mount_same : (mounts : Mounts M) (pid : ℕ) (from : MountOf) (s : State M X) → mount_of mounts pid (each g s) from ≡ mount_of mounts pid s from
  mount_same mounts pid OfFound s = refl
  mount_same mounts pid OfDirectory s = refl
  mount_same mounts pid (OfDescriptor fd) s = ap (λ o. option_map (λ (p : Place M). p.mount) (option_and_then (λ (o : Opened M). o.place) o)) (opened-each g pid fd s)

  -- ---- descriptors

  open_apart : (pid fd : ℕ) (cloexec : Bool) (o : Opened (Unit {0})) (m : M) → StandsApart (open_in pid fd cloexec o m)
  open_apart pid fd cloexec o m s =
      ap (λ (ps : List (Process M X)). with_living (λ _. ps) (open_in pid fd cloexec o m s))
      (in_list pid (λ d. map.insert d fd (record { number = s.files.last_file + 1; cloexec = cloexec })) s.living)

  copy_apart : (pid to : ℕ) (cloexec : Bool) (x : Named) → StandsApart (copy_named pid to cloexec x)
  copy_apart pid to cloexec x s =
      ap (λ (ps : List (Process M X)). with_living (λ _. ps) (copy_named pid to cloexec x s))
      (in_list pid (λ d. map.insert d to (record { number = x.number; cloexec = cloexec })) s.living)

  copy_over_apart : (pid to : ℕ) (cloexec : Bool) (x : Named) → StandsApart (λ s. copy_over pid to cloexec x (named pid to s) s)
  copy_over_apart pid to cloexec x s = ap (λ y. copy_over pid to cloexec x y (each g s)) (named-each g pid to s) ∙ by (named pid to s)
    where
      by : (y : Option Named) → copy_over pid to cloexec x y (each g s) ≡ each g (copy_over pid to cloexec x y s)
      by None = copy_apart pid to cloexec x s
      by (Some y) = ap (let_go y.number) (copy_apart pid to cloexec x s)

  close_apart : (pid fd : ℕ) → StandsApart (close pid fd)
  unfolding close
  close_apart pid fd s = maybe_apart (close_named pid fd) (λ x s. descs_apart pid (λ d. map.remove d fd) (let_go x.number s)) s _ _ (named-each g pid fd s)

  abbrev closed_on_exec : ℕ → ℕ → State M X → State M X
  closed_on_exec pid fd s = cond (is_closed_on_exec pid fd s) (close pid fd s) s

  closed_on_exec_apart : (pid fd : ℕ) → StandsApart (closed_on_exec pid fd)
  closed_on_exec_apart pid fd s =
      ap (λ o. cond (option_map_or (λ (x : Named). x.cloexec) o false) (close pid fd (each g s)) (each g s)) (named-each g pid fd s) ∙ by (is_closed_on_exec pid fd s)
    where
      by : (b : Bool) → cond b (close pid fd (each g s)) (each g s) ≡ each g (cond b (close pid fd s) s)
      by true = close_apart pid fd s
      by false = refl

  below_apart : (pid count : ℕ) → StandsApart (close_on_exec_below pid count)
  unfolding close_on_exec_below
  below_apart pid zero s = refl
  below_apart pid (suc fd) s = ap (closed_on_exec pid fd) (below_apart pid fd s) ∙ closed_on_exec_apart pid fd (close_on_exec_below pid fd s)

  on_opened_apart : (pid fd : ℕ) (f : Opened M → Opened M) → StandsApart (on_opened_of pid fd f)
  on_opened_apart pid fd f s = maybe_apart (λ (x : Named). with_files (with_opened x.number f)) (λ x s. refl) s _ _ (named-each g pid fd s)

  pipe_apart : (pid first second : ℕ) (cloexec : Bool) → StandsApart (pipe_made pid first second cloexec)
  pipe_apart pid first second cloexec s =
      let number = s.files.last_file + 1 in
      ap (λ (ps : List (Process M X)). with_living (λ _. ps) (pipe_made pid first second cloexec s))
      (in_list pid (λ d. map.insert (map.insert d first (record { number = number; cloexec = cloexec })) second (record { number = number + 1; cloexec = cloexec })) s.living)

  -- ---- places

  moved_apart : (pid : ℕ) (host : Host) (m : M) → StandsApart (moved_to pid host m)
  moved_apart pid host m s =
      ap (λ o. with_tree (λ t. released_at o (tree.held (inode_of host) t)) (with_living (with_process pid (with_cwd (record { mount = m; host = host }))) (each g s))) (cwd-each g pid s)
      ∙ ap (with_tree (λ t. released_at (option_map (λ (p : Process M X). p.cwd) (process pid s)) (tree.held (inode_of host) t))) (process_apart pid (with_cwd (record { mount = m; host = host })) (λ p. refl) s)

  executed_apart : (pid : ℕ) (host : Host) (dir : ℕ) (name : List ℕ) (m : M) → StandsApart (executed pid host dir name m)
  executed_apart pid host dir name m s =
      ap (λ o. with_tree (λ t. released_at o (tree.held (inode_of host) t)) (with_living (with_process pid (with_exe (record { mount = m; host = host }) dir name)) (each g s))) (exe-each g pid s)
      ∙ ap (with_tree (λ t. released_at (option_map (λ (p : Process M X). p.exe) (process pid s)) (tree.held (inode_of host) t))) (process_apart pid (with_exe (record { mount = m; host = host }) dir name) (λ p. refl) s)

  -- ---- the end of a process

  orphaned_beside : (pid : ℕ) → IsBeside (orphaned pid)
  orphaned_beside pid p = by (p.parent == pid)
    where
      by : (b : Bool) → cond b (with_parent 1 (with_image g p)) (with_image g p) ≡ with_image g (cond b (with_parent 1 p) p)
      by true = refl
      by false = refl

  abbrev is_other : ℕ → Process M X → Bool
  is_other pid p = not (p.pid == pid)

  gone_apart : (pid status : ℕ) (p : Process M X) → StandsApart (gone pid status p)
  gone_apart pid status p s =
      ap (λ (ps : List (Process M X)). with_living (λ _. ps) (gone pid status p s))
      (ap (map_list (orphaned pid)) (kept-mapped (with_image g) (is_other pid) (is_other pid) (λ p. refl) s.living)
      ∙ list-each g (orphaned pid) (orphaned pid) (orphaned_beside pid) (filter (is_other pid) s.living))

  abbrev left_by : ℕ → ℕ → State M X → State M X
  left_by pid status s = option_map_or (λ p. gone pid status p s) (process pid s) s

  left_apart : (pid status : ℕ) → StandsApart (left_by pid status)
  left_apart pid status s = ap (λ o. option_map_or (λ p. gone pid status p (each g s)) o (each g s)) (process-each g pid s) ∙ by (process pid s)
    where
      by : (o : Option (Process M X)) → option_map_or (λ p. gone pid status p (each g s)) (option_map (with_image g) o) (each g s) ≡ each g (option_map_or (λ p. gone pid status p s) o s)
      by None = refl
      by (Some p) = gone_apart pid status p s

  closing_apart : (pid count : ℕ) → StandsApart (close_below pid count)
  unfolding close_below
  closing_apart pid zero s = refl
  closing_apart pid (suc fd) s = ap (close pid fd) (closing_apart pid fd s) ∙ close_apart pid fd (close_below pid fd s)

  end_apart : (pid status : ℕ) → StandsApart (end pid status)
  end_apart pid status s = ap (left_by pid status) (closing_apart pid 1024 s) ∙ left_apart pid status (close_below pid 1024 s)

-- ---- what processes compute on

pages_apart : (c : PageChange) (m : Pages) → pages_after c (unmarked_pages m) ≡ unmarked_pages (pages_after c m)
pages_apart (MapPages first count rights) m = mapped-unmarked m first count rights
pages_apart (UnmapPages first count) m = unmapped-unmarked m first count
pages_apart (ProtectPages first count rights) m = protected-unmarked m first count rights

paged_apart : (c : PageChange) (image : Image) → images.paged c (unmarked_image image) ≡ unmarked_image (images.paged c image)
paged_apart c image = ap (λ (pages : Pages). record { regs = image.regs; memory = record { pages = pages; read_marked = false } }) (pages_apart c image.memory.pages)

told_apart : (pid : ℕ) (at : Option ℕ) (m : Pages) → told pid at (unmarked_pages m) ≡ unmarked_pages (told pid at m)
told_apart pid None m = refl
told_apart pid (Some at) m = written-unmarked (to_le_bytes w32 pid) m at

born_apart : (b : Birth) (image : Image) → images.born b (unmarked_image image) ≡ unmarked_image (images.born b image)
born_apart b image =
    ap (λ (pages : Pages). record { regs = (images.born b image).regs; memory = record { pages = pages; read_marked = false } }) (told_apart b.pid b.told_at image.memory.pages)

module _ {M : Type 0} where
  abbrev bare : Process M Image → Process M Image
  bare = with_image unmarked_image

  child_apart : (b : Birth) (p : Process M Image) → child_of images b (bare p) ≡ bare (child_of images b p)
  child_apart b p = ap (λ (image : Image). with_image (λ _. image) (child_of images b p)) (born_apart b p.image)

  forked_apart : (b : Birth) (p : Process M Image) (s : State M Image) → forked_from images b (bare p) (unmarked_in s) ≡ unmarked_in (forked_from images b p s)
  forked_apart b p s =
      ap (λ (ps : List (Process M Image)). with_living (λ _. ps) (forked_from images b p s))
      (ap (λ (child : Process M Image). map_list bare s.living ++ child ∷ []) (child_apart b p) ∙ sym (mapped-append bare s.living (child_of images b p ∷ [])))

  -- ---- each change

  module _ (mounts : Mounts M) (pid : ℕ) where
    change_apart : (c : Change) (s : State M Image) → applied images mounts pid (unmarked_change c) (unmarked_in s) ≡ unmarked_in (applied images mounts pid c s)
    change_apart (AddNode dir name mode uid gid body) s = refl
    change_apart (LinkNode dir name inode) s = refl
    change_apart (RemoveName dir name) s =
        ap (λ (ps : List (Process M Image)). with_living (λ _. ps) (with_files (with_all_opened (after_removal dir name)) (with_tree (tree.removed dir name) s)))
        (list-each unmarked_image (exe_after_removal dir name) (exe_after_removal dir name) (removal_beside unmarked_image dir name) s.living)
    change_apart (MoveName dir name to new) s =
        ap (λ (ps : List (Process M Image)). with_living (λ _. ps) (with_files (with_all_opened (after_rename dir name to new)) (with_tree (tree.renamed dir name to new) s)))
        (list-each unmarked_image (exe_after_rename dir name to new) (exe_after_rename dir name to new) (rename_beside unmarked_image dir name to new) s.living)
    change_apart (SetMode inode mode) s = refl
    change_apart (SetOwner inode uid gid) s = refl
    change_apart (SetSize inode size) s = refl
    change_apart (WriteFile inode at bytes) s = refl
    change_apart (OpenFile fd cloexec from o) s = maybe_apart unmarked_image (open_in pid fd cloexec o) (open_apart unmarked_image pid fd cloexec o) s _ _ (mount_same unmarked_image mounts pid from s)
    change_apart (CopyDescriptor fd to cloexec) s =
        maybe_apart unmarked_image (λ x s. copy_over pid to cloexec x (named pid to s) s) (copy_over_apart unmarked_image pid to cloexec) s _ _ (named-each unmarked_image pid fd s)
    change_apart (CloseDescriptor fd) s = close_apart unmarked_image pid fd s
    change_apart (SetCloexec fd on) s = descs_apart unmarked_image pid (λ d. changed d fd (λ x. record { number = x.number; cloexec = on })) s
    change_apart (Seek fd at) s = on_opened_apart unmarked_image pid fd (at_offset at) s
    change_apart (SetAppend fd on) s = on_opened_apart unmarked_image pid fd (with_append on) s
    change_apart (MakePipe first second cloexec) s = pipe_apart unmarked_image pid first second cloexec s
    change_apart (TakeFromPipe pipe count) s = refl
    change_apart (PutIntoPipe pipe bytes) s = refl
    change_apart (TakeInput count) s = refl
    change_apart (WriteOut bytes) s = refl
    change_apart (WriteErr bytes) s = refl
    change_apart (ChangePages c) s =
        process_in-each unmarked_image (with_image (images.paged c)) (with_image (images.paged c)) (λ p. ap (λ (image : Image). with_image (λ _. image) p) (paged_apart c p.image)) pid s
    change_apart (SetBreak brk) s = process_apart unmarked_image pid (with_brk brk) (λ p. refl) s
    change_apart (SetUmask umask) s = process_apart unmarked_image pid (with_umask umask) (λ p. refl) s
    change_apart (ChangeDirectory from host) s = maybe_apart unmarked_image (moved_to pid host) (moved_apart unmarked_image pid host) s _ _ (mount_same unmarked_image mounts pid from s)
    change_apart (Fork birth) s = ap (λ o. option_map_or (λ p. forked_from images birth p (unmarked_in s)) o (unmarked_in s)) (process-each unmarked_image pid s) ∙ by (process pid s)
      where
        by : (o : Option (Process M Image)) → option_map_or (λ p. forked_from images birth p (unmarked_in s)) (option_map bare o) (unmarked_in s) ≡ unmarked_in (option_map_or (λ p. forked_from images birth p s) o s)
        by None = refl
        by (Some p) = forked_apart birth p s
    change_apart (End status) s = end_apart unmarked_image pid status s
    change_apart (Reap child) s = refl
    change_apart (ReplaceImage image brk) s = process_in-each unmarked_image (with_program (unmarked_image image) brk) (with_program image brk) (λ p. refl) pid s
    change_apart (ReplaceExecutable from host dir name) s =
        maybe_apart unmarked_image (executed pid host dir name) (executed_apart unmarked_image pid host dir name) s _ _ (mount_same unmarked_image mounts pid from s)
    change_apart CloseOnExec s = below_apart unmarked_image pid 1024 s

    pub changes_apart : (cs : List Change) (s : State M Image) → all_applied images mounts pid (map_list unmarked_change cs) (unmarked_in s) ≡ unmarked_in (all_applied images mounts pid cs s)
    changes_apart [] s = refl
    changes_apart (c ∷ cs) s = ap (all_applied images mounts pid (map_list unmarked_change cs)) (change_apart c s) ∙ changes_apart cs (applied images mounts pid c s)

  -- ---- once more

  pub state_twice : (s : State M Image) → unmarked_in (unmarked_in s) ≡ unmarked_in s
  state_twice s = ap (λ (ps : List (Process M Image)). with_living (λ _. ps) s) (each_twice s.living)
    where
      one_twice : (p : Process M Image) → bare (bare p) ≡ bare p
      one_twice p = ap (λ (memory : Memory). with_image (λ (image : Image). record { regs = image.regs; memory = memory }) p) (twice-unmarked p.image.memory)

      each_twice : (ps : List (Process M Image)) → map_list bare (map_list bare ps) ≡ map_list bare ps
      each_twice [] = refl
      each_twice (p ∷ ps) = λ i. one_twice p i ∷ each_twice ps i

  -- so changes of a state and of the same without marks differ in marks alone
  pub changes_alike : (mounts : Mounts M) (pid : ℕ) (cs : List Change) (s : State M Image) → unmarked_in (all_applied images mounts pid cs (unmarked_in s)) ≡ unmarked_in (all_applied images mounts pid cs s)
  changes_alike mounts pid cs s =
      sym (changes_apart mounts pid cs (unmarked_in s)) ∙ ap (all_applied images mounts pid (map_list unmarked_change cs)) (state_twice s) ∙ changes_apart mounts pid cs s

pub changes_see_no_marks : (M : Type 0) → ChangesSeeNoMarks M
changes_see_no_marks M mounts pid cs s = changes_apart mounts pid cs s
