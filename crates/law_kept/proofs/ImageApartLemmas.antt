-- Changes that leave alone what processes compute on, with a caller's own exchanged before them or behind them.
use Rattle.std.specs.FinMap as map
use Rattle.std.proofs.Common.{◌≡◌, ℕ, zero, suc, ◌+◌, Bool, true, false, List, [], ◌∷◌, cond, Option, Some, None, refl, sym, ap, ◌∙◌}
use Rattle.std.specs.Prelude.{map as map_list, not, ◌==◌}
use Rattle.std.specs.List.{filter}
use Rattle.std.specs.Option.{option_and_then, option_map, option_map_or}
use Rattle.std.proofs.lemmas.Bool.{and_parts}
use Rattle.kr_first.specs.pr_base.Maps.{changed}
use Rattle.kr_first.specs.kr_tree.Changes as tree
use Rattle.kr_first.specs.kr_tree.declared.place.Host.{Host}
use Rattle.kr_first.specs.kr_tree.declared.place.Place.{Place}
use Rattle.kr_first.specs.kr_files.Descriptors.{Meanings, Named}
use Rattle.kr_first.specs.kr_files.Files.{at_offset, file_at, with_all_opened, with_append, with_opened}
use Rattle.kr_first.specs.kr_files.Opened.{after_removal, after_rename}
use Rattle.kr_first.specs.kr_files.declared.opened.Opened.{Opened}
use Rattle.kr_first.proofs.law_lawful.ProcessChangeLemmas.{found as found_changed}
use Rattle.kr_first.specs.kr_model.Applied.{Computing, Mounts, all_applied, applied, close, close_below, close_named, close_on_exec_below, copy_named, copy_over, cwd_of, end, exe_after_removal, exe_after_rename, exe_of, exe_remembers, executed, gone, images, is_closed_on_exec, let_go, mount_of, moved_to, on_opened_of, open_in, orphaned, pipe_made, released_at, with_brk, with_cwd, with_exe, with_exe_name, with_files, with_image, with_living, with_parent, with_tree, with_umask}
use Rattle.kr_first.specs.kr_model.Change.{Change, AddNode, LinkNode, RemoveName, MoveName, SetMode, SetOwner, SetSize, WriteFile, OpenFile, CopyDescriptor, CloseDescriptor, SetCloexec, Seek, SetAppend, MakePipe, TakeFromPipe, PutIntoPipe, TakeInput, WriteOut, WriteErr, ChangePages, SetBreak, SetUmask, ChangeDirectory, Fork, End, Reap, ReplaceImage, ReplaceExecutable, CloseOnExec, MountOf, OfFound, OfDirectory, OfDescriptor}
use Rattle.kr_first.specs.kr_model.State.{Process, State, at_pid, inode_of, named, opened, process, with_descs, with_process}
use Rattle.law_kept.specs.ImagesApart.{ChangesStandApart, leave_images, leaves_images}

module _ {M X : Type 0} (caller : ℕ) (g : X → X) where
  -- ---- one process

  abbrev exchanged : Process M X → Process M X
  exchanged = with_image g

  -- what is done to a process beside what it computes on
  record IsBeside (f : Process M X → Process M X) : Type 0 where
    pids : (p : Process M X) → (f p).pid ≡ p.pid
    apart : (p : Process M X) → f (exchanged p) ≡ exchanged (f p)

  -- and so where it is done to the process of a number alone
  beside_at : (pid : ℕ) (f : Process M X → Process M X) → IsBeside f → IsBeside (at_pid pid f)
  beside_at pid f beside = record { pids = λ p. same p (p.pid == pid); apart = λ p. moved p (p.pid == pid) }
    where
      same : (p : Process M X) (b : Bool) → (cond b (f p) p).pid ≡ p.pid
      same p true = beside.pids p
      same p false = refl

      moved : (p : Process M X) (b : Bool) → cond b (f (exchanged p)) (exchanged p) ≡ exchanged (cond b (f p) p)
      moved p true = beside.apart p
      moved p false = refl

  -- the names that executables remember
  renamed : (dir : ℕ) (name : List ℕ) (b : Bool) (p : Process M X) → cond b (with_exe_name dir name (exchanged p)) (exchanged p) ≡ exchanged (cond b (with_exe_name dir name p) p)
  renamed dir name true p = refl
  renamed dir name false p = refl

  renamed_pid : (dir : ℕ) (name : List ℕ) (b : Bool) (p : Process M X) → (cond b (with_exe_name dir name p) p).pid ≡ p.pid
  renamed_pid dir name true p = refl
  renamed_pid dir name false p = refl

  removal_beside : (dir : ℕ) (name : List ℕ) → IsBeside (exe_after_removal dir name)
  removal_beside dir name = record {
    pids = λ p. renamed_pid 0 [] (exe_remembers dir name p) p;
    apart = λ p. renamed 0 [] (exe_remembers dir name p) p;
  }

  abbrev renaming : ℕ → List ℕ → ℕ → List ℕ → Process M X → Process M X
  renaming dir name to new kept = cond (exe_remembers dir name kept) (with_exe_name to new kept) kept

  rename_beside : (dir : ℕ) (name : List ℕ) (to : ℕ) (new : List ℕ) → IsBeside (exe_after_rename dir name to new)
  rename_beside dir name to new =
      let first = removal_beside to new in
      record {
        pids = λ p. let kept : Process M X = exe_after_removal to new p in renamed_pid to new (exe_remembers dir name kept) kept ∙ first.pids p;
        apart = λ p.
            let kept : Process M X = exe_after_removal to new p in
            ap (renaming dir name to new) (first.apart p) ∙ renamed to new (exe_remembers dir name kept) kept;
      }

  -- ---- lists of processes

  abbrev exchanged_in : List (Process M X) → List (Process M X)
  exchanged_in = with_process caller exchanged

  one_apart : (f : Process M X → Process M X) → IsBeside f → (p : Process M X) → f (at_pid caller exchanged p) ≡ at_pid caller exchanged (f p)
  one_apart f beside p = by (p.pid == caller) refl
    where
      by : (b : Bool) → p.pid == caller ≡ b → f (cond b (exchanged p) p) ≡ at_pid caller exchanged (f p)
      by true is = beside.apart p ∙ sym (ap (λ b. cond b (exchanged (f p)) (f p)) (ap (λ n. n == caller) (beside.pids p) ∙ is))
      by false is = sym (ap (λ b. cond b (exchanged (f p)) (f p)) (ap (λ n. n == caller) (beside.pids p) ∙ is))

  each_apart : (f : Process M X → Process M X) → IsBeside f → (ps : List (Process M X)) → map_list f (exchanged_in ps) ≡ exchanged_in (map_list f ps)
  each_apart f beside [] = refl
  each_apart f beside (p ∷ ps) =
      ap (λ q. q ∷ map_list f (exchanged_in ps)) (one_apart f beside p) ∙ ap (λ qs. at_pid caller exchanged (f p) ∷ qs) (each_apart f beside ps)

  -- ---- states

  abbrev exchange : State M X → State M X
  exchange s = with_living exchanged_in s

  -- what is told of a process beside what it computes on
  told_same : {A : Type 0} (tell : Process M X → A) → ((p : Process M X) → tell (exchanged p) ≡ tell p) → (pid : ℕ) (s : State M X) → option_map tell (process pid (exchange s)) ≡ option_map tell (process pid s)
  told_same tell same pid s = ap (option_map tell) (found_changed caller exchanged (λ p. refl) pid s.living) ∙ by (process pid s)
    where
      here : (p : Process M X) (b : Bool) → tell (cond b (exchanged p) p) ≡ tell p
      here p true = same p
      here p false = refl

      by : (o : Option (Process M X)) → option_map tell (option_map (at_pid caller exchanged) o) ≡ option_map tell o
      by None = refl
      by (Some p) = ap (λ x. Some x) (here p (p.pid == caller))

  cwd_same : (pid : ℕ) (s : State M X) → cwd_of pid (exchange s) ≡ cwd_of pid s
  cwd_same pid s = told_same (λ p. p.cwd) (λ p. refl) pid s

  exe_same : (pid : ℕ) (s : State M X) → exe_of pid (exchange s) ≡ exe_of pid s
  exe_same pid s = told_same (λ p. p.exe) (λ p. refl) pid s

  named_same : (pid fd : ℕ) (s : State M X) → named pid fd (exchange s) ≡ named pid fd s
  named_same pid fd s = by_descs (process pid (exchange s)) ∙ ap (λ o. option_and_then (λ d. map.get d fd) o) (told_same (λ p. p.descs) (λ p. refl) pid s) ∙ sym (by_descs (process pid s))
    where
      by_descs : (o : Option (Process M X)) → option_and_then (λ p. map.get p.descs fd) o ≡ option_and_then (λ (d : Meanings). map.get d fd) (option_map (λ p. p.descs) o)
      by_descs None = refl
      by_descs (Some p) = refl

  opened_same : (pid fd : ℕ) (s : State M X) → opened pid fd (exchange s) ≡ opened pid fd s
  opened_same pid fd s = ap (λ o. option_and_then (λ (x : Named). file_at s.files x.number) o) (named_same pid fd s)

  mount_same : (mounts : Mounts M) (pid : ℕ) (from : MountOf) (s : State M X) → mount_of mounts pid (exchange s) from ≡ mount_of mounts pid s from
  mount_same mounts pid OfFound s = refl
  mount_same mounts pid OfDirectory s = refl
  mount_same mounts pid (OfDescriptor fd) s = ap (λ o. option_map (λ (p : Place M). p.mount) (option_and_then (λ (o : Opened M). o.place) o)) (opened_same pid fd s)

  -- ---- parts of changes

  -- a function of states that stands beside the exchange
  abbrev StandsApart : (State M X → State M X) → Type 0
  StandsApart f = (s : State M X) → f (exchange s) ≡ exchange (f s)

  process_apart : (pid : ℕ) (f : Process M X → Process M X) → IsBeside f → StandsApart (with_living (with_process pid f))
  process_apart pid f beside s = ap (λ (ps : List (Process M X)). with_living (λ _. ps) s) (each_apart (at_pid pid f) (beside_at pid f beside) s.living)

  -- where something was found
  maybe_apart : {A : Type 0} (f : A → State M X → State M X) → ((x : A) → StandsApart (f x)) → (s : State M X) (there found : Option A) → there ≡ found
      → option_map_or (λ x. f x (exchange s)) there (exchange s) ≡ exchange (option_map_or (λ x. f x s) found s)
  maybe_apart f apart s there found same = ap (λ o. option_map_or (λ x. f x (exchange s)) o (exchange s)) same ∙ by found
    where
      by : (o : Option _) → option_map_or (λ x. f x (exchange s)) o (exchange s) ≡ exchange (option_map_or (λ x. f x s) o s)
      by None = refl
      by (Some x) = apart x s

  descs_apart : (pid : ℕ) (f : Meanings → Meanings) → StandsApart (with_living (with_process pid (with_descs f)))
  descs_apart pid f = process_apart pid (with_descs f) (record { pids = λ p. refl; apart = λ p. refl })

  -- the list of the living, where one process is done something to
  in_list : (pid : ℕ) (f : Meanings → Meanings) (ps : List (Process M X)) → with_process pid (with_descs f) (exchanged_in ps) ≡ exchanged_in (with_process pid (with_descs f) ps)
  in_list pid f ps = each_apart (at_pid pid (with_descs f)) (beside_at pid (with_descs f) (record { pids = λ p. refl; apart = λ p. refl })) ps

  -- ---- descriptors

  open_apart : (pid fd : ℕ) (cloexec : Bool) (o : Opened (Unit {0})) (m : M) → StandsApart (open_in pid fd cloexec o m)
  open_apart pid fd cloexec o m s =
      ap (λ (ps : List (Process M X)). with_living (λ _. ps) (open_in pid fd cloexec o m s))
      (in_list pid (λ d. map.insert d fd (record { number = s.files.last_file + 1; cloexec = cloexec })) s.living)

  copy_apart : (pid to : ℕ) (cloexec : Bool) (x : Named) → StandsApart (copy_named pid to cloexec x)
  copy_apart pid to cloexec x s =
      ap (λ (ps : List (Process M X)). with_living (λ _. ps) (copy_named pid to cloexec x s))
      (in_list pid (λ d. map.insert d to (record { number = x.number; cloexec = cloexec })) s.living)

  copy_over_apart : (pid to : ℕ) (cloexec : Bool) (x : Named) → StandsApart (λ s. copy_over pid to cloexec x (named pid to s) s)
  copy_over_apart pid to cloexec x s = ap (λ y. copy_over pid to cloexec x y (exchange s)) (named_same pid to s) ∙ by (named pid to s)
    where
      by : (y : Option Named) → copy_over pid to cloexec x y (exchange s) ≡ exchange (copy_over pid to cloexec x y s)
      by None = copy_apart pid to cloexec x s
      by (Some y) = ap (let_go y.number) (copy_apart pid to cloexec x s)

  close_apart : (pid fd : ℕ) → StandsApart (close pid fd)
  unfolding close
  close_apart pid fd s = maybe_apart (close_named pid fd) (λ x s. descs_apart pid (λ d. map.remove d fd) (let_go x.number s)) s _ _ (named_same pid fd s)

  abbrev closed_on_exec : ℕ → ℕ → State M X → State M X
  closed_on_exec pid fd s = cond (is_closed_on_exec pid fd s) (close pid fd s) s

  closed_on_exec_apart : (pid fd : ℕ) → StandsApart (closed_on_exec pid fd)
  closed_on_exec_apart pid fd s =
      ap (λ o. cond (option_map_or (λ (x : Named). x.cloexec) o false) (close pid fd (exchange s)) (exchange s)) (named_same pid fd s) ∙ by (is_closed_on_exec pid fd s)
    where
      by : (b : Bool) → cond b (close pid fd (exchange s)) (exchange s) ≡ exchange (cond b (close pid fd s) s)
      by true = close_apart pid fd s
      by false = refl

  below_apart : (pid count : ℕ) → StandsApart (close_on_exec_below pid count)
  unfolding close_on_exec_below
  below_apart pid zero s = refl
  below_apart pid (suc fd) s = ap (closed_on_exec pid fd) (below_apart pid fd s) ∙ closed_on_exec_apart pid fd (close_on_exec_below pid fd s)

  on_opened_apart : (pid fd : ℕ) (f : Opened M → Opened M) → StandsApart (on_opened_of pid fd f)
  on_opened_apart pid fd f s = maybe_apart (λ (x : Named). with_files (with_opened x.number f)) (λ x s. refl) s _ _ (named_same pid fd s)

  pipe_apart : (pid first second : ℕ) (cloexec : Bool) → StandsApart (pipe_made pid first second cloexec)
  pipe_apart pid first second cloexec s =
      let number = s.files.last_file + 1 in
      ap (λ (ps : List (Process M X)). with_living (λ _. ps) (pipe_made pid first second cloexec s))
      (in_list pid (λ d. map.insert (map.insert d first (record { number = number; cloexec = cloexec })) second (record { number = number + 1; cloexec = cloexec })) s.living)

  -- ---- places

  moved_apart : (pid : ℕ) (host : Host) (m : M) → StandsApart (moved_to pid host m)
  moved_apart pid host m s =
      ap (λ o. with_tree (λ t. released_at o (tree.held (inode_of host) t)) (with_living (with_process pid (with_cwd (record { mount = m; host = host }))) (exchange s))) (cwd_same pid s)
      ∙ ap (with_tree (λ t. released_at (cwd_of pid s) (tree.held (inode_of host) t))) (process_apart pid (with_cwd (record { mount = m; host = host })) (record { pids = λ p. refl; apart = λ p. refl }) s)

  executed_apart : (pid : ℕ) (host : Host) (dir : ℕ) (name : List ℕ) (m : M) → StandsApart (executed pid host dir name m)
  executed_apart pid host dir name m s =
      ap (λ o. with_tree (λ t. released_at o (tree.held (inode_of host) t)) (with_living (with_process pid (with_exe (record { mount = m; host = host }) dir name)) (exchange s))) (exe_same pid s)
      ∙ ap (with_tree (λ t. released_at (exe_of pid s) (tree.held (inode_of host) t))) (process_apart pid (with_exe (record { mount = m; host = host }) dir name) (record { pids = λ p. refl; apart = λ p. refl }) s)

  -- ---- the end of a process

  orphaned_beside : (pid : ℕ) → IsBeside (orphaned pid)
  orphaned_beside pid = record { pids = λ p. same p (p.parent == pid); apart = λ p. moved p (p.parent == pid) }
    where
      same : (p : Process M X) (b : Bool) → (cond b (with_parent 1 p) p).pid ≡ p.pid
      same p true = refl
      same p false = refl

      moved : (p : Process M X) (b : Bool) → cond b (with_parent 1 (exchanged p)) (exchanged p) ≡ exchanged (cond b (with_parent 1 p) p)
      moved p true = refl
      moved p false = refl

  -- all but the one that ends
  abbrev others_than : ℕ → List (Process M X) → List (Process M X)
  others_than pid ps = filter (λ p. not (p.pid == pid)) ps

  others_apart : (pid : ℕ) (ps : List (Process M X)) → others_than pid (exchanged_in ps) ≡ exchanged_in (others_than pid ps)
  others_apart pid [] = refl
  others_apart pid (p ∷ ps) =
      ap (λ b. cond (not b) (at_pid caller exchanged p ∷ others_than pid (exchanged_in ps)) (others_than pid (exchanged_in ps))) (ap (λ n. n == pid) (same (p.pid == caller)))
      ∙ by (others_apart pid ps) (p.pid == pid)
    where
      same : (b : Bool) → (cond b (exchanged p) p).pid ≡ p.pid
      same true = refl
      same false = refl

      by : others_than pid (exchanged_in ps) ≡ exchanged_in (others_than pid ps) → (b : Bool) → cond (not b) (at_pid caller exchanged p ∷ others_than pid (exchanged_in ps)) (others_than pid (exchanged_in ps)) ≡ exchanged_in (cond (not b) (p ∷ others_than pid ps) (others_than pid ps))
      by rest true = rest
      by rest false = ap (λ qs. at_pid caller exchanged p ∷ qs) rest

  gone_apart : (pid status : ℕ) (p : Process M X) → StandsApart (gone pid status p)
  gone_apart pid status p s =
      ap (λ (ps : List (Process M X)). with_living (λ _. ps) (gone pid status p s))
      (ap (map_list (orphaned pid)) (others_apart pid s.living) ∙ each_apart (orphaned pid) (orphaned_beside pid) (others_than pid s.living))

  abbrev left_by : ℕ → ℕ → State M X → State M X
  left_by pid status s = option_map_or (λ p. gone pid status p s) (process pid s) s

  left_apart : (pid status : ℕ) → StandsApart (left_by pid status)
  left_apart pid status s = ap (λ o. option_map_or (λ p. gone pid status p (exchange s)) o (exchange s)) (found_changed caller exchanged (λ p. refl) pid s.living) ∙ by (process pid s)
    where
      here : (p : Process M X) (b : Bool) → gone pid status (cond b (exchanged p) p) (exchange s) ≡ gone pid status p (exchange s)
      here p true = refl
      here p false = refl

      by : (o : Option (Process M X)) → option_map_or (λ p. gone pid status p (exchange s)) (option_map (at_pid caller exchanged) o) (exchange s) ≡ exchange (option_map_or (λ p. gone pid status p s) o s)
      by None = refl
      by (Some p) = here p (p.pid == caller) ∙ gone_apart pid status p s

  closing_apart : (pid count : ℕ) → StandsApart (close_below pid count)
  unfolding close_below
  closing_apart pid zero s = refl
  closing_apart pid (suc fd) s = ap (close pid fd) (closing_apart pid fd s) ∙ close_apart pid fd (close_below pid fd s)

  end_apart : (pid status : ℕ) → StandsApart (end pid status)
  end_apart pid status s = ap (left_by pid status) (closing_apart pid 1024 s) ∙ left_apart pid status (close_below pid 1024 s)

  -- ---- each change

  module _ (computing : Computing X) (mounts : Mounts M) (pid : ℕ) where
    change_apart : (c : Change) → leaves_images c ≡ true → StandsApart (applied computing mounts pid c)
    change_apart (AddNode dir name mode uid gid body) leaves s = refl
    change_apart (LinkNode dir name inode) leaves s = refl
    change_apart (RemoveName dir name) leaves s =
        ap (λ (ps : List (Process M X)). with_living (λ _. ps) (with_files (with_all_opened (after_removal dir name)) (with_tree (tree.removed dir name) s)))
        (each_apart (exe_after_removal dir name) (removal_beside dir name) s.living)
    change_apart (MoveName dir name to new) leaves s =
        ap (λ (ps : List (Process M X)). with_living (λ _. ps) (with_files (with_all_opened (after_rename dir name to new)) (with_tree (tree.renamed dir name to new) s)))
        (each_apart (exe_after_rename dir name to new) (rename_beside dir name to new) s.living)
    change_apart (SetMode inode mode) leaves s = refl
    change_apart (SetOwner inode uid gid) leaves s = refl
    change_apart (SetSize inode size) leaves s = refl
    change_apart (WriteFile inode at bytes) leaves s = refl
    change_apart (OpenFile fd cloexec from o) leaves s = maybe_apart (open_in pid fd cloexec o) (open_apart pid fd cloexec o) s _ _ (mount_same mounts pid from s)
    change_apart (CopyDescriptor fd to cloexec) leaves s =
        maybe_apart (λ x s. copy_over pid to cloexec x (named pid to s) s) (copy_over_apart pid to cloexec) s _ _ (named_same pid fd s)
    change_apart (CloseDescriptor fd) leaves s = close_apart pid fd s
    change_apart (SetCloexec fd on) leaves s = descs_apart pid (λ d. changed d fd (λ x. record { number = x.number; cloexec = on })) s
    change_apart (Seek fd at) leaves s = on_opened_apart pid fd (at_offset at) s
    change_apart (SetAppend fd on) leaves s = on_opened_apart pid fd (with_append on) s
    change_apart (MakePipe first second cloexec) leaves s = pipe_apart pid first second cloexec s
    change_apart (TakeFromPipe pipe count) leaves s = refl
    change_apart (PutIntoPipe pipe bytes) leaves s = refl
    change_apart (TakeInput count) leaves s = refl
    change_apart (WriteOut bytes) leaves s = refl
    change_apart (WriteErr bytes) leaves s = refl
    change_apart (ChangePages c) leaves s = absurd cc
    change_apart (SetBreak brk) leaves s = process_apart pid (with_brk brk) (record { pids = λ p. refl; apart = λ p. refl }) s
    change_apart (SetUmask umask) leaves s = process_apart pid (with_umask umask) (record { pids = λ p. refl; apart = λ p. refl }) s
    change_apart (ChangeDirectory from host) leaves s = maybe_apart (moved_to pid host) (moved_apart pid host) s _ _ (mount_same mounts pid from s)
    change_apart (Fork birth) leaves s = absurd cc
    change_apart (End status) leaves s = end_apart pid status s
    change_apart (Reap child) leaves s = refl
    change_apart (ReplaceImage image brk) leaves s = absurd cc
    change_apart (ReplaceExecutable from host dir name) leaves s = maybe_apart (executed pid host dir name) (executed_apart pid host dir name) s _ _ (mount_same mounts pid from s)
    change_apart CloseOnExec leaves s = below_apart pid 1024 s

    changes_apart : (cs : List Change) → leave_images cs ≡ true → StandsApart (all_applied computing mounts pid cs)
    changes_apart [] leave s = refl
    changes_apart (c ∷ cs) leave s =
        let parts = and_parts (leaves_images c) (leave_images cs) leave in
        ap (all_applied computing mounts pid cs) (change_apart c parts.0 s) ∙ changes_apart cs parts.1 (applied computing mounts pid c s)

-- ---- the law

pub changes_stand_apart : (M : Type 0) → ChangesStandApart M
changes_stand_apart M mounts pid cs regs memory s leave = changes_apart pid (λ image. record { regs = regs; memory = memory }) images mounts pid cs leave s
