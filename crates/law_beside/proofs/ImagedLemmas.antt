-- States with another thing in place of what processes compute on, and what changes make of them.
use Rattle.std.specs.FinMap as map
use Rattle.std.proofs.Common.{◌≡◌, ℕ, zero, suc, ◌+◌, Bool, true, false, List, [], ◌∷◌, ◌++◌, cond, Option, Some, None, refl, sym, ap, subst, ◌∙◌}
use Rattle.std.specs.Prelude.{map as map_list, not, ◌==◌}
use Rattle.std.specs.List.{AllByRecursion, filter}
use Rattle.std.specs.Option.{option_and_then, option_map, option_map_or}
use Rattle.kr_core.specs.pr_base.Maps.{changed}
use Rattle.kr_core.specs.kr_tree.Changes as tree
use Rattle.kr_core.specs.kr_tree.declared.place.Host.{Host}
use Rattle.kr_core.specs.kr_tree.declared.place.Place.{Place}
use Rattle.kr_core.specs.kr_files.Descriptors.{Meanings, Named}
use Rattle.kr_core.specs.kr_files.Files.{at_offset, file_at, with_all_opened, with_append, with_opened}
use Rattle.kr_core.specs.kr_files.Opened.{after_removal, after_rename}
use Rattle.kr_core.specs.kr_files.declared.opened.Opened.{Opened}
use Rattle.kr_core.specs.kr_model.Applied.{Computing, Mounts, all_applied, applied, child_of, close, close_below, close_named, close_on_exec_below, copy_named, copy_over, cwd_of, end, exe_after_removal, exe_after_rename, exe_of, exe_remembers, executed, forked_from, gone, is_closed_on_exec, let_go, mount_of, moved_to, on_opened_of, open_in, orphaned, pipe_made, released_at, with_brk, with_cwd, with_exe, with_exe_name, with_files, with_image, with_living, with_parent, with_program, with_tree, with_umask}
use Rattle.kr_core.specs.kr_model.Change.{Birth, Change, AddNode, LinkNode, RemoveName, MoveName, SetMode, SetOwner, SetSize, WriteFile, OpenFile, CopyDescriptor, CloseDescriptor, SetCloexec, Seek, SetAppend, MakePipe, TakeFromPipe, PutIntoPipe, TakeInput, WriteOut, WriteErr, ChangePages, SetBreak, SetUmask, ChangeDirectory, Fork, End, Reap, ReplaceImage, ReplaceExecutable, CloseOnExec, MountOf, OfFound, OfDirectory, OfDescriptor}
use Rattle.kr_core.specs.kr_model.State.{Process, State, at_pid, inode_of, is_pid, named, opened, process, with_descs, with_process}
use Rattle.kr_core.proofs.kr_model.BareLemmas.{found-mapped, kept-mapped, mapped-append, maps}
use Rattle.kr_core.proofs.law_lawful.ProcessChangeLemmas.{found-passes}
use Rattle.kr_core.proofs.law_lawful.SumLemmas.{passed-test}
use Rattle.law_beside.specs.Beside.{imaged_by, imaged_in}

-- a process is found by its number
pub own-number : {M X : Type 0} (pid : ℕ) (s : State M X) (p : Process M X) → process pid s ≡ Some p → p.pid ≡ pid
own-number pid s p lives = passed-test p.pid pid (found-passes (is_pid pid) s.living p lives)

module _ {M X Y : Type 0} (h : ℕ → X → Y) where
  abbrev one : Process M X → Process M Y
  one p = imaged_by h p

  abbrev each : State M X → State M Y
  each s = imaged_in h s

  -- ---- looking

  pub process-imaged : (pid : ℕ) (s : State M X) → process pid (imaged_in h s) ≡ option_map (imaged_by h) (process pid s)
  process-imaged pid s = found-mapped one (is_pid pid) (is_pid pid) (λ p. refl) s.living

  -- what is told of a process beside what it computes on
  pub told-imaged : {A : Type 0} (tell : Process M X → A) (told : Process M Y → A) → ((p : Process M X) → told (imaged_by h p) ≡ tell p) → (pid : ℕ) (s : State M X)
      → option_map told (process pid (imaged_in h s)) ≡ option_map tell (process pid s)
  told-imaged tell told same pid s = ap (option_map told) (process-imaged pid s) ∙ by (process pid s)
    where
      by : (o : Option (Process M X)) → option_map told (option_map one o) ≡ option_map tell o
      by None = refl
      by (Some p) = ap Some (same p)

  pub cwd-imaged : (pid : ℕ) (s : State M X) → cwd_of pid (imaged_in h s) ≡ cwd_of pid s
  cwd-imaged pid s = told-imaged (λ p. p.cwd) (λ p. p.cwd) (λ p. refl) pid s

  pub exe-imaged : (pid : ℕ) (s : State M X) → exe_of pid (imaged_in h s) ≡ exe_of pid s
  exe-imaged pid s = told-imaged (λ p. p.exe) (λ p. p.exe) (λ p. refl) pid s

  pub named-imaged : (pid fd : ℕ) (s : State M X) → named pid fd (imaged_in h s) ≡ named pid fd s
  named-imaged pid fd s = ap (option_and_then (λ (p : Process M Y). map.get p.descs fd)) (process-imaged pid s) ∙ by (process pid s)
    where
      by : (o : Option (Process M X)) → option_and_then (λ (p : Process M Y). map.get p.descs fd) (option_map one o) ≡ option_and_then (λ (p : Process M X). map.get p.descs fd) o
      by None = refl
      by (Some p) = refl

  pub opened-imaged : (pid fd : ℕ) (s : State M X) → opened pid fd (imaged_in h s) ≡ opened pid fd s
  opened-imaged pid fd s = ap (option_and_then (λ (x : Named). file_at s.files x.number)) (named-imaged pid fd s)

  -- ---- what is done to one of them

  at-imaged : (pid : ℕ) (f : Process M X → Process M X) (g : Process M Y → Process M Y) → ((p : Process M X) → p.pid ≡ pid → g (imaged_by h p) ≡ imaged_by h (f p)) → (p : Process M X)
      → at_pid pid g (imaged_by h p) ≡ imaged_by h (at_pid pid f p)
  at-imaged pid f g same p = by (p.pid == pid) refl
    where
      by : (b : Bool) → (p.pid == pid) ≡ b → cond b (g (one p)) (one p) ≡ one (cond b (f p) p)
      by true is = same p (passed-test p.pid pid is)
      by false is = refl

  pub list-imaged : (f : Process M X → Process M X) (g : Process M Y → Process M Y) → ((p : Process M X) → g (imaged_by h p) ≡ imaged_by h (f p)) → (ps : List (Process M X))
      → map_list g (map_list (imaged_by h) ps) ≡ map_list (imaged_by h) (map_list f ps)
  list-imaged f g same ps = maps g one one f same ps

  pub one-imaged : (pid : ℕ) (f : Process M X → Process M X) (g : Process M Y → Process M Y) → ((p : Process M X) → p.pid ≡ pid → g (imaged_by h p) ≡ imaged_by h (f p)) → (ps : List (Process M X))
      → with_process pid g (map_list (imaged_by h) ps) ≡ map_list (imaged_by h) (with_process pid f ps)
  one-imaged pid f g same ps = list-imaged (at_pid pid f) (at_pid pid g) (at-imaged pid f g same) ps

  pub alone-imaged : (pid : ℕ) (f : Process M X → Process M X) (g : Process M Y → Process M Y) → ((p : Process M X) → p.pid ≡ pid → g (imaged_by h p) ≡ imaged_by h (f p)) → (s : State M X)
      → with_living (with_process pid g) (imaged_in h s) ≡ imaged_in h (with_living (with_process pid f) s)
  alone-imaged pid f g same s = ap (λ (ps : List (Process M Y)). with_living (λ _. ps) (each s)) (one-imaged pid f g same s.living)

  -- two functions of which the second does behind it what the first does before it
  abbrev Along : (State M X → State M X) → (State M Y → State M Y) → Type 0
  Along f g = (s : State M X) → g (each s) ≡ each (f s)

  abbrev Beside : (Process M X → Process M X) → (Process M Y → Process M Y) → Type 0
  Beside f g = (p : Process M X) → g (one p) ≡ one (f p)

  -- ---- names that executables remember

  renamed : (dir : ℕ) (name : List ℕ) (b : Bool) (p : Process M X) → cond b (with_exe_name dir name (one p)) (one p) ≡ one (cond b (with_exe_name dir name p) p)
  renamed dir name true p = refl
  renamed dir name false p = refl

  removal-beside : (dir : ℕ) (name : List ℕ) → Beside (exe_after_removal dir name) (exe_after_removal dir name)
  removal-beside dir name p = renamed 0 [] (exe_remembers dir name p) p

  abbrev renaming : ℕ → List ℕ → ℕ → List ℕ → Process M Y → Process M Y
  renaming dir name to new kept = cond (exe_remembers dir name kept) (with_exe_name to new kept) kept

  rename-beside : (dir : ℕ) (name : List ℕ) (to : ℕ) (new : List ℕ) → Beside (exe_after_rename dir name to new) (exe_after_rename dir name to new)
  rename-beside dir name to new p =
      let kept : Process M X = exe_after_removal to new p in
      ap (renaming dir name to new) (removal-beside to new p) ∙ renamed to new (exe_remembers dir name kept) kept

  -- ---- parts of changes

  descs-along : (pid : ℕ) (f : Meanings → Meanings) → Along (with_living (with_process pid (with_descs f))) (with_living (with_process pid (with_descs f)))
  descs-along pid f s = alone-imaged pid (with_descs f) (with_descs f) (λ p is. refl) s

  in-list : (pid : ℕ) (f : Meanings → Meanings) (ps : List (Process M X)) → with_process pid (with_descs f) (map_list one ps) ≡ map_list one (with_process pid (with_descs f) ps)
  in-list pid f ps = one-imaged pid (with_descs f) (with_descs f) (λ p is. refl) ps

  -- where something was found
  maybe-along : {A : Type 0} (f : A → State M X → State M X) (g : A → State M Y → State M Y) → ((x : A) → Along (f x) (g x)) → (s : State M X) (there found : Option A) → there ≡ found
      → option_map_or (λ x. g x (each s)) there (each s) ≡ each (option_map_or (λ x. f x s) found s)
  maybe-along f g along s there found same = ap (λ o. option_map_or (λ x. g x (each s)) o (each s)) same ∙ by found
    where
      by : (o : Option _) → option_map_or (λ x. g x (each s)) o (each s) ≡ each (option_map_or (λ x. f x s) o s)
      by None = refl
      by (Some x) = along x s

  mount-same : (mounts : Mounts M) (pid : ℕ) (from : MountOf) (s : State M X) → mount_of mounts pid (each s) from ≡ mount_of mounts pid s from
  mount-same mounts pid OfFound s = refl
  mount-same mounts pid OfDirectory s = refl
  mount-same mounts pid (OfDescriptor fd) s = ap (λ o. option_map (λ (p : Place M). p.mount) (option_and_then (λ (o : Opened M). o.place) o)) (opened-imaged pid fd s)

  -- ---- descriptors

  open-along : (pid fd : ℕ) (cloexec : Bool) (o : Opened (Unit {0})) (m : M) → Along (open_in pid fd cloexec o m) (open_in pid fd cloexec o m)
  open-along pid fd cloexec o m s =
      ap (λ (ps : List (Process M Y)). with_living (λ _. ps) (open_in pid fd cloexec o m (each s)))
      (in-list pid (λ d. map.insert d fd (record { number = s.files.last_file + 1; cloexec = cloexec })) s.living)

  copy-along : (pid to : ℕ) (cloexec : Bool) (x : Named) → Along (copy_named pid to cloexec x) (copy_named pid to cloexec x)
  copy-along pid to cloexec x s =
      ap (λ (ps : List (Process M Y)). with_living (λ _. ps) (copy_named pid to cloexec x (each s)))
      (in-list pid (λ d. map.insert d to (record { number = x.number; cloexec = cloexec })) s.living)

  over-along : (pid to : ℕ) (cloexec : Bool) (x : Named) → Along (λ s. copy_over pid to cloexec x (named pid to s) s) (λ s. copy_over pid to cloexec x (named pid to s) s)
  over-along pid to cloexec x s = ap (λ y. copy_over pid to cloexec x y (each s)) (named-imaged pid to s) ∙ by (named pid to s)
    where
      by : (y : Option Named) → copy_over pid to cloexec x y (each s) ≡ each (copy_over pid to cloexec x y s)
      by None = copy-along pid to cloexec x s
      by (Some y) = ap (let_go y.number) (copy-along pid to cloexec x s)

  close-along : (pid fd : ℕ) → Along (close pid fd) (close pid fd)
  unfolding close
  close-along pid fd s = maybe-along (close_named pid fd) (close_named pid fd) (λ x s. descs-along pid (λ d. map.remove d fd) (let_go x.number s)) s _ _ (named-imaged pid fd s)

  abbrev closed_on_exec : {Z : Type 0} → ℕ → ℕ → State M Z → State M Z
  closed_on_exec pid fd s = cond (is_closed_on_exec pid fd s) (close pid fd s) s

  on-exec-along : (pid fd : ℕ) → Along (closed_on_exec pid fd) (closed_on_exec pid fd)
  on-exec-along pid fd s =
      ap (λ o. cond (option_map_or (λ (x : Named). x.cloexec) o false) (close pid fd (each s)) (each s)) (named-imaged pid fd s) ∙ by (is_closed_on_exec pid fd s)
    where
      by : (b : Bool) → cond b (close pid fd (each s)) (each s) ≡ each (cond b (close pid fd s) s)
      by true = close-along pid fd s
      by false = refl

  below-along : (pid count : ℕ) → Along (close_on_exec_below pid count) (close_on_exec_below pid count)
  unfolding close_on_exec_below
  below-along pid zero s = refl
  below-along pid (suc fd) s = ap (closed_on_exec pid fd) (below-along pid fd s) ∙ on-exec-along pid fd (close_on_exec_below pid fd s)

  on-opened-along : (pid fd : ℕ) (f : Opened M → Opened M) → Along (on_opened_of pid fd f) (on_opened_of pid fd f)
  on-opened-along pid fd f s = maybe-along (λ (x : Named). with_files (with_opened x.number f)) (λ (x : Named). with_files (with_opened x.number f)) (λ x s. refl) s _ _ (named-imaged pid fd s)

  pipe-along : (pid first second : ℕ) (cloexec : Bool) → Along (pipe_made pid first second cloexec) (pipe_made pid first second cloexec)
  pipe-along pid first second cloexec s =
      let number = s.files.last_file + 1 in
      ap (λ (ps : List (Process M Y)). with_living (λ _. ps) (pipe_made pid first second cloexec (each s)))
      (in-list pid (λ d. map.insert (map.insert d first (record { number = number; cloexec = cloexec })) second (record { number = number + 1; cloexec = cloexec })) s.living)

  -- ---- places

  moved-along : (pid : ℕ) (host : Host) (m : M) → Along (moved_to pid host m) (moved_to pid host m)
  moved-along pid host m s =
      ap (λ o. with_tree (λ t. released_at o (tree.held (inode_of host) t)) (with_living (with_process pid (with_cwd (record { mount = m; host = host }))) (each s))) (cwd-imaged pid s)
      ∙ ap (with_tree (λ t. released_at (cwd_of pid s) (tree.held (inode_of host) t)))
      (alone-imaged pid (with_cwd (record { mount = m; host = host })) (with_cwd (record { mount = m; host = host })) (λ p is. refl) s)

  executed-along : (pid : ℕ) (host : Host) (dir : ℕ) (name : List ℕ) (m : M) → Along (executed pid host dir name m) (executed pid host dir name m)
  executed-along pid host dir name m s =
      ap (λ o. with_tree (λ t. released_at o (tree.held (inode_of host) t)) (with_living (with_process pid (with_exe (record { mount = m; host = host }) dir name)) (each s))) (exe-imaged pid s)
      ∙ ap (with_tree (λ t. released_at (exe_of pid s) (tree.held (inode_of host) t)))
      (alone-imaged pid (with_exe (record { mount = m; host = host }) dir name) (with_exe (record { mount = m; host = host }) dir name) (λ p is. refl) s)

  -- ---- the end of a process

  orphaned-beside : (pid : ℕ) → Beside (orphaned pid) (orphaned pid)
  orphaned-beside pid p = by (p.parent == pid)
    where
      by : (b : Bool) → cond b (with_parent 1 (one p)) (one p) ≡ one (cond b (with_parent 1 p) p)
      by true = refl
      by false = refl

  abbrev is_other : {Z : Type 0} → ℕ → Process M Z → Bool
  is_other pid p = not (p.pid == pid)

  gone-along : (pid status : ℕ) (p : Process M X) → Along (gone pid status p) (gone pid status (one p))
  gone-along pid status p s =
      ap (λ (ps : List (Process M Y)). with_living (λ _. ps) (gone pid status (one p) (each s)))
      (ap (map_list (orphaned pid)) (kept-mapped one (is_other pid) (is_other pid) (λ p. refl) s.living)
      ∙ list-imaged (orphaned pid) (orphaned pid) (orphaned-beside pid) (filter (is_other pid) s.living))

  abbrev left_by : {Z : Type 0} → ℕ → ℕ → State M Z → State M Z
  left_by pid status s = option_map_or (λ p. gone pid status p s) (process pid s) s

  left-along : (pid status : ℕ) → Along (left_by pid status) (left_by pid status)
  left-along pid status s = ap (λ o. option_map_or (λ p. gone pid status p (each s)) o (each s)) (process-imaged pid s) ∙ by (process pid s)
    where
      by : (o : Option (Process M X)) → option_map_or (λ p. gone pid status p (each s)) (option_map one o) (each s) ≡ each (option_map_or (λ p. gone pid status p s) o s)
      by None = refl
      by (Some p) = gone-along pid status p s

  closing-along : (pid count : ℕ) → Along (close_below pid count) (close_below pid count)
  unfolding close_below
  closing-along pid zero s = refl
  closing-along pid (suc fd) s = ap (close pid fd) (closing-along pid fd s) ∙ close-along pid fd (close_below pid fd s)

  end-along : (pid status : ℕ) → Along (end pid status) (end pid status)
  end-along pid status s = ap (left_by pid status) (closing-along pid 1024 s) ∙ left-along pid status (close_below pid 1024 s)

-- ---- what a change asks of it, where it computes

module _ {X Y : Type 0} (h : ℕ → X → Y) (before : Computing X) (behind : Computing Y) (pid : ℕ) where
  abbrev pub Agrees : Change → Type 0
  Agrees (ChangePages c) = (x : X) → behind.paged c (h pid x) ≡ h pid (before.paged c x)
  Agrees (Fork b) = (x : X) → behind.born b (h pid x) ≡ h b.pid (before.born b x)
  Agrees (ReplaceImage image brk) = behind.loaded image ≡ h pid (before.loaded image)
  Agrees _ = Unit {0}

  abbrev pub Agree : List Change → Type 0
  Agree cs = AllByRecursion Agrees cs

module _ {M X Y : Type 0} (h : ℕ → X → Y) (before : Computing X) (behind : Computing Y) (mounts : Mounts M) (pid : ℕ) where
  abbrev one_of : Process M X → Process M Y
  one_of p = imaged_by h p

  -- a process with another image
  same-image : (p : Process M Y) (x y : Y) → x ≡ y → with_image (λ _. x) p ≡ with_image (λ _. y) p
  same-image p x y same = ap (λ (z : Y). with_image (λ _. z) p) same

  forked-along : (b : Birth) (p : Process M X) (s : State M X) → behind.born b (h p.pid p.image) ≡ h b.pid (before.born b p.image)
      → forked_from behind b (imaged_by h p) (imaged_in h s) ≡ imaged_in h (forked_from before b p s)
  forked-along b p s same =
      ap (λ (ps : List (Process M Y)). with_living (λ _. ps) (forked_from behind b (one_of p) (imaged_in h s)))
      (ap (λ (child : Process M Y). map_list one_of s.living ++ child ∷ []) (same-image (child_of behind b (one_of p)) _ _ same)
      ∙ sym (mapped-append one_of s.living (child_of before b p ∷ [])))

  fork-along : (b : Birth) (s : State M X) → ((x : X) → behind.born b (h pid x) ≡ h b.pid (before.born b x))
      → option_map_or (λ p. forked_from behind b p (imaged_in h s)) (process pid (imaged_in h s)) (imaged_in h s) ≡ imaged_in h (option_map_or (λ p. forked_from before b p s) (process pid s) s)
  fork-along b s agrees = ap (λ o. option_map_or (λ p. forked_from behind b p (imaged_in h s)) o (imaged_in h s)) (process-imaged h pid s) ∙ by (process pid s) refl
    where
      by : (o : Option (Process M X)) → process pid s ≡ o
          → option_map_or (λ p. forked_from behind b p (imaged_in h s)) (option_map one_of o) (imaged_in h s) ≡ imaged_in h (option_map_or (λ p. forked_from before b p s) o s)
      by None at = refl
      by (Some p) at = forked-along b p s (subst (λ n. behind.born b (h n p.image) ≡ h b.pid (before.born b p.image)) (sym (own-number pid s p at)) (agrees p.image))

  pub change-imaged : (c : Change) (s : State M X) → Agrees h before behind pid c → applied behind mounts pid c (imaged_in h s) ≡ imaged_in h (applied before mounts pid c s)
  change-imaged (AddNode dir name mode uid gid body) s agrees = refl
  change-imaged (LinkNode dir name inode) s agrees = refl
  change-imaged (RemoveName dir name) s agrees =
      ap (λ (ps : List (Process M Y)). with_living (λ _. ps) (with_files (with_all_opened (after_removal dir name)) (with_tree (tree.removed dir name) (imaged_in h s))))
      (list-imaged h (exe_after_removal dir name) (exe_after_removal dir name) (removal-beside h dir name) s.living)
  change-imaged (MoveName dir name to new) s agrees =
      ap (λ (ps : List (Process M Y)). with_living (λ _. ps) (with_files (with_all_opened (after_rename dir name to new)) (with_tree (tree.renamed dir name to new) (imaged_in h s))))
      (list-imaged h (exe_after_rename dir name to new) (exe_after_rename dir name to new) (rename-beside h dir name to new) s.living)
  change-imaged (SetMode inode mode) s agrees = refl
  change-imaged (SetOwner inode uid gid) s agrees = refl
  change-imaged (SetSize inode size) s agrees = refl
  change-imaged (WriteFile inode at bytes) s agrees = refl
  change-imaged (OpenFile fd cloexec from o) s agrees = maybe-along h (open_in pid fd cloexec o) (open_in pid fd cloexec o) (open-along h pid fd cloexec o) s _ _ (mount-same h mounts pid from s)
  change-imaged (CopyDescriptor fd to cloexec) s agrees =
      maybe-along h (λ x s. copy_over pid to cloexec x (named pid to s) s) (λ x s. copy_over pid to cloexec x (named pid to s) s) (over-along h pid to cloexec) s _ _ (named-imaged h pid fd s)
  change-imaged (CloseDescriptor fd) s agrees = close-along h pid fd s
  change-imaged (SetCloexec fd on) s agrees = descs-along h pid (λ d. changed d fd (λ x. record { number = x.number; cloexec = on })) s
  change-imaged (Seek fd at) s agrees = on-opened-along h pid fd (at_offset at) s
  change-imaged (SetAppend fd on) s agrees = on-opened-along h pid fd (with_append on) s
  change-imaged (MakePipe first second cloexec) s agrees = pipe-along h pid first second cloexec s
  change-imaged (TakeFromPipe pipe count) s agrees = refl
  change-imaged (PutIntoPipe pipe bytes) s agrees = refl
  change-imaged (TakeInput count) s agrees = refl
  change-imaged (WriteOut bytes) s agrees = refl
  change-imaged (WriteErr bytes) s agrees = refl
  change-imaged (ChangePages c) s agrees =
      alone-imaged h pid (with_image (before.paged c)) (with_image (behind.paged c))
      (λ p is. same-image (one_of p) _ _ (subst (λ n. behind.paged c (h n p.image) ≡ h n (before.paged c p.image)) (sym is) (agrees p.image))) s
  change-imaged (SetBreak brk) s agrees = alone-imaged h pid (with_brk brk) (with_brk brk) (λ p is. refl) s
  change-imaged (SetUmask umask) s agrees = alone-imaged h pid (with_umask umask) (with_umask umask) (λ p is. refl) s
  change-imaged (ChangeDirectory from host) s agrees = maybe-along h (moved_to pid host) (moved_to pid host) (moved-along h pid host) s _ _ (mount-same h mounts pid from s)
  change-imaged (Fork b) s agrees = fork-along b s agrees
  change-imaged (End status) s agrees = end-along h pid status s
  change-imaged (Reap child) s agrees = refl
  change-imaged (ReplaceImage image brk) s agrees =
      alone-imaged h pid (with_program (before.loaded image) brk) (with_program (behind.loaded image) brk)
      (λ p is. ap (λ (z : Y). with_program z brk (one_of p)) (subst (λ n. behind.loaded image ≡ h n (before.loaded image)) (sym is) agrees)) s
  change-imaged (ReplaceExecutable from host dir name) s agrees =
      maybe-along h (executed pid host dir name) (executed pid host dir name) (executed-along h pid host dir name) s _ _ (mount-same h mounts pid from s)
  change-imaged CloseOnExec s agrees = below-along h pid 1024 s

  pub changes-imaged : (cs : List Change) (s : State M X) → Agree h before behind pid cs → all_applied behind mounts pid cs (imaged_in h s) ≡ imaged_in h (all_applied before mounts pid cs s)
  changes-imaged [] s agree = refl
  changes-imaged (c ∷ cs) s agree = ap (all_applied behind mounts pid cs) (change-imaged c s agree.0) ∙ changes-imaged cs (applied before mounts pid c s) agree.1
