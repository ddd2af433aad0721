-- A change does on a state with the numbers of its mounts what it does on the state.
use Rattle.std.specs.FinMap as map
use Rattle.std.proofs.Common.{◌≡◌, ℕ, zero, suc, ◌+◌, Bool, true, false, not, List, [], ◌∷◌, refl, sym, ap, ◌∙◌, cond, Option, Some, None}
use Rattle.std.specs.Prelude.{map as map_list, ◌==◌}
use Rattle.std.specs.List.{filter}
use Rattle.std.specs.Option.{option_map, option_map_or, option_and_then}
use Rattle.std.proofs.lemmas.List.{map-append}
use Rattle.kr_ops.specs.pr_base.Maps.{changed}
use Rattle.kr_ops.specs.kr_tree.Tree.{Tree}
use Rattle.kr_ops.specs.kr_tree.Changes as tree
use Rattle.kr_ops.specs.kr_tree.declared.place.Host.{Host}
use Rattle.kr_ops.specs.kr_tree.declared.place.Place.{Place}
use Rattle.kr_ops.specs.kr_view.Leads.{numbered}
use Rattle.kr_ops.specs.kr_files.declared.opened.Opened.{Opened}
use Rattle.kr_ops.specs.kr_files.Descriptors.{Meanings, Named}
use Rattle.kr_ops.specs.kr_files.Files.{Table, at_offset, with_append, with_file, with_opened}
use Rattle.kr_ops.specs.kr_files.Opened.{after_removal, after_rename}
use Rattle.kr_ops.specs.kr_model.State.{Process, State, inode_of, process, named, opened, place_of, at_pid, with_process, with_descs}
use Rattle.kr_ops.specs.kr_model.Change.{Change, AddNode, LinkNode, RemoveName, MoveName, SetMode, SetOwner, SetSize, WriteFile, OpenFile, CopyDescriptor, CloseDescriptor, SetCloexec, Seek, SetAppend, MakePipe, TakeFromPipe, PutIntoPipe, TakeInput, WriteOut, WriteErr, ChangePages, SetBreak, SetUmask, ChangeDirectory, Fork, End, Reap, ReplaceImage, ReplaceExecutable, CloseOnExec, MountOf, OfFound, OfDirectory, OfDescriptor, Birth}
use Rattle.kr_ops.specs.kr_model.Applied.{Computing, Mounts, applied, all_applied, held_at, released_at, held_for, mount_of, in_mount, open_in, let_go, close_named, close, copy_named, copy_over, on_opened_of, pipe_made, with_image, with_brk, with_umask, with_cwd, with_parent, cwd_of, exe_of, with_program, with_exe, executed, is_closed_on_exec, close_on_exec_below, moved_to, child_of, forked_from, close_below, orphaned, gone, end, exe_remembers, with_exe_name, exe_after_removal, exe_after_rename, with_files, with_living}
use Rattle.kr_ops.proofs.kr_model.BareLemmas.{maps, kept-mapped}
use Rattle.kr_seen.specs.Numbered.{opened_numbered, process_numbered, state_numbered, table_numbered}
use Rattle.kr_seen.specs.MountLaws.{ChangesAreNumbered}
use Rattle.kr_seen.specs.Mounts.{mounts_numbered}
use Rattle.kr_seen.proofs.TableLemmas.{place-numbered, with_file-numbered, with_pipe-numbered, with_copy-numbered, with_copies-numbered, closed-numbered, opened_with-numbered, all_opened-numbered, removal-opened, rename-opened, read-numbered, write-numbered}
use Rattle.kr_seen.proofs.LookLemmas.{process-numbered, cwd-numbered, exe-numbered, named-numbered, opened-numbered}

module _ {T : Type 0} (number : T → ℕ) where
  abbrev placed : Option (Place T) → Option (Place ℕ)
  placed o = option_map (numbered number) o

  -- ---- holds

  held-numbered : (o : Option (Place T)) (t : Tree) → held_at o t ≡ held_at (placed o) t
  held-numbered None t = refl
  held-numbered (Some p) t = refl

  released-numbered : (o : Option (Place T)) (t : Tree) → released_at o t ≡ released_at (placed o) t
  released-numbered None t = refl
  released-numbered (Some p) t = refl

  held_place : (x : ℕ) (files : Table T) (t : Tree) → held_at (place_of files x) t ≡ held_at (place_of (table_numbered number files) x) t
  held_place x files t = held-numbered (place_of files x) t ∙ ap (λ o. held_at o t) (sym (place-numbered number files x))

  released_place : (x : ℕ) (files : Table T) (t : Tree) → released_at (place_of files x) t ≡ released_at (place_of (table_numbered number files) x) t
  released_place x files t = released-numbered (place_of files x) t ∙ ap (λ o. released_at o t) (sym (place-numbered number files x))

  held_for-numbered : (d : Meanings) (files : Table T) (t : Tree) (count : ℕ) → held_for d files count t ≡ held_for d (table_numbered number files) count t
  unfolding held_for
  held_for-numbered d files t zero = refl
  held_for-numbered d files t (suc fd) =
      ap (held_at (option_and_then (λ x. place_of files x.number) (map.get d fd))) (held_for-numbered d files t fd) ∙ by (map.get d fd)
    where
      by : (o : Option Named)
          → held_at (option_and_then (λ (x : Named). place_of files x.number) o) (held_for d (table_numbered number files) fd t)
          ≡ held_at (option_and_then (λ (x : Named). place_of (table_numbered number files) x.number) o) (held_for d (table_numbered number files) fd t)
      by None = refl
      by (Some x) = held_place x.number files (held_for d (table_numbered number files) fd t)

  -- ---- mounts

  abbrev in_m : T → Place (Unit {0}) → Place T
  in_m m p = record { mount = m; host = p.host }

  in_mount-numbered : (m : T) (o : Opened (Unit {0})) → opened_numbered number (in_mount m o) ≡ in_mount (number m) o
  in_mount-numbered m o =
      ap (λ place. record { place = place; dir = o.dir; name = o.name; what = o.what; read = o.read; write = o.write; append = o.append; at = o.at }) (by o.place)
    where
      by : (p : Option (Place (Unit {0}))) → placed (option_map (in_m m) p) ≡ option_map (λ p. record { mount = number m; host = p.host }) p
      by None = refl
      by (Some p) = refl

module _ {T X : Type 0} (number : T → ℕ) where
  abbrev np : Process T X → Process ℕ X
  np p = process_numbered number p

  abbrev n : State T X → State ℕ X
  n s = state_numbered number s

  -- ---- parts of a state

  -- a state with another tree, other open files and other processes
  abbrev with_parts : Tree → Table ℕ → List (Process ℕ X) → State ℕ X → State ℕ X
  with_parts t files living s = record {
    tree = t;
    user = s.user;
    files = files;
    input = s.input;
    taken = s.taken;
    out = s.out;
    err = s.err;
    living = living;
    ended = s.ended;
    next_pid = s.next_pid;
  }

  parts : (t u : Tree) (files others : Table ℕ) (ps qs : List (Process ℕ X)) (s : State ℕ X) → t ≡ u → files ≡ others → ps ≡ qs → with_parts t files ps s ≡ with_parts u others qs s
  parts t u files others ps qs s trees tables lists = λ j. with_parts (trees j) (tables j) (lists j) s

  -- ---- processes

  pub with-numbered : (pid : ℕ) (f : Process T X → Process T X) (g : Process ℕ X → Process ℕ X) → ((p : Process T X) → np (f p) ≡ g (np p))
      → (ps : List (Process T X)) → map_list np (with_process pid f ps) ≡ with_process pid g (map_list np ps)
  with-numbered pid f g same ps = maps np (at_pid pid f) (at_pid pid g) np (λ p. by p (p.pid == pid)) ps
    where
      by : (p : Process T X) (b : Bool) → np (cond b (f p) p) ≡ cond b (g (np p)) (np p)
      by p true = same p
      by p false = refl

  pub living-numbered : (pid : ℕ) (f : Process T X → Process T X) (g : Process ℕ X → Process ℕ X) → ((p : Process T X) → np (f p) ≡ g (np p))
      → (s : State T X) → n (with_living (with_process pid f) s) ≡ with_living (with_process pid g) (n s)
  living-numbered pid f g same s = ap (λ l. with_living (λ _. l) (n s)) (with-numbered pid f g same s.living)

  descs-numbered : (pid : ℕ) (f : Meanings → Meanings) (ps : List (Process T X)) → map_list np (with_process pid (with_descs f) ps) ≡ with_process pid (with_descs f) (map_list np ps)
  descs-numbered pid f ps = with-numbered pid (with_descs f) (with_descs f) (λ p. refl) ps

  -- ---- mounts

  pub mount-numbered : (mounts : Mounts T) (pid : ℕ) (s : State T X) (from : MountOf) → mount_of (mounts_numbered number mounts) pid (n s) from ≡ option_map number (mount_of mounts pid s from)
  mount-numbered mounts pid s OfFound = refl
  mount-numbered mounts pid s OfDirectory = refl
  mount-numbered mounts pid s (OfDescriptor fd) =
      ap (λ o. option_map (λ (p : Place ℕ). p.mount) (option_and_then (λ (o : Opened ℕ). o.place) o)) (opened-numbered number pid fd s) ∙ by (opened pid fd s)
    where
      by_place : (p : Option (Place T)) → option_map (λ (p : Place ℕ). p.mount) (option_map (numbered number) p) ≡ option_map number (option_map (λ (p : Place T). p.mount) p)
      by_place None = refl
      by_place (Some p) = refl

      by : (o : Option (Opened T))
          → option_map (λ (p : Place ℕ). p.mount) (option_and_then (λ (o : Opened ℕ). o.place) (option_map (opened_numbered number) o)) ≡ option_map number (option_map (λ (p : Place T). p.mount) (option_and_then (λ (o : Opened T). o.place) o))
      by None = refl
      by (Some o) = by_place o.place

  -- what is done in a mount that is named, and nothing where none is
  in-numbered : (f : T → State T X → State T X) (g : ℕ → State ℕ X → State ℕ X) → ((m : T) (s : State T X) → n (f m s) ≡ g (number m) (n s))
      → (mounts : Mounts T) (pid : ℕ) (from : MountOf) (s : State T X)
      → n (option_map_or (λ m. f m s) (mount_of mounts pid s from) s) ≡ option_map_or (λ m. g m (n s)) (mount_of (mounts_numbered number mounts) pid (n s) from) (n s)
  in-numbered f g same mounts pid from s = by (mount_of mounts pid s from) ∙ ap (λ o. option_map_or (λ m. g m (n s)) o (n s)) (sym (mount-numbered mounts pid s from))
    where
      by : (o : Option T) → n (option_map_or (λ m. f m s) o s) ≡ option_map_or (λ m. g m (n s)) (option_map number o) (n s)
      by None = refl
      by (Some m) = same m s

  -- ---- descriptors

  -- what is done to what a descriptor names, and nothing where it names nothing
  by-name : (f : Named → State T X → State T X) (g : Named → State ℕ X → State ℕ X) → ((x : Named) (s : State T X) → n (f x s) ≡ g x (n s))
      → (pid fd : ℕ) (s : State T X) → n (option_map_or (λ x. f x s) (named pid fd s) s) ≡ option_map_or (λ x. g x (n s)) (named pid fd (n s)) (n s)
  by-name f g same pid fd s = by (named pid fd s) ∙ ap (λ o. option_map_or (λ x. g x (n s)) o (n s)) (sym (named-numbered number pid fd s))
    where
      by : (o : Option Named) → n (option_map_or (λ x. f x s) o s) ≡ option_map_or (λ x. g x (n s)) o (n s)
      by None = refl
      by (Some x) = same x s

  open-numbered : (pid fd : ℕ) (cloexec : Bool) (o : Opened (Unit {0})) (m : T) (s : State T X) → n (open_in pid fd cloexec o m s) ≡ open_in pid fd cloexec o (number m) (n s)
  open-numbered pid fd cloexec o m s =
      parts _ _ _ _ _ _ (n s) refl
      (with_file-numbered number s.files (in_mount m o) ∙ ap (λ o. with_file o (table_numbered number s.files)) (in_mount-numbered number m o))
      (descs-numbered pid (λ d. map.insert d fd (record { number = s.files.last_file + 1; cloexec = cloexec })) s.living)

  let_go-numbered : (x : ℕ) (s : State T X) → n (let_go x s) ≡ let_go x (n s)
  let_go-numbered x s = parts _ _ _ _ _ _ (n s) (released_place number x s.files s.tree) (closed-numbered number s.files x) refl

  close_named-numbered : (pid fd : ℕ) (x : Named) (s : State T X) → n (close_named pid fd x s) ≡ close_named pid fd x (n s)
  close_named-numbered pid fd x s =
      living-numbered pid (with_descs (λ d. map.remove d fd)) (with_descs (λ d. map.remove d fd)) (λ p. refl) (let_go x.number s)
      ∙ ap (with_living (with_process pid (with_descs (λ d. map.remove d fd)))) (let_go-numbered x.number s)

  pub close-numbered : (pid fd : ℕ) (s : State T X) → n (close pid fd s) ≡ close pid fd (n s)
  unfolding close
  close-numbered pid fd s = by-name (close_named pid fd) (close_named pid fd) (close_named-numbered pid fd) pid fd s

  copy_named-numbered : (pid to : ℕ) (cloexec : Bool) (x : Named) (s : State T X) → n (copy_named pid to cloexec x s) ≡ copy_named pid to cloexec x (n s)
  copy_named-numbered pid to cloexec x s =
      parts _ _ _ _ _ _ (n s) (held_place number x.number s.files s.tree) (with_copy-numbered number s.files x.number)
      (descs-numbered pid (λ d. map.insert d to (record { number = x.number; cloexec = cloexec })) s.living)

  copy_over-numbered : (pid to : ℕ) (cloexec : Bool) (x : Named) (y : Option Named) (s : State T X) → n (copy_over pid to cloexec x y s) ≡ copy_over pid to cloexec x y (n s)
  copy_over-numbered pid to cloexec x None s = copy_named-numbered pid to cloexec x s
  copy_over-numbered pid to cloexec x (Some y) s =
      let_go-numbered y.number (copy_named pid to cloexec x s) ∙ ap (let_go y.number) (copy_named-numbered pid to cloexec x s)

  copied-numbered : (pid to : ℕ) (cloexec : Bool) (x : Named) (s : State T X) → n (copy_over pid to cloexec x (named pid to s) s) ≡ copy_over pid to cloexec x (named pid to (n s)) (n s)
  copied-numbered pid to cloexec x s =
      copy_over-numbered pid to cloexec x (named pid to s) s ∙ ap (λ y. copy_over pid to cloexec x y (n s)) (sym (named-numbered number pid to s))

  on_opened-numbered : (f : Opened T → Opened T) (g : Opened ℕ → Opened ℕ) → ((o : Opened T) → opened_numbered number (f o) ≡ g (opened_numbered number o))
      → (pid fd : ℕ) (s : State T X) → n (on_opened_of pid fd f s) ≡ on_opened_of pid fd g (n s)
  on_opened-numbered f g same pid fd s =
      by-name (λ x s. with_files (with_opened x.number f) s) (λ x s. with_files (with_opened x.number g) s)
      (λ x s. ap (λ files. with_files (λ _. files) (n s)) (opened_with-numbered number s.files x.number f g same)) pid fd s

  pipe_made-numbered : (pid first second : ℕ) (cloexec : Bool) (s : State T X) → n (pipe_made pid first second cloexec s) ≡ pipe_made pid first second cloexec (n s)
  pipe_made-numbered pid first second cloexec s =
      let number_of = s.files.last_file + 1 in
      parts _ _ _ _ _ _ (n s) refl (with_pipe-numbered number s.files)
      (descs-numbered pid (λ d. map.insert (map.insert d first (record { number = number_of; cloexec = cloexec })) second (record { number = number_of + 1; cloexec = cloexec })) s.living)

  -- ---- the working directory and the executable

  moved_to-numbered : (pid : ℕ) (host : Host) (m : T) (s : State T X) → n (moved_to pid host m s) ≡ moved_to pid host (number m) (n s)
  moved_to-numbered pid host m s =
      parts _ _ _ _ _ _ (n s)
      (released-numbered number (cwd_of pid s) (tree.held (inode_of host) s.tree) ∙ ap (λ o. released_at o (tree.held (inode_of host) s.tree)) (sym (cwd-numbered number pid s)))
      refl
      (with-numbered pid (with_cwd (record { mount = m; host = host })) (with_cwd (record { mount = number m; host = host })) (λ p. refl) s.living)

  executed-numbered : (pid : ℕ) (host : Host) (dir : ℕ) (name : List ℕ) (m : T) (s : State T X) → n (executed pid host dir name m s) ≡ executed pid host dir name (number m) (n s)
  executed-numbered pid host dir name m s =
      parts _ _ _ _ _ _ (n s)
      (released-numbered number (exe_of pid s) (tree.held (inode_of host) s.tree) ∙ ap (λ o. released_at o (tree.held (inode_of host) s.tree)) (sym (exe-numbered number pid s)))
      refl
      (with-numbered pid (with_exe (record { mount = m; host = host }) dir name) (with_exe (record { mount = number m; host = host }) dir name) (λ p. refl) s.living)

  -- ---- a child

  forked-numbered : (computing : Computing X) (birth : Birth) (p : Process T X) (s : State T X) → n (forked_from computing birth p s) ≡ forked_from computing birth (np p) (n s)
  forked-numbered computing birth p s =
      let trees = ap (λ t. held_at (Some p.exe) (held_at (Some p.cwd) t)) (held_for-numbered number p.descs s.files s.tree 1024) in
      let tables = with_copies-numbered number s.files p.descs in
      let lists = map-append np s.living (child_of computing birth p ∷ []) in
      λ j. record {
        tree = trees j;
        user = s.user;
        files = tables j;
        input = s.input;
        taken = s.taken;
        out = s.out;
        err = s.err;
        living = lists j;
        ended = s.ended;
        next_pid = birth.pid + 1;
      }

  -- what is done by a process that lives, and nothing where it doesn't
  by-process : (f : Process T X → State T X → State T X) (g : Process ℕ X → State ℕ X → State ℕ X) → ((p : Process T X) (s : State T X) → n (f p s) ≡ g (np p) (n s))
      → (pid : ℕ) (s : State T X) → n (option_map_or (λ p. f p s) (process pid s) s) ≡ option_map_or (λ p. g p (n s)) (process pid (n s)) (n s)
  by-process f g same pid s = by (process pid s) ∙ ap (λ o. option_map_or (λ p. g p (n s)) o (n s)) (sym (process-numbered number pid s))
    where
      by : (o : Option (Process T X)) → n (option_map_or (λ p. f p s) o s) ≡ option_map_or (λ p. g p (n s)) (option_map np o) (n s)
      by None = refl
      by (Some p) = same p s

  -- ---- the end of a process, and a new program

  close_below-numbered : (pid count : ℕ) (s : State T X) → n (close_below pid count s) ≡ close_below pid count (n s)
  unfolding close_below
  close_below-numbered pid zero s = refl
  close_below-numbered pid (suc fd) s = close-numbered pid fd (close_below pid fd s) ∙ ap (close pid fd) (close_below-numbered pid fd s)

  close_on_exec-numbered : (pid count : ℕ) (s : State T X) → n (close_on_exec_below pid count s) ≡ close_on_exec_below pid count (n s)
  unfolding close_on_exec_below
  close_on_exec-numbered pid zero s = refl
  close_on_exec-numbered pid (suc fd) s =
      let before : State T X = close_on_exec_below pid fd s in
      by before (is_closed_on_exec pid fd before)
      ∙ ap (λ o. cond (option_map_or (λ (x : Named). x.cloexec) o false) (close pid fd (n before)) (n before)) (sym (named-numbered number pid fd before))
      ∙ ap (λ (k : State ℕ X). cond (is_closed_on_exec pid fd k) (close pid fd k) k) (close_on_exec-numbered pid fd s)
    where
      by : (before : State T X) (b : Bool) → n (cond b (close pid fd before) before) ≡ cond b (close pid fd (n before)) (n before)
      by before true = close-numbered pid fd before
      by before false = refl

  orphaned-numbered : (pid : ℕ) (p : Process T X) → np (orphaned pid p) ≡ orphaned pid (np p)
  orphaned-numbered pid p = by (p.parent == pid)
    where
      by : (b : Bool) → np (cond b (with_parent 1 p) p) ≡ cond b (with_parent 1 (np p)) (np p)
      by true = refl
      by false = refl

  gone-numbered : (pid status : ℕ) (p : Process T X) (s : State T X) → n (gone pid status p s) ≡ gone pid status (np p) (n s)
  gone-numbered pid status p s =
      let lists = maps np (orphaned pid) (orphaned pid) np (orphaned-numbered pid) (filter (λ p. not (p.pid == pid)) s.living)
      ∙ ap (map_list (orphaned pid)) (sym (kept-mapped np (λ p. not (p.pid == pid)) (λ p. not (p.pid == pid)) (λ p. refl) s.living)) in
      ap (λ living. with_living (λ _. living) (gone pid status (np p) (n s))) lists

  end-numbered : (pid status : ℕ) (s : State T X) → n (end pid status s) ≡ end pid status (n s)
  end-numbered pid status s =
      by-process (gone pid status) (gone pid status) (gone-numbered pid status) pid (close_below pid 1024 s)
      ∙ ap (λ k. option_map_or (λ p. gone pid status p k) (process pid k) k) (close_below-numbered pid 1024 s)

  -- ---- names

  removal-numbered : (dir : ℕ) (name : List ℕ) (p : Process T X) → np (exe_after_removal dir name p) ≡ exe_after_removal dir name (np p)
  removal-numbered dir name p = by (exe_remembers dir name p)
    where
      by : (b : Bool) → np (cond b (with_exe_name 0 [] p) p) ≡ cond b (with_exe_name 0 [] (np p)) (np p)
      by true = refl
      by false = refl

  rename-numbered : (dir : ℕ) (name : List ℕ) (to : ℕ) (new : List ℕ) (p : Process T X) → np (exe_after_rename dir name to new p) ≡ exe_after_rename dir name to new (np p)
  rename-numbered dir name to new p =
      let kept = exe_after_removal to new p in
      by kept (exe_remembers dir name kept)
      ∙ ap (λ (k : Process ℕ X). cond (exe_remembers dir name k) (with_exe_name to new k) k) (removal-numbered to new p)
    where
      by : (k : Process T X) (b : Bool) → np (cond b (with_exe_name to new k) k) ≡ cond b (with_exe_name to new (np k)) (np k)
      by k true = refl
      by k false = refl

  -- ---- every change

  pub change-numbered : (computing : Computing X) (mounts : Mounts T) (pid : ℕ) (c : Change) (s : State T X) → n (applied computing mounts pid c s) ≡ applied computing (mounts_numbered number mounts) pid c (n s)
  change-numbered computing mounts pid (AddNode dir name mode uid gid body) s = refl
  change-numbered computing mounts pid (LinkNode dir name inode) s = refl
  change-numbered computing mounts pid (RemoveName dir name) s =
      parts _ _ _ _ _ _ (n s) refl
      (all_opened-numbered number s.files (after_removal dir name) (after_removal dir name) (removal-opened number dir name))
      (maps np (exe_after_removal dir name) (exe_after_removal dir name) np (removal-numbered dir name) s.living)
  change-numbered computing mounts pid (MoveName dir name to new) s =
      parts _ _ _ _ _ _ (n s) refl
      (all_opened-numbered number s.files (after_rename dir name to new) (after_rename dir name to new) (rename-opened number dir name to new))
      (maps np (exe_after_rename dir name to new) (exe_after_rename dir name to new) np (rename-numbered dir name to new) s.living)
  change-numbered computing mounts pid (SetMode inode mode) s = refl
  change-numbered computing mounts pid (SetOwner inode uid gid) s = refl
  change-numbered computing mounts pid (SetSize inode size) s = refl
  change-numbered computing mounts pid (WriteFile inode at bytes) s = refl
  change-numbered computing mounts pid (OpenFile fd cloexec from o) s = in-numbered (open_in pid fd cloexec o) (open_in pid fd cloexec o) (open-numbered pid fd cloexec o) mounts pid from s
  change-numbered computing mounts pid (CopyDescriptor fd to cloexec) s =
      by-name (λ x s. copy_over pid to cloexec x (named pid to s) s) (λ x s. copy_over pid to cloexec x (named pid to s) s) (copied-numbered pid to cloexec) pid fd s
  change-numbered computing mounts pid (CloseDescriptor fd) s = close-numbered pid fd s
  change-numbered computing mounts pid (SetCloexec fd on) s =
      let f : Meanings → Meanings = λ d. changed d fd (λ x. record { number = x.number; cloexec = on }) in
      living-numbered pid (with_descs f) (with_descs f) (λ p. refl) s
  change-numbered computing mounts pid (Seek fd at) s = on_opened-numbered (at_offset at) (at_offset at) (λ o. refl) pid fd s
  change-numbered computing mounts pid (SetAppend fd on) s = on_opened-numbered (with_append on) (with_append on) (λ o. refl) pid fd s
  change-numbered computing mounts pid (MakePipe first second cloexec) s = pipe_made-numbered pid first second cloexec s
  change-numbered computing mounts pid (TakeFromPipe pipe count) s = ap (λ files. with_files (λ _. files) (n s)) (read-numbered number s.files pipe count)
  change-numbered computing mounts pid (PutIntoPipe pipe bytes) s = ap (λ files. with_files (λ _. files) (n s)) (write-numbered number s.files pipe bytes)
  change-numbered computing mounts pid (TakeInput count) s = refl
  change-numbered computing mounts pid (WriteOut bytes) s = refl
  change-numbered computing mounts pid (WriteErr bytes) s = refl
  change-numbered computing mounts pid (ChangePages c) s = living-numbered pid (with_image (computing.paged c)) (with_image (computing.paged c)) (λ p. refl) s
  change-numbered computing mounts pid (SetBreak brk) s = living-numbered pid (with_brk brk) (with_brk brk) (λ p. refl) s
  change-numbered computing mounts pid (SetUmask umask) s = living-numbered pid (with_umask umask) (with_umask umask) (λ p. refl) s
  change-numbered computing mounts pid (ChangeDirectory from host) s = in-numbered (moved_to pid host) (moved_to pid host) (moved_to-numbered pid host) mounts pid from s
  change-numbered computing mounts pid (Fork birth) s = by-process (forked_from computing birth) (forked_from computing birth) (forked-numbered computing birth) pid s
  change-numbered computing mounts pid (End status) s = end-numbered pid status s
  change-numbered computing mounts pid (Reap child) s = refl
  change-numbered computing mounts pid (ReplaceImage image brk) s = living-numbered pid (with_program (computing.loaded image) brk) (with_program (computing.loaded image) brk) (λ p. refl) s
  change-numbered computing mounts pid (ReplaceExecutable from host dir name) s = in-numbered (executed pid host dir name) (executed pid host dir name) (executed-numbered pid host dir name) mounts pid from s
  change-numbered computing mounts pid CloseOnExec s = close_on_exec-numbered pid 1024 s

  pub changes-numbered : (computing : Computing X) (mounts : Mounts T) (pid : ℕ) (cs : List Change) (s : State T X) → n (all_applied computing mounts pid cs s) ≡ all_applied computing (mounts_numbered number mounts) pid cs (n s)
  changes-numbered computing mounts pid [] s = refl
  changes-numbered computing mounts pid (c ∷ cs) s =
      changes-numbered computing mounts pid cs (applied computing mounts pid c s)
      ∙ ap (all_applied computing (mounts_numbered number mounts) pid cs) (change-numbered computing mounts pid c s)

pub changes-are-numbered : {T X : Type 0} → ChangesAreNumbered T X
changes-are-numbered = record { one = λ number. change-numbered number; all = λ number. changes-numbered number }
