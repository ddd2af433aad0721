-- Changes leave the processes of two machines alike.
use Rattle.std.proofs.Common.{◌≡◌, ℕ, zero, suc, Bool, true, false, not, List, [], ◌∷◌, ◌++◌, refl, sym, ap, ◌∙◌, subst, cond, Option, Some, None}
use Rattle.std.specs.Prelude.{map as map_list, ◌==◌}
use Rattle.std.specs.List.{find, filter}
use Rattle.std.specs.Option.{option_map, option_map_or}
use Rattle.kr_calls.specs.rv_mem.declared.regs.Regs.{Regs}
use Rattle.kr_files.specs.Descriptors.{Named}
use Rattle.kr_model.specs.State.{Image, Process, State, process, named, is_pid, at_pid, with_process}
use Rattle.kr_model.specs.Change.{Change, AddNode, LinkNode, RemoveName, MoveName, SetMode, SetOwner, SetSize, WriteFile, OpenFile, CopyDescriptor, CloseDescriptor, SetCloexec, Seek, SetAppend, MakePipe, TakeFromPipe, PutIntoPipe, TakeInput, WriteOut, WriteErr, ChangePages, SetBreak, SetUmask, ChangeDirectory, Fork, End, Reap, ReplaceImage, ReplaceExecutable, CloseOnExec, Birth}
use Rattle.kr_model.specs.Applied.{Mounts, applied, images, exe_remembers, with_exe_name, exe_after_removal, exe_after_rename, close_named, close, copy_over, mount_of, open_in, moved_to, executed, child_of, forked_from, close_below, orphaned, with_parent, gone, end, is_closed_on_exec, close_on_exec_below}
use Rattle.kr_model.specs.Images.{Computed, computed, computed_all, IsAlike, AreAlike, IsInherited, LoadsWhole}
use Rattle.kr_model.proofs.BareLemmas.{maps, mapped-append, found-mapped, kept-mapped}
use Rattle.kr_model.proofs.ImageLemmas.{pages_alike, told_alike}

-- ---- what is computed on, by itself

abbrev by_pid : ℕ → Computed → Bool
by_pid pid x = x.pid == pid

abbrev with_computed : ℕ → (Image → Image) → Computed → Computed
with_computed pid f x = cond (x.pid == pid) (record { pid = x.pid; parent = x.parent; image = f x.image }) x

abbrev born_of : Birth → Computed → Computed
born_of b x = record { pid = b.pid; parent = x.pid; image = images.born b x.image }

abbrev orphan : ℕ → Computed → Computed
orphan pid x = cond (x.parent == pid) (record { pid = x.pid; parent = 1; image = x.image }) x

abbrev forked_list : ℕ → Birth → List Computed → List Computed
forked_list pid b xs = option_map_or (λ x. xs ++ born_of b x ∷ []) (find (by_pid pid) xs) xs

abbrev left_list : ℕ → List Computed → List Computed
left_list pid xs = map_list (orphan pid) (filter (λ x. not (x.pid == pid)) xs)

abbrev ended_list : ℕ → List Computed → List Computed
ended_list pid xs = option_map_or (λ x. left_list pid xs) (find (by_pid pid) xs) xs

-- which changes compute: the pages, a child, an end, a new program
abbrev computes : Change → Bool
computes (ChangePages c) = true
computes (Fork b) = true
computes (End status) = true
computes (ReplaceImage image brk) = true
computes _ = false

-- ---- a change of one machine that leaves what its processes compute on

module _ {M : Type 0} where
  same_each : (f : Process M Image → Process M Image) → ((p : Process M Image) → computed (f p) ≡ computed p) → (ps : List (Process M Image)) → map_list computed (map_list f ps) ≡ map_list computed ps
  same_each f same [] = refl
  same_each f same (p ∷ ps) = ap (λ q. q ∷ map_list computed (map_list f ps)) (same p) ∙ ap (λ qs. computed p ∷ qs) (same_each f same ps)

  same_one : (pid : ℕ) (f : Process M Image → Process M Image) → ((p : Process M Image) → computed (f p) ≡ computed p) → (ps : List (Process M Image)) → map_list computed (with_process pid f ps) ≡ map_list computed ps
  same_one pid f same ps = same_each (at_pid pid f) (λ p. at (p.pid == pid) p) ps
    where
      at : (b : Bool) (p : Process M Image) → computed (cond b (f p) p) ≡ computed p
      at true p = same p
      at false p = refl

  same_close : (pid fd : ℕ) (s : State M Image) → computed_all (close pid fd s) ≡ computed_all s
  unfolding close
  same_close pid fd s = by_name (named pid fd s)
    where
      by_name : (o : Option Named) → computed_all (option_map_or (λ x. close_named pid fd x s) o s) ≡ computed_all s
      by_name None = refl
      by_name (Some x) = same_one pid _ (λ p. refl) s.living

  same_close_below : (pid count : ℕ) (s : State M Image) → computed_all (close_below pid count s) ≡ computed_all s
  unfolding close_below
  same_close_below pid zero s = refl
  same_close_below pid (suc fd) s = same_close pid fd (close_below pid fd s) ∙ same_close_below pid fd s

  same_close_on_exec : (pid count : ℕ) (s : State M Image) → computed_all (close_on_exec_below pid count s) ≡ computed_all s
  unfolding close_on_exec_below
  same_close_on_exec pid zero s = refl
  same_close_on_exec pid (suc fd) s = by_flag (close_on_exec_below pid fd s) (is_closed_on_exec pid fd (close_on_exec_below pid fd s)) ∙ same_close_on_exec pid fd s
    where
      by_flag : (before : State M Image) (b : Bool) → computed_all (cond b (close pid fd before) before) ≡ computed_all before
      by_flag before true = same_close pid fd before
      by_flag before false = refl

  same_copy_over : (pid to : ℕ) (cloexec : Bool) (x : Named) (y : Option Named) (s : State M Image) → computed_all (copy_over pid to cloexec x y s) ≡ computed_all s
  same_copy_over pid to cloexec x None s = same_one pid _ (λ p. refl) s.living
  same_copy_over pid to cloexec x (Some y) s = same_one pid _ (λ p. refl) s.living

  same_option : {A : Type 0} (o : Option A) (g : A → State M Image) (s : State M Image) → ((x : A) → computed_all (g x) ≡ computed_all s) → computed_all (option_map_or g o s) ≡ computed_all s
  same_option None g s each = refl
  same_option (Some x) g s each = each x

  same_removal : (dir : ℕ) (name : List ℕ) (p : Process M Image) → computed (exe_after_removal dir name p) ≡ computed p
  same_removal dir name p = at (exe_remembers dir name p)
    where
      at : (b : Bool) → computed (cond b (with_exe_name 0 [] p) p) ≡ computed p
      at true = refl
      at false = refl

  same_rename : (dir : ℕ) (name : List ℕ) (to : ℕ) (new : List ℕ) (p : Process M Image) → computed (exe_after_rename dir name to new p) ≡ computed p
  same_rename dir name to new p = at (exe_after_removal to new p) (exe_remembers dir name (exe_after_removal to new p)) ∙ same_removal to new p
    where
      at : (k : Process M Image) (b : Bool) → computed (cond b (with_exe_name to new k) k) ≡ computed k
      at k true = refl
      at k false = refl

  unchanged : (mounts : Mounts M) (pid : ℕ) (c : Change) (s : State M Image) → computes c ≡ false → computed_all (applied images mounts pid c s) ≡ computed_all s
  unchanged mounts pid (AddNode dir name mode uid gid body) s h = refl
  unchanged mounts pid (LinkNode dir name inode) s h = refl
  unchanged mounts pid (RemoveName dir name) s h = same_each (exe_after_removal dir name) (same_removal dir name) s.living
  unchanged mounts pid (MoveName dir name to new) s h = same_each (exe_after_rename dir name to new) (same_rename dir name to new) s.living
  unchanged mounts pid (SetMode inode mode) s h = refl
  unchanged mounts pid (SetOwner inode uid gid) s h = refl
  unchanged mounts pid (SetSize inode size) s h = refl
  unchanged mounts pid (WriteFile inode at bytes) s h = refl
  unchanged mounts pid (OpenFile fd cloexec from o) s h = same_option (mount_of mounts pid s from) (λ m. open_in pid fd cloexec o m s) s (λ m. same_one pid _ (λ p. refl) s.living)
  unchanged mounts pid (CopyDescriptor fd to cloexec) s h = same_option (named pid fd s) (λ x. copy_over pid to cloexec x (named pid to s) s) s (λ x. same_copy_over pid to cloexec x (named pid to s) s)
  unchanged mounts pid (CloseDescriptor fd) s h = same_close pid fd s
  unchanged mounts pid (SetCloexec fd on) s h = same_one pid _ (λ p. refl) s.living
  unchanged mounts pid (Seek fd at) s h = same_option (named pid fd s) _ s (λ x. refl)
  unchanged mounts pid (SetAppend fd on) s h = same_option (named pid fd s) _ s (λ x. refl)
  unchanged mounts pid (MakePipe first second cloexec) s h = same_one pid _ (λ p. refl) s.living
  unchanged mounts pid (TakeFromPipe pipe count) s h = refl
  unchanged mounts pid (PutIntoPipe pipe bytes) s h = refl
  unchanged mounts pid (TakeInput count) s h = refl
  unchanged mounts pid (WriteOut bytes) s h = refl
  unchanged mounts pid (WriteErr bytes) s h = refl
  unchanged mounts pid (ChangePages c) s h = absurd cc
  unchanged mounts pid (SetBreak brk) s h = same_one pid _ (λ p. refl) s.living
  unchanged mounts pid (SetUmask umask) s h = same_one pid _ (λ p. refl) s.living
  unchanged mounts pid (ChangeDirectory from host) s h = same_option (mount_of mounts pid s from) (λ m. moved_to pid host m s) s (λ m. same_one pid _ (λ p. refl) s.living)
  unchanged mounts pid (Fork b) s h = absurd cc
  unchanged mounts pid (End status) s h = absurd cc
  unchanged mounts pid (Reap child) s h = refl
  unchanged mounts pid (ReplaceImage image brk) s h = absurd cc
  unchanged mounts pid (ReplaceExecutable from host dir name) s h = same_option (mount_of mounts pid s from) (λ m. executed pid host dir name m s) s (λ m. same_one pid _ (λ p. refl) s.living)
  unchanged mounts pid CloseOnExec s h = same_close_on_exec pid 1024 s

  -- ---- what the others do

  -- a change of what one process computes on
  changed_image : (pid : ℕ) (g : Process M Image → Process M Image) (f : Image → Image) → ((p : Process M Image) → computed (g p) ≡ record { pid = p.pid; parent = p.parent; image = f p.image })
      → (ps : List (Process M Image)) → map_list computed (with_process pid g ps) ≡ map_list (with_computed pid f) (map_list computed ps)
  changed_image pid g f same ps = maps computed (at_pid pid g) (with_computed pid f) computed (λ p. at (p.pid == pid) p) ps
    where
      at : (b : Bool) (p : Process M Image) → computed (cond b (g p) p) ≡ cond b (record { pid = p.pid; parent = p.parent; image = f p.image }) (computed p)
      at true p = same p
      at false p = refl

  found_computed : (pid : ℕ) (ps : List (Process M Image)) → find (by_pid pid) (map_list computed ps) ≡ option_map computed (find (is_pid pid) ps)
  found_computed pid ps = found-mapped computed (is_pid pid) (by_pid pid) (λ p. refl) ps

  forked : (pid : ℕ) (b : Birth) (s : State M Image) → computed_all (option_map_or (λ p. forked_from images b p s) (process pid s) s) ≡ forked_list pid b (computed_all s)
  forked pid b s = at (process pid s) ∙ ap (λ o. option_map_or (λ x. computed_all s ++ born_of b x ∷ []) o (computed_all s)) (sym (found_computed pid s.living))
    where
      at : (o : Option (Process M Image)) → computed_all (option_map_or (λ p. forked_from images b p s) o s) ≡ option_map_or (λ x. computed_all s ++ born_of b x ∷ []) (option_map computed o) (computed_all s)
      at None = refl
      at (Some p) = mapped-append computed s.living (child_of images b p ∷ [])

  left : (pid status : ℕ) (p : Process M Image) (k : State M Image) → computed_all (gone pid status p k) ≡ left_list pid (computed_all k)
  left pid status p k =
      maps computed (orphaned pid) (orphan pid) computed (λ q. at (q.parent == pid) q) (filter (λ q. not (q.pid == pid)) k.living)
      ∙ ap (map_list (orphan pid)) (sym (kept-mapped computed (λ q. not (q.pid == pid)) (λ x. not (x.pid == pid)) (λ q. refl) k.living))
    where
      at : (b : Bool) (q : Process M Image) → computed (cond b (with_parent 1 q) q) ≡ cond b (record { pid = q.pid; parent = 1; image = q.image }) (computed q)
      at true q = refl
      at false q = refl

  ended : (pid status : ℕ) (s : State M Image) → computed_all (end pid status s) ≡ ended_list pid (computed_all s)
  ended pid status s =
      let k : State M Image = close_below pid 1024 s in
      at k (process pid k)
      ∙ ap (λ o. option_map_or (λ x. left_list pid (computed_all k)) o (computed_all k)) (sym (found_computed pid k.living))
      ∙ ap (ended_list pid) (same_close_below pid 1024 s)
    where
      at : (k : State M Image) (o : Option (Process M Image)) → computed_all (option_map_or (λ p. gone pid status p k) o k) ≡ option_map_or (λ x. left_list pid (computed_all k)) (option_map computed o) (computed_all k)
      at k None = refl
      at k (Some p) = left pid status p k

-- ---- two machines

module _ (R : Regs → Regs → Type 0) (inherited : IsInherited R) where
  alike_each : (f g : Computed → Computed) → ((x y : Computed) → IsAlike R x y → IsAlike R (f x) (g y)) → (xs ys : List Computed) → AreAlike R xs ys → AreAlike R (map_list f xs) (map_list g ys)
  alike_each f g each [] [] h = tt
  alike_each f g each (x ∷ xs) (y ∷ ys) h = (each x y h.0, alike_each f g each xs ys h.1)
  alike_each f g each [] (y ∷ ys) h = absurd h
  alike_each f g each (x ∷ xs) [] h = absurd h

  same_test : (x y : Computed) (pid : ℕ) → IsAlike R x y → (x.pid == pid) ≡ (y.pid == pid)
  same_test x y pid h = ap (λ n. n == pid) h.pids

  chosen : (b c : Bool) (x y u v : Computed) → b ≡ c → IsAlike R x u → IsAlike R y v → IsAlike R (cond b x y) (cond c u v)
  chosen true true x y u v e first second = first
  chosen false false x y u v e first second = second
  chosen true false x y u v e first second = absurd cc
  chosen false true x y u v e first second = absurd cc

  alike_image : (pid : ℕ) (f g : Image → Image) → ((x y : Computed) → IsAlike R x y → IsAlike R (record { pid = x.pid; parent = x.parent; image = f x.image }) (record { pid = y.pid; parent = y.parent; image = g y.image }))
      → (xs ys : List Computed) → AreAlike R xs ys → AreAlike R (map_list (with_computed pid f) xs) (map_list (with_computed pid g) ys)
  alike_image pid f g each xs ys h =
      alike_each (with_computed pid f) (with_computed pid g) (λ x y a. chosen (x.pid == pid) (y.pid == pid) _ x _ y (same_test x y pid a) (each x y a) a) xs ys h

  alike_kept : (pid : ℕ) (xs ys : List Computed) → AreAlike R xs ys → AreAlike R (filter (λ x. not (x.pid == pid)) xs) (filter (λ x. not (x.pid == pid)) ys)
  alike_kept pid [] [] h = tt
  alike_kept pid [] (y ∷ ys) h = absurd h
  alike_kept pid (x ∷ xs) [] h = absurd h
  alike_kept pid (x ∷ xs) (y ∷ ys) h = at (not (x.pid == pid)) (not (y.pid == pid)) (ap not (same_test x y pid h.0)) (alike_kept pid xs ys h.1)
    where
      at : (b c : Bool) → b ≡ c → AreAlike R (filter (λ x. not (x.pid == pid)) xs) (filter (λ x. not (x.pid == pid)) ys)
          → AreAlike R (cond b (x ∷ filter (λ x. not (x.pid == pid)) xs) (filter (λ x. not (x.pid == pid)) xs)) (cond c (y ∷ filter (λ x. not (x.pid == pid)) ys) (filter (λ x. not (x.pid == pid)) ys))
      at true true e rest = (h.0, rest)
      at false false e rest = rest
      at true false e rest = absurd cc
      at false true e rest = absurd cc

  alike_left : (pid : ℕ) (xs ys : List Computed) → AreAlike R xs ys → AreAlike R (left_list pid xs) (left_list pid ys)
  alike_left pid xs ys h =
      alike_each (orphan pid) (orphan pid)
      (λ x y a. chosen (x.parent == pid) (y.parent == pid) _ x _ y (ap (λ n. n == pid) a.parents) (record { pids = a.pids; parents = refl; regs = a.regs; memory = a.memory }) a)
      _ _ (alike_kept pid xs ys h)

  -- what is found in both
  abbrev FoundAlike : Option Computed → Option Computed → Type 0
  FoundAlike None None = Unit {0}
  FoundAlike (Some x) (Some y) = IsAlike R x y
  FoundAlike None (Some y) = ⊥
  FoundAlike (Some x) None = ⊥

  alike_found : (pid : ℕ) (xs ys : List Computed) → AreAlike R xs ys → FoundAlike (find (by_pid pid) xs) (find (by_pid pid) ys)
  alike_found pid [] [] h = tt
  alike_found pid [] (y ∷ ys) h = absurd h
  alike_found pid (x ∷ xs) [] h = absurd h
  alike_found pid (x ∷ xs) (y ∷ ys) h = at (x.pid == pid) (y.pid == pid) (same_test x y pid h.0) (alike_found pid xs ys h.1)
    where
      at : (b c : Bool) → b ≡ c → FoundAlike (find (by_pid pid) xs) (find (by_pid pid) ys) → FoundAlike (cond b (Some x) (find (by_pid pid) xs)) (cond c (Some y) (find (by_pid pid) ys))
      at true true e rest = h.0
      at false false e rest = rest
      at true false e rest = absurd cc
      at false true e rest = absurd cc

  alike_behind : (xs ys : List Computed) (x y : Computed) → AreAlike R xs ys → IsAlike R x y → AreAlike R (xs ++ x ∷ []) (ys ++ y ∷ [])
  alike_behind [] [] x y h a = (a, tt)
  alike_behind [] (w ∷ ys) x y h a = absurd h
  alike_behind (v ∷ xs) [] x y h a = absurd h
  alike_behind (v ∷ xs) (w ∷ ys) x y h a = (h.0, alike_behind xs ys x y h.1 a)

  alike_forked : (pid : ℕ) (b : Birth) (xs ys : List Computed) → AreAlike R xs ys → AreAlike R (forked_list pid b xs) (forked_list pid b ys)
  alike_forked pid b xs ys h = at (find (by_pid pid) xs) (find (by_pid pid) ys) (alike_found pid xs ys h)
    where
      at : (o p : Option Computed) → FoundAlike o p → AreAlike R (option_map_or (λ x. xs ++ born_of b x ∷ []) o xs) (option_map_or (λ x. ys ++ born_of b x ∷ []) p ys)
      at None None f = h
      at (Some x) (Some y) f =
          alike_behind xs ys (born_of b x) (born_of b y) h
          (record { pids = refl; parents = f.pids; regs = inherited.born b.sp x.image.regs y.image.regs f.regs; memory = told_alike b.pid b.told_at x.image.memory.pages y.image.memory.pages f.memory })
      at None (Some y) f = absurd f
      at (Some x) None f = absurd f

  alike_ended : (pid : ℕ) (xs ys : List Computed) → AreAlike R xs ys → AreAlike R (ended_list pid xs) (ended_list pid ys)
  alike_ended pid xs ys h = at (find (by_pid pid) xs) (find (by_pid pid) ys) (alike_found pid xs ys h)
    where
      at : (o p : Option Computed) → FoundAlike o p → AreAlike R (option_map_or (λ x. left_list pid xs) o xs) (option_map_or (λ x. left_list pid ys) p ys)
      at None None f = h
      at (Some x) (Some y) f = alike_left pid xs ys h
      at None (Some y) f = absurd f
      at (Some x) None f = absurd f

  by_lists : (xs ys us vs : List Computed) → us ≡ xs → vs ≡ ys → AreAlike R xs ys → AreAlike R us vs
  by_lists xs ys us vs first second h = subst (λ vs. AreAlike R us vs) (sym second) (subst (λ us. AreAlike R us ys) (sym first) h)

  module _ {M N : Type 0} (mounts : Mounts M) (others : Mounts N) (pid : ℕ) (s : State M Image) (t : State N Image) (h : AreAlike R (computed_all s) (computed_all t)) where
    left_alone : (c : Change) → computes c ≡ false → AreAlike R (computed_all (applied images mounts pid c s)) (computed_all (applied images others pid c t))
    left_alone c no_image = by_lists _ _ _ _ (unchanged mounts pid c s no_image) (unchanged others pid c t no_image) h

    pub processes_alike : (c : Change) → LoadsWhole c → AreAlike R (computed_all (applied images mounts pid c s)) (computed_all (applied images others pid c t))
    processes_alike (AddNode dir name mode uid gid body) whole = left_alone (AddNode dir name mode uid gid body) refl
    processes_alike (LinkNode dir name inode) whole = left_alone (LinkNode dir name inode) refl
    processes_alike (RemoveName dir name) whole = left_alone (RemoveName dir name) refl
    processes_alike (MoveName dir name to new) whole = left_alone (MoveName dir name to new) refl
    processes_alike (SetMode inode mode) whole = left_alone (SetMode inode mode) refl
    processes_alike (SetOwner inode uid gid) whole = left_alone (SetOwner inode uid gid) refl
    processes_alike (SetSize inode size) whole = left_alone (SetSize inode size) refl
    processes_alike (WriteFile inode at bytes) whole = left_alone (WriteFile inode at bytes) refl
    processes_alike (OpenFile fd cloexec from o) whole = left_alone (OpenFile fd cloexec from o) refl
    processes_alike (CopyDescriptor fd to cloexec) whole = left_alone (CopyDescriptor fd to cloexec) refl
    processes_alike (CloseDescriptor fd) whole = left_alone (CloseDescriptor fd) refl
    processes_alike (SetCloexec fd on) whole = left_alone (SetCloexec fd on) refl
    processes_alike (Seek fd at) whole = left_alone (Seek fd at) refl
    processes_alike (SetAppend fd on) whole = left_alone (SetAppend fd on) refl
    processes_alike (MakePipe first second cloexec) whole = left_alone (MakePipe first second cloexec) refl
    processes_alike (TakeFromPipe pipe count) whole = left_alone (TakeFromPipe pipe count) refl
    processes_alike (PutIntoPipe pipe bytes) whole = left_alone (PutIntoPipe pipe bytes) refl
    processes_alike (TakeInput count) whole = left_alone (TakeInput count) refl
    processes_alike (WriteOut bytes) whole = left_alone (WriteOut bytes) refl
    processes_alike (WriteErr bytes) whole = left_alone (WriteErr bytes) refl
    processes_alike (SetBreak brk) whole = left_alone (SetBreak brk) refl
    processes_alike (SetUmask umask) whole = left_alone (SetUmask umask) refl
    processes_alike (ChangeDirectory from host) whole = left_alone (ChangeDirectory from host) refl
    processes_alike (Reap child) whole = left_alone (Reap child) refl
    processes_alike (ReplaceExecutable from host dir name) whole = left_alone (ReplaceExecutable from host dir name) refl
    processes_alike CloseOnExec whole = left_alone CloseOnExec refl
    processes_alike (ChangePages c) whole =
        by_lists _ _ _ _ (changed_image pid _ (λ x. images.paged c x) (λ p. refl) s.living) (changed_image pid _ (λ x. images.paged c x) (λ p. refl) t.living)
        (alike_image pid (λ x. images.paged c x) (λ x. images.paged c x) (λ x y a. record { pids = a.pids; parents = a.parents; regs = a.regs; memory = pages_alike c x.image.memory.pages y.image.memory.pages a.memory }) (computed_all s) (computed_all t) h)
    processes_alike (Fork b) whole = by_lists _ _ _ _ (forked pid b s) (forked pid b t) (alike_forked pid b (computed_all s) (computed_all t) h)
    processes_alike (End status) whole = by_lists _ _ _ _ (ended pid status s) (ended pid status t) (alike_ended pid (computed_all s) (computed_all t) h)
    processes_alike (ReplaceImage image brk) whole =
        by_lists _ _ _ _ (changed_image pid _ (λ x. image) (λ p. refl) s.living) (changed_image pid _ (λ x. image) (λ p. refl) t.living)
        (alike_image pid (λ x. image) (λ x. image) (λ x y a. record {
          pids = a.pids;
          parents = a.parents;
          regs = inherited.same image.regs;
          memory = record { rights = λ k. refl; bytes = λ a u. refl; whole = whole; other_whole = whole };
        }) (computed_all s) (computed_all t) h)
