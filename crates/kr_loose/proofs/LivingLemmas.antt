-- Living processes stay without marks, whether one changed, all did, one went or one came, and so a state stays by each change.
use Rattle.std.specs.FinMap as map
use Rattle.std.proofs.Common.{◌≡◌, ℕ, zero, suc, ◌+◌, Bool, true, false, not, List, [], ◌∷◌, ◌++◌, cond, Option, Some, None, refl, subst}
use Rattle.std.specs.Prelude.{map as map_list, slice_get, ◌==◌}
use Rattle.std.specs.Int.{to_le_bytes, w32}
use Rattle.std.specs.List.{AllByRecursion, filter, find}
use Rattle.std.specs.Option.{option_map_or}
use Rattle.kr_core.specs.pr_base.Maps.{changed}
use Rattle.kr_core.specs.rv_mem.Memory.{Memory}
use Rattle.kr_core.specs.rv_mem.Pages.{Pages}
use Rattle.kr_core.specs.rv_mem.declared.regs.Regs.{Regs}
use Rattle.kr_core.specs.kr_files.Descriptors.{Meanings, Named}
use Rattle.kr_core.specs.kr_files.Files.{at_offset, with_append, with_opened}
use Rattle.kr_core.specs.kr_tree.declared.place.Host.{Host}
use Rattle.kr_core.specs.kr_model.Applied.{Mounts, all_applied, applied, child_of, close, close_below, close_named, close_on_exec_below, copy_over, end, exe_after_removal, exe_after_rename, exe_remembers, executed, forked_from, gone, images, is_closed_on_exec, mount_of, moved_to, open_in, orphaned, pages_after, told, with_brk, with_cwd, with_exe, with_exe_name, with_files, with_image, with_living, with_parent, with_program, with_umask}
use Rattle.kr_core.specs.kr_model.Change.{AddNode, Birth, Change, ChangeDirectory, ChangePages, CloseDescriptor, CloseOnExec, CopyDescriptor, End, Fork, LinkNode, MakePipe, MapPages, MoveName, OpenFile, PageChange, ProtectPages, PutIntoPipe, Reap, RemoveName, ReplaceExecutable, ReplaceImage, Seek, SetAppend, SetBreak, SetCloexec, SetMode, SetOwner, SetSize, SetUmask, TakeFromPipe, TakeInput, UnmapPages, WriteErr, WriteFile, WriteOut}
use Rattle.kr_core.specs.kr_model.State.{Image, Process, State, at_pid, is_pid, named, process, with_descs, with_process}
use Rattle.kr_core.specs.kr_stops.Stopped.{computed}
use Rattle.kr_core.proofs.law_allowed.PieceLemmas.{all-append}
use Rattle.kr_loose.specs.Marks.{AreUnmarked, ChangesMarkNothing, HasNoMarks, LoadsUnmarked}
use Rattle.kr_loose.proofs.UnmarkedLemmas.{unmarked-mapped, unmarked-protected, unmarked-unmapped, unmarked-written}

-- ---- what holds of each element

module _ {A : Type 0} (P : A → Type 0) where
  pub all-found : (test : A → Bool) (xs : List A) (x : A) → AllByRecursion P xs → find test xs ≡ Some x → P x
  all-found test [] x all e = absurd cc
  all-found test (y ∷ ys) x all e = by (test y) (all-found test ys x all.1) e
    where
      by : (b : Bool) → (find test ys ≡ Some x → P x) → cond b (Some y) (find test ys) ≡ Some x → P x
      by true more e = one y all.0 e
        where
          one : (y : A) → P y → Some y ≡ Some x → P x
          one y own e = let same : y ≡ x = cc in subst P same own
      by false more e = more e

  pub all-at : (xs : List A) (k : ℕ) (x : A) → AllByRecursion P xs → slice_get xs k ≡ Some x → P x
  all-at [] k x all e = absurd cc
  all-at (y ∷ ys) zero x all e = let same : y ≡ x = cc in subst P same all.0
  all-at (y ∷ ys) (suc k) x all e = all-at ys k x all.1 e

  pub all-passed : (test : A → Bool) (xs : List A) → AllByRecursion P xs → AllByRecursion P (filter test xs)
  all-passed test [] all = tt
  all-passed test (x ∷ xs) all = by (test x) (all-passed test xs all.1)
    where
      by : (b : Bool) → AllByRecursion P (filter test xs) → AllByRecursion P (cond b (x ∷ filter test xs) (filter test xs))
      by true rest = (all.0, rest)
      by false rest = rest

-- ---- pages

pages-unmarked : (c : PageChange) (m : Pages) → HasNoMarks m → HasNoMarks (pages_after c m)
pages-unmarked (MapPages first count rights) m clear = unmarked-mapped m first count rights clear
pages-unmarked (UnmapPages first count) m clear = unmarked-unmapped m first count clear
pages-unmarked (ProtectPages first count rights) m clear = unmarked-protected m first count rights clear

told-unmarked : (pid : ℕ) (at : Option ℕ) (m : Pages) → HasNoMarks m → HasNoMarks (told pid at m)
told-unmarked pid None m clear = clear
told-unmarked pid (Some at) m clear = unmarked-written m at (to_le_bytes w32 pid) clear

module _ {M : Type 0} where
  -- ---- one process, and all

  abbrev pub IsUnmarked : Process M Image → Type 0
  IsUnmarked p = HasNoMarks p.image.memory.pages

  abbrev pub LiveUnmarked : List (Process M Image) → Type 0
  LiveUnmarked ps = AllByRecursion (λ (p : Process M Image). HasNoMarks p.image.memory.pages) ps

  either-process : (b : Bool) (p q : Process M Image) → IsUnmarked p → IsUnmarked q → IsUnmarked (cond b p q)
  either-process true p q first second = first
  either-process false p q first second = second

  all-changed : (g : Process M Image → Process M Image) (ps : List (Process M Image)) → ((p : Process M Image) → IsUnmarked p → IsUnmarked (g p)) → LiveUnmarked ps → LiveUnmarked (map_list g ps)
  all-changed g [] keeps clear = tt
  all-changed g (p ∷ ps) keeps clear = (keeps p clear.0, all-changed g ps keeps clear.1)

  one-changed : (pid : ℕ) (f : Process M Image → Process M Image) (ps : List (Process M Image)) → ((p : Process M Image) → IsUnmarked p → IsUnmarked (f p)) → LiveUnmarked ps → LiveUnmarked (with_process pid f ps)
  one-changed pid f ps keeps clear = all-changed (at_pid pid f) ps (λ p own. either-process (p.pid == pid) (f p) p (keeps p own) own) clear

  one-gone : (pid : ℕ) (ps : List (Process M Image)) → LiveUnmarked ps → LiveUnmarked (filter (λ p. not (p.pid == pid)) ps)
  one-gone pid ps clear = all-passed (λ (p : Process M Image). HasNoMarks p.image.memory.pages) (λ (p : Process M Image). not (p.pid == pid)) ps clear

  one-come : (ps : List (Process M Image)) (c : Process M Image) → IsUnmarked c → LiveUnmarked ps → LiveUnmarked (ps ++ c ∷ [])
  one-come ps c own clear = all-append (λ (p : Process M Image). HasNoMarks p.image.memory.pages) ps (c ∷ []) clear (own, tt)

  pub process-unmarked : (pid : ℕ) (s : State M Image) → AreUnmarked s → (p : Process M Image) → process pid s ≡ Some p → IsUnmarked p
  process-unmarked pid s clear p is = all-found (λ (p : Process M Image). HasNoMarks p.image.memory.pages) (is_pid pid) s.living p clear is

  pub with-one : (pid : ℕ) (f : Process M Image → Process M Image) (s : State M Image) → ((p : Process M Image) → IsUnmarked p → IsUnmarked (f p)) → AreUnmarked s → AreUnmarked (with_living (with_process pid f) s)
  with-one pid f s keeps clear = one-changed pid f s.living keeps clear

  pub computing-unmarked : (pid : ℕ) (regs : Regs) (memory : Memory) (s : State M Image) → HasNoMarks memory.pages → AreUnmarked s → AreUnmarked (computed pid regs memory s)
  computing-unmarked pid regs memory s own clear = with-one pid (with_image (λ (image : Image). record { regs = regs; memory = memory })) s (λ p was. own) clear

  descs-unmarked : (pid : ℕ) (f : Meanings → Meanings) (ps : List (Process M Image)) → LiveUnmarked ps → LiveUnmarked (with_process pid (with_descs f) ps)
  descs-unmarked pid f ps clear = one-changed pid (with_descs f) ps (λ p own. own) clear

  maybe-unmarked : {A : Type 0} (o : Option A) (f : A → State M Image) (s : State M Image) → AreUnmarked s → ((x : A) → AreUnmarked (f x)) → AreUnmarked (option_map_or f o s)
  maybe-unmarked None f s clear each = clear
  maybe-unmarked (Some x) f s clear each = each x

  -- ---- names that executables remember

  removed-unmarked : (dir : ℕ) (name : List ℕ) (p : Process M Image) → IsUnmarked p → IsUnmarked (exe_after_removal dir name p)
  removed-unmarked dir name p own = either-process (exe_remembers dir name p) (with_exe_name 0 [] p) p own own

  renamed-unmarked : (dir : ℕ) (name : List ℕ) (to : ℕ) (new : List ℕ) (p : Process M Image) → IsUnmarked p → IsUnmarked (exe_after_rename dir name to new p)
  renamed-unmarked dir name to new p own =
      let kept : Process M Image = exe_after_removal to new p in
      let clear : IsUnmarked kept = removed-unmarked to new p own in
      either-process (exe_remembers dir name kept) (with_exe_name to new kept) kept clear clear

  -- ---- descriptors

  close-unmarked : (pid fd : ℕ) (s : State M Image) → AreUnmarked s → AreUnmarked (close pid fd s)
  unfolding close
  close-unmarked pid fd s clear = maybe-unmarked (named pid fd s) (λ x. close_named pid fd x s) s clear (λ x. descs-unmarked pid (λ d. map.remove d fd) s.living clear)

  close-below-unmarked : (pid count : ℕ) (s : State M Image) → AreUnmarked s → AreUnmarked (close_below pid count s)
  unfolding close_below
  close-below-unmarked pid zero s clear = clear
  close-below-unmarked pid (suc fd) s clear = close-unmarked pid fd (close_below pid fd s) (close-below-unmarked pid fd s clear)

  close-on-exec-unmarked : (pid count : ℕ) (s : State M Image) → AreUnmarked s → AreUnmarked (close_on_exec_below pid count s)
  unfolding close_on_exec_below
  close-on-exec-unmarked pid zero s clear = clear
  close-on-exec-unmarked pid (suc fd) s clear = by (close_on_exec_below pid fd s) (close-on-exec-unmarked pid fd s clear) (is_closed_on_exec pid fd (close_on_exec_below pid fd s))
    where
      by : (before : State M Image) → AreUnmarked before → (b : Bool) → AreUnmarked (cond b (close pid fd before) before)
      by before own true = close-unmarked pid fd before own
      by before own false = own

  copied-unmarked : (pid to : ℕ) (cloexec : Bool) (x : Named) (o : Option Named) (s : State M Image) → AreUnmarked s → AreUnmarked (copy_over pid to cloexec x o s)
  copied-unmarked pid to cloexec x None s clear = descs-unmarked pid (λ d. map.insert d to (record { number = x.number; cloexec = cloexec })) s.living clear
  copied-unmarked pid to cloexec x (Some y) s clear = descs-unmarked pid (λ d. map.insert d to (record { number = x.number; cloexec = cloexec })) s.living clear

  -- ---- processes that come, end and move

  forked-unmarked : (pid : ℕ) (b : Birth) (s : State M Image) → AreUnmarked s → AreUnmarked (option_map_or (λ p. forked_from images b p s) (process pid s) s)
  forked-unmarked pid b s clear = by (process pid s) refl
    where
      by : (o : Option (Process M Image)) → process pid s ≡ o → AreUnmarked (option_map_or (λ p. forked_from images b p s) o s)
      by None is = clear
      by (Some p) is = one-come s.living (child_of images b p) (told-unmarked b.pid b.told_at p.image.memory.pages (process-unmarked pid s clear p is)) clear

  gone-unmarked : (pid status : ℕ) (p : Process M Image) (s : State M Image) → AreUnmarked s → AreUnmarked (gone pid status p s)
  gone-unmarked pid status p s clear =
      all-changed (orphaned pid) (filter (λ p. not (p.pid == pid)) s.living) (λ q own. either-process (q.parent == pid) (with_parent 1 q) q own own) (one-gone pid s.living clear)

  end-unmarked : (pid status : ℕ) (s : State M Image) → AreUnmarked s → AreUnmarked (end pid status s)
  end-unmarked pid status s clear = by (close_below pid 1024 s) (close-below-unmarked pid 1024 s clear) (process pid (close_below pid 1024 s))
    where
      by : (closed : State M Image) → AreUnmarked closed → (o : Option (Process M Image)) → AreUnmarked (option_map_or (λ p. gone pid status p closed) o closed)
      by closed own None = own
      by closed own (Some p) = gone-unmarked pid status p closed own

  moved-unmarked : (pid : ℕ) (host : Host) (s : State M Image) → AreUnmarked s → (m : M) → AreUnmarked (moved_to pid host m s)
  moved-unmarked pid host s clear m = one-changed pid (with_cwd (record { mount = m; host = host })) s.living (λ p own. own) clear

  executed-unmarked : (pid : ℕ) (host : Host) (dir : ℕ) (name : List ℕ) (s : State M Image) → AreUnmarked s → (m : M) → AreUnmarked (executed pid host dir name m s)
  executed-unmarked pid host dir name s clear m = one-changed pid (with_exe (record { mount = m; host = host }) dir name) s.living (λ p own. own) clear

  -- ---- each change

  pub change-unmarked : (mounts : Mounts M) (pid : ℕ) (c : Change) (s : State M Image) → LoadsUnmarked c → AreUnmarked s → AreUnmarked (applied images mounts pid c s)
  change-unmarked mounts pid (AddNode dir name mode uid gid body) s loads clear = clear
  change-unmarked mounts pid (LinkNode dir name inode) s loads clear = clear
  change-unmarked mounts pid (RemoveName dir name) s loads clear = all-changed (exe_after_removal dir name) s.living (removed-unmarked dir name) clear
  change-unmarked mounts pid (MoveName dir name to new) s loads clear = all-changed (exe_after_rename dir name to new) s.living (renamed-unmarked dir name to new) clear
  change-unmarked mounts pid (SetMode inode mode) s loads clear = clear
  change-unmarked mounts pid (SetOwner inode uid gid) s loads clear = clear
  change-unmarked mounts pid (SetSize inode size) s loads clear = clear
  change-unmarked mounts pid (WriteFile inode at bytes) s loads clear = clear
  change-unmarked mounts pid (OpenFile fd cloexec from o) s loads clear =
      maybe-unmarked (mount_of mounts pid s from) (λ m. open_in pid fd cloexec o m s) s clear
      (λ m. descs-unmarked pid (λ d. map.insert d fd (record { number = s.files.last_file + 1; cloexec = cloexec })) s.living clear)
  change-unmarked mounts pid (CopyDescriptor fd to cloexec) s loads clear =
      maybe-unmarked (named pid fd s) (λ x. copy_over pid to cloexec x (named pid to s) s) s clear (λ x. copied-unmarked pid to cloexec x (named pid to s) s clear)
  change-unmarked mounts pid (CloseDescriptor fd) s loads clear = close-unmarked pid fd s clear
  change-unmarked mounts pid (SetCloexec fd on) s loads clear = descs-unmarked pid (λ d. changed d fd (λ x. record { number = x.number; cloexec = on })) s.living clear
  change-unmarked mounts pid (Seek fd at) s loads clear = maybe-unmarked (named pid fd s) (λ x. with_files (with_opened x.number (at_offset at)) s) s clear (λ x. clear)
  change-unmarked mounts pid (SetAppend fd on) s loads clear = maybe-unmarked (named pid fd s) (λ x. with_files (with_opened x.number (with_append on)) s) s clear (λ x. clear)
  change-unmarked mounts pid (MakePipe first second cloexec) s loads clear =
      descs-unmarked pid (λ d. map.insert (map.insert d first (record { number = s.files.last_file + 1; cloexec = cloexec })) second (record { number = s.files.last_file + 1 + 1; cloexec = cloexec })) s.living clear
  change-unmarked mounts pid (TakeFromPipe pipe count) s loads clear = clear
  change-unmarked mounts pid (PutIntoPipe pipe bytes) s loads clear = clear
  change-unmarked mounts pid (TakeInput count) s loads clear = clear
  change-unmarked mounts pid (WriteOut bytes) s loads clear = clear
  change-unmarked mounts pid (WriteErr bytes) s loads clear = clear
  change-unmarked mounts pid (ChangePages c) s loads clear = with-one pid (with_image (images.paged c)) s (λ p own. pages-unmarked c p.image.memory.pages own) clear
  change-unmarked mounts pid (SetBreak brk) s loads clear = with-one pid (with_brk brk) s (λ p own. own) clear
  change-unmarked mounts pid (SetUmask umask) s loads clear = with-one pid (with_umask umask) s (λ p own. own) clear
  change-unmarked mounts pid (ChangeDirectory from host) s loads clear = maybe-unmarked (mount_of mounts pid s from) (λ m. moved_to pid host m s) s clear (moved-unmarked pid host s clear)
  change-unmarked mounts pid (Fork b) s loads clear = forked-unmarked pid b s clear
  change-unmarked mounts pid (End status) s loads clear = end-unmarked pid status s clear
  change-unmarked mounts pid (Reap child) s loads clear = clear
  change-unmarked mounts pid (ReplaceImage image brk) s loads clear = with-one pid (with_program image brk) s (λ p own. loads) clear
  change-unmarked mounts pid (ReplaceExecutable from host dir name) s loads clear = maybe-unmarked (mount_of mounts pid s from) (λ m. executed pid host dir name m s) s clear (executed-unmarked pid host dir name s clear)
  change-unmarked mounts pid CloseOnExec s loads clear = close-on-exec-unmarked pid 1024 s clear

-- and all changes in their order
pub changes-mark-nothing : (M : Type 0) → ChangesMarkNothing M
changes-mark-nothing M mounts pid [] s loads clear = clear
changes-mark-nothing M mounts pid (c ∷ cs) s loads clear = changes-mark-nothing M mounts pid cs (applied images mounts pid c s) loads.1 (change-unmarked mounts pid c s loads.0 clear)
