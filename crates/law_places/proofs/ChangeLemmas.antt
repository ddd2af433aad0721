-- A change that takes nothing away leaves a state that follows, where its new place stood.
use Rattle.std.specs.FinMap as map
use Rattle.std.proofs.Common.{◌≡◌, ℕ, zero, suc, Bool, true, false, cond, List, [], ◌∷◌, Option, Some, None, refl, sym, ap, subst, ◌∙◌, arith}
use Rattle.std.specs.Prelude.{◌==◌, ◌&&◌, drop}
use Rattle.std.specs.Bool.{if◌then◌else◌}
use Rattle.std.specs.Option.{option_map_or}
use Rattle.std.proofs.lemmas.Bool.{and_parts}
use Rattle.kr_calm.specs.pr_base.Maps.{changed}
use Rattle.law_walks.specs.kr_tree.Changes as tree
use Rattle.law_walks.specs.kr_tree.declared.place.Place.{Place}
use Rattle.law_walks.specs.kr_tree.Lawful.{IsSound}
use Rattle.law_walks.specs.kr_tree.Tree.{Inode, Tree}
use Rattle.law_walks.specs.kr_view.View.{Row}
use Rattle.law_walks.specs.kr_files.Descriptors.{Named}
use Rattle.law_walks.specs.kr_files.Files.{Table, at_offset, has_reader, pipe_after_read, pipe_after_write, with_append, with_bytes}
use Rattle.law_walks.specs.kr_files.Pipes.{after_write}
use Rattle.kr_calm.proofs.law_lawful.ChangeLemmas.{every-change-keeps}
use Rattle.law_walks.specs.kr_model.Applied.{Mounts, applied, close, close_on_exec_below, copy_over, cwd_of, exe_of, executed, forked_from, images, is_closed_on_exec, mount_of, moved_to, open_in, released_at, with_brk, with_cwd, with_exe, with_image, with_program, with_tree, with_umask}
use Rattle.law_walks.specs.kr_model.Change.{Change, AddNode, LinkNode, RemoveName, MoveName, SetMode, SetOwner, SetSize, WriteFile, OpenFile, CopyDescriptor, CloseDescriptor, SetCloexec, Seek, SetAppend, MakePipe, TakeFromPipe, PutIntoPipe, TakeInput, WriteOut, WriteErr, ChangePages, SetBreak, SetUmask, ChangeDirectory, Fork, End, Reap, ReplaceImage, ReplaceExecutable, CloseOnExec}
use Rattle.law_walks.specs.kr_model.Judged.{are_quiet, is_quiet}
use Rattle.law_walks.specs.kr_model.Lawful.{IsLawful}
use Rattle.law_walks.specs.kr_model.ProcessDirectory.{space_of}
use Rattle.law_walks.specs.kr_model.State.{Image, Process, State, at_pid, inode_of, named, process, with_descs}
use Rattle.law_places.specs.Changes.{ChangesKeepPlaces, ChangesKeepWhatStands, NewPlaceStands, NewPlacesStand, QuietChangesKeepPlaces, take_nothing, takes_nothing}
use Rattle.law_places.specs.Following.{Follows, StoodAndStays}
use Rattle.law_places.specs.Losses.{nothing}
use Rattle.law_places.specs.Standing.{PlacesStand, UseStands}
use Rattle.law_places.specs.Uses.{IsUse, Use, cwd_use, exe_use, is_cwd, is_exe, is_open}
use Rattle.law_places.proofs.FollowLemmas.{AllFine, follows_close, follows_copy_over, follows_files, follows_fork, follows_idle, follows_itself, follows_mapped, follows_open, follows_opened, follows_pipe, follows_tree, idle_descs, released_at_stays, told_at}
use Rattle.law_places.proofs.KeptLemmas.{stood_kept, table_kept}
use Rattle.law_places.proofs.SpaceLemmas.{places_follow, use_stays}
use Rattle.law_places.proofs.TreeLemmas.{added_stays, bytes_set_stays, held_stays, linked_stays}

-- a number that is still to be drawn
free : (t : Tree) → IsSound t → map.get t.inodes t.next ≡ None
free t sound = by (map.get t.inodes t.next) refl
  where
    by : (o : Option Inode) → map.get t.inodes t.next ≡ o → o ≡ None
    by None e = refl
    by (Some x) e = let low = (sound.numbered t.next x e).1 in absurd (omega arith)

module _ (table : List Row) (mounts : Mounts ℕ) (pid : ℕ) (one : State ℕ Image) (stand : PlacesStand table one) where
  abbrev P : Use → Type 0
  P = StoodAndStays nothing table one

  abbrev F : State ℕ Image → Type 0
  F s = Follows nothing P one s

  start : F one
  start = follows_itself nothing P one (λ k p at. (of (cwd_use p) (is_cwd k p at), of (exe_use p) (is_exe k p at))) (λ n o q at there. of _ (is_open n o q at there))
    where
      of : (x : Use) → IsUse one x → P x
      of x is = stood_kept table one x (stand.uses x is)

  -- ---- pipes

  pipe_files : (pipes : Table ℕ → Table ℕ) → (pipes one.files).files ≡ one.files.files → AllFine P one.files.files → AllFine P (pipes one.files).files
  pipe_files pipes same all = subst (AllFine P) (sym same) all

  read_files : (t : Table ℕ) (p n : ℕ) → (pipe_after_read p n t).files ≡ t.files
  read_files t p n = by (map.get t.pipes p)
    where
      by : (o : Option (List ℕ)) → (option_map_or (λ bytes. with_bytes p (drop n bytes) t) o t).files ≡ t.files
      by None = refl
      by (Some bytes) = refl

  write_files : (t : Table ℕ) (p : ℕ) (b : List ℕ) → (pipe_after_write p b t).files ≡ t.files
  write_files t p b = by (map.get t.pipes p)
    where
      by : (o : Option (List ℕ)) → (option_map_or (λ bytes. with_bytes p (after_write bytes (has_reader t p) b) t) o t).files ≡ t.files
      by None = refl
      by (Some bytes) = refl

  -- ---- places of processes

  moved : (m : ℕ) (host : _) → P (record { place = record { mount = m; host = host }; is_directory = true; dir = 0; name = [] }) → F (moved_to pid host m one)
  moved m host new =
      let cwd : Place ℕ = record { mount = m; host = host } in
      let grown = λ (t : Tree). released_at (cwd_of pid one) (tree.held (inode_of host) t) in
      let a = follows_tree nothing P one grown one (λ before. released_at_stays nothing one (cwd_of pid one) (tree.held (inode_of host) one.tree) (held_stays one.user nothing one.tree.inodes one.tree before (inode_of host))) start in
      let b = follows_mapped nothing P one (at_pid pid (with_cwd cwd)) (with_tree grown one) (told_at (λ p. p.pid) pid (with_cwd cwd) (λ p. refl))
      (λ k p at. (here cwd p (start.cwds k p at) new, subst P (sym (told_at exe_use pid (with_cwd cwd) (λ p. refl) p)) (start.exes k p at))) a in
      record { user = b.user; inodes = b.inodes; pids = b.pids; cwds = b.cwds; exes = b.exes; opens = b.opens }
    where
      here : (cwd : Place ℕ) (p : Process ℕ Image) → P (cwd_use p) → P (record { place = cwd; is_directory = true; dir = 0; name = [] }) → P (cwd_use (at_pid pid (with_cwd cwd) p))
      here cwd p old new = elim (p.pid == pid) as (λ b. P (cwd_use (cond b (with_cwd cwd p) p))) [ true ↦ new | false ↦ old ]

  replaced : (m : ℕ) (host : _) (dir : ℕ) (name : List ℕ) → P (record { place = record { mount = m; host = host }; is_directory = false; dir = dir; name = name }) → F (executed pid host dir name m one)
  replaced m host dir name new =
      let exe : Place ℕ = record { mount = m; host = host } in
      let grown = λ (t : Tree). released_at (exe_of pid one) (tree.held (inode_of host) t) in
      let a = follows_tree nothing P one grown one (λ before. released_at_stays nothing one (exe_of pid one) (tree.held (inode_of host) one.tree) (held_stays one.user nothing one.tree.inodes one.tree before (inode_of host))) start in
      let b = follows_mapped nothing P one (at_pid pid (with_exe exe dir name)) (with_tree grown one) (told_at (λ p. p.pid) pid (with_exe exe dir name) (λ p. refl))
      (λ k p at. (subst P (sym (told_at cwd_use pid (with_exe exe dir name) (λ p. refl) p)) (start.cwds k p at), here exe p (start.exes k p at) new)) a in
      record { user = b.user; inodes = b.inodes; pids = b.pids; cwds = b.cwds; exes = b.exes; opens = b.opens }
    where
      here : (exe : Place ℕ) (p : Process ℕ Image) → P (exe_use p) → P (record { place = exe; is_directory = false; dir = dir; name = name }) → P (exe_use (at_pid pid (with_exe exe dir name) p))
      here exe p old new = elim (p.pid == pid) as (λ b. P (exe_use (cond b (with_exe exe dir name p) p))) [ true ↦ new | false ↦ old ]

  closes_on_exec : (n : ℕ) (s : State ℕ Image) → F s → F (close_on_exec_below pid n s)
  unfolding close_on_exec_below
  closes_on_exec zero s w = w
  closes_on_exec (suc fd) s w = by (is_closed_on_exec pid fd (close_on_exec_below pid fd s)) (closes_on_exec fd s w)
    where
      by : (b : Bool) → F (close_on_exec_below pid fd s) → F (if b then close pid fd (close_on_exec_below pid fd s) else close_on_exec_below pid fd s)
      by true w = follows_close nothing P one pid fd (close_on_exec_below pid fd s) w
      by false w = w

  -- ---- each change

  follows : (c : Change) → takes_nothing c ≡ true → NewPlaceStands table mounts pid one c → F (applied images mounts pid c one)
  follows (AddNode dir name mode uid gid body) q new =
      follows_tree nothing P one (tree.added dir name mode uid gid body) one (λ k. added_stays one.user nothing one.tree.inodes one.tree k dir name mode uid gid body (free one.tree stand.lawful.tree.sound)) start
  follows (LinkNode dir name inode) q new = follows_tree nothing P one (tree.linked dir name inode) one (λ k. linked_stays one.user nothing one.tree.inodes one.tree k dir name inode) start
  follows (RemoveName dir name) q new = absurd cc
  follows (MoveName dir name to other) q new = absurd cc
  follows (SetMode inode mode) q new = absurd cc
  follows (SetOwner inode uid gid) q new = absurd cc
  follows (SetSize inode size) q new = follows_tree nothing P one (tree.bytes_set inode (tree.sized size)) one (λ k. bytes_set_stays one.user nothing one.tree.inodes one.tree k inode (tree.sized size)) start
  follows (WriteFile inode at bytes) q new = follows_tree nothing P one (tree.bytes_set inode (tree.overwritten at bytes)) one (λ k. bytes_set_stays one.user nothing one.tree.inodes one.tree k inode (tree.overwritten at bytes)) start
  follows (OpenFile fd cloexec from o) q new = by (mount_of mounts pid one from) refl
    where
      by : (m : Option ℕ) → mount_of mounts pid one from ≡ m → F (option_map_or (λ m. open_in pid fd cloexec o m one) m one)
      by None e = start
      by (Some m) e = follows_open nothing P one pid fd cloexec o m one (λ p there. stood_kept table one _ (new m p e there)) start
  follows (CopyDescriptor fd to cloexec) q new = by (named pid fd one)
    where
      by : (o : Option Named) → F (option_map_or (λ x. copy_over pid to cloexec x (named pid to one) one) o one)
      by None = start
      by (Some x) = follows_copy_over nothing P one pid to cloexec x (named pid to one) one start
  follows (CloseDescriptor fd) q new = follows_close nothing P one pid fd one start
  follows (SetCloexec fd on) q new = follows_idle nothing P one pid (with_descs (λ d. changed d fd (λ x. record { number = x.number; cloexec = on }))) one (idle_descs _) start
  follows (Seek fd at) q new = follows_opened nothing P one pid fd (at_offset at) one (λ o q keeps. keeps) start
  follows (SetAppend fd on) q new = follows_opened nothing P one pid fd (with_append on) one (λ o q keeps. keeps) start
  follows (MakePipe first second cloexec) q new = follows_pipe nothing P one pid first second cloexec one start
  follows (TakeFromPipe pipe count) q new = follows_files nothing P one (pipe_after_read pipe count) one (pipe_files (pipe_after_read pipe count) (read_files one.files pipe count)) start
  follows (PutIntoPipe pipe bytes) q new = follows_files nothing P one (pipe_after_write pipe bytes) one (pipe_files (pipe_after_write pipe bytes) (write_files one.files pipe bytes)) start
  follows (TakeInput count) q new = record { user = refl; inodes = start.inodes; pids = start.pids; cwds = start.cwds; exes = start.exes; opens = start.opens }
  follows (WriteOut bytes) q new = record { user = refl; inodes = start.inodes; pids = start.pids; cwds = start.cwds; exes = start.exes; opens = start.opens }
  follows (WriteErr bytes) q new = record { user = refl; inodes = start.inodes; pids = start.pids; cwds = start.cwds; exes = start.exes; opens = start.opens }
  follows (ChangePages c) q new = follows_idle nothing P one pid (with_image (images.paged c)) one (record { pid = λ p. refl; cwd = λ p. refl; exe = λ p. refl }) start
  follows (SetBreak brk) q new = follows_idle nothing P one pid (with_brk brk) one (record { pid = λ p. refl; cwd = λ p. refl; exe = λ p. refl }) start
  follows (SetUmask umask) q new = follows_idle nothing P one pid (with_umask umask) one (record { pid = λ p. refl; cwd = λ p. refl; exe = λ p. refl }) start
  follows (ChangeDirectory from host) q new = by (mount_of mounts pid one from) refl
    where
      by : (m : Option ℕ) → mount_of mounts pid one from ≡ m → F (option_map_or (λ m. moved_to pid host m one) m one)
      by None e = start
      by (Some m) e = moved m host (stood_kept table one _ (new m e))
  follows (Fork b) q new = by (process pid one) refl
    where
      by : (o : Option (Process ℕ Image)) → process pid one ≡ o → F (option_map_or (λ p. forked_from images b p one) o one)
      by None e = start
      by (Some p) e = follows_fork nothing P one images b pid p one e start
  follows (End status) q new = absurd cc
  follows (Reap child) q new = record { user = refl; inodes = start.inodes; pids = start.pids; cwds = start.cwds; exes = start.exes; opens = start.opens }
  follows (ReplaceImage image brk) q new = follows_idle nothing P one pid (with_program image brk) one (record { pid = λ p. refl; cwd = λ p. refl; exe = λ p. refl }) start
  follows (ReplaceExecutable from host dir name) q new = by (mount_of mounts pid one from) refl
    where
      by : (m : Option ℕ) → mount_of mounts pid one from ≡ m → F (option_map_or (λ m. executed pid host dir name m one) m one)
      by None e = start
      by (Some m) e = replaced m host dir name (stood_kept table one _ (new m e))
  follows CloseOnExec q new = closes_on_exec 1024 one start

  pub change_keeps : (c : Change) → takes_nothing c ≡ true → NewPlaceStands table mounts pid one c → IsLawful (λ m. m) table (applied images mounts pid c one) → PlacesStand table (applied images mounts pid c one)
  change_keeps c q new lawful = places_follow nothing table one (applied images mounts pid c one) stand (table_kept (space_of table one)) lawful (follows c q new)

  pub change_carries : (c : Change) (x : Use) → takes_nothing c ≡ true → NewPlaceStands table mounts pid one c → IsLawful (λ m. m) table (applied images mounts pid c one) → UseStands (space_of table one) x → UseStands (space_of table (applied images mounts pid c one)) x
  change_carries c x q new lawful stands = use_stays nothing table one (applied images mounts pid c one) stand lawful P (follows c q new) x (stood_kept table one x stands)

-- ---- changes in their order

pub changes_keep_places : ChangesKeepPlaces
changes_keep_places table mounts pid [] s q can new stand = stand
changes_keep_places table mounts pid (c ∷ cs) s q can new stand =
    let here = and_parts (takes_nothing c) (take_nothing cs) q in
    let lawful = every-change-keeps ℕ (λ m. m) table mounts pid c s stand.lawful can.0 can.1 in
    changes_keep_places table mounts pid cs (applied images mounts pid c s) here.1 can.2 new.1 (change_keeps table mounts pid s stand c here.0 new.0 lawful)

pub changes_keep_what_stands : ChangesKeepWhatStands
changes_keep_what_stands table mounts pid [] s x q can new stand stands = stands
changes_keep_what_stands table mounts pid (c ∷ cs) s x q can new stand stands =
    let here = and_parts (takes_nothing c) (take_nothing cs) q in
    let lawful = every-change-keeps ℕ (λ m. m) table mounts pid c s stand.lawful can.0 can.1 in
    changes_keep_what_stands table mounts pid cs (applied images mounts pid c s) x here.1 can.2 new.1 (change_keeps table mounts pid s stand c here.0 new.0 lawful) (change_carries table mounts pid s stand c x here.0 new.0 lawful stands)

-- ---- quiet changes

module _ (table : List Row) (mounts : Mounts ℕ) (pid : ℕ) where
  quiet_takes : (s : State ℕ Image) (c : Change) → is_quiet c ≡ true → (takes_nothing c ≡ true) × NewPlaceStands table mounts pid s c
  quiet_takes s (AddNode dir name mode uid gid body) q = (refl, tt)
  quiet_takes s (LinkNode dir name inode) q = (refl, tt)
  quiet_takes s (RemoveName dir name) q = absurd cc
  quiet_takes s (MoveName dir name to other) q = absurd cc
  quiet_takes s (SetMode inode mode) q = absurd cc
  quiet_takes s (SetOwner inode uid gid) q = absurd cc
  quiet_takes s (SetSize inode size) q = (refl, tt)
  quiet_takes s (WriteFile inode at bytes) q = (refl, tt)
  quiet_takes s (OpenFile fd cloexec from o) q = absurd cc
  quiet_takes s (CopyDescriptor fd to cloexec) q = (refl, tt)
  quiet_takes s (CloseDescriptor fd) q = (refl, tt)
  quiet_takes s (SetCloexec fd on) q = (refl, tt)
  quiet_takes s (Seek fd at) q = (refl, tt)
  quiet_takes s (SetAppend fd on) q = (refl, tt)
  quiet_takes s (MakePipe first second cloexec) q = (refl, tt)
  quiet_takes s (TakeFromPipe pipe count) q = (refl, tt)
  quiet_takes s (PutIntoPipe pipe bytes) q = (refl, tt)
  quiet_takes s (TakeInput count) q = (refl, tt)
  quiet_takes s (WriteOut bytes) q = (refl, tt)
  quiet_takes s (WriteErr bytes) q = (refl, tt)
  quiet_takes s (ChangePages c) q = (refl, tt)
  quiet_takes s (SetBreak brk) q = (refl, tt)
  quiet_takes s (SetUmask umask) q = (refl, tt)
  quiet_takes s (ChangeDirectory from host) q = absurd cc
  quiet_takes s (Fork b) q = (refl, tt)
  quiet_takes s (End status) q = absurd cc
  quiet_takes s (Reap child) q = (refl, tt)
  quiet_takes s (ReplaceImage image brk) q = (refl, tt)
  quiet_takes s (ReplaceExecutable from host dir name) q = absurd cc
  quiet_takes s CloseOnExec q = (refl, tt)

  quiet_take : (cs : List Change) (s : State ℕ Image) → are_quiet cs ≡ true → (take_nothing cs ≡ true) × NewPlacesStand table mounts pid s cs
  quiet_take [] s q = (refl, tt)
  quiet_take (c ∷ cs) s q =
      let here = and_parts (is_quiet c) (are_quiet cs) q in
      let one = quiet_takes s c here.0 in
      let more = quiet_take cs (applied images mounts pid c s) here.1 in
      (ap (λ b. b && take_nothing cs) one.0 ∙ more.0, (one.1, more.1))

pub quiet_changes_keep_places : QuietChangesKeepPlaces
quiet_changes_keep_places table mounts pid cs s q can stand = let more = quiet_take table mounts pid cs s q in changes_keep_places table mounts pid cs s more.0 can more.1 stand
