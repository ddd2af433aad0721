-- Processes and open files stand at inodes behind changes, and behind calls whose walks look up no name in the process directory.
use Rattle.std.proofs.Common.{◌≡◌, inl, inr, ◌<◌, ℕ, zero, suc, Bool, true, false, not, List, [], ◌∷◌, cond, Option, Some, None, Result, Ok, Err, refl, sym, ap, subst, ◌∙◌}
use Rattle.std.specs.Prelude.{◌⊎◌, ◌==◌, map as map_list, IfSome}
use Rattle.std.specs.List.{AllByRecursion, filter}
use Rattle.std.specs.Option.{option_map, option_map_or}
use Rattle.kr_core.specs.pr_base.Paths.{is_absolute}
use Rattle.kr_core.specs.pr_base.declared.errno.Errno.{Errno}
use Rattle.kr_core.specs.pr_base.declared.errno.Errno.TheVariants.{EBADF, ENOENT, ENOTDIR}
use Rattle.kr_core.specs.pr_base.declared.path.Last.{Last}
use Rattle.kr_core.specs.pr_base.declared.path.Last.TheVariants as last
use Rattle.kr_core.specs.rv_mem.Actions.{CarriedOut, carried_out}
use Rattle.kr_core.specs.kr_calls.Decoding.{Decoded, decoding}
use Rattle.kr_core.specs.kr_calls.PathTable.{path_at}
use Rattle.kr_core.specs.kr_calls.PathUses.{PathUse}
use Rattle.kr_core.specs.kr_calls.declared.request.Request.{Request}
use Rattle.kr_core.specs.kr_calls.declared.request.Request.TheVariants as call
use Rattle.kr_core.specs.kr_execve.Execution.{Program, changes_of}
use Rattle.kr_core.specs.kr_tree.declared.place.Place.{Place}
use Rattle.kr_core.specs.kr_files.Descriptors.{Named}
use Rattle.kr_core.specs.kr_files.Files.{file_at}
use Rattle.kr_core.specs.kr_files.WithoutMounts.{without_mount}
use Rattle.kr_core.specs.kr_files.declared.opened.Opened.{Opened}
use Rattle.kr_core.specs.kr_view.View.{Row, root_place, root_source}
use Rattle.kr_core.specs.kr_view.Walk.{PlaceTarget, place_walk}
use Rattle.kr_core.specs.kr_view.declared.target.Reach.{Reach}
use Rattle.kr_core.specs.kr_model.Applied.{Mounts, all_applied, applied, child_of, close, close_below, close_named, close_on_exec_below, copy_over, cwd_of, end, exe_after_removal, exe_after_rename, exe_remembers, executed, forked_from, gone, images, is_closed_on_exec, mount_of, moved_to, open_in, orphaned, with_brk, with_cwd, with_exe_name, with_image, with_living, with_parent, with_program, with_umask}
use Rattle.kr_core.specs.kr_model.Asking.{descriptor_number, is_working_directory}
use Rattle.kr_core.specs.kr_model.Change.{Change, AddNode, LinkNode, RemoveName, MoveName, SetMode, SetOwner, SetSize, WriteFile, OpenFile, CopyDescriptor, CloseDescriptor, SetCloexec, Seek, SetAppend, MakePipe, TakeFromPipe, PutIntoPipe, TakeInput, WriteOut, WriteErr, ChangePages, SetBreak, SetUmask, ChangeDirectory, Fork, End, Reap, ReplaceImage, ReplaceExecutable, CloseOnExec}
use Rattle.kr_core.specs.kr_model.FileRows.{creates, is_dir}
use Rattle.kr_core.specs.kr_model.Known.{known}
use Rattle.kr_core.specs.kr_model.ProcessDirectory.{around_of}
use Rattle.kr_core.specs.kr_model.Seen.{Looked, LooksUp, NoPath, Opens, OpensFound, OpensNew, OpensNoName, OpensSlashed, Seen, WalkFails}
use Rattle.kr_core.specs.kr_model.State.{Image, Process, State, at_pid, image_layout, is_pid, named, opened, process, with_process}
use Rattle.kr_core.specs.kr_model.Walks.{Targets, and_then, base_of, created_at, if_found, if_name, looked_at, of_one, opened_at, place_of_descriptor, place_of_open, seen, seen_of, target_at, targets_of, walked}
use Rattle.kr_core.specs.kr_seen.CallWalks.{call_reach, path_reach, second_reach, walk_reach}
use Rattle.kr_core.specs.kr_seen.Carrying.{memory_of}
use Rattle.kr_core.specs.kr_stops.Stopped.{computed}
use Rattle.kr_core.specs.kr_turns.Breaking.{no_mounts, nothing_reached}
use Rattle.kr_core.specs.kr_turns.PlainCall.{decoded_reach, plain_call, plain_reach, plain_reach_of, request_reach, row_on}
use Rattle.kr_core.proofs.kr_tree.NameLemmas.{map_some, then_some}
use Rattle.kr_core.proofs.law_allowed.PieceLemmas.{all-append}
use Rattle.law_kept.proofs.ListLemmas.{all-found, all-passed}
use Rattle.law_beside.specs.Opened.{BringsNodes, IsNode, NodesStay, StandOnNodes, open_of}
use Rattle.law_beside.proofs.BehindLemmas.{Lasts, call-lasts}
use Rattle.law_beside.proofs.NodeWalks.{trail-unmet, walk-node}
use Rattle.law_beside.proofs.OpenLemmas.{GoesOn, Opens as OpensIn, changes-go}
use Rattle.law_beside.proofs.PlaceRows.{BringNodes, IsNodeOpening, IsNodeSeen, OpenAtNodes, RestsOnNodes, rows-bring}

abbrev States : Type 0
States = State ℕ Image

abbrev Lives : Type 0
Lives = Process ℕ Image

-- ---- open files

abbrev AtNodeIfPlaced : Bool × Option (Place ℕ) → Type 0
AtNodeIfPlaced told = IfSome told.1 (λ p. IsNode p.host)

opens-node : (c : Change) → BringsNodes c → OpensIn AtNodeIfPlaced c
opens-node (OpenFile fd cloexec from o) brings = λ m. by m o.place brings
  where
    by : (m : ℕ) (p : Option (Place (Unit {0}))) → IfSome p (λ p. IsNode p.host) → IfSome (option_map (λ (p : Place (Unit {0})). record { mount = m; host = p.host }) p) (λ (p : Place ℕ). IsNode p.host)
    by m None node = tt
    by m (Some p) node = node
opens-node _ brings = tt

open-nodes : (cs : List Change) → BringNodes cs → AllByRecursion (OpensIn AtNodeIfPlaced) cs
open-nodes [] bring = tt
open-nodes (c ∷ cs) bring = (opens-node c bring.0, open-nodes cs bring.1)

files-stay : (s t : States) → GoesOn AtNodeIfPlaced s.files t.files → ((n : ℕ) (o : Opened ℕ) → file_at s.files n ≡ Some o → IfSome o.place (λ p. IsNode p.host))
    → (n : ℕ) (o : Opened ℕ) → file_at t.files n ≡ Some o → IfSome o.place (λ p. IsNode p.host)
files-stay s t goes nodes n o at = by (goes.files n o at)
  where
    by : ((old : Opened ℕ) × (file_at s.files n ≡ Some old) × (open_of old ≡ open_of o)) ⊎ ((s.files.last_file < n) × AtNodeIfPlaced (open_of o)) → IfSome o.place (λ p. IsNode p.host)
    by (inl old) = subst AtNodeIfPlaced old.2 (nodes n old.0 old.1)
    by (inr new) = new.1

-- ---- working directories

abbrev Stands : Lives → Type 0
Stands p = IsNode p.cwd.host

abbrev All : List Lives → Type 0
All ps = AllByRecursion (λ p. IsNode p.cwd.host) ps

each-stands : (g : Lives → Lives) → ((p : Lives) → Stands p → Stands (g p)) → (ps : List Lives) → All ps → All (map_list g ps)
each-stands g keeps [] stand = tt
each-stands g keeps (p ∷ ps) stand = (keeps p stand.0, each-stands g keeps ps stand.1)

one-stands : (pid : ℕ) (f : Lives → Lives) → ((p : Lives) → Stands p → Stands (f p)) → (ps : List Lives) → All ps → All (with_process pid f ps)
one-stands pid f keeps ps stand = each-stands (at_pid pid f) (λ p stands. by p stands (p.pid == pid)) ps stand
  where
    by : (p : Lives) → Stands p → (b : Bool) → Stands (cond b (f p) p)
    by p stands true = keeps p stands
    by p stands false = stands

named-stands : (dir : ℕ) (name : List ℕ) (b : Bool) (p : Lives) → Stands p → Stands (cond b (with_exe_name dir name p) p)
named-stands dir name true p stands = stands
named-stands dir name false p stands = stands

removal-stands : (dir : ℕ) (name : List ℕ) (p : Lives) → Stands p → Stands (exe_after_removal dir name p)
removal-stands dir name p stands = named-stands 0 [] (exe_remembers dir name p) p stands

rename-stands : (dir : ℕ) (name : List ℕ) (to : ℕ) (new : List ℕ) (p : Lives) → Stands p → Stands (exe_after_rename dir name to new p)
rename-stands dir name to new p stands =
    let kept : Lives = exe_after_removal to new p in
    named-stands to new (exe_remembers dir name kept) kept (removal-stands to new p stands)

orphan-stands : (pid : ℕ) (p : Lives) → Stands p → Stands (orphaned pid p)
orphan-stands pid p stands = by (p.parent == pid)
  where
    by : (b : Bool) → Stands (cond b (with_parent 1 p) p)
    by true = stands
    by false = stands

process-stands : (pid : ℕ) (s : States) → All s.living → (p : Lives) → process pid s ≡ Some p → Stands p
process-stands pid s stand p at = all-found (λ (p : Lives). IsNode p.cwd.host) (is_pid pid) s.living p stand at

module _ (mounts : Mounts ℕ) (pid : ℕ) where
  maybe-stands : {A : Type 0} (f : A → States) (s : States) → All s.living → (o : Option A) → ((x : A) → o ≡ Some x → All (f x).living) → All (option_map_or f o s).living
  maybe-stands f s stand None keeps = stand
  maybe-stands f s stand (Some x) keeps = keeps x refl

  close-stands : (fd : ℕ) (s : States) → All s.living → All (close pid fd s).living
  unfolding close
  close-stands fd s stand = maybe-stands (λ x. close_named pid fd x s) s stand (named pid fd s) (λ x at. one-stands pid _ (λ p stands. stands) s.living stand)

  below-stands : (count : ℕ) (s : States) → All s.living → All (close_below pid count s).living
  unfolding close_below
  below-stands zero s stand = stand
  below-stands (suc fd) s stand = close-stands fd (close_below pid fd s) (below-stands fd s stand)

  on-exec-stands : (count : ℕ) (s : States) → All s.living → All (close_on_exec_below pid count s).living
  unfolding close_on_exec_below
  on-exec-stands zero s stand = stand
  on-exec-stands (suc fd) s stand = by (close_on_exec_below pid fd s) (on-exec-stands fd s stand) (is_closed_on_exec pid fd (close_on_exec_below pid fd s))
    where
      by : (before : States) → All before.living → (b : Bool) → All (cond b (close pid fd before) before).living
      by before rest true = close-stands fd before rest
      by before rest false = rest

  end-stands : (status : ℕ) (s : States) → All s.living → All (end pid status s).living
  end-stands status s stand =
      let before : States = close_below pid 1024 s in
      let rest : All before.living = below-stands 1024 s stand in
      maybe-stands (λ p. gone pid status p before) before rest (process pid before)
      (λ p at. each-stands (orphaned pid) (orphan-stands pid) (filter (λ p. not (p.pid == pid)) before.living) (all-passed (λ (p : Lives). IsNode p.cwd.host) (λ (p : Lives). not (p.pid == pid)) before.living rest))

  over-stands : (to : ℕ) (cloexec : Bool) (x : Named) (y : Option Named) (s : States) → All s.living → All (copy_over pid to cloexec x y s).living
  over-stands to cloexec x None s stand = one-stands pid _ (λ p stands. stands) s.living stand
  over-stands to cloexec x (Some y) s stand = one-stands pid _ (λ p stands. stands) s.living stand

  change-stands : (c : Change) (s : States) → BringsNodes c → All s.living → All (applied images mounts pid c s).living
  change-stands (AddNode dir name mode uid gid body) s brings stand = stand
  change-stands (LinkNode dir name inode) s brings stand = stand
  change-stands (RemoveName dir name) s brings stand = each-stands (exe_after_removal dir name) (removal-stands dir name) s.living stand
  change-stands (MoveName dir name to new) s brings stand = each-stands (exe_after_rename dir name to new) (rename-stands dir name to new) s.living stand
  change-stands (SetMode inode mode) s brings stand = stand
  change-stands (SetOwner inode uid gid) s brings stand = stand
  change-stands (SetSize inode size) s brings stand = stand
  change-stands (WriteFile inode at bytes) s brings stand = stand
  change-stands (OpenFile fd cloexec from o) s brings stand =
      maybe-stands (λ m. open_in pid fd cloexec o m s) s stand (mount_of mounts pid s from) (λ m at. one-stands pid _ (λ p stands. stands) s.living stand)
  change-stands (CopyDescriptor fd to cloexec) s brings stand =
      maybe-stands (λ x. copy_over pid to cloexec x (named pid to s) s) s stand (named pid fd s) (λ x at. over-stands to cloexec x (named pid to s) s stand)
  change-stands (CloseDescriptor fd) s brings stand = close-stands fd s stand
  change-stands (SetCloexec fd on) s brings stand = one-stands pid _ (λ p stands. stands) s.living stand
  change-stands (Seek fd at) s brings stand = maybe-stands _ s stand (named pid fd s) (λ x at. stand)
  change-stands (SetAppend fd on) s brings stand = maybe-stands _ s stand (named pid fd s) (λ x at. stand)
  change-stands (MakePipe first second cloexec) s brings stand = one-stands pid _ (λ p stands. stands) s.living stand
  change-stands (TakeFromPipe pipe count) s brings stand = stand
  change-stands (PutIntoPipe pipe bytes) s brings stand = stand
  change-stands (TakeInput count) s brings stand = stand
  change-stands (WriteOut bytes) s brings stand = stand
  change-stands (WriteErr bytes) s brings stand = stand
  change-stands (ChangePages c) s brings stand = one-stands pid (with_image (images.paged c)) (λ p stands. stands) s.living stand
  change-stands (SetBreak brk) s brings stand = one-stands pid (with_brk brk) (λ p stands. stands) s.living stand
  change-stands (SetUmask umask) s brings stand = one-stands pid (with_umask umask) (λ p stands. stands) s.living stand
  change-stands (ChangeDirectory from host) s brings stand =
      maybe-stands (λ m. moved_to pid host m s) s stand (mount_of mounts pid s from) (λ m at. one-stands pid (with_cwd (record { mount = m; host = host })) (λ p stands. brings) s.living stand)
  change-stands (Fork b) s brings stand =
      maybe-stands (λ p. forked_from images b p s) s stand (process pid s)
      (λ p at. all-append (λ (p : Lives). IsNode p.cwd.host) s.living (child_of images b p ∷ []) stand (process-stands pid s stand p at, tt))
  change-stands (End status) s brings stand = end-stands status s stand
  change-stands (Reap child) s brings stand = stand
  change-stands (ReplaceImage image brk) s brings stand = one-stands pid (with_program (images.loaded image) brk) (λ p stands. stands) s.living stand
  change-stands (ReplaceExecutable from host dir name) s brings stand =
      maybe-stands (λ m. executed pid host dir name m s) s stand (mount_of mounts pid s from) (λ m at. one-stands pid _ (λ p stands. stands) s.living stand)
  change-stands CloseOnExec s brings stand = on-exec-stands 1024 s stand

  changes-stand : (cs : List Change) (s : States) → BringNodes cs → All s.living → All (all_applied images mounts pid cs s).living
  changes-stand [] s bring stand = stand
  changes-stand (c ∷ cs) s bring stand = changes-stand cs (applied images mounts pid c s) bring.1 (change-stands c s bring.0 stand)

pub changes-stay : (mounts : Mounts ℕ) (pid : ℕ) (cs : List Change) (s : States) → BringNodes cs → StandOnNodes s → StandOnNodes (all_applied images mounts pid cs s)
changes-stay mounts pid cs s bring nodes = record {
  working = changes-stand mounts pid cs s bring nodes.working;
  open_files = files-stay s (all_applied images mounts pid cs s) (changes-go AtNodeIfPlaced images mounts pid tt cs s (open-nodes cs bring)) nodes.open_files;
}

alone-stays : (pid : ℕ) (f : Lives → Lives) → ((p : Lives) → (f p).cwd ≡ p.cwd) → (s : States) → StandOnNodes s → StandOnNodes (with_living (with_process pid f) s)
alone-stays pid f cwds s nodes = record {
  working = one-stands pid f (λ p stands. subst (λ (at : Place ℕ). IsNode at.host) (sym (cwds p)) stands) s.living nodes.working;
  open_files = nodes.open_files;
}

-- ---- what a call is told of its paths

module _ (table : List Row) (pid : ℕ) (s : States) (nodes : StandOnNodes s) where
  ok-is : {A : Type 0} (x y : A) → ◌≡◌ {A = Result A Errno} (Ok x) (Ok y) → x ≡ y
  ok-is x y same = cc

  no-ok : {A : Type 0} (e : Errno) (x : A) → ◌≡◌ {A = Result A Errno} (Err e) (Ok x) → ⊥
  no-ok e x same = cc

  opened-node : (fd : ℕ) (o : Opened ℕ) → opened pid fd s ≡ Some o → IfSome o.place (λ p. IsNode p.host)
  opened-node fd o at = let x = then_some (λ (x : Named). file_at s.files x.number) (named pid fd s) o at in nodes.open_files x.0.number o x.2

  -- ---- where they begin

  place-node : (o : Option (Place ℕ)) (e : Errno) (base : Place ℕ) → IfSome o (λ p. IsNode p.host) → option_map_or (λ p. Ok p) o (Err e) ≡ Ok base → IsNode base.host
  place-node None e base node is = absurd (no-ok e base is)
  place-node (Some p) e base node is = subst (λ (p : Place ℕ). IsNode p.host) (ok-is p base is) node

  open-node : (o : Opened ℕ) (base : Place ℕ) → IfSome o.place (λ p. IsNode p.host) → place_of_open o ≡ Ok base → IsNode base.host
  open-node o base node is = by (is_dir o.what) is
    where
      by : (b : Bool) → cond b (option_map_or (λ p. Ok p) o.place (Err ENOTDIR)) (Err ENOTDIR) ≡ Ok base → IsNode base.host
      by true is = place-node o.place ENOTDIR base node is
      by false is = absurd (no-ok ENOTDIR base is)

  descriptor-node : (fd : Option ℕ) (base : Place ℕ) → place_of_descriptor table pid s fd ≡ Ok base → IsNode base.host
  descriptor-node None base is = absurd (no-ok EBADF base is)
  descriptor-node (Some fd) base is = by (opened pid fd s) refl is
    where
      by : (o : Option (Opened ℕ)) → opened pid fd s ≡ o → option_map_or place_of_open o (Err EBADF) ≡ Ok base → IsNode base.host
      by None at is = absurd (no-ok EBADF base is)
      by (Some o) at is = open-node o base (opened-node fd o at) is

  working-node : IfSome (cwd_of pid s) (λ p. IsNode p.host)
  working-node = by (process pid s) refl
    where
      by : (o : Option Lives) → process pid s ≡ o → IfSome (option_map (λ p. p.cwd) o) (λ p. IsNode p.host)
      by None at = tt
      by (Some p) at = process-stands pid s nodes.working p at

  base-node : (u : PathUse) (base : Place ℕ) → base_of table pid s u ≡ Ok base → IsNode base.host
  base-node u base is = by (is_absolute u.text) (is_working_directory u.dirfd) is
    where
      by : (a w : Bool) → cond a (Ok (root_place table)) (cond w (option_map_or (λ p. Ok p) (cwd_of pid s) (Err ENOENT)) (place_of_descriptor table pid s (descriptor_number u.dirfd))) ≡ Ok base → IsNode base.host
      by true w is = subst (λ (p : Place ℕ). IsNode p.host) (ok-is (root_place table) base is) (root_source table, refl)
      by false true is = place-node (cwd_of pid s) ENOENT base working-node is
      by false false is = descriptor-node (descriptor_number u.dirfd) base is

  -- ---- where they lead

  walked-node : (u : PathUse) (path : List ℕ) (r : Reach) (base : Result (Place ℕ) Errno) → base_of table pid s u ≡ base → (walk_reach table pid s u path base r).met_proc ≡ false
      → (target : PlaceTarget) → walked table pid s u path ≡ Ok (Some target) → IfSome target.found (λ p. IsNode p.host)
  walked-node u [] r base at unmet target is = absurd (let no : None ≡ Some target = ok-is None (Some target) is in cc)
  walked-node u (b ∷ path) r (Err e) at unmet target is =
      absurd (no-ok e (Some target) (sym (ap (λ (base : Result (Place ℕ) Errno). and_then base (λ base. and_then (place_walk (around_of table pid s) u.mode base (b ∷ path)).answer (λ target. Ok (Some target)))) at) ∙ is))
  walked-node u (b ∷ path) r (Ok base) at unmet target is =
      by (place_walk (around_of table pid s) u.mode base (b ∷ path)).answer refl
      (sym (ap (λ (base : Result (Place ℕ) Errno). and_then base (λ base. and_then (place_walk (around_of table pid s) u.mode base (b ∷ path)).answer (λ target. Ok (Some target)))) at) ∙ is)
    where
      some-is : (one other : PlaceTarget) → ◌≡◌ {A = Option PlaceTarget} (Some one) (Some other) → one ≡ other
      some-is one other same = cc

      by : (answer : Result PlaceTarget Errno) → (place_walk (around_of table pid s) u.mode base (b ∷ path)).answer ≡ answer → and_then answer (λ target. Ok (Some target)) ≡ Ok (Some target) → IfSome target.found (λ p. IsNode p.host)
      by (Err e) answers is = absurd (no-ok e (Some target) is)
      by (Ok one) answers is =
          let same : one ≡ target = some-is one target (ok-is (Some one) (Some target) is) in
          walk-node (around_of table pid s) u.mode base (b ∷ path) r (base-node u base at) unmet target (answers ∙ ap (λ (t : PlaceTarget). Ok t) same)

  path-node : (o : Option PathUse) (r : Reach) → (path_reach table pid s o r).met_proc ≡ false → (target : PlaceTarget) → target_at table pid s o ≡ Ok (Some target) → IfSome target.found (λ p. IsNode p.host)
  path-node None r unmet target is = absurd (let no : None ≡ Some target = ok-is None (Some target) is in cc)
  path-node (Some u) r unmet target is = walked-node u u.text r (base_of table pid s u) refl unmet target is

  -- ---- what was met before a walk is met behind it

  walk-before : (u : PathUse) (path : List ℕ) (base : Result (Place ℕ) Errno) (r : Reach) → (walk_reach table pid s u path base r).met_proc ≡ false → r.met_proc ≡ false
  walk-before u [] base r unmet = unmet
  walk-before u (b ∷ path) (Ok base) r unmet = (trail-unmet (around_of table pid s) u.mode (place_walk (around_of table pid s) u.mode base (b ∷ path)) r unmet).0
  walk-before u (b ∷ path) (Err e) r unmet = unmet

  path-before : (o : Option PathUse) (r : Reach) → (path_reach table pid s o r).met_proc ≡ false → r.met_proc ≡ false
  path-before None r unmet = unmet
  path-before (Some u) r unmet = walk-before u u.text (base_of table pid s u) r unmet

  second-before : (target : Result (Option PlaceTarget) Errno) (o : Option PathUse) (r : Reach) → (second_reach table pid s target o r).met_proc ≡ false → r.met_proc ≡ false
  second-before (Ok target) o r unmet = path-before o r unmet
  second-before (Err e) o r unmet = unmet

  -- so the first path leads to an inode
  first-node : (r : Request) → (call_reach table pid s r nothing_reached).met_proc ≡ false → (targets : Targets) → targets_of table pid s r ≡ Ok targets
      → IfSome targets.first (λ target. IfSome target.found (λ p. IsNode p.host))
  first-node r unmet targets is = by (target_at table pid s (path_at r 0)) refl is
    where
      after : Result (Option PlaceTarget) Errno → Result Targets Errno
      after first = and_then first (λ first. and_then (target_at table pid s (path_at r 1)) (λ second. Ok (record { first = first; second = second })))

      before : (path_reach table pid s (path_at r 0) nothing_reached).met_proc ≡ false
      before = second-before (target_at table pid s (path_at r 0)) (path_at r 1) (path_reach table pid s (path_at r 0) nothing_reached) unmet

      own : (first : Option PlaceTarget) → target_at table pid s (path_at r 0) ≡ Ok first → IfSome first (λ target. IfSome target.found (λ p. IsNode p.host))
      own None at = tt
      own (Some target) at = path-node (path_at r 0) nothing_reached before target at

      second : (first : Option PlaceTarget) → IfSome first (λ target. IfSome target.found (λ p. IsNode p.host)) → (o : Result (Option PlaceTarget) Errno)
          → and_then o (λ second. Ok (record { first = first; second = second })) ≡ Ok targets → IfSome targets.first (λ target. IfSome target.found (λ p. IsNode p.host))
      second first node (Ok other) is = subst (λ (t : Targets). IfSome t.first (λ target. IfSome target.found (λ p. IsNode p.host))) (ok-is (record { first = first; second = other }) targets is) node
      second first node (Err e) is = absurd (no-ok e targets is)

      by : (o : Result (Option PlaceTarget) Errno) → target_at table pid s (path_at r 0) ≡ o → after o ≡ Ok targets → IfSome targets.first (λ target. IfSome target.found (λ p. IsNode p.host))
      by (Ok first) at is = second first (own first at) (target_at table pid s (path_at r 1)) is
      by (Err e) at is = absurd (no-ok e targets is)

  -- ---- what is told of it

  found-seen : (target : PlaceTarget) (next : Looked → Seen) → ((l : Looked) → IsNode l.host → IsNodeSeen (next l)) → IfSome target.found (λ p. IsNode p.host) → IsNodeSeen (if_found table pid s target next)
  found-seen target next tells node = by target.found node
    where
      by : (o : Option (Place ℕ)) → IfSome o (λ p. IsNode p.host) → IsNodeSeen (option_map_or (λ p. next (looked_at table pid s target p)) o (WalkFails ENOENT))
      by None node = tt
      by (Some p) node = tells (looked_at table pid s target p) node

  created-node : (target : PlaceTarget) → IfSome target.found (λ p. IsNode p.host) → IsNodeOpening (created_at table pid s target)
  created-node target node = by target.last
    where
      found : (o : Option (Place ℕ)) → IfSome o (λ p. IsNode p.host) → IsNodeOpening (option_map_or (λ p. OpensFound (looked_at table pid s target p)) o (OpensNew target.dir.host target.name))
      found None node = tt
      found (Some p) node = node

      slashed : (b : Bool) → IsNodeOpening (cond b OpensSlashed (option_map_or (λ p. OpensFound (looked_at table pid s target p)) target.found (OpensNew target.dir.host target.name)))
      slashed true = tt
      slashed false = found target.found node

      by : (l : Last) → IsNodeOpening
          (if_name l (cond target.slash OpensSlashed (option_map_or (λ p. OpensFound (looked_at table pid s target p)) target.found (OpensNew target.dir.host target.name))) (OpensNoName target.last))
      by last.Name = slashed target.slash
      by last.Dot = tt
      by last.DotDot = tt
      by last.Root = tt

  opening-node : (flags : ℕ) (target : PlaceTarget) → IfSome target.found (λ p. IsNode p.host) → IsNodeSeen (opened_at table pid s flags target)
  opening-node flags target node = by (creates flags)
    where
      by : (b : Bool) → IsNodeSeen (cond b (Opens (created_at table pid s target)) (if_found table pid s target (λ l. Opens (OpensFound l))))
      by true = created-node target node
      by false = found-seen target (λ l. Opens (OpensFound l)) (λ l own. own) node

  one-seen : (targets : Targets) (next : PlaceTarget → Seen) → ((target : PlaceTarget) → IfSome target.found (λ p. IsNode p.host) → IsNodeSeen (next target))
      → IfSome targets.first (λ target. IfSome target.found (λ p. IsNode p.host)) → IsNodeSeen (of_one targets next)
  one-seen targets next tells node = by targets.first node
    where
      by : (o : Option PlaceTarget) → IfSome o (λ target. IfSome target.found (λ p. IsNode p.host)) → IsNodeSeen (option_map_or next o NoPath)
      by None node = tt
      by (Some target) node = tells target node

  -- what a descriptor of the caller is open on
  known-nodes : OpenAtNodes (known image_layout pid s)
  known-nodes n o at =
      let own = map_some (λ (o : Opened ℕ). without_mount o) (opened pid n s) o at in
      subst (λ (o : Opened (Unit {0})). IfSome o.place (λ p. IsNode p.host)) own.2 (by own.0.place (opened-node n own.0 own.1))
    where
      by : (p : Option (Place ℕ)) → IfSome p (λ p. IsNode p.host) → IfSome (option_map (λ (p : Place ℕ). record { mount = tt; host = p.host }) p) (λ (p : Place (Unit {0})). IsNode p.host)
      by None node = tt
      by (Some p) node = node

  pub request-rests : (r : Request) → (request_reach table pid r s nothing_reached).met_proc ≡ false → RestsOnNodes r (seen table pid s r) (known image_layout pid s)
  request-rests (call.Openat dirfd path flags mode) unmet = by (targets_of table pid s (call.Openat dirfd path flags mode)) refl
    where
      by : (o : Result Targets Errno) → targets_of table pid s (call.Openat dirfd path flags mode) ≡ o → IsNodeSeen (seen_of table pid s (call.Openat dirfd path flags mode) o)
      by (Ok targets) at = one-seen targets (opened_at table pid s flags) (opening-node flags) (first-node (call.Openat dirfd path flags mode) unmet targets at)
      by (Err e) at = tt
  request-rests (call.Chdir path) unmet = by (targets_of table pid s (call.Chdir path)) refl
    where
      by : (o : Result Targets Errno) → targets_of table pid s (call.Chdir path) ≡ o → IsNodeSeen (seen_of table pid s (call.Chdir path) o)
      by (Ok targets) at = one-seen targets (λ target. if_found table pid s target LooksUp) (λ target node. found-seen target LooksUp (λ l own. own) node) (first-node (call.Chdir path) unmet targets at)
      by (Err e) at = tt
  request-rests (call.Fchdir fd) unmet = known-nodes
  request-rests _ unmet = tt

-- ---- a call

program-brings : (result : Result Program Errno) → BringNodes (changes_of result)
program-brings (Ok program) = (tt, (tt, (tt, tt)))
program-brings (Err e) = tt

nodes-last : Lasts StandOnNodes BringNodes
nodes-last = record { alone = alone-stays; changes = changes-stay }

call-stays : (table : List Row) (pid : ℕ) (s : States) → (plain_reach table pid s nothing_reached).met_proc ≡ false → StandOnNodes s → StandOnNodes (plain_call table pid s).state
call-stays table pid s unmet nodes = call-lasts StandOnNodes BringNodes nodes-last program-brings table pid s fine nodes
  where
    unmet-of : (p : Lives) → process pid s ≡ Some p → (plain_reach_of table pid s nothing_reached p).met_proc ≡ false
    unmet-of p at = sym (ap (λ (o : Option Lives). (option_map_or (plain_reach_of table pid s nothing_reached) o nothing_reached).met_proc) at) ∙ unmet

    decoded-unmet : (reply : Decoded) (t : States) (r : Request) → reply ≡ Ok r → (decoded_reach table pid reply t nothing_reached).met_proc ≡ false → (request_reach table pid r t nothing_reached).met_proc ≡ false
    decoded-unmet reply t r is unmet = sym (ap (λ (reply : Decoded). (decoded_reach table pid reply t nothing_reached).met_proc) is) ∙ unmet

    fine : (p : Lives) → process pid s ≡ Some p → (r : Request) → (carried_out (decoding p.image.regs) p.image.memory).reply ≡ Ok r
        → BringNodes (row_on table pid r (computed pid p.image.regs (carried_out (decoding p.image.regs) p.image.memory).memory s)).reply.changes
    fine p at r is =
        let done : CarriedOut Decoded = carried_out (decoding p.image.regs) p.image.memory in
        let t : States = computed pid p.image.regs done.memory s in
        let stands : StandOnNodes t = alone-stays pid (with_image (λ (image : Image). record { regs = p.image.regs; memory = done.memory })) (λ p. refl) s nodes in
        rows-bring pid r (seen table pid t r) (known image_layout pid t) (memory_of pid t) (request-rests table pid t stands r (decoded-unmet done.reply t r is (unmet-of p at)))

pub nodes_stay : NodesStay
nodes_stay = record {
  changes = changes-stay;
  call = call-stays;
  killed = λ pid signal s nodes. changes-stay no_mounts pid (End signal ∷ []) s (tt, tt) nodes;
  computed = λ pid regs memory s nodes. alone-stays pid (with_image (λ (image : Image). record { regs = regs; memory = memory })) (λ p. refl) s nodes;
}
