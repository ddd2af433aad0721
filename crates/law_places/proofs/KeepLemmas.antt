-- Each change of a calm call keeps all places standing.
use Rattle.std.proofs.Common.{◌≡◌, ℕ, Bool, true, false, not, List, [], ◌∷◌, refl, sym, ap, ◌∙◌}
use Rattle.std.specs.Prelude.{◌&&◌, IsSome}
use Rattle.std.specs.Option.{option_map_or}
use Rattle.std.proofs.lemmas.Bool.{and_parts, or_parts, eq-eqb}
use Rattle.law_walks.specs.kr_inode.declared.user.Right.TheVariants.{Search}
use Rattle.law_walks.specs.kr_tree.declared.place.Host.TheVariants.{Proc}
use Rattle.law_walks.specs.kr_tree.declared.place.ProcAt.{ProcAt}
use Rattle.law_walks.specs.kr_tree.declared.place.ProcAt.TheVariants.{SelfLink, Dir, Cwd, Root, Exe, FdDir, Fd}
use Rattle.law_walks.specs.kr_tree.Lawful.{Here}
use Rattle.law_walks.specs.kr_tree.Rights.{may}
use Rattle.law_walks.specs.kr_view.Component.{is_directory_at, is_process_directory}
use Rattle.law_walks.specs.kr_view.View.{Row, is_there}
use Rattle.kr_calm.specs.Above.{is_at_or_below}
use Rattle.kr_calm.specs.InUse.{is_directory_of, is_in_use}
use Rattle.kr_calm.specs.Rules.{breaks_3, breaks_4, breaks_5, changes_break_3, changes_break_4, changes_break_5, is_above_use, serves, shuts}
use Rattle.kr_calm.proofs.AboveLemmas.{steps_are_enough}
use Rattle.kr_calm.proofs.law_lawful.ChangeLemmas.{every-change-keeps}
use Rattle.law_walks.specs.kr_model.Applied.{Mounts, applied, images}
use Rattle.law_walks.specs.kr_model.Change.{Change, AddNode, LinkNode, RemoveName, MoveName, SetMode, SetOwner, SetSize, WriteFile, OpenFile, CopyDescriptor, CloseDescriptor, SetCloexec, Seek, SetAppend, MakePipe, TakeFromPipe, PutIntoPipe, TakeInput, WriteOut, WriteErr, ChangePages, SetBreak, SetUmask, ChangeDirectory, Fork, End, Reap, ReplaceImage, ReplaceExecutable, CloseOnExec}
use Rattle.law_walks.specs.kr_model.Conditions.{CanBeMade}
use Rattle.law_walks.specs.kr_model.FileRows.{is_dir, is_file_open}
use Rattle.law_walks.specs.kr_model.Lawful.{IsLawful, IsOpenIn, is_file_at}
use Rattle.law_walks.specs.kr_model.State.{Image, State, inode_of, process}
use Rattle.law_places.specs.Changes.{NewPlaceStands}
use Rattle.law_places.specs.Losses.{pid_of}
use Rattle.law_places.specs.Standing.{PlacesStand}
use Rattle.law_places.specs.Taking.{SparesDirectories, SparesLostSearch, SparesProcess}
use Rattle.law_places.specs.Uses.{IsUse, Use, is_cwd, is_exe, is_open}
use Rattle.law_places.proofs.ChangeLemmas.{change_keeps}
use Rattle.law_places.proofs.EndLemmas.{ends_keep_places}
use Rattle.law_places.proofs.MoveKeepLemmas.{moves_keep_places}
use Rattle.law_places.proofs.RemoveLemmas.{removals_keep_places}
use Rattle.law_places.proofs.RightLemmas.{rights_keep_places}
use Rattle.law_places.specs.Keeping.{CalmChangesKeepPlaces, CalmMovesKeepPlaces, MoveStaysInside, MovesStayInside, move_nothing, moves_nothing}
use Rattle.law_places.proofs.InUseLemmas.{directory_fails}
use Rattle.law_places.proofs.RenameLemmas.{lie_alike, spares_move}
use Rattle.law_places.proofs.SearchLemmas.{spares_search}
use Rattle.law_places.proofs.CalmSourceLemmas.{spares_sources}

-- ---- names

-- an inode at or below which nothing is in use isn't in use itself
spares_directories : (table : List Row) (s : State ℕ Image) → PlacesStand table s → (i : ℕ) → is_above_use s i ≡ false → SparesDirectories s i
spares_directories table s stand i none x is dir at =
    let fails = directory_fails table s stand.lawful (λ host. is_at_or_below s.tree i (inode_of host)) none x is dir in
    let here : is_at_or_below s.tree i i ≡ true = (steps_are_enough s.tree i i stand.lawful.tree.sound).1 Here in
    let clash : false ≡ true = sym fails ∙ ap (λ host. is_at_or_below s.tree i (inode_of host)) at ∙ here in
    cc

-- ---- search

spares_lost : (table : List Row) (mounts : Mounts ℕ) (pid i : ℕ) (c : Change) (s : State ℕ Image) → PlacesStand table s → shuts table s i (applied images mounts pid c s) ≡ false → SparesLostSearch table mounts pid s i c
spares_lost table mounts pid i c s stand calm had has =
    let lost : (may s.tree s.user i Search && not (may (applied images mounts pid c s).tree s.user i Search)) ≡ true = ap (λ b. b && not (may (applied images mounts pid c s).tree s.user i Search)) had ∙ ap not has in
    spares_search table s stand i (ap (λ b. b && serves table s i) (sym lost) ∙ calm)

-- ---- processes

-- a directory of a process in the process directory
directory_is : (i pid : ℕ) (at : ProcAt) → is_process_directory at ≡ true → pid_of at ≡ pid → is_directory_of pid (Proc i at) ≡ true
directory_is i pid SelfLink dir is = absurd cc
directory_is i pid (Dir p) dir is = eq-eqb p pid is
directory_is i pid (Cwd p) dir is = absurd cc
directory_is i pid (Root p) dir is = absurd cc
directory_is i pid (Exe p) dir is = absurd cc
directory_is i pid (FdDir p) dir is = eq-eqb p pid is
directory_is i pid (Fd p fd) dir is = absurd cc

module _ (table : List Row) (s : State ℕ Image) (lawful : IsLawful (λ m. m) table s) where
  -- what is in use in the process directory is a directory
  process_use : (x : Use) (i : ℕ) (at : ProcAt) → IsUse s x → x.place.host ≡ Proc i at → (x.is_directory ≡ true) × (is_process_directory at ≡ true)
  process_use _ i at (is_cwd pid p here) host = (refl, sym (ap (is_directory_at s.tree) host) ∙ (lawful.processes pid p here).cwd.1)
  process_use _ i at (is_exe pid p here) host = let clash : false ≡ true = sym (ap (is_file_at s.tree) host) ∙ (lawful.processes pid p here).exe.1 in absurd cc
  process_use _ i at (is_open n o q here there) host = by (is_dir o.what) refl
    where
      own : IsOpenIn (λ m. m) s.tree table o
      own = lawful.files n o here

      by : (b : Bool) → is_dir o.what ≡ b → (is_dir o.what ≡ true) × (is_process_directory at ≡ true)
      by true e = (e, sym (ap (is_directory_at s.tree) host) ∙ (own.placed q there).1 ∙ e)
      by false e =
          let file : is_file_open o.what ≡ false = sym (own.placed q there).2 ∙ ap (is_file_at s.tree) host in
          let clash : true ≡ false = sym (ap is_there there) ∙ own.others file e in
          absurd cc

  spares_process : (pid : ℕ) → is_in_use (is_directory_of pid) s ≡ false → SparesProcess s pid
  spares_process pid none x i at is host same =
      let u = process_use x i at is host in
      let fails = directory_fails table s lawful (is_directory_of pid) none x is u.0 in
      let clash : true ≡ false = sym (directory_is i pid at u.1 same) ∙ sym (ap (is_directory_of pid) host) ∙ fails in
      cc

-- ---- one change

module _ (table : List Row) (mounts : Mounts ℕ) (pid : ℕ) (s : State ℕ Image) (stand : PlacesStand table s) (lives : IsSome (process pid s)) where
  abbrev after : Change → State ℕ Image
  after c = applied images mounts pid c s

  lawful_after : (c : Change) → CanBeMade (λ m. m) table mounts pid s c → IsLawful (λ m. m) table (after c)
  lawful_after c can = every-change-keeps ℕ (λ m. m) table mounts pid c s stand.lawful lives can

  calm_change : (c : Change) → MoveStaysInside table s c → breaks_3 table s.tree c ≡ false → breaks_4 pid s c (after c) ≡ false → breaks_5 table s c (after c) ≡ false → CanBeMade (λ m. m) table mounts pid s c → NewPlaceStands table mounts pid s c
      → PlacesStand table (after c)
  calm_change (AddNode dir name mode uid gid body) still third fourth fifth can new = change_keeps table mounts pid s stand (AddNode dir name mode uid gid body) refl new (lawful_after (AddNode dir name mode uid gid body) can)
  calm_change (LinkNode dir name inode) still third fourth fifth can new = change_keeps table mounts pid s stand (LinkNode dir name inode) refl new (lawful_after (LinkNode dir name inode) can)
  calm_change (RemoveName dir name) still third fourth fifth can new = removals_keep_places table mounts pid dir name s stand lives can (spares_sources table dir name third) (λ i there. spares_directories table s stand i (ap (λ o. option_map_or (is_above_use s) o false) (sym there) ∙ fourth))
  calm_change (MoveName dir name to other) still third fourth fifth can new =
      moves_keep_places table mounts pid dir name to other s stand lives can (spares_move table s stand dir name to other third fourth) (lie_alike table s stand dir to still.together) still.come_to
  calm_change (SetMode inode mode) still third fourth fifth can new = (rights_keep_places).modes table mounts pid inode mode s stand lives can (spares_lost table mounts pid inode (SetMode inode mode) s stand fifth)
  calm_change (SetOwner inode uid gid) still third fourth fifth can new = (rights_keep_places).owners table mounts pid inode uid gid s stand lives can (spares_lost table mounts pid inode (SetOwner inode uid gid) s stand fifth)
  calm_change (SetSize inode size) still third fourth fifth can new = change_keeps table mounts pid s stand (SetSize inode size) refl new (lawful_after (SetSize inode size) can)
  calm_change (WriteFile inode at bytes) still third fourth fifth can new = change_keeps table mounts pid s stand (WriteFile inode at bytes) refl new (lawful_after (WriteFile inode at bytes) can)
  calm_change (OpenFile fd cloexec from o) still third fourth fifth can new = change_keeps table mounts pid s stand (OpenFile fd cloexec from o) refl new (lawful_after (OpenFile fd cloexec from o) can)
  calm_change (CopyDescriptor fd to cloexec) still third fourth fifth can new = change_keeps table mounts pid s stand (CopyDescriptor fd to cloexec) refl new (lawful_after (CopyDescriptor fd to cloexec) can)
  calm_change (CloseDescriptor fd) still third fourth fifth can new = change_keeps table mounts pid s stand (CloseDescriptor fd) refl new (lawful_after (CloseDescriptor fd) can)
  calm_change (SetCloexec fd on) still third fourth fifth can new = change_keeps table mounts pid s stand (SetCloexec fd on) refl new (lawful_after (SetCloexec fd on) can)
  calm_change (Seek fd at) still third fourth fifth can new = change_keeps table mounts pid s stand (Seek fd at) refl new (lawful_after (Seek fd at) can)
  calm_change (SetAppend fd on) still third fourth fifth can new = change_keeps table mounts pid s stand (SetAppend fd on) refl new (lawful_after (SetAppend fd on) can)
  calm_change (MakePipe first second cloexec) still third fourth fifth can new = change_keeps table mounts pid s stand (MakePipe first second cloexec) refl new (lawful_after (MakePipe first second cloexec) can)
  calm_change (TakeFromPipe pipe count) still third fourth fifth can new = change_keeps table mounts pid s stand (TakeFromPipe pipe count) refl new (lawful_after (TakeFromPipe pipe count) can)
  calm_change (PutIntoPipe pipe bytes) still third fourth fifth can new = change_keeps table mounts pid s stand (PutIntoPipe pipe bytes) refl new (lawful_after (PutIntoPipe pipe bytes) can)
  calm_change (TakeInput count) still third fourth fifth can new = change_keeps table mounts pid s stand (TakeInput count) refl new (lawful_after (TakeInput count) can)
  calm_change (WriteOut bytes) still third fourth fifth can new = change_keeps table mounts pid s stand (WriteOut bytes) refl new (lawful_after (WriteOut bytes) can)
  calm_change (WriteErr bytes) still third fourth fifth can new = change_keeps table mounts pid s stand (WriteErr bytes) refl new (lawful_after (WriteErr bytes) can)
  calm_change (ChangePages c) still third fourth fifth can new = change_keeps table mounts pid s stand (ChangePages c) refl new (lawful_after (ChangePages c) can)
  calm_change (SetBreak brk) still third fourth fifth can new = change_keeps table mounts pid s stand (SetBreak brk) refl new (lawful_after (SetBreak brk) can)
  calm_change (SetUmask umask) still third fourth fifth can new = change_keeps table mounts pid s stand (SetUmask umask) refl new (lawful_after (SetUmask umask) can)
  calm_change (ChangeDirectory from host) still third fourth fifth can new = change_keeps table mounts pid s stand (ChangeDirectory from host) refl new (lawful_after (ChangeDirectory from host) can)
  calm_change (Fork b) still third fourth fifth can new = change_keeps table mounts pid s stand (Fork b) refl new (lawful_after (Fork b) can)
  calm_change (End status) still third fourth fifth can new = ends_keep_places table mounts pid status s stand lives (spares_process table (after (End status)) (lawful_after (End status) can) pid fourth)
  calm_change (Reap child) still third fourth fifth can new = change_keeps table mounts pid s stand (Reap child) refl new (lawful_after (Reap child) can)
  calm_change (ReplaceImage image brk) still third fourth fifth can new = change_keeps table mounts pid s stand (ReplaceImage image brk) refl new (lawful_after (ReplaceImage image brk) can)
  calm_change (ReplaceExecutable from host dir name) still third fourth fifth can new = change_keeps table mounts pid s stand (ReplaceExecutable from host dir name) refl new (lawful_after (ReplaceExecutable from host dir name) can)
  calm_change CloseOnExec still third fourth fifth can new = change_keeps table mounts pid s stand CloseOnExec refl new (lawful_after CloseOnExec can)

-- ---- changes in their order

pub calm_moves_keep_places : CalmMovesKeepPlaces
calm_moves_keep_places table mounts pid [] s inside calm can new stand = stand
calm_moves_keep_places table mounts pid (c ∷ cs) s inside calm can new stand =
    let next = applied images mounts pid c s in
    let third = or_parts (breaks_3 table s.tree c) (changes_break_3 images mounts pid table cs next) calm.third in
    let fourth = or_parts (breaks_4 pid s c next) (changes_break_4 images mounts pid cs next) calm.fourth in
    let fifth = or_parts (breaks_5 table s c next) (changes_break_5 images mounts pid table cs next) calm.fifth in
    calm_moves_keep_places table mounts pid cs next inside.1 (record { third = third.1; fourth = fourth.1; fifth = fifth.1 }) can.2 new.1
    (calm_change table mounts pid s stand can.0 c inside.0 third.0 fourth.0 fifth.0 can.1 new.0)

-- what moves nothing stays inside
stays_inside : (table : List Row) (s : State ℕ Image) (c : Change) → moves_nothing c ≡ true → MoveStaysInside table s c
stays_inside table s (MoveName dir name to new) still = absurd cc
stays_inside table s _ still = tt

pub stay_inside : (table : List Row) (mounts : Mounts ℕ) (pid : ℕ) (cs : List Change) (s : State ℕ Image) → move_nothing cs ≡ true → MovesStayInside table mounts pid s cs
stay_inside table mounts pid [] s still = tt
stay_inside table mounts pid (c ∷ cs) s still =
    let here = and_parts (moves_nothing c) (move_nothing cs) still in
    (stays_inside table s c here.0, stay_inside table mounts pid cs (applied images mounts pid c s) here.1)

pub calm_changes_keep_places : CalmChangesKeepPlaces
calm_changes_keep_places table mounts pid cs s still calm can new stand = calm_moves_keep_places table mounts pid cs s (stay_inside table mounts pid cs s still) calm can new stand
