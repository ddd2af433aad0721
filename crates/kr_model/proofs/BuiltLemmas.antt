-- What is told of the paths of a call is never ENOSYS.
use Rattle.std.proofs.Common.{◌≡◌, ◌≢◌, ℕ, zero, suc, Bool, true, false, ◌||◌, List, [], ◌∷◌, ◌++◌, refl, ap, cond, Option, Some, None}
use Rattle.std.specs.Prelude.{Result, Ok, Err}
use Rattle.std.specs.Option.{option_map_or}
use Rattle.kr_calls.specs.pr_base.Paths.{Component, Dot, DotDot, Name, components_of, has_slash, is_absolute}
use Rattle.kr_calls.specs.pr_base.WalkFrame.{Seen as Sight, Fails, Missing, Leads, Links, Jumps, Landing, Looking, Target, Trail, Onward, is_followed, wants_directory, may_be_free, target_at as target_of, landed, ends_found, ends_landed, jumps_on, begins_at, in_middle, at_last, along, loops, walk_on, most_links}
use Rattle.kr_calls.specs.pr_base.declared.errno.Errno.{Errno}
use Rattle.kr_calls.specs.pr_base.declared.errno.Errno.TheVariants.{ENOENT, EBADF, ENOSYS}
use Rattle.kr_calls.specs.pr_base.declared.path.WalkMode.{WalkMode}
use Rattle.kr_calls.specs.CallTable.{Told, ToldNothing, LooksAt, ReadsLinkAt, OpensAt, TakesAt, MakesAt, LinksTwo, MovesTwo, NamesHere, line}
use Rattle.kr_calls.specs.PathTable.{path_at}
use Rattle.kr_calls.specs.PathUses.{PathUse}
use Rattle.kr_calls.specs.declared.request.Request.{Request}
use Rattle.kr_files.specs.kr_tree.Tree.{Body, Directory, RegularFile, SymbolicLink, ProcessDirectory, body, body_is, entry, above as node_above}
use Rattle.kr_files.specs.kr_tree.declared.place.Host.{Host}
use Rattle.kr_files.specs.kr_tree.declared.place.Host.TheVariants.{Node, Proc}
use Rattle.kr_files.specs.kr_tree.declared.place.Place.{Place}
use Rattle.kr_files.specs.kr_tree.declared.place.ProcAt.{ProcAt}
use Rattle.kr_files.specs.kr_tree.declared.place.ProcAt.TheVariants.{SelfLink, Dir, Cwd, Root, Exe, FdDir, Fd}
use Rattle.kr_procfs.specs.kr_view.declared.procs.Lead.{Lead}
use Rattle.kr_procfs.specs.kr_view.declared.procs.Lead.TheVariants.{Text, Jump, Nameless, NoLink}
use Rattle.kr_procfs.specs.kr_view.View.{Row, down, up, is_root_place}
use Rattle.kr_procfs.specs.kr_view.Component.{Surroundings, SeenPlace, is_process_directory, is_directory_at, may_search, is_processes, is_shown, too_long, seen_body, seen_link, seen_at, above_body, above_node, above_process, above_host, seen_in_processes, seen_entry, through_point, named_in, inside, look_up}
use Rattle.kr_procfs.specs.kr_view.Walk.{PlaceTarget, looking, place_walk}
use Rattle.kr_files.specs.declared.opened.Opened.{Opened}
use Rattle.kr_model.specs.Applied.{cwd_of}
use Rattle.kr_model.specs.Asking.{descriptor_number, is_working_directory}
use Rattle.kr_model.specs.FileRows.{creates, is_dir}
use Rattle.kr_model.specs.Laws.{NoWalkAnswersEnosys}
use Rattle.kr_model.specs.ProcessDirectory.{around_of}
use Rattle.kr_model.specs.Seen.{Seen, NoPath, WalkFails}
use Rattle.kr_model.specs.State.{State, opened}
use Rattle.kr_model.specs.Walks.{Targets, and_then, place_of_open, place_of_descriptor, base_of, walked, target_at, targets_of, told_by, seen_of}
use Rattle.kr_model.proofs.RefusalLemmas.{is_enosys}

-- ---- answers, trails and sights

-- whether an answer is ENOSYS
abbrev is_unbuilt : {A : Type 0} → Result A Errno → Bool
is_unbuilt (Ok x) = false
is_unbuilt (Err e) = is_enosys e

abbrev IsBuilt : {S F : Type 0} → Trail S F → Type 0
IsBuilt trail = is_unbuilt trail.answer ≡ false

abbrev shows_enosys : {S F : Type 0} → Sight S F → Bool
shows_enosys (Fails e) = is_enosys e
shows_enosys _ = false

both : {A : Type 0} (P : A → Type 0) (b : Bool) {x y : A} → P x → P y → P (cond b x y)
both P true p q = p
both P false p q = q

-- ---- walks over any way of looking

found_built : {S F : Type 0} (mode : WalkMode) (is_dir : Bool) (target : Target S F) → IsBuilt (ends_found mode is_dir target)
found_built mode is_dir target = both IsBuilt (wants_directory mode target.slash) (both IsBuilt is_dir refl refl) refl

jumps_built : {S F : Type 0} (left : ℕ) (go : Landing S F → Trail S F) → ((l : Landing S F) → IsBuilt (go l)) → (lead : Option (Landing S F)) → IsBuilt (jumps_on left go lead)
jumps_built zero go h lead = refl
jumps_built (suc left) go h None = refl
jumps_built (suc left) go h (Some l) = h l

module _ {S F : Type 0} (looks : Looking S F) (mode : WalkMode) (shown : (s : S) (c : Component) → shows_enosys (looks.look s c) ≡ false) where
  abbrev IsBuiltOnward : Onward S F → Type 0
  IsBuiltOnward again = (s : S) (cs : List Component) (slash : Bool) → IsBuilt (again s cs slash)

  middle_built : (left : ℕ) (again : Onward S F) → IsBuiltOnward again → (s : S) (rest : List Component) (slash : Bool) (go : S → Trail S F) → ((q : S) → IsBuilt (go q))
      → (sight : Sight S F) → shows_enosys sight ≡ false → IsBuilt (in_middle looks left again s rest slash go sight)
  middle_built left again h s rest slash go g (Fails e) is = is
  middle_built left again h s rest slash go g Missing is = refl
  middle_built left again h s rest slash go g (Leads is_dir q found) is = g q
  middle_built left again h s rest slash go g (Links found text) is = h (begins_at looks s text) (components_of text ++ rest) slash
  middle_built left again h s rest slash go g (Jumps found lead) is = jumps_built left (λ landing. again landing.place rest slash) (λ landing. h landing.place rest slash) lead

  last_built : (left : ℕ) (again : Onward S F) → IsBuiltOnward again → (s : S) (c : Component) (slash : Bool)
      → (sight : Sight S F) → shows_enosys sight ≡ false → IsBuilt (at_last looks mode left again s c slash sight)
  last_built left again h s c slash (Fails e) is = is
  last_built left again h s c slash Missing is = both IsBuilt (may_be_free mode) refl refl
  last_built left again h s c slash (Leads is_dir q found) is = found_built mode is_dir (target_of s c slash (Some found))
  last_built left again h s c slash (Links found text) is =
      both IsBuilt (is_followed mode slash) (h (begins_at looks s text) (components_of text) (slash || has_slash text)) refl
  last_built left again h s c slash (Jumps found lead) is =
      both IsBuilt (is_followed mode slash) (jumps_built left (ends_landed mode slash) (λ l. found_built mode l.is_dir (landed l slash)) lead) refl

  along_built : (left : ℕ) (again : Onward S F) → IsBuiltOnward again → (s : S) (cs : List Component) (slash : Bool) → IsBuilt (along looks mode left again s cs slash)
  along_built left again h s [] slash = refl
  along_built left again h s (c ∷ []) slash = last_built left again h s c slash (looks.look s c) (shown s c)
  along_built left again h s (c ∷ d ∷ cs) slash =
      middle_built left again h s (d ∷ cs) slash (λ q. along looks mode left again q (d ∷ cs) slash) (λ q. along_built left again h q (d ∷ cs) slash) (looks.look s c) (shown s c)

  walk_built : (left : ℕ) → IsBuiltOnward (walk_on looks mode left)
  unfolding walk_on
  walk_built zero s cs slash = along_built zero loops (λ s cs slash. refl) s cs slash
  walk_built (suc left) s cs slash = along_built (suc left) (walk_on looks mode left) (walk_built left) s cs slash

-- ---- looking at places

abbrev IsShown : SeenPlace → Type 0
IsShown sight = shows_enosys sight ≡ false

body_shown : (p : Place ℕ) (b : Option Body) → IsShown (seen_body p b)
body_shown p (Some (Directory entries standing)) = refl
body_shown p (Some (ProcessDirectory standing)) = refl
body_shown p (Some (RegularFile bytes)) = refl
body_shown p (Some (SymbolicLink text)) = refl
body_shown p None = refl

above_body_shown : (mount : ℕ) (dir : Option ℕ) → IsShown (above_body mount dir)
above_body_shown mount (Some dir) = refl
above_body_shown mount None = refl

module _ (around : Surroundings) where
  link_shown : (p : Place ℕ) (lead : Lead ℕ) → IsShown (seen_link around.space p lead)
  link_shown p (Text text) = refl
  link_shown p (Jump to dir name) = refl
  link_shown p Nameless = refl
  link_shown p NoLink = refl

  at_shown : (p : Place ℕ) (host : Host) → IsShown (seen_at around p host)
  at_shown p (Node i) = body_shown p (body around.space.tree i)
  at_shown p (Proc i at) = both IsShown (is_process_directory at) refl (link_shown p (around.leads at))

  above_node_shown : (mount i : ℕ) (point : Option (Place ℕ)) → IsShown (above_node around.space mount i point)
  above_node_shown mount i (Some p) = refl
  above_node_shown mount i None = above_body_shown mount (node_above around.space.tree i)

  above_process_shown : (mount i : ℕ) (at : ProcAt) → IsShown (above_process around.space mount i at)
  above_process_shown mount i SelfLink = refl
  above_process_shown mount i (Dir pid) = both IsShown (is_shown around.space pid) refl refl
  above_process_shown mount i (Cwd pid) = refl
  above_process_shown mount i (Root pid) = refl
  above_process_shown mount i (Exe pid) = refl
  above_process_shown mount i (FdDir pid) = both IsShown (is_shown around.space pid) refl refl
  above_process_shown mount i (Fd pid fd) = refl

  above_host_shown : (mount : ℕ) (host : Host) → IsShown (above_host around.space mount host)
  above_host_shown mount (Node i) = above_node_shown mount i (up around.space.table mount i)
  above_host_shown mount (Proc i at) = above_process_shown mount i at

  processes_shown : (mount i : ℕ) (at : Option ProcAt) → IsShown (seen_in_processes around mount i at)
  processes_shown mount i (Some at) = at_shown (record { mount = mount; host = Proc i at }) (Proc i at)
  processes_shown mount i None = refl

  entry_shown : (mount : ℕ) (i : Option ℕ) → IsShown (seen_entry around mount i)
  entry_shown mount (Some i) = at_shown (record { mount = mount; host = Node i }) (Node i)
  entry_shown mount None = refl

  point_shown : (mount i : ℕ) (name : List ℕ) (point : Option (Place ℕ)) → IsShown (through_point around mount i name point)
  point_shown mount i name (Some p) = at_shown p p.host
  point_shown mount i name None =
      both IsShown (body_is is_processes around.space.tree i) (processes_shown mount i (around.space.finds None name)) (entry_shown mount (entry around.space.tree i name))

  name_shown : (mount : ℕ) (host : Host) (name : List ℕ) → IsShown (named_in around mount host name)
  name_shown mount (Node i) name = point_shown mount i name (down around.space.table mount i name)
  name_shown mount (Proc i at) name = processes_shown mount i (around.space.finds (Some at) name)

  inside_shown : (p : Place ℕ) (c : Component) → IsShown (inside around p c)
  inside_shown p Dot = refl
  inside_shown p DotDot = both IsShown (is_root_place around.space.table p) refl (above_host_shown p.mount p.host)
  inside_shown p (Name name) = both IsShown (too_long name) refl (name_shown p.mount p.host name)

  look_shown : (p : Place ℕ) (c : Component) → IsShown (look_up around p c)
  look_shown p c =
      both IsShown (is_directory_at around.space.tree p.host)
      (both IsShown (may_search around.space.tree around.space.user p.host) (inside_shown p c) refl) refl

  place_walk_built : (mode : WalkMode) (base : Place ℕ) (path : List ℕ) → IsBuilt (place_walk around mode base path)
  place_walk_built mode base path =
      walk_built (looking around) mode look_shown most_links (begins_at (looking around) base path) (components_of path) (has_slash path)

-- ---- the walks of a call

then_built : {A B : Type 0} (r : Result A Errno) (next : A → Result B Errno) → is_unbuilt r ≡ false → ((x : A) → is_unbuilt (next x) ≡ false) → is_unbuilt (and_then r next) ≡ false
then_built (Ok x) next is h = h x
then_built (Err e) next is h = is

abbrev IsBase : Result (Place ℕ) Errno → Type 0
IsBase r = is_unbuilt r ≡ false

place_built : (e : Errno) → is_enosys e ≡ false → (p : Option (Place ℕ)) → IsBase (option_map_or (λ p. Ok p) p (Err e))
place_built e is (Some p) = refl
place_built e is None = is

open_built : (o : Opened ℕ) → IsBase (place_of_open o)
open_built o = both IsBase (is_dir o.what) (place_built _ refl o.place) refl

maybe_open_built : (o : Option (Opened ℕ)) → IsBase (option_map_or place_of_open o (Err EBADF))
maybe_open_built (Some o) = open_built o
maybe_open_built None = refl

-- ---- what is told

abbrev tells_enosys : Seen → Bool
tells_enosys (WalkFails e) = is_enosys e
tells_enosys _ = false

one_told : (first : Option PlaceTarget) (next : PlaceTarget → Seen) → ((t : PlaceTarget) → tells_enosys (next t) ≡ false) → tells_enosys (option_map_or next first NoPath) ≡ false
one_told (Some t) next h = h t
one_told None next h = refl

two_told : (first second : Option PlaceTarget) (next : PlaceTarget → PlaceTarget → Seen) → ((t u : PlaceTarget) → tells_enosys (next t u) ≡ false)
    → tells_enosys (option_map_or (λ t. option_map_or (next t) second NoPath) first NoPath) ≡ false
two_told (Some t) second next h = one_told second (next t) (h t)
two_told None second next h = refl

found_told : (found : Option (Place ℕ)) (next : Place ℕ → Seen) → ((p : Place ℕ) → tells_enosys (next p) ≡ false) → tells_enosys (option_map_or next found (WalkFails ENOENT)) ≡ false
found_told (Some p) next h = h p
found_told None next h = refl

module _ {X : Type 0} (table : List Row) (pid : ℕ) (s : State ℕ X) where
  descriptor_built : (fd : Option ℕ) → IsBase (place_of_descriptor table pid s fd)
  descriptor_built None = refl
  descriptor_built (Some fd) = maybe_open_built (opened pid fd s)

  base_built : (u : PathUse) → IsBase (base_of table pid s u)
  base_built u =
      both IsBase (is_absolute u.text) refl
      (both IsBase (is_working_directory u.dirfd) (place_built ENOENT refl (cwd_of pid s)) (descriptor_built (descriptor_number u.dirfd)))

  walked_built : (u : PathUse) (path : List ℕ) → is_unbuilt (walked table pid s u path) ≡ false
  walked_built u [] = refl
  walked_built u (b ∷ path) =
      then_built (base_of table pid s u) _ (base_built u)
      (λ base. then_built (place_walk (around_of table pid s) u.mode base (b ∷ path)).answer _ (place_walk_built (around_of table pid s) u.mode base (b ∷ path)) (λ t. refl))

  target_built : (u : Option PathUse) → is_unbuilt (target_at table pid s u) ≡ false
  target_built None = refl
  target_built (Some u) = walked_built u u.text

  targets_built : (r : Request) → is_unbuilt (targets_of table pid s r) ≡ false
  targets_built r =
      then_built (target_at table pid s (path_at r 0)) _ (target_built (path_at r 0))
      (λ first. then_built (target_at table pid s (path_at r 1)) _ (target_built (path_at r 1)) (λ second. refl))

  told_built : (t : Told) (targets : Targets) → tells_enosys (told_by table pid s t targets) ≡ false
  told_built ToldNothing targets = refl
  told_built (LooksAt how u) targets = one_told targets.first _ (λ target. found_told target.found _ (λ p. refl))
  told_built (ReadsLinkAt u) targets = one_told targets.first _ (λ target. found_told target.found _ (λ p. refl))
  told_built (OpensAt flags u) targets =
      one_told targets.first _ (λ target. both (λ told. tells_enosys told ≡ false) (creates flags) refl (found_told target.found _ (λ p. refl)))
  told_built (TakesAt u) targets = one_told targets.first _ (λ target. refl)
  told_built (MakesAt u) targets = one_told targets.first _ (λ target. refl)
  told_built (LinksTwo how old new) targets = two_told targets.first targets.second _ (λ old new. found_told old.found _ (λ p. refl))
  told_built (MovesTwo old new) targets = two_told targets.first targets.second _ (λ old new. refl)
  told_built NamesHere targets = refl

  answer_told : (r : Request) (targets : Result Targets Errno) → is_unbuilt targets ≡ false → tells_enosys (seen_of table pid s r targets) ≡ false
  answer_told r (Ok targets) is = told_built (line r).told targets
  answer_told r (Err e) is = is

apart : {a : Seen} → tells_enosys a ≡ false → a ≢ WalkFails ENOSYS
apart told same = absurd cc (told, ap tells_enosys same)

pub walks-built : (X : Type 0) → NoWalkAnswersEnosys X
walks-built X table pid s r = apart (answer_told table pid s r (targets_of table pid s r) (targets_built table pid s r))
