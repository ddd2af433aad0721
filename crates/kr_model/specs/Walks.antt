-- The walks of a call over a state: from its paths to their targets, or to the error of the first that fails, and what a
-- call is told of the targets in a view.
use Rattle.std.specs.Prelude.{ℕ, ◌==◌, Bool, false, List, [], ◌∷◌, Option, Some, None, Result, Ok, Err, if◌then◌else◌}
use Rattle.std.specs.Option.{option_map, option_map_or, option_and_then}
use Rattle.kr_calls.specs.pr_base.Paths.{is_absolute}
use Rattle.kr_calls.specs.pr_base.declared.errno.Errno.{Errno}
use Rattle.kr_calls.specs.pr_base.declared.errno.Errno.TheVariants.{ENOENT, EBADF, ENOTDIR}
use Rattle.kr_calls.specs.pr_base.declared.path.Last.{Last}
use Rattle.kr_calls.specs.pr_base.declared.path.Last.TheVariants as last
use Rattle.kr_calls.specs.CallTable.{Told, ToldNothing, LooksAt, ReadsLinkAt, OpensAt, TakesAt, MakesAt, LinksTwo, MovesTwo, NamesHere, line}
use Rattle.kr_calls.specs.PathTable.{path_at}
use Rattle.kr_calls.specs.PathUses.{PathUse}
use Rattle.kr_calls.specs.declared.request.Request.{Request}
use Rattle.kr_files.specs.kr_tree.declared.place.Host.{Host}
use Rattle.kr_files.specs.kr_tree.declared.place.Host.TheVariants.{Node, Proc}
use Rattle.kr_files.specs.kr_tree.declared.place.Place.{Place}
use Rattle.kr_procfs.specs.kr_view.View.{Row, root_place, covered, source, is_there}
use Rattle.kr_procfs.specs.kr_view.Component.{is_directory_at}
use Rattle.kr_procfs.specs.kr_view.Walk.{PlaceTarget, place_walk}
use Rattle.kr_files.specs.declared.opened.Opened.{Opened}
use Rattle.kr_model.specs.Applied.{Mounts, cwd_of}
use Rattle.kr_model.specs.Asking.{descriptor_number, is_working_directory}
use Rattle.kr_model.specs.FileRows.{creates, is_dir}
use Rattle.kr_model.specs.ProcessDirectory.{space_of, around_of, name_text, link_text}
use Rattle.kr_model.specs.Seen.{Seen, Looked, Entered, Taken, TakesNoName, TakesCovered, Takes, Made, MakesNoName, MakesOver, Makes, Opening, OpensNoName, OpensSlashed, OpensFound, OpensNew, NoPath, WalkFails, LooksUp, ReadsLink, Opens, TakesEntry, MakesEntry, Links, Moves, NamesDirectory}
use Rattle.kr_model.specs.State.{State, inode_of, opened}

-- ---- walks

-- a descriptor that is open on a directory: EBADF, ENOTDIR
abbrev pub place_of_open : Opened ℕ → Result (Place ℕ) Errno
place_of_open o = if is_dir o.what then option_map_or (λ p. Ok p) o.place (Err ENOTDIR) else Err ENOTDIR

-- where targets are of two paths, of one or of none
pub record Targets : Type 0 where
  pub first : Option PlaceTarget
  pub second : Option PlaceTarget

abbrev pub and_then : {A B : Type 0} → Result A Errno → (A → Result B Errno) → Result B Errno
and_then (Ok x) next = next x
and_then (Err e) next = Err e

-- ---- parts of what is told

abbrev pub is_covered : List Row → Host → List ℕ → Bool
is_covered table (Node i) name = covered table i name
is_covered table (Proc i at) name = false

abbrev pub entered : PlaceTarget → Entered
entered target = record { dir = target.dir.host; name = target.name; slash = target.slash; found = option_map (λ p. p.host) target.found }

abbrev pub if_name : {A : Type 0} → Last → A → A → A
if_name last.Name named other = named
if_name last.Dot named other = other
if_name last.DotDot named other = other
if_name last.Root named other = other

abbrev pub mount_found : PlaceTarget → Option ℕ
mount_found target = option_map (λ p. p.mount) target.found

abbrev pub of_one : Targets → (PlaceTarget → Seen) → Seen
of_one targets next = option_map_or next targets.first NoPath

abbrev pub of_two : Targets → (PlaceTarget → PlaceTarget → Seen) → Seen
of_two targets next = option_map_or (λ old. option_map_or (next old) targets.second NoPath) targets.first NoPath

module _ {X : Type 0} (table : List Row) (pid : ℕ) (s : State ℕ X) where
  abbrev pub place_of_descriptor : Option ℕ → Result (Place ℕ) Errno
  place_of_descriptor None = Err EBADF
  place_of_descriptor (Some fd) = option_map_or place_of_open (opened pid fd s) (Err EBADF)

  -- where a path begins: an absolute one at the root, whatever its descriptor is
  abbrev pub base_of : PathUse → Result (Place ℕ) Errno
  base_of u =
      if is_absolute u.text then Ok (root_place table)
      else if is_working_directory u.dirfd then option_map_or (λ p. Ok p) (cwd_of pid s) (Err ENOENT)
      else place_of_descriptor (descriptor_number u.dirfd)

  -- an empty path stands for a descriptor, and isn't walked
  abbrev pub walked : PathUse → List ℕ → Result (Option PlaceTarget) Errno
  walked u [] = Ok None
  walked u (b ∷ path) = and_then (base_of u) (λ base. and_then (place_walk (around_of table pid s) u.mode base (b ∷ path)).answer (λ target. Ok (Some target)))

  abbrev pub target_at : Option PathUse → Result (Option PlaceTarget) Errno
  target_at None = Ok None
  target_at (Some u) = walked u u.text

  -- the first path before the second
  abbrev pub targets_of : Request → Result Targets Errno
  targets_of r = and_then (target_at (path_at r 0)) (λ first. and_then (target_at (path_at r 1)) (λ second. Ok (record { first = first; second = second })))

  -- ---- what is told of a target

  -- of the source of a mount that is no directory the entry at which it was settled
  abbrev pub entry_of : PlaceTarget → Place ℕ → ℕ × List ℕ
  entry_of target p = option_map_or (λ e. e) (source table p.mount) (inode_of target.dir.host, target.name)

  abbrev pub looked_at : PlaceTarget → Place ℕ → Looked
  looked_at target p = record { host = p.host; entry = (if is_directory_at s.tree p.host then None else Some (entry_of target p)) }

  -- a look-up that succeeds has found something
  abbrev pub if_found : PlaceTarget → (Looked → Seen) → Seen
  if_found target next = option_map_or (λ p. next (looked_at target p)) target.found (WalkFails ENOENT)

  abbrev pub taken_at : PlaceTarget → Taken
  taken_at target =
      if_name target.last (if is_covered table target.dir.host target.name then TakesCovered else Takes (entered target)) (TakesNoName target.last)

  abbrev pub made_at : PlaceTarget → Made
  made_at target =
      if_name target.last (if is_there target.found then MakesOver else Makes target.dir.host target.name target.slash) (MakesNoName target.last)

  -- a file that may be made
  abbrev pub created_at : PlaceTarget → Opening
  created_at target =
      if_name target.last
      (if target.slash then OpensSlashed else option_map_or (λ p. OpensFound (looked_at target p)) target.found (OpensNew target.dir.host target.name))
      (OpensNoName target.last)

  abbrev pub opened_at : ℕ → PlaceTarget → Seen
  opened_at flags target = if creates flags then Opens (created_at target) else if_found target (λ l. Opens (OpensFound l))

  -- the text of a link of the process directory; that of a link of the tree is in the tree
  abbrev pub text_at : Host → Option (List ℕ)
  text_at (Node i) = None
  text_at (Proc i at) = link_text table s pid at

  -- linkat compares the mount of what was found with that of the new directory
  abbrev pub linked_at : PlaceTarget → PlaceTarget → Seen
  linked_at old new = if_found old (λ l. Links l (made_at new) (option_map_or (λ m. m == new.dir.mount) (mount_found old) false))

  abbrev pub moved_at : PlaceTarget → PlaceTarget → Seen
  moved_at old new = Moves (taken_at old) (taken_at new) (old.dir.mount == new.dir.mount)

  -- ---- what a call is told

  abbrev pub looks_up : Targets → Seen
  looks_up targets = of_one targets (λ target. if_found target LooksUp)

  abbrev pub told_by : Told → Targets → Seen
  told_by ToldNothing targets = NoPath
  told_by (LooksAt how u) targets = looks_up targets
  told_by (ReadsLinkAt u) targets = of_one targets (λ target. if_found target (λ l. ReadsLink l (text_at l.host)))
  told_by (OpensAt flags u) targets = of_one targets (opened_at flags)
  told_by (TakesAt u) targets = of_one targets (λ target. TakesEntry (taken_at target))
  told_by (MakesAt u) targets = of_one targets (λ target. MakesEntry (made_at target))
  told_by (LinksTwo how old new) targets = of_two targets linked_at
  told_by (MovesTwo old new) targets = of_two targets moved_at
  told_by NamesHere targets = NamesDirectory (option_and_then (λ p. name_text (space_of table s) p 0 []) (cwd_of pid s))

  -- as its line in the table says
  abbrev pub told : Request → Targets → Seen
  told r targets = told_by (line r).told targets

  abbrev pub seen_of : Request → Result Targets Errno → Seen
  seen_of r (Ok targets) = told r targets
  seen_of r (Err e) = WalkFails e

  abbrev pub seen : Request → Seen
  seen r = seen_of r (targets_of r)

-- the mounts that the changes of a call may name
abbrev pub mounts_of : Targets → Mounts ℕ
mounts_of targets = record {
  found = option_and_then (λ t. option_map (λ p. p.mount) t.found) targets.first;
  directory = option_map (λ t. t.dir.mount) targets.first;
}
