-- The six calm rules. A run that keeps them is one on which a kernel with mounts and a tracer agree. Each rule is a test of what
-- one turn did: of the caller's memory, of where the paths of its call lead, of the changes that were really made, and of what its
-- walks reached.
use Rattle.std.specs.Prelude.{ℕ, ◌==◌, Bool, true, false, ◌||◌, ◌&&◌, not, bytes_eq, nat_lt, List, [], ◌∷◌, Result, Ok, Err}
use Rattle.std.specs.List.{list_any}
use Rattle.std.specs.Option.{option_map_or}
use Rattle.kr_seen.specs.pr_base.declared.errno.Errno.{Errno}
use Rattle.kr_seen.specs.rv_mem.Memory.{Memory}
use Rattle.kr_seen.specs.kr_inode.declared.user.Right.TheVariants.{Search}
use Rattle.kr_seen.specs.kr_calls.declared.request.Request.{Request}
use Rattle.kr_seen.specs.kr_calls.declared.request.Request.TheVariants as call
use Rattle.kr_seen.specs.kr_tree.Rights.{may}
use Rattle.kr_seen.specs.kr_tree.Tree.{Tree, body_is, entry, is_directory}
use Rattle.kr_seen.specs.kr_tree.declared.place.Host.{Host}
use Rattle.kr_seen.specs.kr_view.declared.target.Reach.{Reach}
use Rattle.kr_seen.specs.kr_view.View.{Point, Row}
use Rattle.kr_seen.specs.kr_view.Walk.{PlaceTarget}
use Rattle.kr_seen.specs.kr_model.Applied.{Computing, Mounts, applied}
use Rattle.kr_seen.specs.kr_model.Change.{Change, End, MoveName, RemoveName, SetMode, SetOwner}
use Rattle.kr_seen.specs.kr_model.State.{State, inode_of}
use Rattle.kr_seen.specs.kr_model.Walks.{Targets, mount_found}
use Rattle.kr_calm.specs.Above.{is_at_or_below}
use Rattle.kr_calm.specs.InUse.{is_directory_of, is_in_use, is_remembered}

-- ---- rule 1: no marked byte is read, and each call with a path has a shelf

-- the memory is the caller's after all that was read of it in the turn, by instructions, by decoding and by the call, and before
-- its changes, which may put another in its place
abbrev pub breaks_1 : Memory → Bool → Bool
breaks_1 memory no_shelf = memory.read_marked || no_shelf

-- ---- rule 2: no link and no rename leads from mount to mount, and no rename from below one source or mount point to below another

-- a source that is no directory has none below it
abbrev pub is_below_source : Tree → ℕ → Row → Bool
is_below_source t dir r = is_at_or_below t r.source dir

-- the host name of a mount point: the entry that the mount covers
abbrev pub is_below_entry : Tree → ℕ → Point → Bool
is_below_entry t dir p = option_map_or (λ i. is_at_or_below t i dir) (entry t p.dir p.name) false

abbrev pub is_below_point : Tree → ℕ → Row → Bool
is_below_point t dir r = option_map_or (is_below_entry t dir) r.point false

abbrev pub differ : Bool → Bool → Bool
differ true b = not b
differ false b = b

-- whether one of two directories lies below a row's source and the other doesn't, or so of its mount point. A directory lies below
-- itself
abbrev pub is_between : Tree → ℕ → ℕ → Row → Bool
is_between t a b r = differ (is_below_source t a r) (is_below_source t b r) || differ (is_below_point t a r) (is_below_point t b r)

-- what stands in the process directory lies where that lies
abbrev pub are_parted : List Row → Tree → Host → Host → Bool
are_parted table t a b = list_any (is_between t (inode_of a) (inode_of b)) table

-- the mount of what was found, and that of the new directory
abbrev pub link_crosses : PlaceTarget → PlaceTarget → Bool
link_crosses old new = option_map_or (λ m. not (m == new.dir.mount)) (mount_found old) false

abbrev pub rename_crosses : List Row → Tree → PlaceTarget → PlaceTarget → Bool
rename_crosses table t old new = not (old.dir.mount == new.dir.mount) || are_parted table t old.dir.host new.dir.host

abbrev pub of_both : Targets → (PlaceTarget → PlaceTarget → Bool) → Bool
of_both targets test = option_map_or (λ old. option_map_or (test old) targets.second false) targets.first false

abbrev pub crosses : List Row → Tree → Request → Targets → Bool
crosses table t (call.Linkat olddir old newdir new flags) targets = of_both targets link_crosses
crosses table t (call.Renameat2 olddir old newdir new) targets = of_both targets (rename_crosses table t)
crosses table t _ targets = false

-- whatever the call answers, where both its walks succeed
abbrev pub breaks_2 : List Row → Tree → Request → Result Targets Errno → Bool
breaks_2 table t request (Ok targets) = crosses table t request targets
breaks_2 table t request (Err e) = false

-- ---- rule 3: no binding's source is taken away, and no directory is renamed that stands above a source or a mount point

-- by the host directory and name at which it was settled: another name of a file isn't that of the source
abbrev pub is_named : ℕ → List ℕ → Row → Bool
is_named dir name r = r.source_dir == dir && bytes_eq r.source_name name

abbrev pub names_source : List Row → ℕ → List ℕ → Bool
names_source table dir name = list_any (is_named dir name) table

abbrev pub is_above_point : Tree → ℕ → Row → Bool
is_above_point t i r = option_map_or (λ p. is_at_or_below t i p.dir) r.point false

abbrev pub is_above_row : Tree → ℕ → Row → Bool
is_above_row t i r = is_at_or_below t i r.source_dir || is_above_point t i r

abbrev pub is_above_rows : List Row → Tree → ℕ → Bool
is_above_rows table t i = list_any (is_above_row t i) table

-- an entry, if it is there
abbrev pub of_entry : Tree → ℕ → List ℕ → (ℕ → Bool) → Bool
of_entry t dir name test = option_map_or test (entry t dir name) false

-- a rename takes away what it moves, and what it replaces
abbrev pub breaks_3 : List Row → Tree → Change → Bool
breaks_3 table t (RemoveName dir name) = names_source table dir name
breaks_3 table t (MoveName dir name to new) = names_source table dir name || names_source table to new || of_entry t dir name (is_above_rows table t)
breaks_3 table t _ = false

-- ---- rule 4: no directory in use, and none above one, moves or is removed

module _ {M X : Type 0} where
  abbrev pub is_above_use : State M X → ℕ → Bool
  is_above_use s i = is_in_use (λ host. is_at_or_below s.tree i (inode_of host)) s

  -- whether a name goes that leads to a directory in use, or to one above it
  abbrev pub takes_in_use : State M X → Change → Bool
  takes_in_use s (RemoveName dir name) = of_entry s.tree dir name (is_above_use s)
  takes_in_use s (MoveName dir name to new) = of_entry s.tree dir name (is_above_use s) || of_entry s.tree to new (is_above_use s)
  takes_in_use s _ = false

  -- the second state is that after the change. A process that ends removes its own directories in the process directory; it is
  -- judged when it uses none itself any more
  abbrev pub breaks_4 : ℕ → State M X → Change → State M X → Bool
  breaks_4 pid s (End status) after = is_in_use (is_directory_of pid) after
  breaks_4 pid s c after = takes_in_use s c

-- ---- rule 5: no directory loses search that is in use or bound, or that stands above such a one or above a binding's source

-- by host names above a source, and a source itself
abbrev pub is_above_source : Tree → ℕ → Row → Bool
is_above_source t i r = is_at_or_below t i r.source || is_at_or_below t i r.source_dir

-- by guest names above a directory that is bound: from the directory of its mount point on
abbrev pub is_above_mount : Tree → ℕ → Row → Bool
is_above_mount t i r = body_is is_directory t r.source && is_above_point t i r

abbrev pub serves_row : Tree → ℕ → Row → Bool
serves_row t i r = is_above_source t i r || is_above_mount t i r

module _ {M X : Type 0} where
  -- in this rule alone the directory that holds the name of an open file or of an executable counts as in use, since a process link
  -- leads there
  abbrev pub serves_use : State M X → ℕ → Bool
  serves_use s i = is_above_use s i || is_remembered (is_at_or_below s.tree i) s

  -- Guest names lead up from a directory in use to the source of its mount, by host names, and from there to the directory of the
  -- mount point. Each mount in which a directory lies is a directory that is bound; so what stands above by guest names stands above
  -- by host names, or above a mount
  abbrev pub serves : List Row → State M X → ℕ → Bool
  serves table s i = body_is is_directory s.tree i && (list_any (serves_row s.tree i) table || serves_use s i)

  abbrev pub loses_search : State M X → ℕ → State M X → Bool
  loses_search s i after = may s.tree s.user i Search && not (may after.tree s.user i Search)

  abbrev pub shuts : List Row → State M X → ℕ → State M X → Bool
  shuts table s i after = loses_search s i after && serves table s i

  -- search is lost by a change of the mode or of the owner alone
  abbrev pub breaks_5 : List Row → State M X → Change → State M X → Bool
  breaks_5 table s (SetMode i mode) after = shuts table s i after
  breaks_5 table s (SetOwner i uid gid) after = shuts table s i after
  breaks_5 table s _ after = false

-- ---- rule 6: every host name that a walk reaches has at most 4,000 bytes

abbrev pub longest_name : ℕ
longest_name = 4000

abbrev pub breaks_6 : Reach → Bool
breaks_6 reach = nat_lt longest_name reach.longest

-- ---- changes in their order

module _ {M X : Type 0} (computing : Computing X) (mounts : Mounts M) (pid : ℕ) where
  -- whether one of them is judged so, each between the states before it and after it
  abbrev pub any_change : (State M X → Change → State M X → Bool) → List Change → State M X → Bool
  any_change test [] s = false
  any_change test (c ∷ cs) s = test s c (applied computing mounts pid c s) || any_change test cs (applied computing mounts pid c s)

  abbrev pub changes_break_3 : List Row → List Change → State M X → Bool
  changes_break_3 table cs s = any_change (λ s c after. breaks_3 table s.tree c) cs s

  abbrev pub changes_break_4 : List Change → State M X → Bool
  changes_break_4 cs s = any_change (breaks_4 pid) cs s

  abbrev pub changes_break_5 : List Row → List Change → State M X → Bool
  changes_break_5 table cs s = any_change (breaks_5 table) cs s
