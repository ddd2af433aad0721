-- Calls over a state of which the mounts are numbers, with the targets of their paths.
use Rattle.std.specs.Prelude.{ℕ, ◌≡◌, Bool, true, false, List, Some, None, Result, Ok, Err}
use Rattle.law_lawful.specs.pr_base.declared.errno.Errno.{Errno}
use Rattle.law_lawful.specs.pr_base.declared.path.Last.TheVariants as last
use Rattle.law_lawful.specs.pr_base.declared.path.WalkMode.{WalkMode}
use Rattle.law_lawful.specs.pr_base.declared.path.WalkMode.TheVariants.{Name as NameMode}
use Rattle.law_lawful.specs.rv_mem.Actions.{carried_out}
use Rattle.law_lawful.specs.kr_calls.CallTable.{Told as WayTold, TakesAt, MovesTwo, line}
use Rattle.law_lawful.specs.kr_calls.declared.request.Request.{Request}
use Rattle.law_lawful.specs.kr_tree.Tree.{Tree, entry, body_is, takes_names}
use Rattle.law_lawful.specs.kr_tree.declared.place.Host.TheVariants.{Node}
use Rattle.law_lawful.specs.kr_tree.declared.place.Place.{Place}
use Rattle.law_lawful.specs.kr_view.View.{Row, covered, source, IsAsSettled}
use Rattle.law_lawful.specs.kr_tree.Lawful.{AreBytes}
use Rattle.law_lawful.specs.kr_tree.Names.{is_name}
use Rattle.law_lawful.specs.kr_view.Component.{Surroundings, is_directory_at}
use Rattle.law_lawful.specs.kr_view.InTree.{IsPlaceOf, LeadToPlaces, StandsAround}
use Rattle.law_lawful.specs.kr_view.Walk.{PlaceTarget, place_walk}
use Rattle.law_lawful.specs.kr_model.Applied.{Mounts}
use Rattle.law_lawful.specs.kr_model.Known.{known}
use Rattle.law_lawful.specs.kr_model.Lawful.{IsLawful, IsNameOrNone}
use Rattle.law_lawful.specs.kr_model.Operation.{IsNoExec, operation}
use Rattle.law_lawful.specs.kr_model.ProcessDirectory.{leads_of}
use Rattle.law_lawful.specs.kr_model.State.{Image, image_layout, Process, State, process}
use Rattle.law_lawful.specs.kr_model.Walks.{Targets, mounts_of, targets_of, told, seen}
use Rattle.law_allowed.specs.Allowed.{HoldsBytes, LeavesLawful}
use Rattle.law_allowed.specs.Calls.{IsGivable, IsToldIn}
use Rattle.law_allowed.specs.Resting.{HasSmallNumbers, IsFreeIn}

-- what a walk over a lawful state gives of its target
pub record IsTargetIn (t : Tree) (table : List Row) (target : PlaceTarget) : Type 0 where
  -- what was found is a place of the view, and where nothing was, the directory is one
  pub found : (p : Place ℕ) → target.found ≡ Some p → IsPlaceOf t table p
  pub directory : target.found ≡ None → IsPlaceOf t table target.dir
  -- a name under which nothing was found is free
  pub free : target.last ≡ last.Name → target.found ≡ None → IsFreeIn t target.dir.host target.name
  -- a file has a well-formed name, or remembers none
  pub remembered : (p : Place ℕ) → target.found ≡ Some p → is_directory_at t p.host ≡ false → IsNameOrNone target.name

-- what was found under a name at which no mount stands is the entry of that name; so it is where the path's last component
-- wasn't followed
abbrev pub IsEntryOf : Tree → List Row → PlaceTarget → Type 0
IsEntryOf t table target =
    (dir : ℕ) (p : Place ℕ) → target.last ≡ last.Name → target.dir.host ≡ Node dir → body_is takes_names t dir ≡ true → covered table dir target.name ≡ false → target.found ≡ Some p
    → (own : ℕ) × (p.host ≡ Node own) × (entry t dir target.name ≡ Some own)

-- what is told of entries that go or move; the last components of such paths aren't followed
abbrev pub takes_of : WayTold → Bool
takes_of (TakesAt at) = true
takes_of (MovesTwo old new) = true
takes_of _ = false

-- whether a call takes entries away or moves them
abbrev pub takes_entries : Request → Bool
takes_entries r = takes_of (line r).told

pub record AreTargetsIn (t : Tree) (table : List Row) (r : Request) (targets : Targets) : Type 0 where
  pub first : (target : PlaceTarget) → targets.first ≡ Some target → IsTargetIn t table target
  pub second : (target : PlaceTarget) → targets.second ≡ Some target → IsTargetIn t table target
  pub first_entry : takes_entries r ≡ true → (target : PlaceTarget) → targets.first ≡ Some target → IsEntryOf t table target
  pub second_entry : takes_entries r ≡ true → (target : PlaceTarget) → targets.second ≡ Some target → IsEntryOf t table target

-- the sources of mounts that are files were settled at well-formed names, or at none
abbrev pub SourcesAreNamed : List Row → Type 0
SourcesAreNamed table = (mount : ℕ) (e : ℕ × List ℕ) → source table mount ≡ Some e → IsNameOrNone e.1

-- so they are in a table as it was settled
abbrev pub SettledAreNamed : Type 0
SettledAreNamed = (t : Tree) (table : List Row) → IsAsSettled t table → SourcesAreNamed table

-- what is told of such targets is so, in the mounts that the changes may name
abbrev pub TargetsAreTold : Type 0
TargetsAreTold =
    (table : List Row) (pid : ℕ) (s : State ℕ Image) (r : Request) (targets : Targets) → SourcesAreNamed table → AreTargetsIn s.tree table r targets
    → IsToldIn (λ m. m) table (mounts_of targets) s.tree (told table pid s r targets)

-- and so a call other than execve leaves a lawful state
abbrev pub CallsLeaveLawful : Type 0
CallsLeaveLawful =
    (table : List Row) (pid : ℕ) (s : State ℕ Image) (p : Process ℕ Image) (r : Request) (targets : Targets) → IsNoExec r
    → IsLawful (λ m. m) table s → process pid s ≡ Some p → HoldsBytes p.image.memory.pages → HasSmallNumbers s.tree s.next_pid → IsGivable r
    → SourcesAreNamed table → AreTargetsIn s.tree table r targets
    → LeavesLawful (λ m. m) table (mounts_of targets) pid s (carried_out (operation pid r (told table pid s r targets) (known image_layout pid s)) p.image.memory)

-- ---- what walks give

-- the name of a target is well-formed where it is free, and where it is that of a file
pub record HasGoodName (t : Tree) (target : PlaceTarget) : Type 0 where
  pub free : target.last ≡ last.Name → target.found ≡ None → (is_name target.name ≡ true) × AreBytes target.name
  pub remembered : (p : Place ℕ) → target.found ≡ Some p → is_directory_at t p.host ≡ false → IsNameOrNone target.name

-- a walk over what stands gives such targets, where their names are good; and an entry where a name was walked to, of which the
-- last component isn't followed
pub record WalksGiveTargets : Type 0 where
  pub targets : (around : Surroundings) (mode : WalkMode) (base : Place ℕ) (path : List ℕ) (target : PlaceTarget) → StandsAround around base → (place_walk around mode base path).answer ≡ Ok target
      → HasGoodName around.space.tree target → IsTargetIn around.space.tree around.space.table target
  pub entries : (around : Surroundings) (base : Place ℕ) (path : List ℕ) (target : PlaceTarget) → StandsAround around base → (place_walk around NameMode base path).answer ≡ Ok target
      → IsEntryOf around.space.tree around.space.table target

-- the names of a call's targets are good
pub record AreGoodTargets (t : Tree) (targets : Targets) : Type 0 where
  pub first : (target : PlaceTarget) → targets.first ≡ Some target → HasGoodName t target
  pub second : (target : PlaceTarget) → targets.second ≡ Some target → HasGoodName t target

-- the walks of a call over a lawful state, whose process links lead to places of the view, give such targets
abbrev pub CallsWalkToTargets : Type 0
CallsWalkToTargets =
    (table : List Row) (pid : ℕ) (s : State ℕ Image) (r : Request) (targets : Targets) → IsLawful (λ m. m) table s → LeadToPlaces s.tree table (leads_of table s pid)
    → targets_of table pid s r ≡ Ok targets → AreGoodTargets s.tree targets → AreTargetsIn s.tree table r targets

-- ---- a call with its walks

-- the mounts of the first path's target; a call of which a walk fails names none
abbrev pub mounts_walked : Result Targets Errno → Mounts ℕ
mounts_walked (Ok targets) = mounts_of targets
mounts_walked (Err e) = record { found = None; directory = None }

-- a call other than execve on a lawful state leaves one, whatever its walks come to
abbrev pub WalkedCallsLeaveLawful : Type 0
WalkedCallsLeaveLawful =
    (table : List Row) (pid : ℕ) (s : State ℕ Image) (p : Process ℕ Image) (r : Request) → IsNoExec r
    → IsLawful (λ m. m) table s → process pid s ≡ Some p → HoldsBytes p.image.memory.pages → HasSmallNumbers s.tree s.next_pid → IsGivable r
    → SourcesAreNamed table → LeadToPlaces s.tree table (leads_of table s pid) → ((targets : Targets) → targets_of table pid s r ≡ Ok targets → AreGoodTargets s.tree targets)
    → LeavesLawful (λ m. m) table (mounts_walked (targets_of table pid s r)) pid s (carried_out (operation pid r (seen table pid s r) (known image_layout pid s)) p.image.memory)
