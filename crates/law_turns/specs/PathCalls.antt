-- Calls with a path: what they bring into use, where they move names, and what they make of tags.
use Rattle.std.specs.Prelude.{◌≡◌, ℕ, Bool, List, ◌∷◌, None, Ok, Some}
use Rattle.std.specs.Int.{cast_signed, cast_unsigned, w64}
use Rattle.std.specs.Option.{option_map_or}
use Rattle.kr_core.specs.pr_base.Texts.{Text}
use Rattle.kr_core.specs.pr_base.WalkFrame.{Target}
use Rattle.kr_core.specs.pr_base.declared.path.Last.TheVariants as last
use Rattle.kr_core.specs.pr_base.declared.path.WalkMode.{WalkMode}
use Rattle.pt_results.specs.pt_bind.Binding.{index_of}
use Rattle.pt_results.specs.pt_bind.Tags.{TagTable}
use Rattle.pt_results.specs.Notes.{noted, tags_after}
use Rattle.kr_core.specs.kr_tree.declared.place.Place.{Place}
use Rattle.law_places.specs.kr_view.View.{Row, plain}
use Rattle.law_places.specs.kr_view.Walk.{PlaceTarget}
use Rattle.law_places.specs.kr_mounts.Standing.{texts_of}
use Rattle.pt_results.specs.kr_calls.CallTable.{Told, ToldNothing, line}
use Rattle.pt_results.specs.kr_calls.declared.request.Request.{Request}
use Rattle.pt_results.specs.kr_calls.declared.request.Request.TheVariants as call
use Rattle.law_places.specs.kr_model.Applied.{Mounts}
use Rattle.law_places.specs.kr_model.Bare.{bare_mounts}
use Rattle.law_places.specs.kr_model.Change.{Change}
use Rattle.law_places.specs.kr_model.Seen.{Seen}
use Rattle.law_places.specs.kr_model.State.{Image, Process, State}
use Rattle.law_places.specs.kr_model.Walks.{Targets, seen, targets_of}
use Rattle.law_places.specs.kr_model.declared.outcome.Outcome.{Outcome}
use Rattle.law_places.specs.kr_model.declared.outcome.Outcome.TheVariants.{Answer, Wait, Ended, NoMemory}
use Rattle.kr_core.specs.law_allowed.Allowed.{LeavesLawful}
use Rattle.kr_core.specs.law_allowed.Told.{mounts_walked}
use Rattle.kr_core.specs.kr_turns.Breaking.{plain_rule}
use Rattle.law_places.specs.law_walks.Handed.{BothEnd}
use Rattle.law_places.specs.law_walks.Scene.{Scene}
use Rattle.law_places.specs.Changes.{NewPlacesStand}
use Rattle.law_places.specs.Matching.{AreTagged, index_at}
use Rattle.law_places.specs.Standing.{PlacesStand}
use Rattle.law_places.specs.Keeping.{MovesStayInside}
use Rattle.law_turns.specs.Calls.{decoded_by, decoded_in}
use Rattle.law_turns.specs.Changing.{all_tags_made}
use Rattle.law_turns.specs.Lasting.{CanBeCalled}
use Rattle.law_turns.specs.Operating.{IsCalmCall, done_in, written_in}

-- a way of being told that tells of a path; or of a name, as getcwd(2) is told
abbrev pub TellsPath : Told → Type 0
TellsPath ToldNothing = ⊥
TellsPath _ = Unit {0}

-- calls whose lines say so, other than execve(2)
abbrev pub HasPath : Request → Type 0
HasPath (call.Execve path args env) = ⊥
HasPath r = TellsPath (line r).told

-- ---- a call of a process that lives, behind its decoding

module _ (table : List Row) (pid : ℕ) (s : State ℕ Image) (p : Process ℕ Image) (r : Request) where
  abbrev pub told_at : Seen
  told_at = seen table pid (decoded_in pid p s) r

  abbrev pub mounts_at : Mounts ℕ
  mounts_at = mounts_walked (targets_of table pid (decoded_in pid p s) r)

  -- the state before its changes, and these
  abbrev pub written_at : State ℕ Image
  written_at = written_in pid r told_at (decoded_in pid p s)

  abbrev pub changes_at : List Change
  changes_at = (done_in pid r told_at (decoded_in pid p s)).reply.changes

  abbrev pub outcome_at : Outcome
  outcome_at = (done_in pid r told_at (decoded_in pid p s)).reply.outcome

-- in a state where all places stand and each slot's tag is the index of its mount, such a call can be made
pub record CallsPath (table : List Row) (made pid : ℕ) (s : State ℕ Image) (p : Process ℕ Image) (tags : TagTable) (r : Request) : Type 0 where
  pub placed : PlacesStand table s
  pub tagged : AreTagged table s tags
  pub can : CanBeCalled table made pid s p
  pub decoded : (decoded_by p).reply ≡ Ok r
  pub kind : HasPath r

-- ---- laws

-- what it brings into use stands before it
abbrev pub PathCallsBringStanding : Type 0
PathCallsBringStanding =
    (table : List Row) (made pid : ℕ) (s : State ℕ Image) (p : Process ℕ Image) (tags : TagTable) (r : Request) → CallsPath table made pid s p tags r
    → NewPlacesStand table (mounts_at table pid s p r) pid (written_at table pid s p r) (changes_at table pid s p r)

-- a calm one moves names inside alone
abbrev pub PathCallsMoveInside : Type 0
PathCallsMoveInside =
    (table : List Row) (made pid : ℕ) (no_shelf : Bool) (s : State ℕ Image) (p : Process ℕ Image) (tags : TagTable) (r : Request) → CallsPath table made pid s p tags r → plain_rule 1 table pid no_shelf s ≡ None
    → MovesStayInside table (mounts_at table pid s p r) pid (written_at table pid s p r) (changes_at table pid s p r)

-- and so it is what a call must be that keeps a match, where on the plain kernel it names the same mounts and is allowed
abbrev pub PathCallsAreCalm : Type 0
PathCallsAreCalm =
    (table : List Row) (made pid : ℕ) (no_shelf : Bool) (s w : State ℕ Image) (p : Process ℕ Image) (tags : TagTable) (r : Request) (others : Mounts ℕ)
    → CallsPath table made pid s p tags r → plain_rule 1 table pid no_shelf s ≡ None → bare_mounts (mounts_at table pid s p r) ≡ bare_mounts others
    → LeavesLawful (λ m. m) plain others pid w (done_in pid r (told_at table pid s p r) w)
    → IsCalmCall pid r (told_at table pid s p r) table (mounts_at table pid s p r) others (decoded_in pid p s) w

-- ---- tags

-- the mount of what a walk found, or of the directory in which nothing was
abbrev pub mount_come_to : PlaceTarget → ℕ
mount_come_to target = option_map_or (λ p. p.mount) target.found target.dir.mount

-- an index is that of the mount to which the first path leads, if it leads anywhere
abbrev pub IsIndexWalked : List Row → ℕ → State ℕ Image → Request → ℕ → Type 0
IsIndexWalked table pid at r index = (targets : Targets) (target : PlaceTarget) → targets_of table pid at r ≡ Ok targets → targets.first ≡ Some target → index ≡ index_at table (mount_come_to target)

-- the tags behind the note of an outcome. An answer stands in a0, and is read with its sign
abbrev pub tags_noted : ℕ → Request → ℕ → Outcome → TagTable → TagTable
tags_noted pid r index (Answer value) tags = tags_after tags pid (noted r index (cast_signed w64 (cast_unsigned w64 value)))
tags_noted pid r index Wait tags = tags
tags_noted pid r index Ended tags = tags
tags_noted pid r index NoMemory tags = tags

-- what a tracer notes of such a call is what its changes make of the tags
abbrev pub PathCallsAreNoted : Type 0
PathCallsAreNoted =
    (table : List Row) (made pid : ℕ) (s : State ℕ Image) (p : Process ℕ Image) (tags : TagTable) (r : Request) (index : ℕ) → CallsPath table made pid s p tags r → IsIndexWalked table pid (decoded_in pid p s) r index
    → all_tags_made table (mounts_at table pid s p r) pid (written_at table pid s p r) (changes_at table pid s p r) tags ≡ tags_noted pid r index (outcome_at table pid s p r) tags

-- the guest text to which a walk comes is that of the mount. A name at which nothing is stands in the mount of its directory
pub record HasIndexWalked (table : List Row) (a : PlaceTarget) (b : Target Text Text) : Type 0 where
  pub found : (p : Place ℕ) (u : Text) → a.found ≡ Some p → b.found ≡ Some u → index_of (texts_of table) u ≡ index_at table (mount_come_to a)
  pub free : a.found ≡ None → a.last ≡ last.Name → index_of (texts_of table) (b.name ∷ b.dir) ≡ index_at table (mount_come_to a)

abbrev pub TextsHaveIndices : Type 0
TextsHaveIndices = (scene : Scene) (mode : WalkMode) (base : Place ℕ) (t : Text) (path : List ℕ) (a : PlaceTarget) (b : Target Text Text) → BothEnd scene mode base t path a b → HasIndexWalked scene.around.space.table a b
