-- What a tracer puts in place of the paths of a calm call is no longer than the plain kernel takes.
use Rattle.std.specs.Prelude.{◌≡◌, ◌≤◌, ◌⊎◌, ℕ, List, length, Option, Some, None}
use Rattle.law_edits.specs.pr_base.declared.errno.Errno.TheVariants.{ENAMETOOLONG}
use Rattle.law_edits.specs.pt_args.Edits.{longest_path}
use Rattle.law_edits.specs.pt_args.declared.edit.Edit.TheVariants.{Cancel}
use Rattle.law_edits.specs.pt_bind.Tags.{TagTable}
use Rattle.law_edits.specs.kr_calls.PathTable.{PathUse, path_at}
use Rattle.law_edits.specs.kr_calls.declared.request.Request.{Request}
use Rattle.law_places.specs.kr_view.View.{Row}
use Rattle.law_places.specs.kr_model.Known.{known}
use Rattle.law_places.specs.kr_model.Operation.{operation}
use Rattle.law_places.specs.kr_model.Reply.{refuse}
use Rattle.law_places.specs.kr_model.Seen.{WalkFails}
use Rattle.law_places.specs.kr_model.State.{Image, State, image_layout}
use Rattle.law_places.specs.kr_model.Walks.{seen}
use Rattle.law_places.specs.kr_calm.Rules.{longest_name}
use Rattle.law_places.specs.kr_seen.CallWalks.{call_reach}
use Rattle.law_edits.specs.kr_turns.Breaking.{nothing_reached}
use Rattle.law_plans.specs.Plans.{Cancelling, IsEdit, IsPlanned, Passing, PlanAgrees, Swapping, shelved_texts}
use Rattle.law_edits.specs.Requests.{NewText}

-- ---- texts

abbrev pub IsShort : NewText → Type 0
IsShort n = length n.text ≤ longest_path

abbrev pub IsShortIfAny : Option NewText → Type 0
IsShortIfAny None = Unit {0}
IsShortIfAny (Some n) = IsShort n

module _ (table : List Row) (tags : TagTable) (s w : State ℕ Image) (pid : ℕ) (r : Request) where
  -- a call of which no path leads to a host name of more than 4,000 bytes
  abbrev pub ReachesNoLongName : Type 0
  ReachesNoLongName = (call_reach table pid s r nothing_reached).longest ≤ longest_name

  -- the call is cancelled since a name is too long, and so a walk of the kernel with mounts fails
  pub record IsTooLong : Type 0 where
    pub edit : IsEdit table tags s w pid r (λ sp usable. Cancel ENAMETOOLONG)
    pub refused : operation pid r (seen table pid s r) (known image_layout pid s) ≡ refuse ENAMETOOLONG
    pub lost : seen table pid s r ≡ WalkFails ENAMETOOLONG

  -- the texts that a plan puts in place of paths are short
  abbrev pub IsShortPlan : PlanAgrees table tags s w pid r → Type 0
  IsShortPlan (Passing edit passed) = Unit {0}
  IsShortPlan (Swapping first second edit swapped) = IsShort first × IsShortIfAny second
  IsShortPlan (Cancelling e edit refused lost) = Unit {0}

-- ---- laws

-- texts that are shelved in place of paths are short. An edit that is a cancellation with ENAMETOOLONG looks like one of longer texts
abbrev pub ShelvedTextsAreShort : Type 0
ShelvedTextsAreShort =
    (table : List Row) (tags : TagTable) (s w : State ℕ Image) (pid : ℕ) (r : Request) (u : PathUse) (first : NewText) (second : Option NewText) → IsPlanned table tags s w pid r → path_at r 0 ≡ Some u
    → ReachesNoLongName table tags s w pid r → IsEdit table tags s w pid r (shelved_texts table tags s w pid r first second)
    → (IsShort first × IsShortIfAny second) ⊎ IsTooLong table tags s w pid r

-- so there is a plan that agrees, with short texts
abbrev pub PlansAreShort : Type 0
PlansAreShort =
    (table : List Row) (tags : TagTable) (s w : State ℕ Image) (pid : ℕ) (r : Request) (u : PathUse) → IsPlanned table tags s w pid r → path_at r 0 ≡ Some u
    → ReachesNoLongName table tags s w pid r → (plan : PlanAgrees table tags s w pid r) × IsShortPlan table tags s w pid r plan
