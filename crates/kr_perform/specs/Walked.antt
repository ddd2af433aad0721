-- What calls rest on, of what the walks of their paths lead to over a lawful state.
use Rattle.std.specs.Prelude.{ℕ, ◌≡◌, List, Some, Ok}
use Rattle.law_allowed.specs.kr_calls.PathTable.{PathUse, path_at}
use Rattle.law_allowed.specs.kr_calls.declared.request.Request.{Request}
use Rattle.law_allowed.specs.kr_tree.Lawful.{AreBytes}
use Rattle.law_allowed.specs.kr_view.View.{Row}
use Rattle.law_allowed.specs.kr_model.Lawful.{IsLawful}
use Rattle.law_allowed.specs.kr_model.Walks.{targets_of, told}
use Rattle.law_allowed.specs.Texts.{IsText, LinksHaveTexts}
use Rattle.law_allowed.specs.Calls.{IsToldIn}
use Rattle.law_allowed.specs.Told.{SourcesAreNamed}
use Rattle.kr_rows.specs.kr_ops.declared.state.State.{State}
use Rattle.kr_rows.specs.kr_ops.Meaning.{meaning}
use Rattle.kr_transfer.specs.kr_seen.Numbered.{state_numbered}
use Rattle.kr_transfer.specs.kr_seen.CallWalks.{AreTargets}
use Rattle.kr_transfer.specs.kr_seen.declared.walks.Targets.{Targets}
use Rattle.kr_perform.specs.Operating.{mounts_at, placed_targets}

-- what a call is told of the targets to which its paths were walked is so, in the mounts of the machine: where paths are texts of
-- bytes, links have texts, and the sources of mounts that are files have names
abbrev pub ResolvedAreTold : Type 0 → ℕ → Type 0
ResolvedAreTold T M =
    (number : T → ℕ) (table : List Row) (pid : ℕ) (s : State T M) (request : Request) (targets : Targets T) → IsLawful number table (meaning s) → LinksHaveTexts s.tree
    → ((k : ℕ) (u : PathUse) → path_at request k ≡ Some u → IsText u.text × AreBytes u.text) → SourcesAreNamed table → AreTargets number (targets_of table pid (state_numbered number (meaning s)) request) (Ok targets)
    → IsToldIn number table (mounts_at targets.first) (meaning s).tree (told table pid (state_numbered number (meaning s)) request (placed_targets number targets.first targets.second))
