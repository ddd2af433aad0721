-- What calls rest on of the targets of their paths, and that walks over a lawful state give it.
use Rattle.std.specs.Prelude.{ℕ, ◌≡◌, List, Option, Some, None, Ok, IsSome}
use Rattle.law_allowed.specs.pr_base.declared.path.WalkMode.{WalkMode}
use Rattle.law_allowed.specs.pr_base.declared.path.WalkMode.TheVariants.{Name, Open}
use Rattle.law_allowed.specs.kr_calls.PathTable.{PathUse, path_at}
use Rattle.law_allowed.specs.kr_calls.declared.request.Request.{Request}
use Rattle.law_allowed.specs.kr_tree.Tree.{Tree}
use Rattle.law_allowed.specs.kr_view.View.{Row}
use Rattle.law_allowed.specs.kr_view.declared.target.Target.{Target}
use Rattle.law_allowed.specs.kr_model.Lawful.{IsLawful}
use Rattle.law_allowed.specs.kr_model.State.{process}
use Rattle.law_allowed.specs.kr_model.Walks.{targets_of}
use Rattle.kr_rows.specs.kr_ops.declared.state.State.{State}
use Rattle.kr_rows.specs.kr_ops.Meaning.{meaning}
use Rattle.kr_rows.specs.kr_ops.Sound.{IsServed}
use Rattle.kr_transfer.specs.kr_seen.Numbered.{state_numbered}
use Rattle.kr_transfer.specs.kr_seen.CallWalks.{AreTargets}
use Rattle.kr_transfer.specs.kr_seen.declared.walks.Targets.{Targets}
use Rattle.kr_transfer.specs.kr_seen.Resolved.{IsFoundIn, IsFreeIn, IsEntryIn}
pub use Rattle.law_allowed.specs.Texts.{IsText, LinksHaveTexts}

-- ---- texts

-- the texts of which a call's free names are parts: its paths, and, where a file may be made behind a last link, the texts of
-- links too
pub record AreTexts (t : Tree) (request : Request) : Type 0 where
  pub paths : (k : ℕ) (u : PathUse) → path_at request k ≡ Some u → IsText u.text
  pub links : (k : ℕ) (u : PathUse) → path_at request k ≡ Some u → u.mode ≡ Open → LinksHaveTexts t

-- ---- targets

module _ {T : Type 0} (t : Tree) (table : List Row) where
  -- of one target, by what its walk is for: where a last link isn't followed, a name that was found is an entry
  pub record IsResolved (mode : WalkMode) (target : Target T) : Type 0 where
    pub found : IsFoundIn t target
    pub free : IsFreeIn t target
    pub entry : mode ≡ Name → IsEntryIn t table target

  abbrev pub IsResolvedFor : Option PathUse → Option (Target T) → Type 0
  IsResolvedFor None target = Unit {0}
  IsResolvedFor (Some u) None = Unit {0}
  IsResolvedFor (Some u) (Some target) = IsResolved u.mode target

  -- of all targets of a call
  pub record AreResolved (request : Request) (targets : Targets T) : Type 0 where
    pub first : IsResolvedFor (path_at request 0) targets.first
    pub second : IsResolvedFor (path_at request 1) targets.second

-- so it is of every walk over a lawful state, along paths that are texts
abbrev pub WalksResolve : {T : Type 0} (M : ℕ) → (T → ℕ) → List Row → Type 0
WalksResolve {T} M number table =
    (pid : ℕ) (s : State T M) (request : Request) (targets : Targets T) → IsLawful number table (meaning s) → IsServed s → IsSome (process pid (meaning s))
    → AreTexts s.tree request → AreTargets number (targets_of table pid (state_numbered number (meaning s)) request) (Ok targets) → AreResolved s.tree table request targets
