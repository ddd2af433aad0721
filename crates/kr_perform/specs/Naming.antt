-- The names of what the walks of a call lead to over a lawful state.
use Rattle.std.specs.Prelude.{ℕ, ◌≡◌, List, Some, Ok}
use Rattle.law_allowed.specs.kr_calls.PathTable.{PathUse, path_at}
use Rattle.law_allowed.specs.kr_calls.declared.request.Request.{Request}
use Rattle.law_allowed.specs.kr_tree.Lawful.{AreBytes}
use Rattle.law_allowed.specs.kr_view.View.{Row}
use Rattle.law_allowed.specs.kr_model.Lawful.{IsLawful}
use Rattle.law_allowed.specs.kr_model.State as model
use Rattle.law_allowed.specs.kr_model.State.{Image}
use Rattle.law_allowed.specs.kr_model.Walks as walks
use Rattle.law_allowed.specs.kr_model.Walks.{targets_of}
use Rattle.law_allowed.specs.Told.{AreGoodTargets}
use Rattle.law_allowed.specs.Texts.{IsText, LinksHaveTexts}

-- along paths that are texts of bytes, where links have texts, a name that is free is well-formed, and so is that of a file
abbrev pub WalksName : Type 0
WalksName =
    (table : List Row) (pid : ℕ) (s : model.State ℕ Image) (r : Request) (targets : walks.Targets) → IsLawful (λ m. m) table s → LinksHaveTexts s.tree
    → ((k : ℕ) (u : PathUse) → path_at r k ≡ Some u → IsText u.text × AreBytes u.text) → targets_of table pid s r ≡ Ok targets → AreGoodTargets s.tree targets
