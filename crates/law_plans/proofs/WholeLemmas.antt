-- Plans of all calls with paths agree.
use Rattle.std.proofs.Common.{◌≡◌, ℕ, List, Some, refl}
use Rattle.law_edits.specs.pr_base.declared.path.WalkMode.TheVariants as modes
use Rattle.law_edits.specs.pt_bind.Tags.{TagTable}
use Rattle.law_edits.specs.kr_calls.PathTable.{PathUse, path_at}
use Rattle.law_edits.specs.kr_calls.declared.request.Request.{Request}
use Rattle.law_edits.specs.kr_calls.declared.request.Request.TheVariants as call
use Rattle.law_places.specs.kr_view.View.{Row}
use Rattle.law_places.specs.kr_model.State.{Image, State}
use Rattle.law_plans.specs.Plans.{IsPlanned, PlanAgrees, PlansAgree}
use Rattle.law_plans.proofs.AllLemmas.{mode_of, one_agrees}
use Rattle.law_plans.proofs.MoveLemmas.{links_agree, moves_agree}

module _ (table : List Row) (tags : TagTable) (s w : State ℕ Image) (pid : ℕ) where
  all_agree : (r : Request) (u : PathUse) → IsPlanned table tags s w pid r → path_at r 0 ≡ Some u → PlanAgrees table tags s w pid r
  all_agree (call.Linkat olddir old newdir new flags) u h at =
      links_agree table tags s w pid olddir old newdir new flags u (record { dirfd = newdir; text = new; mode = modes.Name; register = 13 }) h at refl (mode_of _ u at) refl
  all_agree (call.Renameat2 olddir old newdir new) u h at =
      moves_agree table tags s w pid olddir old newdir new u (record { dirfd = newdir; text = new; mode = modes.Name; register = 13 }) h at refl (mode_of _ u at) refl
  all_agree _ u h at = one_agrees table tags s w pid _ u h at refl

pub plans_agree : PlansAgree
plans_agree table tags s w pid r u h at = all_agree table tags s w pid r u h at
