-- What a tracer plans for a call with one path, and the targets of the paths in both kernels.
use Rattle.std.proofs.Common.{◌≡◌, ℕ, Bool, true, false, List, Option, Some, None, Result, Ok, Err, ◌⊎◌, inl, inr, refl, sym, ap, ◌∙◌}
use Rattle.std.specs.Option.{option_map}
use Rattle.law_edits.specs.pr_base.declared.errno.Errno.{Errno}
use Rattle.law_edits.specs.pr_base.declared.errno.Errno.TheVariants.{EBUSY}
use Rattle.law_edits.specs.pt_bind.Tags.{TagTable}
use Rattle.law_places.specs.pt_canon.TextWalk.{TextSurroundings}
use Rattle.law_edits.specs.pt_args.Edits.{edit_by, edit_of}
use Rattle.law_edits.specs.pt_args.Plans.{first_walked, plan_from, plan_one, second_walked}
use Rattle.law_edits.specs.pt_args.Points.{one_is_busy}
use Rattle.law_edits.specs.pt_args.Purposes.{opens, purpose_of, swap_for}
use Rattle.law_edits.specs.pt_args.Walks as traced
use Rattle.law_edits.specs.pt_args.Walks.{reached_at}
use Rattle.law_edits.specs.pt_args.declared.edit.Edit.{Edit}
use Rattle.law_edits.specs.pt_args.declared.edit.Edit.TheVariants.{Cancel}
use Rattle.law_edits.specs.pt_args.declared.purpose.Purpose.{Purpose}
use Rattle.law_edits.specs.pt_args.declared.reached.Reached.{Reached}
use Rattle.law_edits.specs.kr_calls.CallTable.{line}
use Rattle.law_edits.specs.kr_calls.PathTable.{PathUse, path_at}
use Rattle.law_edits.specs.kr_calls.declared.request.Request.{Request}
use Rattle.law_places.specs.kr_view.View.{Row, plain}
use Rattle.law_places.specs.kr_view.Walk.{PlaceTarget}
use Rattle.law_places.specs.kr_mounts.Standing.{texts_of}
use Rattle.law_places.specs.kr_model.Bare.{bare_mounts}
use Rattle.law_places.specs.kr_model.Known.{Known, known}
use Rattle.law_places.specs.kr_model.Operation.{operation}
use Rattle.law_places.specs.kr_model.Reply.{refuse}
use Rattle.law_places.specs.kr_model.State.{Image, State, image_layout}
use Rattle.law_places.specs.kr_model.Walks.{Targets, and_then, mounts_of, seen, seen_of, target_at, targets_of, told, walked}
use Rattle.law_edits.specs.law_allowed.Told.{mounts_walked}
use Rattle.law_edits.specs.kr_turns.Target.{LooksUpOne}
use Rattle.law_plans.specs.Begins.{LeadsBoth, told_texts}
use Rattle.law_plans.specs.OnePath.{IsNewText}
use Rattle.law_edits.specs.Operations.{with_path, with_path_if_any}
use Rattle.law_plans.specs.Plans.{Cancelling, IsEdit, PlanAgrees, Swapping, shelved_texts}
use Rattle.law_edits.specs.Requests.{NewText, with_first}
use Rattle.law_edits.proofs.OperationLemmas.{paths_are_swapped}

-- ---- targets

abbrev pub only : Option PlaceTarget → Targets
only target = record { first = target; second = None }

pub targets_only : (rows : List Row) (pid : ℕ) (x : State ℕ Image) (r : Request) (u : PathUse) → path_at r 0 ≡ Some u → path_at r 1 ≡ None → targets_of rows pid x r ≡ and_then (walked rows pid x u u.text) (λ first. Ok (only first))
targets_only rows pid x r u at alone =
    ap (λ o. and_then (target_at rows pid x o) (λ first. and_then (target_at rows pid x (path_at r 1)) (λ second. Ok (record { first = first; second = second })))) at
    ∙ ap (λ o. and_then (walked rows pid x u u.text) (λ first. and_then (target_at rows pid x o) (λ second. Ok (record { first = first; second = second })))) alone

pub targets_then : (rows : List Row) (pid : ℕ) (x : State ℕ Image) (r : Request) (u : PathUse) → path_at r 0 ≡ Some u → (o : Result (Option PlaceTarget) Errno) → walked rows pid x u u.text ≡ o
    → targets_of rows pid x r ≡ and_then o (λ first. and_then (target_at rows pid x (path_at r 1)) (λ second. Ok (record { first = first; second = second })))
targets_then rows pid x r u at o e =
    ap (λ o. and_then (target_at rows pid x o) (λ first. and_then (target_at rows pid x (path_at r 1)) (λ second. Ok (record { first = first; second = second })))) at
    ∙ ap (λ o. and_then o (λ first. and_then (target_at rows pid x (path_at r 1)) (λ second. Ok (record { first = first; second = second })))) e

-- ---- plans

module _ (table : List Row) (tags : TagTable) (s : State ℕ Image) (pid : ℕ) (r : Request) (u : PathUse) (at : path_at r 0 ≡ Some u) where
  abbrev texts : TextSurroundings
  texts = told_texts table s pid tags

  abbrev edit_behind : ℕ → Bool → Result (Option Reached) Errno → Edit
  edit_behind sp usable o = edit_by sp usable (traced.and_then o (plan_from texts pid r))

  pub edit_is : (sp : ℕ) (usable : Bool) (o : Result (Option Reached) Errno) → traced.walked texts pid (opens r) u ≡ o → edit_of texts pid sp usable r ≡ edit_behind sp usable o
  edit_is sp usable o e = ap (λ o. edit_by sp usable (first_walked texts pid r o)) at ∙ ap (edit_behind sp usable) e

  module _ (w : State ℕ Image) (alone : path_at r 1 ≡ None) (lead : LeadsBoth table tags s w pid u (opens r)) where
    abbrev purpose : Purpose
    purpose = purpose_of (opens r) u.mode

    abbrev busy : Bool
    busy = one_is_busy (texts_of table) r lead.canon

    edit_one : (sp : ℕ) (usable : Bool) → edit_of texts pid sp usable r ≡ edit_by sp usable (plan_one (texts_of table) r (reached_at u (opens r) lead.canon))
    edit_one sp usable = edit_is sp usable (Ok (Some (reached_at u (opens r) lead.canon))) lead.reached ∙ ap (λ o. edit_by sp usable (second_walked texts pid r (reached_at u (opens r) lead.canon) o)) alone

    edit_swaps : (text : List ℕ) → busy ≡ false → swap_for (texts_of table) purpose lead.canon ≡ Ok text → IsEdit table tags s w pid r (shelved_texts table tags s w pid r (record { register = u.register; text = text }) None)
    edit_swaps text idle takes sp usable = edit_one sp usable ∙ rw (takes, idle) refl

    edit_busy : (text : List ℕ) → busy ≡ true → swap_for (texts_of table) purpose lead.canon ≡ Ok text → IsEdit table tags s w pid r (λ sp usable. Cancel EBUSY)
    edit_busy text is takes sp usable = edit_one sp usable ∙ rw (takes, is) refl

    edit_cancels : (e : Errno) → swap_for (texts_of table) purpose lead.canon ≡ Err e → IsEdit table tags s w pid r (λ sp usable. Cancel e)
    edit_cancels e takes sp usable = edit_one sp usable ∙ rw (takes) refl

    -- ---- what is told along a text in place of the only path

    abbrev a : Targets
    a = only (Some lead.place)

    abbrev k : Known
    k = known image_layout pid s

    pub lead_targets : targets_of table pid s r ≡ Ok a
    lead_targets = targets_only table pid s r u at alone ∙ ap (λ o. and_then o (λ first. Ok (only first))) lead.target

    pub lead_seen : seen table pid s r ≡ told table pid s r a
    lead_seen = ap (seen_of table pid s r) lead_targets

    module _ (text : List ℕ) (t : PlaceTarget) (ends : walked plain pid w (with_path text u) text ≡ Ok (Some t)) where
      abbrev new : NewText
      new = record { register = u.register; text = text }

      other_targets : targets_of plain pid w (with_first text r) ≡ Ok (only (Some t))
      other_targets =
          targets_only plain pid w (with_first text r) (with_path text u) (paths_are_swapped.one r new None ∙ ap (option_map (with_path text)) at) (paths_are_swapped.two r new None ∙ ap (option_map (with_path_if_any None)) alone)
          ∙ ap (λ o. and_then o (λ first. Ok (only first))) ends

      other_seen : seen plain pid w (with_first text r) ≡ told plain pid w (with_first text r) (only (Some t))
      other_seen = ap (seen_of plain pid w (with_first text r)) other_targets

      pub one_swapped : IsNewText text → operation pid r (told table pid s r a) k ≡ operation pid r (told plain pid w (with_first text r) (only (Some t))) k
          → (LooksUpOne (line r).told → told table pid s r a ≡ told plain pid w (with_first text r) (only (Some t)))
          → (bare_mounts (mounts_of a) ≡ bare_mounts (mounts_of (only (Some t)))) ⊎ ((e : Errno) × (operation pid r (told table pid s r a) k ≡ refuse e))
          → busy ≡ false → swap_for (texts_of table) purpose lead.canon ≡ Ok text → PlanAgrees table tags s w pid r
      one_swapped is_new same looked mounts idle takes =
          Swapping new None (edit_swaps text idle takes)
          (record {
            told = ap (λ seen. operation pid r seen k) lead_seen ∙ same ∙ ap (λ seen. operation pid r seen k) (sym other_seen);
            mounts = by mounts;
            looked = λ looks. lead_seen ∙ looked looks ∙ sym other_seen;
            one = is_new;
            two = tt;
            paths = record { one = ap (option_map (λ (u : PathUse). u.register)) at; two = tt };
          })
        where
          by : (bare_mounts (mounts_of a) ≡ bare_mounts (mounts_of (only (Some t)))) ⊎ ((e : Errno) × (operation pid r (told table pid s r a) k ≡ refuse e))
              → (bare_mounts (mounts_walked (targets_of table pid s r)) ≡ bare_mounts (mounts_walked (targets_of plain pid w (with_first text r)))) ⊎ ((e : Errno) × (operation pid r (seen table pid s r) k ≡ refuse e))
          by (inl alike) = inl (ap (λ targets. bare_mounts (mounts_walked targets)) lead_targets ∙ alike ∙ ap (λ targets. bare_mounts (mounts_walked targets)) (sym other_targets))
          by (inr refused) = inr (refused.0, ap (λ seen. operation pid r seen k) lead_seen ∙ refused.1)

    pub one_busy : (text : List ℕ) → operation pid r (told table pid s r a) k ≡ refuse EBUSY → (LooksUpOne (line r).told → ⊥) → busy ≡ true → swap_for (texts_of table) purpose lead.canon ≡ Ok text → PlanAgrees table tags s w pid r
    one_busy text refused apart is takes = Cancelling EBUSY (edit_busy text is takes) (ap (λ seen. operation pid r seen k) lead_seen ∙ refused) (λ looks. absurd (apart looks))

    pub one_cancelled : (e : Errno) → operation pid r (told table pid s r a) k ≡ refuse e → (LooksUpOne (line r).told → ⊥) → swap_for (texts_of table) purpose lead.canon ≡ Err e → PlanAgrees table tags s w pid r
    one_cancelled e refused apart takes = Cancelling e (edit_cancels e takes) (ap (λ seen. operation pid r seen k) lead_seen ∙ refused) (λ looks. absurd (apart looks))
