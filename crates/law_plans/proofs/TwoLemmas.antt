-- Calls with two paths: where the second one stays or its walk fails, and where both lead somewhere.
use Rattle.std.proofs.Common.{◌≡◌, ◌⊎◌, inl, inr, ℕ, zero, suc, Bool, true, false, List, Option, Some, None, Result, Ok, Err, refl, sym, ap, ◌∙◌}
use Rattle.std.specs.Option.{option_map, option_map_or}
use Rattle.law_edits.specs.pr_base.declared.errno.Errno.{Errno}
use Rattle.law_edits.specs.pr_base.declared.errno.Errno.TheVariants.{EBUSY, ENOENT}
use Rattle.law_edits.specs.pr_base.declared.path.WalkMode.TheVariants as modes
use Rattle.law_edits.specs.pt_bind.Tags.{TagTable}
use Rattle.law_places.specs.pt_canon.TextWalk.{TextSurroundings}
use Rattle.law_edits.specs.pt_args.Edits.{edit_by, edit_of}
use Rattle.law_edits.specs.pt_args.Plans.{plan_behind, second_walked}
use Rattle.law_edits.specs.pt_args.Points.{both_are_busy}
use Rattle.law_edits.specs.pt_args.Purposes.{opens, purpose_of, swap_for}
use Rattle.law_edits.specs.pt_args.Walks as traced
use Rattle.law_edits.specs.pt_args.Walks.{reached_at}
use Rattle.law_edits.specs.pt_args.declared.reached.Reached.{Reached}
use Rattle.law_edits.specs.kr_calls.CallTable.{LooksAt, Told, line, paths_of}
use Rattle.law_edits.specs.kr_calls.PathTable.{PathUse, path_at, path_from}
use Rattle.law_edits.specs.kr_calls.declared.request.Request.{Request}
use Rattle.law_places.specs.kr_tree.Tree.{Tree}
use Rattle.law_places.specs.kr_tree.declared.place.Place.{Place}
use Rattle.law_places.specs.kr_view.InTree.{IsPlaceOf}
use Rattle.law_places.specs.kr_view.View.{Row, is_there, plain, row}
use Rattle.law_places.specs.kr_view.Walk.{PlaceTarget, looking, place_walk}
use Rattle.law_places.proofs.kr_view.PlaceLemmas.{walks_keep_places}
use Rattle.law_places.specs.kr_mounts.Standing.{texts_of}
use Rattle.law_places.specs.kr_model.Bare.{bare_mounts}
use Rattle.law_places.specs.kr_model.Known.{Known, known}
use Rattle.law_places.specs.kr_model.Operation.{operation}
use Rattle.law_places.specs.kr_model.ProcessDirectory.{around_of}
use Rattle.law_places.specs.kr_model.Reply.{refuse}
use Rattle.law_places.specs.kr_model.Seen.{NoPath}
use Rattle.law_places.specs.kr_model.State.{Image, State, image_layout}
use Rattle.law_places.specs.kr_model.Walks.{Targets, and_then, mounts_of, seen, seen_of, target_at, targets_of, told, walked}
use Rattle.law_edits.specs.law_allowed.Told.{mounts_walked}
use Rattle.law_edits.specs.kr_turns.Target.{LooksUpOne}
use Rattle.law_places.proofs.kr_view.StayingLemmas.{names-stay}
use Rattle.law_edits.proofs.kr_perform.AroundLemmas.{of_walk}
use Rattle.law_plans.specs.Begins.{Fails, FailsSo, IsEmpty, Leads, LeadsBoth, PathAgrees, Stays, StaysSo, told_texts}
use Rattle.law_plans.specs.OnePath.{IsNewText}
use Rattle.law_edits.specs.Operations.{with_path, with_path_if_any}
use Rattle.law_plans.specs.Plans.{Cancelling, IsEdit, IsPlanned, PlanAgrees, Swapping, shelved_texts}
use Rattle.law_edits.specs.Requests.{NewText, with_swaps}
use Rattle.law_plans.proofs.PathLemmas.{paths_agree}
use Rattle.law_plans.proofs.PlanLemmas.{edit_is, targets_then}
use Rattle.law_plans.proofs.StayLemmas.{walk_refused}
use Rattle.law_edits.proofs.OperationLemmas.{paths_are_swapped}

-- ---- a call with two paths doesn't look up one

one_path : (t : Told) → LooksUpOne t → (v : PathUse) → path_from 0 (paths_of t) 1 ≡ Some v → ⊥
one_path (LooksAt how at) looks v after = cc
one_path _ looks v after = looks

-- ---- the mounts of what the plain kernel's walks come to

in_one_mount : (t : Tree) (p : Place ℕ) → IsPlaceOf t plain p → p.mount ≡ 0
in_one_mount t p is = by p.mount is.mounted
  where
    by : (k : ℕ) → is_there (row plain k) ≡ true → k ≡ 0
    by zero there = refl
    by (suc k) there = absurd cc

module _ (table : List Row) (tags : TagTable) (s w : State ℕ Image) (pid : ℕ) (r : Request) (planned : IsPlanned table tags s w pid r) where
  module _ (x : PathUse) (t : PlaceTarget) (ends : walked plain pid w x x.text ≡ Ok (Some t)) where
    pub plain_found : (p : Place ℕ) → t.found ≡ Some p → p.mount ≡ 0
    plain_found =
        of_walk plain w planned.together.plain_lawful pid (λ t. (p : Place ℕ) → t.found ≡ Some p → p.mount ≡ 0) t (Some x)
        (λ u base one stands answer p found. in_one_mount w.tree p ((walks_keep_places (around_of plain pid w) u.mode base u.text t stands answer).found p found)) ends

    pub plain_dir : x.mode ≡ modes.Name → t.dir.mount ≡ 0
    plain_dir named =
        of_walk plain w planned.together.plain_lawful pid (λ t. t.dir.mount ≡ 0) t (Some x)
        (λ u base one stands answer.
        let at : u.mode ≡ modes.Name = mode_of x u one ∙ named in
        let jumped = names-stay (looking (around_of plain pid w)) base u.text t (ap (λ m. (place_walk (around_of plain pid w) m base u.text).answer) (sym at) ∙ answer) in
        in_one_mount w.tree t.dir ((walks_keep_places (around_of plain pid w) u.mode base u.text t stands answer).directory jumped)) ends
      where
        mode_of : (u v : PathUse) → Some u ≡ Some v → v.mode ≡ u.mode
        mode_of u v e = sym (ap (λ o. option_map_or (λ (u : PathUse). u.mode) o modes.Look) e)

  module _ (u v : PathUse) (at : path_at r 0 ≡ Some u) (after : path_at r 1 ≡ Some v) (closed : opens r ≡ false) (lead : LeadsBoth table tags s w pid u (opens r)) where
    abbrev k : Known
    k = known image_layout pid s

    abbrev texts : TextSurroundings
    texts = told_texts table s pid tags

    abbrev first : Reached
    first = reached_at u (opens r) lead.canon

    apart : LooksUpOne (line r).told → ⊥
    apart looks = one_path (line r).told looks v after

    -- ---- targets

    abbrev behind : List Row → State ℕ Image → Option PlaceTarget → Result (Option PlaceTarget) Errno → Result Targets Errno
    behind rows x one o = and_then o (λ second. Ok (record { first = one; second = second }))

    targets_are : (o : Result (Option PlaceTarget) Errno) → walked table pid s v v.text ≡ o → targets_of table pid s r ≡ behind table s (Some lead.place) o
    targets_are o e =
        targets_then table pid s r u at (Ok (Some lead.place)) lead.target ∙ ap (λ q. behind table s (Some lead.place) (target_at table pid s q)) after ∙ ap (behind table s (Some lead.place)) e

    -- ---- edits

    edit_second : (sp : ℕ) (usable : Bool) (o : Result (Option Reached) Errno) → traced.walked texts pid (opens r) v ≡ o → edit_of texts pid sp usable r ≡ edit_by sp usable (traced.and_then o (plan_behind texts.bindings r first))
    edit_second sp usable o e =
        edit_is table tags s pid r u at sp usable (Ok (Some first)) lead.reached ∙ ap (λ q. edit_by sp usable (second_walked texts pid r first q)) after
        ∙ ap (λ o. edit_by sp usable (traced.and_then o (plan_behind texts.bindings r first))) e

    -- ---- the first path alone

    module _ (text : List ℕ) (takes : swap_for (texts_of table) (purpose_of (opens r) u.mode) lead.canon ≡ Ok text) (t : PlaceTarget) (ends : walked plain pid w (with_path text u) text ≡ Ok (Some t)) (new : IsNewText text)
        (unfit : operation pid r NoPath k ≡ refuse ENOENT) (untold : (rows : List Row) (x : State ℕ Image) (one : PlaceTarget) → told rows pid x r (record { first = Some one; second = None }) ≡ NoPath)
        (still : (rows : List Row) (x : State ℕ Image) (one : PlaceTarget) → told rows pid x (with_swaps (record { register = u.register; text = text }) None r) (record { first = Some one; second = None }) ≡ NoPath) where
      abbrev one : NewText
      one = record { register = u.register; text = text }

      abbrev other : Request
      other = with_swaps one None r

      others_are : (o : Result (Option PlaceTarget) Errno) → walked plain pid w v v.text ≡ o → targets_of plain pid w other ≡ behind plain w (Some t) o
      others_are o e =
          targets_then plain pid w other (with_path text u) (paths_are_swapped.one r one None ∙ ap (option_map (with_path text)) at) (Ok (Some t)) ends
          ∙ ap (λ q. behind plain w (Some t) (target_at plain pid w q)) (paths_are_swapped.two r one None ∙ ap (option_map (with_path_if_any None)) after) ∙ ap (behind plain w (Some t)) e

      edit_first : traced.walked texts pid (opens r) v ≡ Ok None → IsEdit table tags s w pid r (shelved_texts table tags s w pid r one None)
      edit_first stays sp usable = edit_second sp usable (Ok None) stays ∙ rw (takes) refl

      by_stay : StaysSo table tags s w pid v → traced.walked texts pid (opens r) v ≡ Ok None → PlanAgrees table tags s w pid r
      by_stay (IsEmpty none) stays =
          let of : (rows : List Row) (x : State ℕ Image) → walked rows pid x v v.text ≡ Ok None = λ rows x. ap (walked rows pid x v) none in
          let refused = ap (λ targets. operation pid r (seen_of table pid s r targets) k) (targets_are (Ok None) (of table s)) ∙ ap (λ seen. operation pid r seen k) (untold table s lead.place) ∙ unfit in
          let on = ap (λ targets. operation pid r (seen_of plain pid w other targets) k) (others_are (Ok None) (of plain w)) ∙ ap (λ seen. operation pid r seen k) (still plain w t) ∙ unfit in
          Swapping one None (edit_first stays) (record { told = refused ∙ sym on; mounts = inr (ENOENT, refused); looked = λ looks. absurd (apart looks); one = new; two = tt; paths = record { one = ap (option_map (λ (u : PathUse). u.register)) at; two = tt } })
      by_stay (FailsSo e here there) stays =
          let refused = ap (λ targets. operation pid r (seen_of table pid s r targets) k) (targets_are (Err e) here) in
          let on = ap (λ targets. operation pid r (seen_of plain pid w other targets) k) (others_are (Err e) there) in
          Swapping one None (edit_first stays)
          (record {
            told = refused ∙ sym on;
            mounts = inl (ap (λ targets. bare_mounts (mounts_walked targets)) (targets_are (Err e) here) ∙ sym (ap (λ targets. bare_mounts (mounts_walked targets)) (others_are (Err e) there)));
            looked = λ looks. absurd (apart looks);
            one = new;
            two = tt;
            paths = record { one = ap (option_map (λ (u : PathUse). u.register)) at; two = tt };
          })

      by_second : PathAgrees table tags s w pid v (opens r) → (LeadsBoth table tags s w pid v (opens r) → PlanAgrees table tags s w pid r) → PlanAgrees table tags s w pid r
      by_second (Stays is so) leads = by_stay so is
      by_second (Fails e is fails) leads =
          Cancelling e (λ sp usable. edit_second sp usable (Err e) is)
          (ap (λ targets. operation pid r (seen_of table pid s r targets) k) (targets_are (Err e) fails) ∙ walk_refused pid r u e k at (planned.first u v at after)) (λ looks. absurd (apart looks))
      by_second (Leads second) leads = leads second

      -- where the second path leads somewhere, too, nothing but that is left
      pub with_second_path : (LeadsBoth table tags s w pid v (opens r) → PlanAgrees table tags s w pid r) → PlanAgrees table tags s w pid r
      with_second_path leads = by_second (paths_agree table tags s w pid v (opens r) planned.together) leads

    -- ---- both paths

    module _ (second : LeadsBoth table tags s w pid v (opens r)) where
      abbrev pub both_targets : PlaceTarget → PlaceTarget → Targets
      both_targets a b = record { first = Some a; second = Some b }

      pub both_are : targets_of table pid s r ≡ Ok (both_targets lead.place second.place)
      both_are = targets_are (Ok (Some second.place)) second.target

      abbrev busy : Bool
      busy = both_are_busy (texts_of table) r lead.canon second.canon

      module _ (text more : List ℕ) (takes : swap_for (texts_of table) (purpose_of (opens r) u.mode) lead.canon ≡ Ok text) (also : swap_for (texts_of table) (purpose_of (opens r) v.mode) second.canon ≡ Ok more) where
        pub both_busy : busy ≡ true → operation pid r (told table pid s r (both_targets lead.place second.place)) k ≡ refuse EBUSY → PlanAgrees table tags s w pid r
        both_busy is refused =
            Cancelling EBUSY (λ sp usable. edit_second sp usable (Ok (Some (reached_at v (opens r) second.canon))) second.reached ∙ rw (takes, also, is) refl)
            (ap (λ targets. operation pid r (seen_of table pid s r targets) k) both_are ∙ refused) (λ looks. absurd (apart looks))

        module _ (t x : PlaceTarget) (ends : walked plain pid w (with_path text u) text ≡ Ok (Some t)) (end : walked plain pid w (with_path more v) more ≡ Ok (Some x)) where
          abbrev one_text : NewText
          one_text = record { register = u.register; text = text }

          abbrev two_text : NewText
          two_text = record { register = v.register; text = more }

          abbrev swapped : Request
          swapped = with_swaps one_text (Some two_text) r

          both_others : targets_of plain pid w swapped ≡ Ok (both_targets t x)
          both_others =
              targets_then plain pid w swapped (with_path text u) (paths_are_swapped.one r one_text (Some two_text) ∙ ap (option_map (with_path text)) at) (Ok (Some t)) ends
              ∙ ap (λ q. behind plain w (Some t) (target_at plain pid w q)) (paths_are_swapped.two r one_text (Some two_text) ∙ ap (option_map (with_path_if_any (Some two_text))) after) ∙ ap (behind plain w (Some t)) end

          pub both_swapped : busy ≡ false → IsNewText text → IsNewText more
              → operation pid r (told table pid s r (both_targets lead.place second.place)) k ≡ operation pid r (told plain pid w swapped (both_targets t x)) k
              → (bare_mounts (mounts_of (both_targets lead.place second.place)) ≡ bare_mounts (mounts_of (both_targets t x))) ⊎ ((e : Errno) × (operation pid r (told table pid s r (both_targets lead.place second.place)) k ≡ refuse e))
              → PlanAgrees table tags s w pid r
          both_swapped idle is_new is_more same mounts =
              Swapping one_text (Some two_text) (λ sp usable. edit_second sp usable (Ok (Some (reached_at v (opens r) second.canon))) second.reached ∙ rw (takes, also, idle) refl)
              (record {
                told = ap (λ targets. operation pid r (seen_of table pid s r targets) k) both_are ∙ same ∙ sym (ap (λ targets. operation pid r (seen_of plain pid w swapped targets) k) both_others);
                mounts = by mounts;
                looked = λ looks. absurd (apart looks);
                one = is_new;
                two = is_more;
                paths = record { one = ap (option_map (λ (u : PathUse). u.register)) at; two = ap (option_map (λ (u : PathUse). u.register)) after };
              })
            where
              by : (bare_mounts (mounts_of (both_targets lead.place second.place)) ≡ bare_mounts (mounts_of (both_targets t x))) ⊎ ((e : Errno) × (operation pid r (told table pid s r (both_targets lead.place second.place)) k ≡ refuse e))
                  → (bare_mounts (mounts_walked (targets_of table pid s r)) ≡ bare_mounts (mounts_walked (targets_of plain pid w swapped))) ⊎ ((e : Errno) × (operation pid r (seen table pid s r) k ≡ refuse e))
              by (inl alike) = inl (ap (λ targets. bare_mounts (mounts_walked targets)) both_are ∙ alike ∙ sym (ap (λ targets. bare_mounts (mounts_walked targets)) both_others))
              by (inr refused) = inr (refused.0, ap (λ targets. operation pid r (seen_of table pid s r targets) k) both_are ∙ refused.1)
