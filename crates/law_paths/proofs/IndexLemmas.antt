-- The index that a tracer notes of an answer is that of the mount to which the first path leads, or the answer is an error.
use Rattle.std.proofs.Common.{◌≡◌, ◌⊎◌, inl, inr, ℕ, Bool, true, false, List, ◌∷◌, Option, Some, None, Result, Ok, Err, refl, sym, ap, ◌∙◌}
use Rattle.std.specs.Option.{option_map_or, unwrap_or}
use Rattle.law_plans.specs.pr_base.MountText.{MountText}
use Rattle.law_plans.specs.pr_base.WalkFrame.{may_be_free}
use Rattle.law_plans.specs.pr_base.declared.errno.Errno.{Errno}
use Rattle.law_plans.specs.pr_base.declared.path.Last.{Last}
use Rattle.law_plans.specs.pr_base.declared.path.Last.TheVariants as last
use Rattle.law_stops.specs.pt_bind.Binding.{index_of}
use Rattle.law_stops.specs.pt_bind.Tags.{TagTable}
use Rattle.law_plans.specs.pt_canon.Canon.{canon_result, entry_text, guest_text}
use Rattle.law_plans.specs.pt_canon.declared.canon.Canon.{Canon}
use Rattle.law_stops.specs.kr_calls.PathTable.{PathUse, path_at}
use Rattle.law_stops.specs.kr_calls.declared.request.Request.{Request}
use Rattle.law_plans.specs.kr_view.View.{Row}
use Rattle.law_plans.specs.kr_view.Walk.{PlaceTarget}
use Rattle.law_plans.specs.kr_mounts.Standing.{texts_of}
use Rattle.law_plans.specs.kr_tree.declared.place.Place.{Place}
use Rattle.law_plans.specs.kr_model.Known.{Known}
use Rattle.law_plans.specs.kr_model.Operation.{operation}
use Rattle.law_plans.specs.kr_model.Reply.{refuse}
use Rattle.law_plans.specs.kr_model.State.{Image, State}
use Rattle.law_plans.specs.kr_model.Walks.{Targets, and_then, seen, targets_of, walked}
use Rattle.law_plans.specs.pt_tracer.Planning.{led_along, led_by}
use Rattle.law_plans.specs.law_walks.Standing.{FoundStands}
use Rattle.law_plans.specs.law_places.Matching.{index_at}
use Rattle.law_stops.specs.law_turns.PathCalls.{HasIndexWalked, IsIndexWalked, mount_come_to}
use Rattle.law_stops.proofs.law_turns.IndexLemmas.{texts_have_indices}
use Rattle.law_plans.specs.Begins.{Fails, FailsSo, IsEmpty, Leads, LeadsBoth, PathAgrees, StandTogether, Stays, told_texts}
use Rattle.law_plans.proofs.CreateLemmas.{none_alike}
use Rattle.law_plans.proofs.LeadLemmas.{alike, found_text, found_there, same_canon, scene, space}
use Rattle.law_plans.proofs.PathLemmas.{paths_agree}
use Rattle.law_plans.proofs.PlanLemmas.{only, targets_only}

-- ---- the index of the mount to which the first path leads, if it leads anywhere

abbrev pub index_by : List Row → Result Targets Errno → ℕ
index_by table (Ok targets) = option_map_or (λ target. index_at table (mount_come_to target)) targets.first 0
index_by table (Err e) = 0

abbrev pub index_walked : List Row → ℕ → State ℕ Image → Request → ℕ
index_walked table pid at r = index_by table (targets_of table pid at r)

pub is_walked : (table : List Row) (pid : ℕ) (at : State ℕ Image) (r : Request) → IsIndexWalked table pid at r (index_walked table pid at r)
is_walked table pid at r targets target is first = ap (index_by table) is ∙ ap (λ o. option_map_or (λ target. index_at table (mount_come_to target)) o 0) first

-- ---- that of the guest text to which a tracer's walk leads

module _ (table : List Row) (tags : TagTable) (s w : State ℕ Image) (pid : ℕ) (u : PathUse) (opening : Bool) (both : StandTogether table tags s w) where
  module _ (lead : LeadsBoth table tags s w pid u opening) where
    abbrev rows : List MountText
    rows = texts_of table

    abbrev mounted : ℕ
    mounted = index_at table (mount_come_to lead.place)

    indices : HasIndexWalked table lead.place lead.text
    indices = texts_have_indices (scene table tags s w pid u opening both lead) u.mode lead.base lead.start u.text lead.place lead.text lead.both

    index_is : (free : Bool) → may_be_free u.mode ≡ free → lead.canon.index ≡ index_of rows (guest_text free lead.text)
    index_is free is =
        ap (λ (c : Canon). c.index) (same_canon table tags s w pid u opening both lead _ (ap (canon_result rows u.mode) lead.both.text)) ∙ ap (λ free. index_of rows (guest_text free lead.text)) is

    pub looked_index : may_be_free u.mode ≡ false → lead.canon.index ≡ mounted
    looked_index must =
        let p = found_there table tags s w pid u opening both lead must in
        let q = found_text table tags s w pid u opening both lead p.0 p.1 in
        index_is false must ∙ ap (λ o. index_of rows (unwrap_or o lead.text.dir)) q.1 ∙ indices.found p.0 q.0 p.1 q.1

    pub named_index : may_be_free u.mode ≡ true → lead.place.last ≡ last.Name → lead.canon.index ≡ mounted
    named_index free is = index_is true free ∙ ap (λ l. index_of rows (entry_text l lead.text)) (sym (alike table tags s w pid u opening both lead).last ∙ is) ∙ by lead.place.found refl
      where
        by : (o : Option (Place ℕ)) → lead.place.found ≡ o → index_of rows (unwrap_or lead.text.found (lead.text.name ∷ lead.text.dir)) ≡ mounted
        by None none =
            ap (λ o. index_of rows (unwrap_or o (lead.text.name ∷ lead.text.dir))) (none_alike (FoundStands (space table tags s w pid u opening both lead) u.mode) lead.place.found lead.text.found (alike table tags s w pid u opening both lead).found none)
            ∙ indices.free none is
        by (Some p) found =
            let q = found_text table tags s w pid u opening both lead p found in
            ap (λ o. index_of rows (unwrap_or o (lead.text.name ∷ lead.text.dir))) q.1 ∙ indices.found p q.0 found q.1

  -- ---- of a call with that path alone

  module _ (r : Request) (k : Known) (at : path_at r 0 ≡ Some u) (alone : path_at r 1 ≡ None) where
    abbrev led : ℕ
    led = (led_along (told_texts table s pid tags) pid opening (Some u)).index

    -- the same index, or it is refused
    abbrev pub IndexAgrees : Type 0
    IndexAgrees = (led ≡ index_walked table pid s r) ⊎ ((e : Errno) × (operation pid r (seen table pid s r) k ≡ refuse e))

    walked_is : (o : Result (Option PlaceTarget) Errno) → walked table pid s u u.text ≡ o → targets_of table pid s r ≡ and_then o (λ first. Ok (only first))
    walked_is o is = targets_only table pid s r u at alone ∙ ap (λ o. and_then o (λ first. Ok (only first))) is

    stays_so : (e : Errno) → led ≡ 0 → walked table pid s u u.text ≡ Err e → IndexAgrees
    stays_so e none is = inl (none ∙ sym (ap (index_by table) (walked_is (Err e) is)))

    pub index_agrees : ((lead : LeadsBoth table tags s w pid u opening) → may_be_free u.mode ≡ true → (l : Last) → lead.place.last ≡ l → (lead.canon.index ≡ index_at table (mount_come_to lead.place)) ⊎ ((e : Errno) × (operation pid r (seen table pid s r) k ≡ refuse e))) → IndexAgrees
    index_agrees free = by (paths_agree table tags s w pid u opening both)
      where
        lead_agrees : (lead : LeadsBoth table tags s w pid u opening) → (lead.canon.index ≡ index_at table (mount_come_to lead.place)) ⊎ ((e : Errno) × (operation pid r (seen table pid s r) k ≡ refuse e)) → IndexAgrees
        lead_agrees lead (inl same) = inl (ap (λ o. (led_by o).index) lead.reached ∙ same ∙ sym (ap (index_by table) (walked_is (Ok (Some lead.place)) lead.target)))
        lead_agrees lead (inr refused) = inr refused

        by_mode : (lead : LeadsBoth table tags s w pid u opening) (b : Bool) → may_be_free u.mode ≡ b → IndexAgrees
        by_mode lead false is = lead_agrees lead (inl (looked_index lead is))
        by_mode lead true is = lead_agrees lead (free lead is lead.place.last refl)

        by : PathAgrees table tags s w pid u opening → IndexAgrees
        by (Stays e (IsEmpty none)) = inl (ap (λ o. (led_by o).index) e ∙ sym (ap (index_by table) (walked_is (Ok None) (ap (walked table pid s u) none))))
        by (Stays e (FailsSo x here there)) = stays_so x (ap (λ o. (led_by o).index) e) here
        by (Fails x e here) = stays_so x (ap (λ o. (led_by o).index) e) here
        by (Leads lead) = by_mode lead (may_be_free u.mode) refl
