-- Calls with one path that look it up, make an entry or take one away.
use Rattle.std.proofs.Common.{◌≡◌, ◌⊎◌, inl, inr, ℕ, Bool, true, false, List, Some, None, Ok, refl, sym, ap, ◌∙◌}
use Rattle.std.specs.Bool.{if◌then◌else◌}
use Rattle.std.specs.Prelude.{ℤ}
use Rattle.law_edits.specs.pr_base.WalkFrame.{may_be_free}
use Rattle.law_edits.specs.pr_base.declared.errno.Errno.{Errno}
use Rattle.law_edits.specs.pr_base.declared.errno.Errno.TheVariants.{EBUSY, EISDIR}
use Rattle.law_edits.specs.pr_base.declared.path.Last.{Last}
use Rattle.law_edits.specs.pr_base.declared.path.WalkMode.{WalkMode}
use Rattle.law_edits.specs.pr_base.declared.path.WalkMode.TheVariants as modes
use Rattle.law_edits.specs.pt_bind.Tags.{TagTable}
use Rattle.law_places.specs.pt_canon.declared.canon.Canon.{Canon}
use Rattle.law_edits.specs.pt_args.Points.{is_at_point, one_is_busy}
use Rattle.law_edits.specs.pt_args.Purposes.{entry_swap, opens, purpose_of, swap_for}
use Rattle.law_edits.specs.pt_args.declared.purpose.Purpose.TheVariants as purposes
use Rattle.law_edits.specs.kr_calls.CallTable.{line}
use Rattle.law_edits.specs.kr_calls.PathTable.{PathUse, path_at}
use Rattle.law_edits.specs.kr_calls.declared.request.Request.{Request}
use Rattle.law_edits.specs.kr_calls.declared.request.Request.TheVariants as call
use Rattle.law_places.specs.kr_tree.declared.place.Host.{Host}
use Rattle.law_places.specs.kr_view.View.{Row, plain}
use Rattle.law_places.specs.kr_view.Walk.{PlaceTarget}
use Rattle.law_places.specs.kr_mounts.Standing.{texts_of}
use Rattle.law_places.specs.kr_model.Bare.{bare_mounts}
use Rattle.law_places.specs.kr_model.Known.{Known, known}
use Rattle.law_places.specs.kr_model.NameRows.{ending_removed, removes_directory, rmdir_row, unlink_row, unlinkat_row}
use Rattle.law_places.specs.kr_model.Operation.{operation}
use Rattle.law_places.specs.kr_model.Reply.{refuse}
use Rattle.law_places.specs.kr_model.Seen.{LooksUp, Made, Makes, MakesEntry, Taken, Takes, TakesCovered, TakesNoName}
use Rattle.law_places.specs.kr_model.State.{Image, State, image_layout}
use Rattle.law_places.specs.kr_model.Walks.{if_found, made_at, mounts_of, taken_at, told}
use Rattle.law_edits.specs.kr_turns.Target.{LooksUpOne}
use Rattle.law_plans.specs.Begins.{LeadsBoth}
use Rattle.law_plans.specs.OnePath.{EndsPlain, IsEntry, IsLookedUp, TakesSame}
use Rattle.law_plans.specs.Plans.{IsPlanned, PlanAgrees}
use Rattle.law_edits.specs.Requests.{with_first}
use Rattle.law_plans.proofs.FoundLemmas.{looked_both, made_free, same_mounts, taken_there}
use Rattle.law_plans.proofs.OneLemmas.{swaps_agree}
use Rattle.law_plans.proofs.PlanLemmas.{one_busy, one_swapped, only}
use Rattle.law_plans.proofs.StayLemmas.{by_first, lead_good}

-- ---- what paths are for

pub purpose_looks : (opening : Bool) (m : WalkMode) → may_be_free m ≡ false → purpose_of opening m ≡ purposes.LooksUp
purpose_looks opening modes.Look e = refl
purpose_looks opening modes.LookLink e = refl
purpose_looks opening modes.Name e = absurd cc
purpose_looks opening modes.Open e = absurd cc

pub purpose_names : (opening : Bool) (m : WalkMode) → opening ≡ false → m ≡ modes.Name → purpose_of opening m ≡ purposes.NamesEntry
purpose_names opening m e f = ap (λ b. purpose_of b m) e ∙ ap (purpose_of false) f

module _ (table : List Row) (tags : TagTable) (s w : State ℕ Image) (pid : ℕ) (r : Request) (u : PathUse) (planned : IsPlanned table tags s w pid r) (at : path_at r 0 ≡ Some u) (alone : path_at r 1 ≡ None) where
  abbrev k : Known
  k = known image_layout pid s

  abbrev Lead : Type 0
  Lead = LeadsBoth table tags s w pid u (opens r)

  -- ---- look-ups

  module _ (must : may_be_free u.mode ≡ false) (idle : (c : Canon) → one_is_busy (texts_of table) r c ≡ false)
      (told_is : (rows : List Row) (x : State ℕ Image) (t : PlaceTarget) → told rows pid x r (only (Some t)) ≡ if_found rows pid x t LooksUp)
      (told_new : (text : List ℕ) (rows : List Row) (x : State ℕ Image) (t : PlaceTarget) → told rows pid x (with_first text r) (only (Some t)) ≡ if_found rows pid x t LooksUp) where
    look_leads : Lead → PlanAgrees table tags s w pid r
    look_leads lead =
        let l : IsLookedUp table tags s w pid u (opens r) lead = (swaps_agree table tags s w pid u (opens r) lead planned.together).looked must in
        let t = l.same.target in
        one_swapped table tags s pid r u at w alone lead lead.canon.host t l.same.ends l.same.new
        (ap (λ seen. operation pid r seen k) (told_is table s lead.place ∙ sym (l.same.same LooksUp) ∙ sym (told_new lead.canon.host plain w t)))
        (λ _. told_is table s lead.place ∙ sym (l.same.same LooksUp) ∙ sym (told_new lead.canon.host plain w t))
        (inl (same_mounts lead.place t (l.there ∙ sym (looked_both table plain pid s w lead.place t l.there l.same.same)))) (idle lead.canon) (ap (λ p. swap_for (texts_of table) p lead.canon) (purpose_looks (opens r) u.mode must))

    pub looks_agree : PlanAgrees table tags s w pid r
    looks_agree = by_first table tags s w pid r u planned at (λ none. alone) look_leads

  -- ---- entries

  module _ (closed : opens r ≡ false) (named : u.mode ≡ modes.Name) where
    entry_of : (lead : Lead) → IsEntry table tags s w pid u (opens r) lead
    entry_of lead = (swaps_agree table tags s w pid u (opens r) lead planned.together).entry named (lead_good table tags s w pid r u planned at lead)

    entry_takes : (lead : Lead) → swap_for (texts_of table) (purpose_of (opens r) u.mode) lead.canon ≡ Ok (entry_swap (texts_of table) lead.canon lead.canon.last)
    entry_takes lead = ap (λ p. swap_for (texts_of table) p lead.canon) (purpose_names (opens r) u.mode closed named)

    -- what makes an entry under a free name alone
    module _ (idle : (c : Canon) → one_is_busy (texts_of table) r c ≡ false)
        (told_is : (rows : List Row) (x : State ℕ Image) (t : PlaceTarget) → told rows pid x r (only (Some t)) ≡ MakesEntry (made_at rows pid x t))
        (told_new : (text : List ℕ) (rows : List Row) (x : State ℕ Image) (t : PlaceTarget) → told rows pid x (with_first text r) (only (Some t)) ≡ MakesEntry (made_at rows pid x t))
        (apart : LooksUpOne (line r).told → ⊥) (refuses : (m : Made) → ((d : Host) × (n : List ℕ) × (slash : Bool) × (m ≡ Makes d n slash)) ⊎ ((e : Errno) × (operation pid r (MakesEntry m) k ≡ refuse e))) where
      make_leads : Lead → PlanAgrees table tags s w pid r
      make_leads lead =
          let text = entry_swap (texts_of table) lead.canon lead.canon.last in
          let l = (entry_of lead).made in
          let t = l.target in
          one_swapped table tags s pid r u at w alone lead text t l.ends l.new
          (ap (λ seen. operation pid r seen k) (told_is table s lead.place ∙ ap MakesEntry (sym l.same) ∙ sym (told_new text plain w t))) (λ looks. absurd (apart looks)) (by t l.same (refuses (made_at table pid s lead.place))) (idle lead.canon) (entry_takes lead)
        where
          by : (t : PlaceTarget) → made_at plain pid w t ≡ made_at table pid s lead.place
              → ((d : Host) × (n : List ℕ) × (slash : Bool) × (made_at table pid s lead.place ≡ Makes d n slash)) ⊎ ((e : Errno) × (operation pid r (MakesEntry (made_at table pid s lead.place)) k ≡ refuse e))
              → (bare_mounts (mounts_of (only (Some lead.place))) ≡ bare_mounts (mounts_of (only (Some t)))) ⊎ ((e : Errno) × (operation pid r (told table pid s r (only (Some lead.place))) k ≡ refuse e))
          by t same (inl (d, n, slash, e)) = inl (same_mounts lead.place t (made_free table pid s lead.place d n slash e ∙ sym (made_free plain pid w t d n slash (same ∙ e))))
          by t same (inr (e, refused)) = inr (e, ap (λ seen. operation pid r seen k) (told_is table s lead.place) ∙ refused)

      pub makes_agree : PlanAgrees table tags s w pid r
      makes_agree = by_first table tags s w pid r u planned at (λ none. alone) make_leads

-- ---- unlinkat(2)

no_name_taken : (k : Known) (l : Last) (flags : ℕ) → (e : Errno) × (unlinkat_row k (TakesNoName l) flags ≡ refuse e)
no_name_taken k l flags = by (removes_directory flags)
  where
    by : (b : Bool) → (e : Errno) × ((if b then rmdir_row k (TakesNoName l) else unlink_row k (TakesNoName l)) ≡ refuse e)
    by true = (ending_removed l, refl)
    by false = (EISDIR, refl)

covered_taken : (k : Known) (flags : ℕ) → unlinkat_row k TakesCovered flags ≡ refuse EBUSY
covered_taken k flags = by (removes_directory flags)
  where
    by : (b : Bool) → (if b then rmdir_row k TakesCovered else unlink_row k TakesCovered) ≡ refuse EBUSY
    by true = refl
    by false = refl

taken_mounts : (table : List Row) (s w : State ℕ Image) (pid flags : ℕ) (k : Known) (a t : PlaceTarget) (o : Taken) → taken_at table pid s a ≡ o → taken_at plain pid w t ≡ o
    → (bare_mounts (mounts_of (only (Some a))) ≡ bare_mounts (mounts_of (only (Some t)))) ⊎ ((e : Errno) × (unlinkat_row k (taken_at table pid s a) flags ≡ refuse e))
taken_mounts table s w pid flags k a t (TakesNoName l) is same = let n = no_name_taken k l flags in inr (n.0, ap (λ o. unlinkat_row k o flags) is ∙ n.1)
taken_mounts table s w pid flags k a t TakesCovered is same = inr (EBUSY, ap (λ o. unlinkat_row k o flags) is ∙ covered_taken k flags)
taken_mounts table s w pid flags k a t (Takes e) is same = inl (same_mounts a t (sym (taken_there table pid s a e is) ∙ taken_there plain pid w t e same))

module _ (table : List Row) (tags : TagTable) (s w : State ℕ Image) (pid : ℕ) (dirfd : ℤ) (path : List ℕ) (flags : ℕ) (u : PathUse) (planned : IsPlanned table tags s w pid (call.Unlinkat dirfd path flags)) (at : path_at (call.Unlinkat dirfd path flags) 0 ≡ Some u) (named : u.mode ≡ modes.Name) where
  abbrev r : Request
  r = call.Unlinkat dirfd path flags

  take_leads : LeadsBoth table tags s w pid u false → PlanAgrees table tags s w pid r
  take_leads lead = by (is_at_point (texts_of table) lead.canon lead.canon.last) refl
    where
      text : List ℕ
      text = entry_swap (texts_of table) lead.canon lead.canon.last

      entry : IsEntry table tags s w pid u false lead
      entry = entry_of table tags s w pid r u planned at refl refl named lead

      takes : swap_for (texts_of table) (purpose_of false u.mode) lead.canon ≡ Ok text
      takes = entry_takes table tags s w pid r u planned at refl refl named lead

      by : (b : Bool) → is_at_point (texts_of table) lead.canon lead.canon.last ≡ b → PlanAgrees table tags s w pid r
      by true busy = one_busy table tags s pid r u at w refl lead text (ap (λ o. unlinkat_row (known image_layout pid s) o flags) (entry.covered busy) ∙ covered_taken (known image_layout pid s) flags) (λ looks. looks) busy takes
      by false idle =
          let l : EndsPlain w pid u text (TakesSame table s w pid lead.place) = entry.taken idle in
          one_swapped table tags s pid r u at w refl lead text l.target l.ends l.new (ap (λ o. unlinkat_row (known image_layout pid s) o flags) (sym l.same)) (λ looks. absurd looks)
          (taken_mounts table s w pid flags (known image_layout pid s) lead.place l.target (taken_at table pid s lead.place) refl l.same) idle takes

  pub takes_agree : PlanAgrees table tags s w pid r
  takes_agree = by_first table tags s w pid r u planned at (λ none. refl) take_leads
