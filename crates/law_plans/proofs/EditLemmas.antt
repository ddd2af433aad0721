-- What a tracer makes of the paths of a calm call: texts that take their place are short.
use Rattle.std.proofs.Common.{◌≡◌, ◌≢◌, ◌≤◌, ◌⊎◌, inl, inr, ℕ, Bool, true, false, List, [], length, Option, Some, None, Result, Ok, Err, refl, sym, ap, ◌∙◌, arith}
use Rattle.std.specs.Bool.{if◌then◌else◌}
use Rattle.std.specs.List.{list_any}
use Rattle.std.specs.Option.{option_map}
use Rattle.std.specs.Prelude.{◌||◌, nat_lt}
use Rattle.std.proofs.lemmas.Bool.{ltb-false, ltb-true}
use Rattle.law_edits.specs.pr_base.MountText.{MountText}
use Rattle.law_edits.specs.pr_base.declared.errno.Errno.{Errno}
use Rattle.law_edits.specs.pr_base.declared.errno.Errno.TheVariants.{EBUSY, EISDIR, ENAMETOOLONG}
use Rattle.law_edits.specs.pr_base.declared.path.Last.{Last}
use Rattle.law_edits.specs.pr_base.declared.path.Last.TheVariants as last
use Rattle.law_edits.specs.pt_args.Edits.{both, edit_by, edit_of, is_long, put_edit}
use Rattle.law_edits.specs.pt_args.Plans.{plan_behind, second_walked}
use Rattle.law_edits.specs.pt_args.Points.{both_are_busy, one_is_busy}
use Rattle.law_edits.specs.pt_args.Purposes.{entry_swap, made_swap, opens, purpose_of, swap_for}
use Rattle.law_edits.specs.pt_args.Walks as traced
use Rattle.law_edits.specs.pt_args.Walks.{reached_at}
use Rattle.law_edits.specs.pt_args.declared.edit.Edit.{Edit}
use Rattle.law_edits.specs.pt_args.declared.edit.Edit.TheVariants.{Cancel, Pass}
use Rattle.law_edits.specs.pt_args.declared.purpose.Purpose.{Purpose}
use Rattle.law_edits.specs.pt_args.declared.purpose.Purpose.TheVariants as purposes
use Rattle.law_edits.specs.pt_args.declared.reached.Reached.{Reached}
use Rattle.law_edits.specs.pt_bind.Tags.{TagTable}
use Rattle.law_places.specs.pt_canon.TextWalk.{TextSurroundings}
use Rattle.law_places.specs.pt_canon.declared.canon.Canon.{Canon}
use Rattle.law_edits.specs.kr_calls.PathTable.{PathUse, path_at}
use Rattle.law_edits.specs.kr_calls.declared.request.Request.{Request}
use Rattle.law_places.specs.kr_view.View.{Row}
use Rattle.law_places.specs.kr_view.Walk.{PlaceTarget}
use Rattle.law_places.specs.kr_mounts.Standing.{texts_of}
use Rattle.law_places.specs.kr_model.Known.{Known, known}
use Rattle.law_places.specs.kr_model.Operation.{operation}
use Rattle.law_places.specs.kr_model.Reply.{refuse}
use Rattle.law_places.specs.kr_model.Seen.{WalkFails}
use Rattle.law_places.specs.kr_model.State.{Image, State, image_layout}
use Rattle.law_places.specs.kr_model.Walks.{and_then, seen, seen_of, target_at, targets_of, walked}
use Rattle.law_plans.specs.Begins.{Fails, Leads, LeadsBoth, PathAgrees, Stays, told_texts}
use Rattle.law_plans.specs.Plans.{Cancelling, IsEdit, IsPlanned, Passing, PlanAgrees, Swapping, shelved_texts}
use Rattle.law_edits.specs.Requests.{NewText}
use Rattle.law_plans.proofs.PathLemmas.{paths_agree}
use Rattle.law_plans.proofs.PlanLemmas.{edit_is, targets_then}
use Rattle.law_plans.proofs.StayLemmas.{walk_refused}
use Rattle.law_plans.proofs.WholeLemmas.{plans_agree}
use Rattle.law_plans.specs.Short.{IsShort, IsShortIfAny, IsShortPlan, IsTooLong, PlansAreShort, ReachesNoLongName, ShelvedTextsAreShort}
use Rattle.law_plans.proofs.ReachedLemmas.{first_calm, second_calm}
use Rattle.law_plans.proofs.ShortLemmas.{lead_short, rooted}

-- ---- lengths

front : (a b : Bool) → (a || b) ≡ false → a ≡ false
front true b e = e
front false b e = refl

behind : (a b : Bool) → (a || b) ≡ false → b ≡ false
behind true b e = absurd cc
behind false b e = e

none_of : (a b : Bool) → a ≡ false → b ≡ false → (a || b) ≡ false
none_of true b e f = e
none_of false b e f = f

short_of : (n : ℕ) → nat_lt 4095 n ≡ false → n ≤ 4095
short_of n e = let most = ltb-false 4095 n e in omega (arith, most)

not_long : (n : ℕ) → n ≤ 4095 → nat_lt 4095 n ≡ false
not_long n most = by (nat_lt 4095 n) refl
  where
    by : (b : Bool) → nat_lt 4095 n ≡ b → b ≡ false
    by true is = let more = ltb-true 4095 n is in absurd (let h : ⊥ = omega (arith, more, most) in h)
    by false is = refl

-- ---- errors of texts

no_text : {A : Type 0} (text : List ℕ) (e : Errno) → ◌≡◌ {A = Result (List ℕ) Errno} (Ok text) (Err e) → A
no_text text e is = absurd cc

directory_error : (e : Errno) → ◌≡◌ {A = Result (List ℕ) Errno} (Err EISDIR) (Err e) → e ≢ ENAMETOOLONG
directory_error e is long = let clash : ◌≡◌ {A = Result (List ℕ) Errno} (Err EISDIR) (Err ENAMETOOLONG) = is ∙ ap Err long in absurd cc

made_error : (bindings : List MountText) (canon : Canon) (l : Last) (e : Errno) → made_swap bindings canon l ≡ Err e → e ≢ ENAMETOOLONG
made_error bindings canon last.Name e is = by canon.slash canon.exists is
  where
    by : (slash exists : Bool) → (if slash then Err EISDIR else if exists then Ok canon.host else Ok (entry_swap bindings canon last.Name)) ≡ Err e → e ≢ ENAMETOOLONG
    by true exists is = directory_error e is
    by false true is = no_text _ e is
    by false false is = no_text _ e is
made_error bindings canon last.Dot e is = no_text _ e is
made_error bindings canon last.DotDot e is = no_text _ e is
made_error bindings canon last.Root e is = no_text _ e is

swap_error : (bindings : List MountText) (purpose : Purpose) (canon : Canon) (e : Errno) → swap_for bindings purpose canon ≡ Err e → e ≢ ENAMETOOLONG
swap_error bindings purposes.LooksUp canon e is = no_text _ e is
swap_error bindings purposes.NamesEntry canon e is = no_text _ e is
swap_error bindings purposes.MayMake canon e is = made_error bindings canon canon.last e is

busy_error : EBUSY ≢ ENAMETOOLONG
busy_error e = absurd cc

-- ---- the edit

module _ (table : List Row) (tags : TagTable) (s w : State ℕ Image) (pid : ℕ) (r : Request) (planned : IsPlanned table tags s w pid r) (calm : ReachesNoLongName table tags s w pid r) where
  abbrev texts : TextSurroundings
  texts = told_texts table s pid tags

  abbrev k : Known
  k = known image_layout pid s

  abbrev IsRefused : Errno → Type 0
  IsRefused e = (operation pid r (seen table pid s r) k ≡ refuse e) × (seen table pid s r ≡ WalkFails e)

  -- by what it is
  data EditIs : Type 0 where
    Passes : IsEdit table tags s w pid r (λ sp usable. Pass) → EditIs
    Swaps : (first : NewText) (second : Option NewText) → IsEdit table tags s w pid r (shelved_texts table tags s w pid r first second) → IsShort first → IsShortIfAny second → EditIs
    Cancels : (e : Errno) → IsEdit table tags s w pid r (λ sp usable. Cancel e) → (e ≡ ENAMETOOLONG → IsRefused e) → EditIs

  never : {A : Type 0} {e : Errno} → e ≢ ENAMETOOLONG → e ≡ ENAMETOOLONG → A
  never other is = absurd (other is)

  module _ (u : PathUse) (at : path_at r 0 ≡ Some u) where
    failing : (e : Errno) → u.text ≢ [] → targets_of table pid s r ≡ Err e → IsRefused e
    failing e some is = (ap (λ targets. operation pid r (seen_of table pid s r targets) k) is ∙ walk_refused pid r u e k at some, ap (seen_of table pid s r) is)

    -- a path that was walked isn't empty
    walked_some : (e : Errno) → walked table pid s u u.text ≡ Err e → u.text ≢ []
    walked_some e fails none = let clash : ◌≡◌ {A = Result (Option PlaceTarget) Errno} (Ok None) (Err e) = sym (ap (walked table pid s u) none) ∙ fails in absurd cc

    module _ (lead : LeadsBoth table tags s w pid u (opens r)) where
      abbrev first : Reached
      first = reached_at u (opens r) lead.canon

      abbrev one : List ℕ → NewText
      one text = record { register = u.register; text = text }

      one_short : (text : List ℕ) → swap_for (texts_of table) (purpose_of (opens r) u.mode) lead.canon ≡ Ok text → length text ≤ 4095
      one_short text takes =
          let own = rooted table tags s w pid u (opens r) planned.together lead in
          let reach = first_calm table pid s r u own.own.base own.begun own.own.both.some calm at in
          lead_short table tags s w pid u (opens r) planned.together own.own reach.0 reach.1 text (ap (swap_for (texts_of table) (purpose_of (opens r) u.mode)) own.same ∙ takes)

      edit_one : (sp : ℕ) (usable : Bool) (o : Option PathUse) → path_at r 1 ≡ o → edit_of texts pid sp usable r ≡ edit_by sp usable (second_walked texts pid r first o)
      edit_one sp usable o e = edit_is table tags s pid r u at sp usable (Ok (Some first)) lead.reached ∙ ap (λ o. edit_by sp usable (second_walked texts pid r first o)) e

      -- ---- the only path

      module _ (alone : path_at r 1 ≡ None) where
        only_by : (x : Result (List ℕ) Errno) → swap_for (texts_of table) (purpose_of (opens r) u.mode) lead.canon ≡ x → (b : Bool) → one_is_busy (texts_of table) r lead.canon ≡ b → EditIs
        only_by (Err e) takes b busy = Cancels e (λ sp usable. edit_one sp usable None alone ∙ rw (takes) refl) (never (swap_error (texts_of table) (purpose_of (opens r) u.mode) lead.canon e takes))
        only_by (Ok text) takes true busy = Cancels EBUSY (λ sp usable. edit_one sp usable None alone ∙ rw (takes, busy) refl) (never busy_error)
        only_by (Ok text) takes false busy = Swaps (one text) None (λ sp usable. edit_one sp usable None alone ∙ rw (takes, busy) refl) (one_short text takes) tt

      -- ---- two paths

      module _ (v : PathUse) (after : path_at r 1 ≡ Some v) where
        edit_two : (sp : ℕ) (usable : Bool) (o : Result (Option Reached) Errno) → traced.walked texts pid (opens r) v ≡ o → edit_of texts pid sp usable r ≡ edit_by sp usable (traced.and_then o (plan_behind texts.bindings r first))
        edit_two sp usable o e = edit_one sp usable (Some v) after ∙ ap (λ o. edit_by sp usable (traced.and_then o (plan_behind texts.bindings r first))) e

        -- of which the second one stays
        first_by : traced.walked texts pid (opens r) v ≡ Ok None → (x : Result (List ℕ) Errno) → swap_for (texts_of table) (purpose_of (opens r) u.mode) lead.canon ≡ x → EditIs
        first_by stays (Err e) takes = Cancels e (λ sp usable. edit_two sp usable (Ok None) stays ∙ rw (takes) refl) (never (swap_error (texts_of table) (purpose_of (opens r) u.mode) lead.canon e takes))
        first_by stays (Ok text) takes = Swaps (one text) None (λ sp usable. edit_two sp usable (Ok None) stays ∙ rw (takes) refl) (one_short text takes) tt

        second_fails : (e : Errno) → walked table pid s v v.text ≡ Err e → targets_of table pid s r ≡ Err e
        second_fails e fails =
            targets_then table pid s r u at (Ok (Some lead.place)) lead.target
            ∙ ap (λ o. and_then (target_at table pid s o) (λ second. Ok (record { first = Some lead.place; second = second }))) after
            ∙ ap (λ o. and_then o (λ second. Ok (record { first = Some lead.place; second = second }))) fails

        module _ (other : LeadsBoth table tags s w pid v (opens r)) where
          two_short : (text : List ℕ) → swap_for (texts_of table) (purpose_of (opens r) v.mode) other.canon ≡ Ok text → length text ≤ 4095
          two_short text takes =
              let own = rooted table tags s w pid v (opens r) planned.together other in
              let reach = second_calm table pid s r v own.own.base own.begun own.own.both.some calm u (Some lead.place) at lead.target after in
              lead_short table tags s w pid v (opens r) planned.together own.own reach.0 reach.1 text (ap (swap_for (texts_of table) (purpose_of (opens r) v.mode)) own.same ∙ takes)

          abbrev second : Reached
          second = reached_at v (opens r) other.canon

          both_by : (x : Result (List ℕ) Errno) → swap_for (texts_of table) (purpose_of (opens r) u.mode) lead.canon ≡ x → (y : Result (List ℕ) Errno) → swap_for (texts_of table) (purpose_of (opens r) v.mode) other.canon ≡ y
              → (b : Bool) → both_are_busy (texts_of table) r lead.canon other.canon ≡ b → EditIs
          both_by (Err e) takes y also b busy =
              Cancels e (λ sp usable. edit_two sp usable (Ok (Some second)) other.reached ∙ rw (takes) refl) (never (swap_error (texts_of table) (purpose_of (opens r) u.mode) lead.canon e takes))
          both_by (Ok text) takes (Err e) also b busy =
              Cancels e (λ sp usable. edit_two sp usable (Ok (Some second)) other.reached ∙ rw (takes, also) refl) (never (swap_error (texts_of table) (purpose_of (opens r) v.mode) other.canon e also))
          both_by (Ok text) takes (Ok more) also true busy = Cancels EBUSY (λ sp usable. edit_two sp usable (Ok (Some second)) other.reached ∙ rw (takes, also, busy) refl) (never busy_error)
          both_by (Ok text) takes (Ok more) also false busy =
              Swaps (one text) (Some (record { register = v.register; text = more })) (λ sp usable. edit_two sp usable (Ok (Some second)) other.reached ∙ rw (takes, also, busy) refl) (one_short text takes) (two_short more also)

        two_by : PathAgrees table tags s w pid v (opens r) → EditIs
        two_by (Stays is so) = first_by is (swap_for (texts_of table) (purpose_of (opens r) u.mode) lead.canon) refl
        two_by (Fails e is fails) = Cancels e (λ sp usable. edit_two sp usable (Err e) is) (λ _. failing e lead.both.some (second_fails e fails))
        two_by (Leads other) =
            both_by other (swap_for (texts_of table) (purpose_of (opens r) u.mode) lead.canon) refl (swap_for (texts_of table) (purpose_of (opens r) v.mode) other.canon) refl
            (both_are_busy (texts_of table) r lead.canon other.canon) refl

      behind_by : (o : Option PathUse) → path_at r 1 ≡ o → EditIs
      behind_by None alone = only_by alone (swap_for (texts_of table) (purpose_of (opens r) u.mode) lead.canon) refl (one_is_busy (texts_of table) r lead.canon) refl
      behind_by (Some v) after = two_by v after (paths_agree table tags s w pid v (opens r) planned.together)

    first_is : PathAgrees table tags s w pid u (opens r) → EditIs
    first_is (Stays is so) = Passes (λ sp usable. edit_is table tags s pid r u at sp usable (Ok None) is)
    first_is (Fails e is fails) = Cancels e (λ sp usable. edit_is table tags s pid r u at sp usable (Err e) is) (λ _. failing e (walked_some e fails) (targets_then table pid s r u at (Err e) fails))
    first_is (Leads lead) = behind_by lead (path_at r 1) refl

    edit_told : EditIs
    edit_told = first_is (paths_agree table tags s w pid u (opens r) planned.together)

  -- ---- texts that are shelved

  abbrev are_long : NewText → Option NewText → Bool
  are_long first second = list_any is_long (both (record { register = first.register; text = first.text }) (option_map (λ (n : NewText). record { register = n.register; text = n.text }) second))

  abbrev put : ℕ → NewText → Option NewText → Edit
  put sp first second = put_edit sp (both (record { register = first.register; text = first.text }) (option_map (λ (n : NewText). record { register = n.register; text = n.text }) second))

  all_short : (first : NewText) (second : Option NewText) → are_long first second ≡ false → IsShort first × IsShortIfAny second
  all_short first None e = (short_of (length first.text) (front (nat_lt 4095 (length first.text)) false e), tt)
  all_short first (Some more) e =
      let rest = behind (nat_lt 4095 (length first.text)) (nat_lt 4095 (length more.text) || false) e in
      (short_of (length first.text) (front (nat_lt 4095 (length first.text)) (nat_lt 4095 (length more.text) || false) e), short_of (length more.text) (front (nat_lt 4095 (length more.text)) false rest))

  none_long : (first : NewText) (second : Option NewText) → IsShort first → IsShortIfAny second → are_long first second ≡ false
  none_long first None one two = none_of (nat_lt 4095 (length first.text)) false (not_long (length first.text) one) refl
  none_long first (Some more) one two =
      none_of (nat_lt 4095 (length first.text)) (nat_lt 4095 (length more.text) || false) (not_long (length first.text) one)
      (none_of (nat_lt 4095 (length more.text)) false (not_long (length more.text) two) refl)

  module _ (first : NewText) (second : Option NewText) (edit : IsEdit table tags s w pid r (shelved_texts table tags s w pid r first second)) where
    abbrev Answer : Type 0
    Answer = (IsShort first × IsShortIfAny second) ⊎ IsTooLong table tags s w pid r

    -- by what the edit is where the shelf can be used
    abbrev shelved_by : Bool → Edit
    shelved_by b = if b then Cancel ENAMETOOLONG else put 0 first second

    by_long : (b : Bool) → are_long first second ≡ b → (other : Edit) → edit_of texts pid 0 true r ≡ other → shelved_by b ≡ other
    by_long b e other is = ap shelved_by (sym e) ∙ sym (edit 0 true) ∙ is

    passing : (b : Bool) → are_long first second ≡ b → edit_of texts pid 0 true r ≡ Pass → Answer
    passing true e is = let clash : Cancel ENAMETOOLONG ≡ Pass = by_long true e Pass is in absurd cc
    passing false e is = inl (all_short first second e)

    swapping : (one : NewText) (two : Option NewText) → edit_of texts pid 0 true r ≡ shelved_texts table tags s w pid r one two 0 true → IsShort one → IsShortIfAny two → (b : Bool) → are_long first second ≡ b → Answer
    swapping one two is short shorts true e =
        let clash : Cancel ENAMETOOLONG ≡ put 0 one two = by_long true e (shelved_texts table tags s w pid r one two 0 true) is ∙ ap (λ b. if b then Cancel ENAMETOOLONG else put 0 one two) (none_long one two short shorts) in
        absurd cc
    swapping one two is short shorts false e = inl (all_short first second e)

    cancelling : (e : Errno) → IsEdit table tags s w pid r (λ sp usable. Cancel e) → (e ≡ ENAMETOOLONG → IsRefused e) → (b : Bool) → are_long first second ≡ b → Answer
    cancelling e is refuses true long =
        let same : ENAMETOOLONG ≡ e = error_is (by_long true long (Cancel e) (is 0 true)) in
        let fails = refuses (sym same) in
        inr (record { edit = λ sp usable. is sp usable ∙ ap Cancel (sym same); refused = fails.0 ∙ ap refuse (sym same); lost = fails.1 ∙ ap WalkFails (sym same) })
      where
        error_is : Cancel ENAMETOOLONG ≡ Cancel e → ENAMETOOLONG ≡ e
        error_is is = cc
    cancelling e is refuses false long = inl (all_short first second long)

    told_short : EditIs → Answer
    told_short (Passes is) = passing (are_long first second) refl (is 0 true)
    told_short (Swaps one two is short shorts) = swapping one two (is 0 true) short shorts (are_long first second) refl
    told_short (Cancels e is refuses) = cancelling e is refuses (are_long first second) refl

pub shelved_texts_are_short : ShelvedTextsAreShort
shelved_texts_are_short table tags s w pid r u first second planned at calm edit =
    told_short table tags s w pid r planned calm first second edit (edit_told table tags s w pid r planned calm u at)

pub plans_are_short : PlansAreShort
plans_are_short table tags s w pid r u planned at calm = by (plans_agree table tags s w pid r u planned at)
  where
    by : PlanAgrees table tags s w pid r → (plan : PlanAgrees table tags s w pid r) × IsShortPlan table tags s w pid r plan
    by (Passing edit passed) = (Passing edit passed, tt)
    by (Swapping first second edit swapped) = short (shelved_texts_are_short table tags s w pid r u first second planned at calm edit)
      where
        short : (IsShort first × IsShortIfAny second) ⊎ IsTooLong table tags s w pid r → (plan : PlanAgrees table tags s w pid r) × IsShortPlan table tags s w pid r plan
        short (inl is) = (Swapping first second edit swapped, is)
        short (inr long) = (Cancelling ENAMETOOLONG long.edit long.refused (λ _. (ENAMETOOLONG, long.lost)), tt)
    by (Cancelling e edit refused lost) = (Cancelling e edit refused lost, tt)
