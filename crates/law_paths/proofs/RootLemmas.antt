-- A path leads to the root over mounts exactly where it does so over guest texts.
use Rattle.std.proofs.Common.{◌≡◌, ◌≤◌, ℕ, suc, Bool, true, false, List, [], ◌∷◌, Option, Some, None, Result, Ok, Err, refl, sym, ap, subst, ◌∙◌, arith}
use Rattle.std.specs.Prelude.{◌&&◌, bytes_eq, nat_eq}
use Rattle.std.specs.Option.{option_map_or, unwrap_or}
use Rattle.std.proofs.lemmas.Bool.Decides.{nat_tests}
use Rattle.std.proofs.lemmas.Slice.Eq.{bytes_eq-Decides}
use Rattle.std.proofs.lemmas.Option.{same_Some}
use Rattle.std.proofs.lemmas.Bool.{and_parts}
use Rattle.law_plans.specs.pr_base.Paths.{slash, text_of}
use Rattle.law_plans.specs.pr_base.Texts.{Text}
use Rattle.law_plans.specs.pr_base.WalkFrame.{may_be_free}
use Rattle.law_plans.specs.pr_base.declared.errno.Errno.{Errno}
use Rattle.law_plans.proofs.pr_base.PathLemmas.{names_are_parts}
use Rattle.law_stops.specs.pt_bind.Binding.{names_of}
use Rattle.law_stops.specs.pt_bind.Tags.{TagTable}
use Rattle.law_plans.proofs.pt_bind.ByteLemmas.{names_written}
use Rattle.law_plans.specs.pt_canon.Canon.{canon_result, guest_text}
use Rattle.law_plans.specs.pt_canon.declared.canon.Canon.{Canon}
use Rattle.law_stops.specs.kr_calls.PathTable.{PathUse, path_at}
use Rattle.law_stops.specs.kr_calls.declared.request.Request.{Request}
use Rattle.law_plans.specs.kr_tree.declared.place.Host.{Host}
use Rattle.law_plans.specs.kr_tree.declared.place.Host.TheVariants.{Node, Proc}
use Rattle.law_plans.specs.kr_tree.declared.place.Place.{Place}
use Rattle.law_plans.specs.kr_view.View.{Row, is_root_place, root_place, root_source}
use Rattle.law_plans.specs.kr_view.Walk.{PlaceTarget}
use Rattle.law_plans.specs.kr_mounts.Standing.{texts_of}
use Rattle.law_plans.specs.kr_model.ProcessDirectory.{leads_of, space_of}
use Rattle.law_plans.specs.kr_model.State.{Image, State}
use Rattle.law_plans.specs.kr_model.Walks.{and_then, targets_of, walked}
use Rattle.law_stops.specs.kr_turns.PlainCall.{is_root_found, leads_to_root}
use Rattle.law_plans.specs.pt_tracer.Planning.{led_along, led_by}
use Rattle.law_plans.specs.law_walks.Settled.{IsSettled}
use Rattle.law_plans.specs.law_walks.Standing.{Stands}
use Rattle.law_plans.proofs.law_walks.InUseLemmas.{laws}
use Rattle.law_plans.proofs.law_walks.StandingLemmas.{directories_stand_once, roots_stand}
use Rattle.law_plans.proofs.law_walks.TableLemmas.{root_directory}
use Rattle.law_plans.specs.Begins.{Fails, FailsSo, IsEmpty, Leads, LeadsBoth, PathAgrees, StandTogether, Stays, told_texts}
use Rattle.law_plans.proofs.LeadLemmas.{found_text, found_there, guest_names, same_canon}
use Rattle.law_plans.proofs.PathLemmas.{paths_agree}
use Rattle.law_plans.proofs.PlanLemmas.{only, targets_only}

none_below : (k : ℕ) → suc k ≤ 0 → ⊥
none_below k lt = grind (arith)

-- two tests that hold together
same_tests : (a b : Bool) → (a ≡ true → b ≡ true) → (b ≡ true → a ≡ true) → a ≡ b
same_tests true b one other = sym (one refl)
same_tests false true one other = other refl
same_tests false false one other = refl

module _ (table : List Row) where
  root_is : (p : Place ℕ) → is_root_place table p ≡ true → p ≡ root_place table
  root_is p e = by p.mount p.host e
    where
      by : (m : ℕ) (h : Host) → is_root_place table (record { mount = m; host = h }) ≡ true → record { mount = m; host = h } ≡ root_place table
      by m (Proc i at) e = absurd (never (nat_eq m 0) e)
        where
          never : (a : Bool) → (a && false) ≡ true → ⊥
          never true e = cc
          never false e = cc
      by m (Node i) e =
          let parts = and_parts (nat_eq m 0) (nat_eq i (root_source table)) e in
          let one : m ≡ 0 = (let holds = parts.0 in grind (arith, nat_tests)) in
          let two : i ≡ root_source table = (let holds = parts.1 in grind (arith, nat_tests)) in
          λ j. record { mount = one j; host = Node (two j) }

  root_tested : is_root_place table (root_place table) ≡ true
  root_tested = let same : nat_eq (root_source table) (root_source table) ≡ true = grind (arith, nat_tests) in ap (λ b. true && b) same

module _ (table : List Row) (tags : TagTable) (s w : State ℕ Image) (pid : ℕ) (u : PathUse) (opening : Bool) (both : StandTogether table tags s w) where
  abbrev tested : Canon → Bool
  tested canon = bytes_eq canon.guest (slash ∷ [])

  -- of what is looked up
  module _ (lead : LeadsBoth table tags s w pid u opening) (must : may_be_free u.mode ≡ false) where
    set : IsSettled (space_of table s)
    set = both.matched.placed.settled

    p : (p : Place ℕ) × (lead.place.found ≡ Some p)
    p = found_there table tags s w pid u opening both lead must

    found : (t : Text) × (lead.text.found ≡ Some t) × Stands (space_of table s) p.0 t
    found = let q = found_text table tags s w pid u opening both lead p.0 p.1 in (q.0, q.1, q.2.stands)

    guest_is : lead.canon.guest ≡ text_of found.0
    guest_is =
        ap (λ (c : Canon). c.guest) (same_canon table tags s w pid u opening both lead _ (ap (canon_result (texts_of table) u.mode) lead.both.text))
        ∙ ap (λ free. text_of (guest_text free lead.text)) must ∙ ap (λ o. text_of (unwrap_or o lead.text.dir)) found.1

    read_back : names_of (text_of found.0) ≡ found.0
    read_back = names_written found.0 (names_are_parts found.0 (guest_names table tags s w pid u opening both lead p.0 found.0 found.2))

    to_text : is_root_place table p.0 ≡ true → tested lead.canon ≡ true
    to_text root =
        let same : p.0 ≡ root_place table = root_is table p.0 root in
        let on = subst (λ p. Stands (space_of table s) p found.0) same found.2 in
        let empty : found.0 ≡ [] = directories_stand_once (space_of table s) (leads_of table s pid) (root_place table) found.0 [] set (laws table s pid set both.small) (root_directory (space_of table s) set) on (roots_stand (space_of table s) set).stands in
        (bytes_eq-Decides lead.canon.guest (slash ∷ [])).1 (guest_is ∙ ap text_of empty)

    to_root : tested lead.canon ≡ true → is_root_place table p.0 ≡ true
    to_root root =
        let written : text_of found.0 ≡ text_of [] = sym guest_is ∙ (bytes_eq-Decides lead.canon.guest (slash ∷ [])).0 root in
        let empty : found.0 ≡ [] = sym read_back ∙ ap names_of written ∙ names_written [] (λ k d lt. absurd (none_below k lt)) in
        let on = subst (Stands (space_of table s) p.0) empty found.2 in
        let other = (roots_stand (space_of table s) set).stands in
        let host : p.0.host ≡ (root_place table).host = same_Some _ _ (sym on.way ∙ other.way) in
        let mount : p.0.mount ≡ (root_place table).mount = on.mount ∙ sym other.mount in
        subst (λ p. is_root_place table p ≡ true) (sym (λ j. record { mount = mount j; host = host j })) (root_tested table)

    lead_tested : is_root_found table lead.place ≡ tested lead.canon
    lead_tested = ap (λ o. option_map_or (is_root_place table) o false) p.1 ∙ same_tests (is_root_place table p.0) (tested lead.canon) to_text to_root

  -- of a call with that path alone
  pub root_known : (r : Request) → path_at r 0 ≡ Some u → path_at r 1 ≡ None → may_be_free u.mode ≡ false → leads_to_root table (targets_of table pid s r) ≡ (led_along (told_texts table s pid tags) pid opening (Some u)).at_root
  root_known r at alone must = by (paths_agree table tags s w pid u opening both)
    where
      walked_is : (o : Result (Option PlaceTarget) Errno) → walked table pid s u u.text ≡ o → leads_to_root table (targets_of table pid s r) ≡ leads_to_root table (and_then o (λ first. Ok (only first)))
      walked_is o is = ap (leads_to_root table) (targets_only table pid s r u at alone ∙ ap (λ o. and_then o (λ first. Ok (only first))) is)

      by : PathAgrees table tags s w pid u opening → leads_to_root table (targets_of table pid s r) ≡ (led_along (told_texts table s pid tags) pid opening (Some u)).at_root
      by (Stays e (IsEmpty none)) = walked_is (Ok None) (ap (walked table pid s u) none) ∙ sym (ap (λ o. (led_by o).at_root) e)
      by (Stays e (FailsSo x here there)) = walked_is (Err x) here ∙ sym (ap (λ o. (led_by o).at_root) e)
      by (Fails x e here) = walked_is (Err x) here ∙ sym (ap (λ o. (led_by o).at_root) e)
      by (Leads lead) = walked_is (Ok (Some lead.place)) lead.target ∙ lead_tested lead must ∙ sym (ap (λ o. (led_by o).at_root) lead.reached)
