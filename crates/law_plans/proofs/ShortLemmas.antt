-- Each text that takes the place of a path of a calm call is short.
use Rattle.std.proofs.Common.{◌≡◌, ◌≤◌, ℕ, Bool, List, [], ◌∷◌, length, Option, Some, None, Result, Ok, Err, refl, sym, ap, ◌∙◌}
use Rattle.law_edits.specs.pr_base.Texts.{Text}
use Rattle.law_edits.specs.pr_base.WalkFrame.{Target}
use Rattle.law_edits.specs.pr_base.declared.errno.Errno.{Errno}
use Rattle.law_edits.specs.pt_args.Bases as traced_bases
use Rattle.law_edits.specs.pt_args.Purposes.{purpose_of, swap_for}
use Rattle.law_edits.specs.pt_args.Walks as traced
use Rattle.law_edits.specs.pt_args.Walks.{reached_at, walked_along, walked_from}
use Rattle.law_edits.specs.pt_args.declared.reached.Reached.{Reached}
use Rattle.law_edits.specs.pt_bind.Tags.{TagTable}
use Rattle.law_places.specs.pt_canon.Canon.{canon_at, canon_of, canon_result, ending_of}
use Rattle.law_places.specs.pt_canon.TextWalk.{TextSurroundings, text_walk}
use Rattle.law_places.specs.pt_canon.declared.canon.Canon.{Canon}
use Rattle.law_edits.specs.kr_calls.PathTable.{PathUse}
use Rattle.law_places.specs.kr_tree.declared.place.Place.{Place}
use Rattle.law_places.specs.kr_view.Reach.{reach_after}
use Rattle.law_places.specs.kr_view.View.{Row}
use Rattle.law_places.specs.kr_view.Walk.{PlaceTarget, place_walk}
use Rattle.law_places.specs.kr_view.declared.target.Reach.{Reach}
use Rattle.law_places.specs.kr_mounts.Standing.{texts_of}
use Rattle.law_places.specs.kr_model.ProcessDirectory.{around_of, space_of}
use Rattle.law_places.specs.kr_model.State.{Image, State}
use Rattle.law_places.specs.kr_model.Walks.{and_then, base_of, walked}
use Rattle.law_places.specs.law_walks.Scene.{Scene}
use Rattle.law_places.specs.law_walks.Standing.{StandsOn}
use Rattle.law_places.specs.law_walks.States.{scene_of}
use Rattle.law_plans.specs.Begins.{BaseAgrees, BaseOn, LeadsBoth, LostBase, NoBase, StandTogether, told_texts}
use Rattle.law_plans.proofs.BaseLemmas.{bases_agree}
use Rattle.law_edits.proofs.ShortSwapLemmas.{swaps_are_short}

same_target : (one two : PlaceTarget) → ◌≡◌ {A = Result (Option PlaceTarget) Errno} (Ok (Some one)) (Ok (Some two)) → one ≡ two
same_target one two e = cc

not_reached : {A : Type 0} (reached : Reached) → ◌≡◌ {A = Result (Option Reached) Errno} (Ok None) (Ok (Some reached)) → A
not_reached reached e = absurd cc

no_reached : {A : Type 0} (e : Errno) (o : Option Reached) → ◌≡◌ {A = Result (Option Reached) Errno} (Err e) (Ok o) → A
no_reached e o is = absurd cc

module _ (table : List Row) (tags : TagTable) (s w : State ℕ Image) (pid : ℕ) (u : PathUse) (opening : Bool) (both : StandTogether table tags s w) (lead : LeadsBoth table tags s w pid u opening) where
  abbrev texts : TextSurroundings
  texts = told_texts table s pid tags

  abbrev scene : Scene
  scene = scene_of table s pid tags

  -- ---- a path that leads somewhere does so from where it begins

  pub record IsRooted : Type 0 where
    pub own : LeadsBoth table tags s w pid u opening
    pub same : own.canon ≡ lead.canon
    pub begun : base_of table pid s u ≡ Ok own.base

  module _ (p : Place ℕ) (t : Text) (begun : base_of table pid s u ≡ Ok p) (on : StandsOn (space_of table s) p t) where
    abbrev reach : Result Canon Errno → Result (Option Reached) Errno
    reach c = traced.and_then c (λ canon. Ok (Some (reached_at u opening canon)))

    -- by the answers of both walks
    rooted_by : (x : Result PlaceTarget Errno) (y : Result (Target Text Text) Errno) → (place_walk (around_of table pid s) u.mode p u.text).answer ≡ x → (text_walk texts u.mode t u.text).answer ≡ y
        → and_then x (λ target. Ok (Some target)) ≡ Ok (Some lead.place) → reach (canon_result (texts_of table) u.mode y) ≡ Ok (Some (reached_at u opening lead.canon)) → IsRooted
    rooted_by (Err e) y ex ey one other = absurd cc
    rooted_by (Ok a) (Err e) ex ey one other = no_reached e _ other
    rooted_by (Ok a) (Ok b) ex ey one other =
        let one_place : a ≡ lead.place = same_target a lead.place one in
        let one_canon : canon_at (texts_of table) (ending_of u.mode b) ≡ lead.canon = canon_is (canon_at (texts_of table) (ending_of u.mode b)) other in
        record {
          own = record {
            place = lead.place;
            text = b;
            canon = lead.canon;
            base = p;
            start = t;
            both = record { matched = lead.both.matched; stands = on; some = lead.both.some; place = ex ∙ ap Ok one_place; text = ey };
            answers = ap (canon_result (texts_of table) u.mode) ey ∙ ap Ok one_canon;
            reached = lead.reached;
            target = lead.target;
          };
          same = refl;
          begun = begun;
        }
      where
        canon_is : (c : Canon) → ◌≡◌ {A = Result (Option Reached) Errno} (Ok (Some (reached_at u opening c))) (Ok (Some (reached_at u opening lead.canon))) → c ≡ lead.canon
        canon_is c e = let same : reached_at u opening c ≡ reached_at u opening lead.canon = cc in ap (λ (r : Reached). r.canon) same

  module _ (byte : ℕ) (path : List ℕ) (is : u.text ≡ byte ∷ path) where
    text_is : traced.walked texts pid opening u ≡ traced.and_then (traced_bases.base_of texts pid u) (walked_from texts opening u)
    text_is = ap (walked_along texts pid opening u) is

    place_is : walked table pid s u u.text ≡ and_then (base_of table pid s u) (λ base. and_then (place_walk (around_of table pid s) u.mode base u.text).answer (λ target. Ok (Some target)))
    place_is = ap (walked table pid s u) is ∙ sym (ap (λ path. and_then (base_of table pid s u) (λ base. and_then (place_walk (around_of table pid s) u.mode base path).answer (λ target. Ok (Some target)))) is)

    by_base : BaseAgrees table tags s w pid u → IsRooted
    by_base (NoBase e t k l) = not_reached _ (sym (text_is ∙ ap (λ b. traced.and_then b (walked_from texts opening u)) t) ∙ lead.reached)
    by_base (LostBase e t k) = no_reached e _ (sym (text_is ∙ ap (λ b. traced.and_then b (walked_from texts opening u)) t) ∙ lead.reached)
    by_base (BaseOn p t begins begun on read) =
        rooted_by p t begun on (place_walk (around_of table pid s) u.mode p u.text).answer (text_walk texts u.mode t u.text).answer refl refl
        (sym (place_is ∙ ap (λ b. and_then b (λ base. and_then (place_walk (around_of table pid s) u.mode base u.text).answer (λ target. Ok (Some target)))) begun) ∙ lead.target)
        (sym (text_is ∙ ap (λ b. traced.and_then b (walked_from texts opening u)) begins ∙ ap (λ names. traced.and_then (canon_of texts u.mode names u.text) (λ canon. Ok (Some (reached_at u opening canon)))) read) ∙ lead.reached)

  pub rooted : IsRooted
  rooted = by u.text refl
    where
      by : (x : List ℕ) → u.text ≡ x → IsRooted
      by [] e = absurd (lead.both.some e)
      by (byte ∷ path) e = by_base byte path e (bases_agree table tags s w pid u both)

  -- ---- its text

  pub lead_short : (r : Reach) → (reach_after scene.around u.mode (place_walk scene.around u.mode lead.base u.text) r).longest ≤ 4000 → (text : List ℕ) → swap_for (texts_of table) (purpose_of opening u.mode) lead.canon ≡ Ok text → length text ≤ 4095
  lead_short r calm text swap = swaps_are_short scene u.mode lead.base lead.start u.text lead.place lead.text r opening lead.canon text lead.both calm lead.answers swap
