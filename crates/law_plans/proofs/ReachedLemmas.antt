-- What the walk of each path of a call reaches is part of what the call reaches.
use Rattle.std.proofs.Common.{◌≡◌, ◌≢◌, ◌≤◌, ℕ, List, [], ◌∷◌, Option, Some, None, Result, Ok, Err, refl, ap, subst, ◌∙◌, arith}
use Rattle.law_edits.specs.pr_base.declared.errno.Errno.{Errno}
use Rattle.law_edits.specs.kr_calls.PathTable.{PathUse, path_at}
use Rattle.law_edits.specs.kr_calls.declared.request.Request.{Request}
use Rattle.law_places.specs.kr_tree.declared.place.Place.{Place}
use Rattle.law_places.specs.kr_view.Reach.{reach_after}
use Rattle.law_places.specs.kr_view.View.{Row}
use Rattle.law_places.specs.kr_view.Walk.{PlaceTarget, place_walk}
use Rattle.law_places.specs.kr_view.declared.target.Reach.{Reach}
use Rattle.law_places.proofs.kr_view.ReachLemmas.{covers_after}
use Rattle.law_places.specs.kr_model.ProcessDirectory.{around_of}
use Rattle.law_places.specs.kr_model.State.{Image, State}
use Rattle.law_places.specs.kr_model.Walks.{base_of, target_at, walked}
use Rattle.law_places.specs.kr_seen.CallWalks.{call_reach, path_reach, second_reach, walk_reach}
use Rattle.law_edits.specs.kr_turns.Breaking.{nothing_reached}

module _ (table : List Row) (pid : ℕ) (s : State ℕ Image) where
  walk_more : (u : PathUse) (text : List ℕ) (base : Result (Place ℕ) Errno) (r : Reach) → r.longest ≤ (walk_reach table pid s u text base r).longest
  walk_more u [] base r = omega arith
  walk_more u (b ∷ path) (Ok base) r = (covers_after (around_of table pid s) u.mode (place_walk (around_of table pid s) u.mode base (b ∷ path)) r).longest
  walk_more u (b ∷ path) (Err e) r = omega arith

  path_more : (o : Option PathUse) (r : Reach) → r.longest ≤ (path_reach table pid s o r).longest
  path_more None r = omega arith
  path_more (Some u) r = walk_more u u.text (base_of table pid s u) r

  second_more : (o : Result (Option PlaceTarget) Errno) (u : Option PathUse) (r : Reach) → r.longest ≤ (second_reach table pid s o u r).longest
  second_more (Ok target) u r = path_more u r
  second_more (Err e) u r = omega arith

  -- a path from its base
  walked_reach : (u : PathUse) (base : Place ℕ) (r : Reach) → base_of table pid s u ≡ Ok base → u.text ≢ []
      → path_reach table pid s (Some u) r ≡ reach_after (around_of table pid s) u.mode (place_walk (around_of table pid s) u.mode base u.text) r
  walked_reach u base r begun some = ap (λ base. walk_reach table pid s u u.text base r) begun ∙ by u.text some
    where
      by : (text : List ℕ) → text ≢ [] → walk_reach table pid s u text (Ok base) r ≡ reach_after (around_of table pid s) u.mode (place_walk (around_of table pid s) u.mode base text) r
      by [] some = absurd (some refl)
      by (b ∷ path) some = refl

  module _ (q : Request) (u : PathUse) (base : Place ℕ) (begun : base_of table pid s u ≡ Ok base) (some : u.text ≢ []) (calm : (call_reach table pid s q nothing_reached).longest ≤ 4000) where
    abbrev IsCalm : Type 0
    IsCalm = (r : Reach) × ((reach_after (around_of table pid s) u.mode (place_walk (around_of table pid s) u.mode base u.text) r).longest ≤ 4000)

    pub first_calm : path_at q 0 ≡ Some u → IsCalm
    first_calm at =
        let more = second_more (target_at table pid s (path_at q 0)) (path_at q 1) (path_reach table pid s (path_at q 0) nothing_reached) in
        let own : (path_reach table pid s (path_at q 0) nothing_reached).longest ≤ 4000 = omega (arith, more, calm) in
        (nothing_reached, subst (λ (r : Reach). r.longest ≤ 4000) (ap (λ o. path_reach table pid s o nothing_reached) at ∙ walked_reach u base nothing_reached begun some) own)

    pub second_calm : (v : PathUse) (target : Option PlaceTarget) → path_at q 0 ≡ Some v → walked table pid s v v.text ≡ Ok target → path_at q 1 ≡ Some u → IsCalm
    second_calm v target at found after =
        let first = path_reach table pid s (path_at q 0) nothing_reached in (
          first,
          subst (λ (r : Reach). r.longest ≤ 4000)
              (ap (λ o. second_reach table pid s (target_at table pid s o) (path_at q 1) first) at ∙ ap (λ o. second_reach table pid s o (path_at q 1) first) found ∙ ap (λ o. path_reach table pid s o first) after ∙ walked_reach u base first begun some) calm,
        )
