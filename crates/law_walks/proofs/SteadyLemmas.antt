-- Whether a walk is steady goes by what its looks look up in the process directory, and by nothing else of what is around it.
use Rattle.std.proofs.Common.{◌≡◌, ℕ, not, List, [], ◌∷◌, refl, ap}
use Rattle.std.specs.Prelude.{◌||◌}
use Rattle.pt_canon.specs.pr_base.Paths.{Component}
use Rattle.pt_canon.specs.pr_base.WalkFrame.{Landing, LookedAt}
use Rattle.pt_canon.specs.pr_base.declared.path.WalkMode.{WalkMode}
use Rattle.kr_mounts.specs.kr_tree.declared.place.Place.{Place}
use Rattle.kr_mounts.specs.kr_view.Component.{Surroundings, meets_processes}
use Rattle.kr_mounts.specs.kr_view.Reach.{is_steady, landings_reach, look_reach, looks_reach, nothing, reached_landing}
use Rattle.kr_mounts.specs.kr_view.Walk.{PlaceTrail}
use Rattle.kr_mounts.specs.kr_view.declared.target.Reach.{Reach}

module _ (one other : Surroundings) (mode : WalkMode) (same : (p : Place ℕ) (c : Component) → meets_processes one.space p c ≡ meets_processes other.space p c) where
  looks_met : (looks : List (LookedAt (Place ℕ))) (r q : Reach) → r.met_proc ≡ q.met_proc → (looks_reach one mode looks r).met_proc ≡ (looks_reach other mode looks q).met_proc
  looks_met [] r q e = e
  looks_met (l ∷ looks) r q e = looks_met looks (look_reach one mode l r) (look_reach other mode l q) (λ j. e j || same l.place l.component j)

  landings_met : (landings : List (Landing (Place ℕ) (Place ℕ))) (r q : Reach) → r.met_proc ≡ q.met_proc → (landings_reach one.space landings r).met_proc ≡ (landings_reach other.space landings q).met_proc
  landings_met [] r q e = e
  landings_met (l ∷ landings) r q e = landings_met landings (reached_landing one.space l r) (reached_landing other.space l q) e

  pub same_steady : (trail : PlaceTrail) → is_steady one mode trail ≡ is_steady other mode trail
  same_steady trail = ap not (landings_met trail.landings (looks_reach one mode trail.looks nothing) (looks_reach other mode trail.looks nothing) (looks_met trail.looks nothing nothing refl))
