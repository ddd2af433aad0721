-- What a walk reaches within a length: each look of it, and its end.
use Rattle.std.proofs.Common.{◌≡◌, ◌≤◌, ℕ, true, List, [], ◌∷◌, Option, Some, Ok, refl, ap, ◌∙◌, arith}
use Rattle.pr_start.specs.pr_base.Paths.{Component}
use Rattle.pr_start.specs.pr_base.WalkFrame.{Fails, Jumps, Landing, Leads, Links, LookedAt, Missing}
use Rattle.pr_start.specs.pr_base.WalkLaws.{Shows}
use Rattle.pr_start.specs.pr_base.declared.path.WalkMode.{WalkMode}
use Rattle.pr_start.specs.kr_tree.declared.place.Place.{Place}
use Rattle.pr_start.specs.kr_view.declared.target.Reach.{Reach}
use Rattle.pr_start.specs.kr_view.Component.{SeenPlace, Surroundings, look_up}
use Rattle.pr_start.specs.kr_view.Names.{Text, component_name, directory_name}
use Rattle.pr_start.specs.kr_view.Reach.{beginning_name, end_names, free_target_name, landings_reach, look_reach, looks_reach, named_entry, names_entry, raised, raised_by_all, reach_after, reached_landing, seen_name, text_length}
use Rattle.pr_start.specs.kr_view.Walk.{PlaceTarget, PlaceTrail}
use Rattle.pr_start.proofs.kr_view.ReachLemmas.{covers_landing, covers_look, raised_more}
use Rattle.law_programs.proofs.EndLemmas.{Each}

-- a name that is told is no longer than the longest
pub raised-has : (names : Text) (n : ℕ) → text_length names ≤ raised (Some names) n
raised-has names n = omega arith

all-more : (names : List (Option Text)) (n : ℕ) → n ≤ raised_by_all names n
all-more [] n = omega arith
all-more (name ∷ names) n =
    let one = raised_more name n in
    let rest = all-more names (raised name n) in
    omega arith

-- what is shown is called as the component
seen-called : (name : Option Text) (seen : SeenPlace) (p : Place ℕ) → Shows seen (Some p) → seen_name name seen ≡ name
seen-called name (Fails e) p shows = absurd shows
seen-called name Missing p shows = absurd cc
seen-called name (Leads is_dir q f) p shows = refl
seen-called name (Links f text) p shows = refl
seen-called name (Jumps f lead) p shows = refl

module _ (around : Surroundings) (mode : WalkMode) (most : ℕ) where
  abbrev pub IsWithin : LookedAt (Place ℕ) → Type 0
  IsWithin l = (r : Reach) × ((look_reach around mode l r).longest ≤ most)

  looks-more : (looks : List (LookedAt (Place ℕ))) (r : Reach) → r.longest ≤ (looks_reach around mode looks r).longest
  looks-more [] r = omega arith
  looks-more (l ∷ looks) r =
      let one = (covers_look around mode l r).longest in
      let rest = looks-more looks (look_reach around mode l r) in
      omega arith

  looks-within : (looks : List (LookedAt (Place ℕ))) (r : Reach) → (looks_reach around mode looks r).longest ≤ most → Each IsWithin looks
  looks-within [] r within = tt
  looks-within (l ∷ looks) r within =
      let more = looks-more looks (look_reach around mode l r) in
      ((r, omega arith), looks-within looks (look_reach around mode l r) within)

  landings-more : (landings : List (Landing (Place ℕ) (Place ℕ))) (r : Reach) → r.longest ≤ (landings_reach around.space landings r).longest
  landings-more [] r = omega arith
  landings-more (l ∷ landings) r =
      let one = (covers_landing around l r).longest in
      let rest = landings-more landings (reached_landing around.space l r) in
      omega arith

  module _ (trail : PlaceTrail) (r : Reach) (within : (reach_after around mode trail r).longest ≤ most) where
    pub trail-within : Each IsWithin trail.looks
    trail-within =
        let looked = looks_reach around mode trail.looks r in
        let more = landings-more trail.landings looked in
        let end = all-more (end_names around.space trail.answer) (landings_reach around.space trail.landings looked).longest in
        looks-within trail.looks r (omega arith)

    -- the place where a walk ends that looked at nothing
    pub beginning-within : (a : PlaceTarget) (names : Text) → trail.answer ≡ Ok a → beginning_name around.space a.dir.host a.last ≡ Some names → text_length names ≤ most
    beginning-within a names is called =
        let n = (landings_reach around.space trail.landings (looks_reach around mode trail.looks r)).longest in
        let ended : raised_by_all (end_names around.space trail.answer) n ≡ raised_by_all (beginning_name around.space a.dir.host a.last ∷ free_target_name around.space a a.found ∷ []) n = ap (λ x. raised_by_all (end_names around.space x) n) is in
        let named : raised_by_all (beginning_name around.space a.dir.host a.last ∷ free_target_name around.space a a.found ∷ []) n ≡ raised (free_target_name around.space a a.found) (raised (Some names) n) =
        ap (λ o. raised (free_target_name around.space a a.found) (raised o n)) called in
        let has = raised-has names n in
        let more = raised_more (free_target_name around.space a a.found) (raised (Some names) n) in
        omega arith

  -- what a look showed
  pub look-within : (p f : Place ℕ) (c : Component) (names : Text) → IsWithin (record { place = p; component = c; is_last = true }) → Shows (look_up around p c) (Some f) → component_name around.space p c ≡ Some names → text_length names ≤ most
  look-within p f c names within shows called =
      let n = raised (directory_name around.space p.host) within.0.longest in
      let own : seen_name (component_name around.space p c) (look_up around p c) ≡ Some names = seen-called (component_name around.space p c) (look_up around p c) f shows ∙ called in
      let entry = seen_name (named_entry around.space (names_entry mode true) p.host c) (look_up around p c) in
      let named : (look_reach around mode (record { place = p; component = c; is_last = true }) within.0).longest ≡ raised entry (raised (Some names) n) = ap (λ o. raised entry (raised o n)) own in
      let has = raised-has names n in
      let more = raised_more entry (raised (Some names) n) in
      let le = within.1 in
      omega arith
