-- What a walk counts of where it ends: the names of the directory and of what was found are at most as long as what it reached.
use Rattle.std.proofs.Common.{◌≡◌, ◌≢◌, ◌≤◌, ℕ, zero, suc, Bool, true, false, ◌||◌, List, [], ◌∷◌, ◌++◌, Option, Some, None, Result, Ok, refl, sym, ap, subst, arith, ◌∙◌}
use Rattle.std.specs.Bool.{if◌then◌else◌}
use Rattle.pt_tracer.specs.pr_base.Paths.{Component, components_of, has_slash, kind_of}
use Rattle.pt_tracer.specs.pr_base.Texts.{Text}
use Rattle.pt_tracer.specs.pr_base.WalkFrame.{Fails, Missing, Leads, Links, Jumps, Landing, LookedAt, Onward, along, at_last, begins_at, ends, ends_found, ends_landed, fails, here, in_middle, is_followed, jumps_on, landed, loops, may_be_free, most_links, name_of, target_at, walk_on, wants_directory}
use Rattle.pt_tracer.specs.pr_base.declared.errno.Errno.{Errno}
use Rattle.pt_tracer.specs.pr_base.declared.errno.Errno.TheVariants.{ELOOP, ENOENT, ENOTDIR}
use Rattle.pt_tracer.specs.pr_base.declared.path.Last.TheVariants as last
use Rattle.pt_tracer.specs.pr_base.declared.path.WalkMode.{WalkMode}
use Rattle.pt_tracer.proofs.pr_base.EndLemmas.{same_target}
use Rattle.law_walks.specs.kr_tree.declared.place.Place.{Place}
use Rattle.law_walks.specs.kr_view.declared.target.Reach.{Reach}
use Rattle.law_walks.specs.kr_view.Component.{SeenPlace, Surroundings, look_up}
use Rattle.law_walks.specs.kr_view.Names.{component_name, directory_name, landing_name}
use Rattle.law_walks.specs.kr_view.Reach.{beginning_name, end_reach, free_target_name, landings_reach, look_reach, looks_reach, named_entry, names_entry, raised, reach_after, reached_landing, seen_name, text_length}
use Rattle.law_walks.specs.kr_view.Walk.{PlaceTarget, PlaceTrail, looking, place_walk}
use Rattle.law_walks.proofs.kr_view.ReachLemmas.{behind_jump, covers_after, raised_more}

-- ---- names within a bound

-- a name, if there is one, is at most so long
pub record IsWithin (n : ℕ) (name : Option Text) : Type 0 where
  pub go : (t : Text) → name ≡ Some t → text_length t ≤ n

within_more : (n m : ℕ) (name : Option Text) → n ≤ m → IsWithin n name → IsWithin m name
within_more n m name more within = record { go = λ t is. let short = within.go t is in omega (arith, short) }

raised_has : (name : Option Text) (n : ℕ) → IsWithin (raised name n) name
raised_has None n = record { go = λ t is. absurd cc }
raised_has (Some own) n = record { go = λ t is. let same : own ≡ t = cc in subst (λ t. text_length t ≤ raised (Some own) n) same (omega arith) }

module _ (around : Surroundings) (mode : WalkMode) where
  -- what was counted of a target that a component showed
  abbrev pub CountedShown : ℕ → PlaceTarget → Type 0
  CountedShown n t =
      (c : Component) × (kind_of c ≡ t.last) × (name_of c ≡ t.name) × IsWithin n (seen_name (component_name around.space t.dir c) (look_up around t.dir c))
      × IsWithin n (seen_name (named_entry around.space (names_entry mode true) t.dir.host c) (look_up around t.dir c))

  -- and of one to which a process link led
  abbrev pub CountedLanding : ℕ → PlaceTarget → Type 0
  CountedLanding n t =
      (s : Place ℕ) × (c : Component) × (f : Place ℕ) × (l : Landing (Place ℕ) (Place ℕ)) × (look_up around s c ≡ Jumps f (Some l)) × (t ≡ landed l t.slash) × IsWithin n (landing_name around.space l)

  pub record IsCounted (n : ℕ) (t : PlaceTarget) : Type 0 where
    pub dir : t.jumped ≡ false → t.last ≢ last.Root → IsWithin n (directory_name around.space t.dir.host)
    pub shown : t.jumped ≡ false → t.last ≢ last.Root → CountedShown n t
    pub landing : t.jumped ≡ true → CountedLanding n t

  counted_more : (n m : ℕ) (t : PlaceTarget) → n ≤ m → IsCounted n t → IsCounted m t
  counted_more n m t more counted = record {
    dir = λ jumped root. within_more n m _ more (counted.dir jumped root);
    shown = λ jumped root. let own = counted.shown jumped root in (own.0, own.1, own.2, within_more n m _ more own.3, within_more n m _ more own.4);
    landing = λ jumped. let own = counted.landing jumped in (own.0, own.1, own.2, own.3, own.4, own.5, within_more n m _ more own.6);
  }

  -- the target of a trail, if it has one, is counted among what is reached behind what was reached before
  record CountsAt (r : Reach) (trail : PlaceTrail) : Type 0 where
    go : (t : PlaceTarget) → trail.answer ≡ Ok t → IsCounted (reach_after around mode trail r).longest t

  failed : (r : Reach) (e : Errno) → CountsAt r (fails e)
  failed r e = record { go = λ t is. absurd cc }

  ended : (r : Reach) (target : PlaceTarget) → IsCounted r.longest target → CountsAt r (ends target)
  ended r target counted = record {
    go = λ t is. subst (IsCounted (reach_after around mode (ends target) r).longest) (same_target target t is) (counted_more r.longest _ target (covers_after around mode (ends target) r).longest counted);
  }

  either : (r : Reach) (b : Bool) (x y : PlaceTrail) → CountsAt r x → CountsAt r y → CountsAt r (if b then x else y)
  either r true x y p q = p
  either r false x y p q = q

  found : (r : Reach) (is_dir : Bool) (target : PlaceTarget) → IsCounted r.longest target → CountsAt r (ends_found mode is_dir target)
  found r is_dir target counted =
      either r (wants_directory mode target.slash) (if is_dir then ends target else fails ENOTDIR) (ends target)
      (either r is_dir (ends target) (fails ENOTDIR) (ended r target counted) (failed r ENOTDIR)) (ended r target counted)

  -- ---- one look

  record IsLooked (s : Place ℕ) (c : Component) (n : ℕ) : Type 0 where
    dir : IsWithin n (directory_name around.space s.host)
    shown : IsWithin n (seen_name (component_name around.space s c) (look_up around s c))
    entry : IsWithin n (seen_name (named_entry around.space (names_entry mode true) s.host c) (look_up around s c))

  looked : (s : Place ℕ) (c : Component) (r : Reach) → IsLooked s c (look_reach around mode (record { place = s; component = c; is_last = true }) r).longest
  looked s c r =
      let dir = directory_name around.space s.host in
      let name = seen_name (component_name around.space s c) (look_up around s c) in
      let entry = seen_name (named_entry around.space (names_entry mode true) s.host c) (look_up around s c) in
      let own = raised dir r.longest in
      let both = raised name own in
      let last = raised_more entry both in
      let more = raised_more name own in
      record {
        dir = within_more own (raised entry both) dir (omega (arith, last, more)) (raised_has dir r.longest);
        shown = within_more both (raised entry both) name last (raised_has name own);
        entry = raised_has entry both;
      }

  at_component : (s : Place ℕ) (c : Component) (slash : Bool) (found : Option (Place ℕ)) (n : ℕ) → IsLooked s c n → IsCounted n (target_at s c slash found)
  at_component s c slash found n look = record { dir = λ _ _. look.dir; shown = λ _ _. (c, refl, refl, look.shown, look.entry); landing = λ jumped. absurd cc }

  at_beginning : (s : Place ℕ) (slash : Bool) (n : ℕ) → IsCounted n (here (looking around) s slash)
  at_beginning s slash n = record { dir = λ _ root. absurd (root refl); shown = λ _ root. absurd (root refl); landing = λ jumped. absurd cc }

  -- ---- process links

  jumps : (r : Reach) (left : ℕ) (go : Landing (Place ℕ) (Place ℕ) → PlaceTrail) (lead : Option (Landing (Place ℕ) (Place ℕ))) → ((l : Landing (Place ℕ) (Place ℕ)) → lead ≡ Some l → CountsAt (reached_landing around.space l r) (go l))
      → CountsAt r (jumps_on left go lead)
  jumps r zero go lead each = failed r ELOOP
  jumps r (suc left) go None each = failed r ENOENT
  jumps r (suc left) go (Some l) each = record {
    go = λ t is. subst (λ (q : Reach). IsCounted q.longest t) (sym (behind_jump around mode l (go l) r)) ((each l refl).go t is);
  }

  lands : (r : Reach) (slash : Bool) (s : Place ℕ) (c : Component) (f : Place ℕ) (l : Landing (Place ℕ) (Place ℕ)) → look_up around s c ≡ Jumps f (Some l) → CountsAt (reached_landing around.space l r) (ends_landed mode slash l)
  lands r slash s c f l is =
      found (reached_landing around.space l r) l.is_dir (landed l slash)
      (record { dir = λ jumped. absurd cc; shown = λ jumped. absurd cc; landing = λ _. (s, c, f, l, is, refl, raised_has (landing_name around.space l) r.longest) })

  -- ---- a walk

  module _ (left : ℕ) (again : Onward (Place ℕ) (Place ℕ)) (onward : (r : Reach) (s : Place ℕ) (cs : List Component) (slash : Bool) → CountsAt r (again s cs slash)) where
    last_counts : (r : Reach) (s : Place ℕ) (c : Component) (slash : Bool) (seen : SeenPlace) → IsLooked s c r.longest → look_up around s c ≡ seen → CountsAt r (at_last (looking around) mode left again s c slash seen)
    last_counts r s c slash (Fails e) look is = failed r e
    last_counts r s c slash Missing look is = either r (may_be_free mode) (ends (target_at s c slash None)) (fails ENOENT) (ended r _ (at_component s c slash None r.longest look)) (failed r ENOENT)
    last_counts r s c slash (Leads is_dir q f) look is = found r is_dir (target_at s c slash (Some f)) (at_component s c slash (Some f) r.longest look)
    last_counts r s c slash (Links f text) look is =
        either r (is_followed mode slash) (again (begins_at (looking around) s text) (components_of text) (slash || has_slash text)) (ends (target_at s c slash (Some f)))
        (onward r (begins_at (looking around) s text) (components_of text) (slash || has_slash text)) (ended r _ (at_component s c slash (Some f) r.longest look))
    last_counts r s c slash (Jumps f lead) look is =
        either r (is_followed mode slash) (jumps_on left (ends_landed mode slash) lead) (ends (target_at s c slash (Some f)))
        (jumps r left (ends_landed mode slash) lead (λ l there. lands r slash s c f l (is ∙ ap (Jumps f) there))) (ended r _ (at_component s c slash (Some f) r.longest look))

    middle_counts : (r : Reach) (s : Place ℕ) (rest : List Component) (slash : Bool) (go : Place ℕ → PlaceTrail) (seen : SeenPlace) → ((q : Place ℕ) → CountsAt r (go q)) → CountsAt r (in_middle (looking around) left again s rest slash go seen)
    middle_counts r s rest slash go (Fails e) each = failed r e
    middle_counts r s rest slash go Missing each = failed r ENOENT
    middle_counts r s rest slash go (Leads is_dir q f) each = each q
    middle_counts r s rest slash go (Links f text) each = onward r (begins_at (looking around) s text) (components_of text ++ rest) slash
    middle_counts r s rest slash go (Jumps f lead) each = jumps r left (λ l. again l.place rest slash) lead (λ l there. onward (reached_landing around.space l r) l.place rest slash)

    along_counts : (cs : List Component) (r : Reach) (s : Place ℕ) (slash : Bool) → CountsAt r (along (looking around) mode left again s cs slash)
    along_counts [] r s slash = ended r (here (looking around) s slash) (at_beginning s slash r.longest)
    along_counts (c ∷ []) r s slash =
        let l : LookedAt (Place ℕ) = record { place = s; component = c; is_last = true } in
        record { go = (last_counts (look_reach around mode l r) s c slash (look_up around s c) (looked s c r) refl).go }
    along_counts (c ∷ d ∷ cs) r s slash =
        let l : LookedAt (Place ℕ) = record { place = s; component = c; is_last = false } in
        record { go = (middle_counts (look_reach around mode l r) s (d ∷ cs) slash (λ q. along (looking around) mode left again q (d ∷ cs) slash) (look_up around s c) (λ q. along_counts (d ∷ cs) (look_reach around mode l r) q slash)).go }

  walk_counts : (left : ℕ) (r : Reach) (s : Place ℕ) (cs : List Component) (slash : Bool) → CountsAt r (walk_on (looking around) mode left s cs slash)
  unfolding walk_on
  walk_counts zero r s cs slash = along_counts zero loops (λ r s cs slash. failed r ELOOP) cs r s slash
  walk_counts (suc left) r s cs slash = along_counts (suc left) (walk_on (looking around) mode left) (walk_counts left) cs r s slash

  -- what was looked at
  pub target_counted : (base : Place ℕ) (path : List ℕ) (r : Reach) (t : PlaceTarget) → (place_walk around mode base path).answer ≡ Ok t → IsCounted (reach_after around mode (place_walk around mode base path) r).longest t
  target_counted base path r = (walk_counts most_links r (begins_at (looking around) base path) (components_of path) (has_slash path)).go

  -- ---- what no look reached

  end_counted : (answer : Result PlaceTarget Errno) (r : Reach) (t : PlaceTarget) → answer ≡ Ok t
      → IsWithin (end_reach around.space answer r).longest (beginning_name around.space t.dir.host t.last) × IsWithin (end_reach around.space answer r).longest (free_target_name around.space t t.found)
  end_counted answer r t is =
      let first = beginning_name around.space t.dir.host t.last in
      let free = free_target_name around.space t t.found in
      subst (λ answer. IsWithin (end_reach around.space answer r).longest first × IsWithin (end_reach around.space answer r).longest free) (sym is)
      (within_more (raised first r.longest) (raised free (raised first r.longest)) first (raised_more free (raised first r.longest)) (raised_has first r.longest), raised_has free (raised first r.longest))

  module _ (base : Place ℕ) (path : List ℕ) (r : Reach) (t : PlaceTarget) (is : (place_walk around mode base path).answer ≡ Ok t) where
    abbrev trail : PlaceTrail
    trail = place_walk around mode base path

    before_end : Reach
    before_end = landings_reach around.space trail.landings (looks_reach around mode trail.looks r)

    pub beginning_counted : IsWithin (reach_after around mode trail r).longest (beginning_name around.space t.dir.host t.last)
    unfolding before_end
    beginning_counted = (end_counted trail.answer before_end t is).0

    pub free_counted : IsWithin (reach_after around mode trail r).longest (free_target_name around.space t t.found)
    unfolding before_end
    free_counted = (end_counted trail.answer before_end t is).1
