-- A walk that doesn't follow its last link looks at nothing at which a longer walk doesn't look: so what stands in front of a steady path is steady.
use Rattle.std.proofs.Common.{◌≡◌, ℕ, zero, suc, Bool, true, false, not, ◌||◌, List, [], ◌∷◌, ◌++◌, append-nil, append_assoc, Option, Some, None, All, refl, sym, ap, subst, ◌∙◌}
use Rattle.std.specs.Bool.{if◌then◌else◌}
use Rattle.std.proofs.lemmas.Bool.{or_from}
use Rattle.std.proofs.lemmas.List.Elements.{All-nil, All-cons, All-head, All-tail}
use Rattle.kr_ops.specs.pr_base.Paths.{AreParts, Component, Dot, Name, below_root, components_of, dot, has_slash, is_absolute, IsPart, itself_in, text_of}
use Rattle.kr_ops.specs.pr_base.WalkFrame.{Seen, Fails, Missing, Leads, Links, Jumps, Looking, LookedAt, Landing, Target, Trail, Onward, fails, ends, ends_found, ends_landed, begins_at, target_at, is_followed, may_be_free, wants_directory, loops, jumps_on, in_middle, at_last, along, walk_on, most_links}
use Rattle.kr_ops.specs.pr_base.declared.errno.Errno.TheVariants.{EACCES, ENOENT, ENOTDIR}
use Rattle.kr_ops.specs.pr_base.declared.path.WalkMode.{WalkMode}
use Rattle.kr_ops.specs.pr_base.declared.path.WalkMode.TheVariants.{LookLink}
use Rattle.kr_walk.specs.kr_inode.GroundLemmas.{components_seam, part_components, text_no_slash}
use Rattle.kr_ops.specs.kr_tree.declared.place.Place.{Place}
use Rattle.kr_ops.specs.kr_view.declared.target.Reach.{Reach}
use Rattle.kr_ops.specs.kr_view.Component.{Surroundings, is_directory_at, look_up, may_search, meets_processes, shows_directory}
use Rattle.kr_ops.specs.kr_view.Reach.{is_steady, look_reach, looks_reach, nothing}
use Rattle.kr_ops.specs.kr_view.View.{root_place}
use Rattle.kr_ops.specs.kr_view.Walk.{PlaceTrail, looking as looking_at, place_walk}
use Rattle.kr_ops.specs.kr_model.Peeks.{steady_along}
use Rattle.kr_seen.proofs.SteadyLemmas.{IsApart, apart as steady_apart, landings_met}

module _ {S F : Type 0} (looking : Looking S F) (Fine : LookedAt S → Type 0)
    (flip : (s : S) (c : Component) (a b : Bool) → Fine (record { place = s; component = c; is_last = a }) → Fine (record { place = s; component = c; is_last = b })) where
  abbrev AllFine : Trail S F → Type 0
  AllFine trail = All Fine trail.looks

  -- the looks of the one are fine where those of the other are
  abbrev FrontOf : Trail S F → Trail S F → Type 0
  FrontOf a b = AllFine b → AllFine a

  none : All Fine []
  none = All-nil Fine

  pick : (b : Bool) (x y : Trail S F) → AllFine x → AllFine y → AllFine (if b then x else y)
  pick true x y h k = h
  pick false x y h k = k

  pub found_none : (mode : WalkMode) (is_dir : Bool) (t : Target S F) → AllFine (ends_found mode is_dir t)
  found_none mode is_dir t = pick (wants_directory mode t.slash) (if is_dir then ends t else fails ENOTDIR) (ends t) (pick is_dir (ends t) (fails ENOTDIR) none none) none

  second : (b : Bool) (x y : Trail S F) → b ≡ false → AllFine y → AllFine (if b then x else y)
  second true x y h k = absurd cc
  second false x y h k = k

  -- behind a last component that isn't followed nothing is looked at
  last_none : (mode : WalkMode) (left : ℕ) (again : Onward S F) (s : S) (c : Component) (slash : Bool) (seen : Seen S F) → is_followed mode slash ≡ false → AllFine (at_last looking mode left again s c slash seen)
  last_none mode left again s c slash (Fails e) h = none
  last_none mode left again s c slash Missing h = pick (may_be_free mode) (ends (target_at s c slash None)) (fails ENOENT) none none
  last_none mode left again s c slash (Leads is_dir q f) h = found_none mode is_dir (target_at s c slash (Some f))
  last_none mode left again s c slash (Links f text) h =
      second (is_followed mode slash) (again (begins_at looking s text) (components_of text) (slash || has_slash text)) (ends (target_at s c slash (Some f))) h none
  last_none mode left again s c slash (Jumps f lead) h = second (is_followed mode slash) (jumps_on left (ends_landed mode slash) lead) (ends (target_at s c slash (Some f))) h none

  jumps_front : (left : ℕ) (x y : Landing S F → Trail S F) (lead : Option (Landing S F)) → ((l : Landing S F) → FrontOf (x l) (y l)) → FrontOf (jumps_on left x lead) (jumps_on left y lead)
  jumps_front zero x y lead each all = none
  jumps_front (suc left) x y None each all = none
  jumps_front (suc left) x y (Some l) each all = each l all

  -- the shorter walk ends with `ts`, at which it looks finely wherever it comes there, and the longer one with more
  module _ (short long : WalkMode) (behind_short behind_long : Bool) (ts : List Component) (d : Component) (ds : List Component)
      (ending : (left : ℕ) (again : Onward S F) (s : S) → AllFine (along looking short left again s ts behind_short)) (unfollowed : ts ≡ [] → is_followed short behind_short ≡ false) where
    abbrev Fronts : Onward S F → Onward S F → Type 0
    Fronts x y = (s : S) (cs : List Component) → FrontOf (x s (cs ++ ts) behind_short) (y s (cs ++ d ∷ ds) behind_long)

    apart : (x y : Onward S F) → Fronts x y → (s : S) (bs cs : List Component) → FrontOf (x s (bs ++ (cs ++ ts)) behind_short) (y s (bs ++ (cs ++ d ∷ ds)) behind_long)
    apart x y fronts s bs cs all =
        let P : List Component → Type 0 = λ es. AllFine (x s es behind_short) in
        let Q : List Component → Type 0 = λ es. AllFine (y s es behind_long) in
        subst P (append_assoc bs cs ts) (fronts s (bs ++ cs) (subst Q (sym (append_assoc bs cs (d ∷ ds))) all))

    middle_front : (left : ℕ) (x y : Onward S F) → Fronts x y → (s : S) (cs : List Component) (go gone : S → Trail S F) → ((q : S) → FrontOf (go q) (gone q)) → (seen : Seen S F)
        → FrontOf (in_middle looking left x s (cs ++ ts) behind_short go seen) (in_middle looking left y s (cs ++ d ∷ ds) behind_long gone seen)
    middle_front left x y fronts s cs go gone each (Fails e) all = none
    middle_front left x y fronts s cs go gone each Missing all = none
    middle_front left x y fronts s cs go gone each (Leads is_dir q f) all = each q all
    middle_front left x y fronts s cs go gone each (Links f text) all = apart x y fronts (begins_at looking s text) (components_of text) cs all
    middle_front left x y fronts s cs go gone each (Jumps f lead) all =
        jumps_front left (λ l. x l.place (cs ++ ts) behind_short) (λ l. y l.place (cs ++ d ∷ ds) behind_long) lead (λ l. fronts l.place cs) all

    along_front : (left : ℕ) (x y : Onward S F) → Fronts x y → (cs : List Component) (s : S) → FrontOf (along looking short left x s (cs ++ ts) behind_short) (along looking long left y s (cs ++ d ∷ ds) behind_long)
    along_front left x y fronts [] s all = ending left x s
    along_front left x y fronts (c ∷ []) s all = by ts refl
      where
        gone : S → Trail S F
        gone q = along looking long left y q (d ∷ ds) behind_long

        longer : Trail S F
        longer = in_middle looking left y s (d ∷ ds) behind_long gone (looking.look s c)

        own : Fine (record { place = s; component = c; is_last = false })
        own = All-head Fine (record { place = s; component = c; is_last = false }) longer.looks all

        rest : All Fine longer.looks
        rest = All-tail Fine (record { place = s; component = c; is_last = false }) longer.looks all

        by : (us : List Component) → ts ≡ us → AllFine (along looking short left x s (c ∷ us) behind_short)
        by [] e =
            All-cons Fine (record { place = s; component = c; is_last = true }) (at_last looking short left x s c behind_short (looking.look s c)).looks (flip s c false true own)
            (last_none short left x s c behind_short (looking.look s c) (unfollowed e))
        by (u ∷ us) e =
            let P : List Component → Type 0 = λ es. AllFine (in_middle looking left x s es behind_short (λ q. along looking short left x q es behind_short) (looking.look s c)) in
            All-cons Fine (record { place = s; component = c; is_last = false }) (in_middle looking left x s (u ∷ us) behind_short (λ q. along looking short left x q (u ∷ us) behind_short) (looking.look s c)).looks own
            (subst P e (middle_front left x y fronts s [] (λ q. along looking short left x q ts behind_short) gone (λ q _. ending left x q) (looking.look s c) rest))
    along_front left x y fronts (c ∷ e ∷ cs) s all =
        let l : LookedAt S = record { place = s; component = c; is_last = false } in
        let go : S → Trail S F = λ q. along looking short left x q (e ∷ (cs ++ ts)) behind_short in
        let gone : S → Trail S F = λ q. along looking long left y q (e ∷ (cs ++ d ∷ ds)) behind_long in
        let longer = in_middle looking left y s (e ∷ (cs ++ d ∷ ds)) behind_long gone (looking.look s c) in
        let shorter = in_middle looking left x s (e ∷ (cs ++ ts)) behind_short go (looking.look s c) in
        All-cons Fine l shorter.looks (All-head Fine l longer.looks all)
        (middle_front left x y fronts s (e ∷ cs) go gone (λ q. along_front left x y fronts (e ∷ cs) q) (looking.look s c) (All-tail Fine l longer.looks all))

    pub walk_front : (left : ℕ) (s : S) (cs : List Component) → FrontOf (walk_on looking short left s (cs ++ ts) behind_short) (walk_on looking long left s (cs ++ d ∷ ds) behind_long)
    unfolding walk_on
    walk_front zero s cs = along_front zero loops loops (λ s cs all. none) cs s
    walk_front (suc left) s cs = along_front (suc left) (walk_on looking short left) (walk_on looking long left) (walk_front left) cs s

-- ---- host paths

nest_false : (a b : Bool) → (if a then (if b then false else false) else false) ≡ false
nest_false true true = refl
nest_false true false = refl
nest_false false b = refl

module _ (around : Surroundings) where
  abbrev start : Place ℕ
  start = root_place around.space.table

  abbrev host_walk : List ℕ → PlaceTrail
  host_walk path = place_walk around LookLink start path

  abbrev Apart : LookedAt (Place ℕ) → Type 0
  Apart = IsApart around

  apart_looks : (looks : List (LookedAt (Place ℕ))) (r : Reach) → r.met_proc ≡ false → All Apart looks → (looks_reach around LookLink looks r).met_proc ≡ false
  apart_looks [] r h all = h
  apart_looks (l ∷ looks) r h all =
      apart_looks looks (look_reach around LookLink l r) (or_from r.met_proc (meets_processes around.space l.place l.component) h (All-head Apart l looks all)) (All-tail Apart l looks all)

  apart_steady : (trail : PlaceTrail) → All Apart trail.looks → is_steady around LookLink trail ≡ true
  apart_steady trail all = ap not (landings_met around trail.landings (looks_reach around LookLink trail.looks nothing) ∙ apart_looks trail.looks nothing refl all)

  stays_apart : (p : Place ℕ) (c : Component) (a b : Bool) → Apart (record { place = p; component = c; is_last = a }) → Apart (record { place = p; component = c; is_last = b })
  stays_apart p c a b h = h

  -- a look at the directory itself looks up no name, and shows no link
  dot_none : (left : ℕ) (again : Onward (Place ℕ) (Place ℕ)) (p : Place ℕ) (slash a b : Bool)
      → All Apart (at_last (looking_at around) LookLink left again p Dot slash (if a then (if b then shows_directory p else Fails EACCES) else Fails ENOTDIR)).looks
  dot_none left again p slash true true = found_none (looking_at around) Apart stays_apart LookLink true (target_at p Dot slash (Some p))
  dot_none left again p slash true false = All-nil Apart
  dot_none left again p slash false b = All-nil Apart

  dot_ending : (slash : Bool) (left : ℕ) (again : Onward (Place ℕ) (Place ℕ)) (p : Place ℕ) → All Apart (along (looking_at around) LookLink left again p (Dot ∷ []) slash).looks
  dot_ending slash left again p =
      All-cons Apart (record { place = p; component = Dot; is_last = true }) (at_last (looking_at around) LookLink left again p Dot slash (look_up around p Dot)).looks
      (nest_false (is_directory_at around.space.tree p.host) (may_search around.space.tree around.space.user p.host))
      (dot_none left again p slash (is_directory_at around.space.tree p.host) (may_search around.space.tree around.space.user p.host))

  -- all paths begin at the root
  abbrev from_root : List Component → Bool → PlaceTrail
  from_root cs slash = walk_on (looking_at around) LookLink most_links start cs slash

  at_root : (path : List ℕ) → host_walk path ≡ from_root (components_of path) (has_slash path)
  at_root path = ap (λ p. walk_on (looking_at around) LookLink most_links p (components_of path) (has_slash path)) (by (is_absolute path))
    where
      by : (b : Bool) → (if b then start else start) ≡ start
      by true = refl
      by false = refl

  by_components : (path : List ℕ) (cs : List Component) → components_of path ≡ cs → host_walk path ≡ from_root cs (has_slash path)
  by_components path cs e = at_root path ∙ ap (λ cs. from_root cs (has_slash path)) e

  root_alike : (host : List (List ℕ)) → components_of (text_of host) ≡ components_of (below_root host)
  root_alike [] = refl
  root_alike (name ∷ host) = refl

  module _ (name : List ℕ) (host : List (List ℕ)) (parts : AreParts (name ∷ host)) (steady : steady_along around LookLink (text_of (name ∷ host)) ≡ true) where
    top : List Component
    top = components_of (below_root host)

    whole : host_walk (text_of (name ∷ host)) ≡ from_root (components_of (below_root host) ++ Name name ∷ []) (has_slash (text_of (name ∷ host)))
    whole = by_components (text_of (name ∷ host)) (components_of (below_root host) ++ Name name ∷ [])
        (components_seam (below_root host) name ∙ ap (λ cs. components_of (below_root host) ++ cs) (part_components name (All-head IsPart name host parts)))

    all_apart : All Apart (from_root (components_of (below_root host) ++ Name name ∷ []) (has_slash (text_of (name ∷ host)))).looks
    all_apart = subst (λ (trail : PlaceTrail). All Apart trail.looks) whole (steady_apart around LookLink (host_walk (text_of (name ∷ host))) steady)

    above_trail : host_walk (text_of host) ≡ from_root (components_of (below_root host) ++ []) (has_slash (text_of host))
    above_trail = by_components (text_of host) (components_of (below_root host) ++ []) (root_alike host ∙ sym (append-nil (components_of (below_root host))))

    pub above_steady : steady_along around LookLink (text_of host) ≡ true
    above_steady =
        apart_steady (host_walk (text_of host))
        (subst (λ (trail : PlaceTrail). All Apart trail.looks) (sym above_trail)
        (walk_front (looking_at around) Apart stays_apart LookLink LookLink (has_slash (text_of host)) (has_slash (text_of (name ∷ host))) [] (Name name) [] (λ left again p. All-nil Apart) (λ _. text_no_slash host (All-tail IsPart name host parts)) most_links start (components_of (below_root host)) all_apart))

    itself_trail : host_walk (itself_in host) ≡ from_root (components_of (below_root host) ++ Dot ∷ []) (has_slash (itself_in host))
    itself_trail = by_components (itself_in host) (components_of (below_root host) ++ Dot ∷ []) (components_seam (below_root host) dot)

    pub itself_steady : steady_along around LookLink (itself_in host) ≡ true
    itself_steady =
        apart_steady (host_walk (itself_in host))
        (subst (λ (trail : PlaceTrail). All Apart trail.looks) (sym itself_trail)
        (walk_front (looking_at around) Apart stays_apart LookLink LookLink (has_slash (itself_in host)) (has_slash (text_of (name ∷ host))) (Dot ∷ []) (Name name) [] (dot_ending (has_slash (itself_in host))) (λ e. absurd cc) most_links start (components_of (below_root host)) all_apart))

-- the directory above a steady text is steady, and so is that directory looked up in itself
pub fronts_are_steady : (around : Surroundings) (name : List ℕ) (host : List (List ℕ)) → AreParts (name ∷ host) → steady_along around LookLink (text_of (name ∷ host)) ≡ true
    → (steady_along around LookLink (text_of host) ≡ true) × (steady_along around LookLink (itself_in host) ≡ true)
fronts_are_steady around name host parts steady = (above_steady around name host parts steady, itself_steady around name host parts steady)
