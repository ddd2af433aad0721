-- What a walk reaches only grows.
use Rattle.std.proofs.Common.{◌≡◌, ◌≤◌, ℕ, Bool, true, false, ◌||◌, List, [], ◌∷◌, Option, Some, None, Result, Ok, Err, refl, sym, ap, arith, ◌∙◌}
use Rattle.std.specs.Result.{IsErr}
use Rattle.kr_tree.specs.pr_base.Paths.{Component}
use Rattle.kr_tree.specs.pr_base.declared.memory.NoMemory.{NoMemory}
use Rattle.kr_tree.specs.pr_base.WalkFrame.{LookedAt, Landing, after_look, after_jump}
use Rattle.kr_tree.specs.pr_base.declared.errno.Errno.{Errno}
use Rattle.kr_tree.specs.pr_base.declared.path.WalkMode.{WalkMode}
use Rattle.kr_tree.specs.declared.place.Place.{Place}
use Rattle.kr_view.specs.declared.target.Reach.{Reach}
use Rattle.kr_view.specs.Component.{Surroundings, look_up, meets_processes}
use Rattle.kr_view.specs.Names.{Text, component_name, directory_name, landing_name}
use Rattle.kr_view.specs.Walk.{PlaceTrail, PlaceTarget}
use Rattle.kr_view.specs.Reach.{Covers, raised, raised_by_all, seen_name, names_entry, named_entry, look_names, noted, end_names, look_reach, looks_reach, reached_landing, landings_reach, end_reach, reach_after}
use Rattle.kr_view.specs.Answers.{HasReached}

pub covers_refl : (r : Reach) → Covers r r
covers_refl r = record { longest = omega arith; met_proc = λ h. h }

pub covers_trans : (a b c : Reach) → Covers a b → Covers b c → Covers a c
covers_trans a b c more most = record { longest = omega (arith, more.longest, most.longest); met_proc = λ h. more.met_proc (most.met_proc h) }

pub raised_more : (name : Option Text) (n : ℕ) → n ≤ raised name n
raised_more None n = omega arith
raised_more (Some names) n = omega arith

all_more : (names : List (Option Text)) (n : ℕ) → n ≤ raised_by_all names n
all_more [] n = omega arith
all_more (name ∷ names) n =
    let one = raised_more name n in
    let rest = all_more names (raised name n) in
    omega arith

either : (a b : Bool) → a ≡ true → (a || b) ≡ true
either true b h = refl
either false b h = absurd cc

pub covers_noted : (around : Surroundings) (by_name : Bool) (p : Place ℕ) (c : Component) (r : Reach) → Covers (noted around by_name p c r) r
covers_noted around by_name p c r = record { longest = all_more (look_names around.space by_name p c (look_up around p c)) r.longest; met_proc = λ h. either r.met_proc (meets_processes around.space p c) h }

pub covers_look : (around : Surroundings) (mode : WalkMode) (l : LookedAt (Place ℕ)) (r : Reach) → Covers (look_reach around mode l r) r
covers_look around mode l r = covers_noted around (names_entry mode l.is_last) l.place l.component r

covers_looks : (around : Surroundings) (mode : WalkMode) (looks : List (LookedAt (Place ℕ))) (r : Reach) → Covers (looks_reach around mode looks r) r
covers_looks around mode [] r = covers_refl r
covers_looks around mode (l ∷ looks) r = covers_trans _ (look_reach around mode l r) r (covers_looks around mode looks _) (covers_look around mode l r)

pub covers_landing : (around : Surroundings) (l : Landing (Place ℕ) (Place ℕ)) (r : Reach) → Covers (reached_landing around.space l r) r
covers_landing around l r = record { longest = raised_more (landing_name around.space l) r.longest; met_proc = λ h. h }

covers_landings : (around : Surroundings) (landings : List (Landing (Place ℕ) (Place ℕ))) (r : Reach) → Covers (landings_reach around.space landings r) r
covers_landings around [] r = covers_refl r
covers_landings around (l ∷ landings) r = covers_trans _ (reached_landing around.space l r) r (covers_landings around landings _) (covers_landing around l r)

covers_end : (around : Surroundings) (answer : Result PlaceTarget Errno) (r : Reach) → Covers (end_reach around.space answer r) r
covers_end around answer r = record { longest = all_more (end_names around.space answer) r.longest; met_proc = λ h. h }

pub covers_after : (around : Surroundings) (mode : WalkMode) (trail : PlaceTrail) (r : Reach) → Covers (reach_after around mode trail r) r
covers_after around mode trail r =
    let looked = looks_reach around mode trail.looks r in
    let led = landings_reach around.space trail.landings looked in
    covers_trans _ led r (covers_end around trail.answer led) (covers_trans led looked r (covers_landings around trail.landings looked) (covers_looks around mode trail.looks r))

-- ---- what is reached, in whatever order

raised_swap : (a b : Option Text) (n : ℕ) → raised a (raised b n) ≡ raised b (raised a n)
raised_swap None b n = refl
raised_swap (Some a) None n = refl
raised_swap (Some a) (Some b) n = omega arith

all_swap : (names : List (Option Text)) (a : Option Text) (n : ℕ) → raised_by_all names (raised a n) ≡ raised a (raised_by_all names n)
all_swap [] a n = refl
all_swap (name ∷ names) a n = ap (raised_by_all names) (raised_swap name a n) ∙ all_swap names a (raised name n)

looks_swap : (around : Surroundings) (mode : WalkMode) (looks : List (LookedAt (Place ℕ))) (landing : Landing (Place ℕ) (Place ℕ)) (r : Reach)
    → looks_reach around mode looks (reached_landing around.space landing r) ≡ reached_landing around.space landing (looks_reach around mode looks r)
looks_swap around mode [] landing r = refl
looks_swap around mode (l ∷ looks) landing r =
    let names = look_names around.space (names_entry mode l.is_last) l.place l.component (look_up around l.place l.component) in
    let met : Bool = r.met_proc || meets_processes around.space l.place l.component in
    let same : look_reach around mode l (reached_landing around.space landing r) ≡ reached_landing around.space landing (look_reach around mode l r) =
    ap (λ n. record { longest = n; met_proc = met }) (all_swap names (landing_name around.space landing) r.longest) in
    ap (looks_reach around mode looks) same ∙ looks_swap around mode looks landing (look_reach around mode l r)

-- a walk behind a process link reaches where that leads, and then what is left
pub behind_jump : (around : Surroundings) (mode : WalkMode) (landing : Landing (Place ℕ) (Place ℕ)) (trail : PlaceTrail) (r : Reach)
    → reach_after around mode (after_jump landing trail) r ≡ reach_after around mode trail (reached_landing around.space landing r)
behind_jump around mode landing trail r =
    ap (λ q. end_reach around.space trail.answer (landings_reach around.space trail.landings q)) (sym (looks_swap around mode trail.looks landing r))

-- a trail behind a look-up reaches what the look reaches, and then what is left
pub behind_look : (around : Surroundings) (mode : WalkMode) (l : LookedAt (Place ℕ)) (trail : PlaceTrail) (r : Reach)
    → reach_after around mode (after_look l trail) r ≡ reach_after around mode trail (look_reach around mode l r)
behind_look around mode l trail r = refl

-- what was noted before memory was wanting
pub noted_part : (around : Surroundings) (by_name : Bool) (p : Place ℕ) (c : Component) (r m : Reach) → m.longest ≡ raised (directory_name around.space p.host) r.longest
    → m.met_proc ≡ (r.met_proc || meets_processes around.space p c) → Covers m r × Covers (noted around by_name p c r) m
noted_part around by_name p c r m long met = (
  record { longest = let more = raised_more (directory_name around.space p.host) r.longest in omega arith; met_proc = λ h. met ∙ either r.met_proc (meets_processes around.space p c) h },
  record {
    longest =
        let seen = look_up around p c in
        let shown = seen_name (component_name around.space p c) seen in
        let own = raised (directory_name around.space p.host) r.longest in
        let more = raised_more shown own in
        let most = raised_more (seen_name (named_entry around.space by_name p.host c) seen) (raised shown own) in
        rw long (omega (arith, more, most));
    met_proc = λ h. sym met ∙ h;
  },
)

pub part_at_error : {T : Type 0} (whole old new : Reach) (r : Result T NoMemory) → IsErr r → Covers new old × Covers whole new → HasReached whole old new r
part_at_error whole old new (Ok x) is part = absurd cc
part_at_error whole old new (Err e) is part = part
