-- The walks of a call over a state in code are those over the state with the numbers of its mounts.
use Rattle.std.proofs.Common.{◌≡◌, ℕ, true, false, List, [], ◌∷◌, length, Option, Some, None, refl, sym, ap, subst, ◌∙◌}
use Rattle.std.specs.Prelude.{Result, Ok, Err, ◌==◌}
use Rattle.kr_ops.specs.pr_base.declared.errno.Errno.{Errno}
use Rattle.kr_ops.specs.pr_base.declared.path.WalkMode.{WalkMode}
use Rattle.kr_ops.specs.kr_calls.PathTable.{PathUse, path_at}
use Rattle.kr_ops.specs.kr_calls.declared.request.Request.{Request}
use Rattle.kr_ops.specs.kr_tree.declared.place.Place.{Place}
use Rattle.kr_ops.specs.kr_view.declared.target.Reach.{Reach}
use Rattle.kr_ops.specs.kr_view.declared.target.Target.{Target}
use Rattle.kr_ops.specs.kr_view.declared.target.WalkFault.{WalkFault}
use Rattle.kr_ops.specs.kr_view.declared.target.WalkFault.TheVariants as fault
use Rattle.kr_ops.specs.kr_view.Answers.{IsAnswer, IsReached}
use Rattle.kr_ops.specs.kr_view.Component.{Surroundings}
use Rattle.kr_ops.specs.kr_view.Leads.{numbered}
use Rattle.kr_ops.specs.kr_view.Reach.{Covers, reach_after}
use Rattle.kr_ops.specs.kr_view.View.{Row, root_place}
use Rattle.kr_ops.specs.kr_view.Walk.{PlaceTarget, PlaceTrail, place_walk, surroundings}
use Rattle.kr_ops.specs.kr_model.ProcessDirectory.{around_of}
use Rattle.kr_ops.specs.kr_model.State.{Image, State}
use Rattle.kr_ops.specs.kr_model.Walks as walks
use Rattle.kr_ops.specs.kr_model.Walks.{base_of, target_at, targets_of, walked}
use Rattle.kr_ops.specs.declared.state.State as code
use Rattle.kr_ops.specs.Meaning.{meaning}
use Rattle.kr_seen.specs.Held.{Held, shown_of}
use Rattle.kr_seen.specs.Numbered.{state_numbered}
use Rattle.kr_seen.specs.Shown.{Shown, finds_in, leads_in}
use Rattle.kr_seen.proofs.DirectoryLemmas.{shows-the-directory}
use Rattle.kr_seen.specs.CallWalks.{AreTargets, IsTold, IsTarget, IsReachedTo, call_reach, path_reach, second_reach, walk_reach}
use Rattle.kr_seen.specs.declared.walks.Targets.{Targets}
use Rattle.kr_ops.proofs.kr_view.ReachLemmas.{covers_refl, covers_trans, covers_after}

-- what a caller's walks go through
pub around-same : {T : Type 0} (number : T → ℕ) (v : Shown T) (caller : ℕ) → numbered number v.root ≡ root_place v.table
    → surroundings number v.table v.state.tree v.state.user (finds_in v) (leads_in number v caller) ≡ around_of v.table caller (state_numbered number v.state)
around-same number v caller root =
    let shows = shows-the-directory in
    let space = shows.space number v in
    λ j. record { space = space j; leads = λ at. shows.leads number v caller at root j }

-- over a state that the process directory is told of
pub around-told : {T : Type 0} (number : T → ℕ) (v : Shown T) (table told_table : List Row) (root : Place T) (s : State T Image) (caller : ℕ) → v ≡ record { table = told_table; root = root; state = s } → told_table ≡ table
    → numbered number root ≡ root_place table → surroundings number table s.tree s.user (finds_in v) (leads_in number v caller) ≡ around_of table caller (state_numbered number s)
around-told number v table told_table root s caller e same rooted =
    ap (λ v. surroundings number table s.tree s.user (finds_in v) (leads_in number v caller)) (e ∙ ap (λ table. record { table = table; root = root; state = s }) same)
    ∙ around-same number (record { table = table; root = root; state = s }) caller rooted

pub shown-as : {T : Type 0} {M : ℕ} (h : Held T M) (table : List Row) (root : Place T) (s : code.State T M) → h.table ≡ table → h.root ≡ root → h.state ≡ s → shown_of h ≡ record { table = table; root = root; state = meaning s }
shown-as h table root s a b c = λ j. record { table = a j; root = b j; state = meaning (c j) }

-- a text that isn't empty
pub some-bytes : (text : List ℕ) → false ≡ (length text == 0) → text ≡ [] → ⊥
some-bytes text e none = let there : false ≡ true = e ∙ ap (λ text. length text == 0) none in cc

module _ {T : Type 0} (number : T → ℕ) (table : List Row) (pid : ℕ) (s : State ℕ Image) where
  -- ---- one path

  pub empty-target : (u : PathUse) → u.text ≡ [] → IsTarget number (target_at table pid s (Some u)) (Ok None)
  empty-target u e = (None, ap (walked table pid s u) e, refl)

  pub empty-reach : (u : PathUse) (r : Reach) → u.text ≡ [] → path_reach table pid s (Some u) r ≡ r
  empty-reach u r e = ap (λ text. walk_reach table pid s u text (base_of table pid s u) r) e

  -- a path with bytes fails with its base
  pub base-fails : (u : PathUse) (text : List ℕ) (e : Errno) → (text ≡ [] → ⊥) → base_of table pid s u ≡ Err e → walked table pid s u text ≡ Err e
  base-fails u [] e some is = absurd (some refl)
  base-fails u (b ∷ path) e some is = ap (λ base. walks.and_then base (λ base. walks.and_then (place_walk (around_of table pid s) u.mode base (b ∷ path)).answer (λ target. Ok (Some target)))) is

  pub base-fails-reach : (u : PathUse) (text : List ℕ) (e : Errno) (r : Reach) → (text ≡ [] → ⊥) → base_of table pid s u ≡ Err e → walk_reach table pid s u text (base_of table pid s u) r ≡ r
  base-fails-reach u [] e r some is = absurd (some refl)
  base-fails-reach u (b ∷ path) e r some is = ap (λ base. walk_reach table pid s u (b ∷ path) base r) is

  -- and else as its walk
  pub walked-from : (u : PathUse) (text : List ℕ) (base : Place ℕ) → (text ≡ [] → ⊥) → base_of table pid s u ≡ Ok base
      → walked table pid s u text ≡ walks.and_then (place_walk (around_of table pid s) u.mode base text).answer (λ target. Ok (Some target))
  walked-from u [] base some is = absurd (some refl)
  walked-from u (b ∷ path) base some is = ap (λ base. walks.and_then base (λ base. walks.and_then (place_walk (around_of table pid s) u.mode base (b ∷ path)).answer (λ target. Ok (Some target)))) is

  pub reached-from : (u : PathUse) (text : List ℕ) (base : Place ℕ) (r : Reach) → (text ≡ [] → ⊥) → base_of table pid s u ≡ Ok base
      → walk_reach table pid s u text (base_of table pid s u) r ≡ reach_after (around_of table pid s) u.mode (place_walk (around_of table pid s) u.mode base text) r
  reached-from u [] base r some is = absurd (some refl)
  reached-from u (b ∷ path) base r some is = ap (λ base. walk_reach table pid s u (b ∷ path) base r) is

  pub target-found : (answer : Result PlaceTarget Errno) (w : Result (Option PlaceTarget) Errno) (target : Target T) → w ≡ walks.and_then answer (λ target. Ok (Some target)) → IsAnswer number answer (Ok target)
      → IsTarget number w (Ok (Some target))
  target-found answer w target e is = (Some is.0, e ∙ ap (λ answer. walks.and_then answer (λ target. Ok (Some target))) is.1, ap Some is.2)

  pub walk-fails : (answer : Result PlaceTarget Errno) (w : Result (Option PlaceTarget) Errno) (f : WalkFault) → w ≡ walks.and_then answer (λ target. Ok (Some target)) → IsAnswer number answer (Err f)
      → IsTarget number w (Err f)
  walk-fails answer w (fault.Err e) is h = is ∙ ap (λ answer. walks.and_then answer (λ target. Ok (Some target))) h
  walk-fails answer w fault.NoMemory is h = tt

-- what a walk reached is told the same whatever was found
pub reached-to : {A : Type 0} (all other old new : Reach) (x : A) → all ≡ other → new ≡ all → IsReachedTo {T = A} other old new (Ok x)
reached-to all other old new x e is = is ∙ e

pub fault-reached : (A B : Type 0) (around : Surroundings) (mode : WalkMode) (trail : PlaceTrail) (other old new : Reach) (f : WalkFault) → reach_after around mode trail old ≡ other → IsReached {T = A} around mode trail old new (Err f) → IsReachedTo {T = B} other old new (Err f)
fault-reached A B around mode trail other old new (fault.Err e) same is = is ∙ same
fault-reached A B around mode trail other old new fault.NoMemory same is = (is.0, subst (λ all. Covers all new) same is.1)

-- ---- both paths

module _ {T : Type 0} (number : T → ℕ) (table : List Row) (pid : ℕ) (s : State ℕ Image) (request : Request) where
  covers-path : (u : Option PathUse) (r : Reach) → Covers (path_reach table pid s u r) r
  covers-path None r = covers_refl r
  covers-path (Some u) r = by u.text (base_of table pid s u)
    where
      by : (text : List ℕ) (base : Result (Place ℕ) Errno) → Covers (walk_reach table pid s u text base r) r
      by [] base = covers_refl r
      by (b ∷ path) (Err e) = covers_refl r
      by (b ∷ path) (Ok base) = covers_after (around_of table pid s) u.mode (place_walk (around_of table pid s) u.mode base (b ∷ path)) r

  covers-second : (first : Result (Option PlaceTarget) Errno) (u : Option PathUse) (r : Reach) → Covers (second_reach table pid s first u r) r
  covers-second (Ok t) u r = covers-path u r
  covers-second (Err e) u r = covers_refl r

  abbrev first_target : Result (Option PlaceTarget) Errno
  first_target = target_at table pid s (path_at request 0)

  abbrev second_target : Result (Option PlaceTarget) Errno
  second_target = target_at table pid s (path_at request 1)

  -- the first path's error is the call's
  pub first-fails : (f : WalkFault) → IsTarget number first_target (Err f) → AreTargets number (targets_of table pid s request) (Err f)
  first-fails (fault.Err e) is = ap (λ first. walks.and_then first (λ first. walks.and_then second_target (λ second. Ok (record { first = first; second = second })))) is
  first-fails fault.NoMemory is = tt

  pub first-reach : (f : WalkFault) (old new : Reach) → IsTarget number first_target (Err f) → IsReachedTo {T = Option (Target T)} (path_reach table pid s (path_at request 0) old) old new (Err f)
      → IsReachedTo {T = Targets T} (call_reach table pid s request old) old new (Err f)
  first-reach (fault.Err e) old new is reached = reached ∙ sym (ap (λ first. second_reach table pid s first (path_at request 1) (path_reach table pid s (path_at request 0) old)) is)
  first-reach fault.NoMemory old new is reached =
      (reached.0, covers_trans (call_reach table pid s request old) (path_reach table pid s (path_at request 0) old) new (covers-second first_target (path_at request 1) (path_reach table pid s (path_at request 0) old)) reached.1)

  module _ (t : Option PlaceTarget) (first : first_target ≡ Ok t) (old now : Reach) (reached_first : now ≡ path_reach table pid s (path_at request 0) old) where
    second-reached : path_reach table pid s (path_at request 1) now ≡ call_reach table pid s request old
    second-reached = ap (path_reach table pid s (path_at request 1)) reached_first ∙ sym (ap (λ first. second_reach table pid s first (path_at request 1) (path_reach table pid s (path_at request 0) old)) first)

    both : (answer : Result (Option PlaceTarget) Errno) → second_target ≡ answer → targets_of table pid s request ≡ walks.and_then answer (λ second. Ok (record { first = t; second = second }))
    both answer e =
        ap (λ first. walks.and_then first (λ first. walks.and_then second_target (λ second. Ok (record { first = first; second = second })))) first
        ∙ ap (λ answer. walks.and_then answer (λ second. Ok (record { first = t; second = second }))) e

    -- and then the second's
    pub second-fails : (f : WalkFault) → IsTarget number second_target (Err f) → AreTargets number (targets_of table pid s request) (Err f)
    second-fails (fault.Err e) is = both (Err e) is
    second-fails fault.NoMemory is = tt

    pub second-reach : (f : WalkFault) (new : Reach) → IsReachedTo {T = Option (Target T)} (path_reach table pid s (path_at request 1) now) now new (Err f) → IsReachedTo {T = Targets T} (call_reach table pid s request old) old new (Err f)
    second-reach (fault.Err e) new reached = reached ∙ second-reached
    second-reach fault.NoMemory new reached =
        (covers_trans new now old reached.0 (subst (λ r. Covers r old) (sym reached_first) (covers-path (path_at request 0) old)), subst (λ all. Covers all new) second-reached reached.1)

    pub all-reached : (new : Reach) → new ≡ path_reach table pid s (path_at request 1) now → new ≡ call_reach table pid s request old
    all-reached new e = e ∙ second-reached

    pub both-found : (targets : Targets T) → IsTold number t targets.first → IsTarget number second_target (Ok targets.second) → AreTargets number (targets_of table pid s request) (Ok targets)
    both-found targets told_first second = (record { first = t; second = second.0 }, both (Ok second.0) second.1, told_first, second.2)
