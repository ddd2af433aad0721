-- One step of a walk: a look-up, and what comes behind it.
use Rattle.std.proofs.Common.{◌≡◌, ◌≢◌, ℕ, Bool, true, false, List, [], ◌∷◌, Result, Ok, Err, refl, sym, ap, subst, ◌∙◌}
use Rattle.std.specs.Result.{IsErr, IsErrAnd}
use Rattle.kr_view.specs.kr_tree.pr_base.Paths.{Component}
use Rattle.kr_view.specs.kr_tree.pr_base.WalkFrame.{LookedAt, after_look, walk_on}
use Rattle.kr_view.specs.kr_tree.pr_base.declared.errno.Errno.{Errno}
use Rattle.kr_view.specs.kr_tree.pr_base.declared.path.WalkMode.{WalkMode}
use Rattle.kr_view.specs.kr_tree.declared.place.Place.{Place}
use Rattle.kr_view.specs.declared.target.Reach.{Reach}
use Rattle.kr_view.specs.declared.target.Target.{Target as Told}
use Rattle.kr_view.specs.declared.target.WalkFault.{WalkFault}
use Rattle.kr_view.specs.declared.target.WalkFault.TheVariants as fault
use Rattle.kr_walk.specs.declared.walk.Walk.{Walk}
use Rattle.kr_walk.specs.declared.walk.Step.{Step}
use Rattle.kr_walk.specs.declared.walk.Step.TheVariants.{Goes, Ends}
use Rattle.kr_view.specs.Leads.{numbered}
use Rattle.kr_view.specs.Component.{Surroundings, SeenPlace, look_up}
use Rattle.kr_view.specs.Walk.{PlaceTrail, PlaceTarget, looking}
use Rattle.kr_view.specs.Reach.{Covers, end_reach, look_reach, names_entry, noted, reach_after}
use Rattle.kr_view.specs.Answers.{told, target_numbered}
use Rattle.kr_walk.specs.Stacks.{stack_of}
use Rattle.kr_walk.specs.Steps.{trail_of, middle_trail, last_trail, here_target, HasOutcome}
use Rattle.kr_view.proofs.ReachLemmas.{covers_trans, covers_look, covers_after}
use Rattle.kr_view.proofs.kr_tree.pr_base.WalkLemmas.{walk-none, walk-last, walk-middle}
use Rattle.kr_walk.proofs.OutcomeLemmas.{at_want}

module _ {M : Type 0} (number : M → ℕ) (around : Surroundings) (mode : WalkMode) (walk : Walk M) (old : Reach) where
  abbrev pub stands : Place ℕ
  stands = numbered number walk.position.place

  abbrev pub trail : PlaceTrail
  trail = trail_of number around mode walk

  -- the place where it began
  pub ends_at_beginning : (new : Reach) (target : Told M) → stack_of walk.rests ≡ [] → told (here_target stands walk.slash) ≡ target_numbered number target
      → new ≡ end_reach around.space (Ok (here_target stands walk.slash)) old → HasOutcome number around mode trail.answer (reach_after around mode trail old) old new (Ok (Ends target))
  ends_at_beginning new target none same reached =
      let at = ap (λ cs. walk_on_stack cs) none ∙ walk-none (looking around) mode walk.left stands walk.slash in
      ((here_target stands walk.slash, ap (λ t. t.answer) at, same), reached ∙ sym (ap (λ t. reach_after around mode t old) at))
    where
      walk_on_stack : List Component → PlaceTrail
      walk_on_stack cs = walk_on (looking around) mode walk.left stands cs walk.slash

  -- what was reached before counts, too
  earlier : (answer : Result PlaceTarget Errno) (whole mid new : Reach) (r : Result (Step M) WalkFault) → Covers mid old → HasOutcome number around mode answer whole mid new r → HasOutcome number around mode answer whole old new r
  earlier answer whole mid new (Ok (Goes on)) more out = record { ends = out.ends; reaches = out.reaches; covers = covers_trans new mid old out.covers more; named = out.named }
  earlier answer whole mid new (Ok (Ends target)) more out = out
  earlier answer whole mid new (Err (fault.Err e)) more out = out
  earlier answer whole mid new (Err fault.NoMemory) more out = (covers_trans new mid old out.0 more, out.1)

  -- an outcome behind a look-up is one of the walk
  behind : (l : LookedAt (Place ℕ)) (t : PlaceTrail) (mid new : Reach) (r : Result (Step M) WalkFault) → trail ≡ after_look l t → mid ≡ look_reach around mode l old
      → HasOutcome number around mode t.answer (reach_after around mode t mid) mid new r → HasOutcome number around mode trail.answer (reach_after around mode trail old) old new r
  behind l t mid new r at is out =
      let more : Covers mid old = let P : Reach → Type 0 = λ m. Covers m old in subst P (sym is) (covers_look around mode l old) in
      let P : PlaceTrail → Type 0 = λ trail. HasOutcome number around mode trail.answer (reach_after around mode trail old) old new r in
      let Q : Reach → Type 0 = λ whole. HasOutcome number around mode t.answer whole old new r in
      subst P (sym at) (subst Q (ap (reach_after around mode t) is) (earlier t.answer (reach_after around mode t mid) mid new r more out))

  at_end : (c : Component) (rest : List Component) → stack_of walk.rests ≡ c ∷ rest → rest ≡ []
      → trail ≡ after_look (record { place = stands; component = c; is_last = true }) (last_trail around mode walk.left stands c walk.slash (look_up around stands c))
  at_end c rest is none = ap (λ cs. walk_on (looking around) mode walk.left stands cs walk.slash) (is ∙ ap (λ cs. c ∷ cs) none) ∙ walk-last (looking around) mode walk.left stands c walk.slash

  in_between : (c : Component) (rest : List Component) → stack_of walk.rests ≡ c ∷ rest → rest ≢ []
      → trail ≡ after_look (record { place = stands; component = c; is_last = false }) (middle_trail around mode walk.left stands rest walk.slash (look_up around stands c))
  in_between c [] is more = absurd (more refl)
  in_between c (d ∷ cs) is more = ap (λ cs. walk_on (looking around) mode walk.left stands cs walk.slash) is ∙ walk-middle (looking around) mode walk.left stands c d cs walk.slash

  pub last_outcome : (c : Component) (rest : List Component) (seen : SeenPlace) (mid new : Reach) (r : Result (Step M) WalkFault) → stack_of walk.rests ≡ c ∷ rest → rest ≡ [] → seen ≡ look_up around stands c
      → mid ≡ noted around (names_entry mode true) stands c old
      → HasOutcome number around mode (last_trail around mode walk.left stands c walk.slash seen).answer (reach_after around mode (last_trail around mode walk.left stands c walk.slash seen) mid) mid new r
      → HasOutcome number around mode trail.answer (reach_after around mode trail old) old new r
  last_outcome c rest seen mid new r is none looked reached out =
      let t = last_trail around mode walk.left stands c walk.slash in
      let P : SeenPlace → Type 0 = λ seen. HasOutcome number around mode (t seen).answer (reach_after around mode (t seen) mid) mid new r in
      behind (record { place = stands; component = c; is_last = true }) (t (look_up around stands c)) mid new r (at_end c rest is none) reached (subst P looked out)

  pub middle_outcome : (c : Component) (rest : List Component) (seen : SeenPlace) (mid new : Reach) (r : Result (Step M) WalkFault) → stack_of walk.rests ≡ c ∷ rest → rest ≢ [] → seen ≡ look_up around stands c
      → mid ≡ noted around (names_entry mode false) stands c old
      → HasOutcome number around mode (middle_trail around mode walk.left stands rest walk.slash seen).answer (reach_after around mode (middle_trail around mode walk.left stands rest walk.slash seen) mid) mid new r
      → HasOutcome number around mode trail.answer (reach_after around mode trail old) old new r
  middle_outcome c rest seen mid new r is more looked reached out =
      let t = middle_trail around mode walk.left stands rest walk.slash in
      let P : SeenPlace → Type 0 = λ seen. HasOutcome number around mode (t seen).answer (reach_after around mode (t seen) mid) mid new r in
      behind (record { place = stands; component = c; is_last = false }) (t (look_up around stands c)) mid new r (in_between c rest is more) reached (subst P looked out)

  -- what a look-up reaches the walk does
  pub covers_step : (is_last : Bool) (c : Component) (rest : List Component) → stack_of walk.rests ≡ c ∷ rest → (is_last ≡ true → rest ≡ []) → (rest ≡ [] → is_last ≡ true)
      → Covers (reach_after around mode trail old) (noted around (names_entry mode is_last) stands c old)
  covers_step true c rest is none last =
      let t = last_trail around mode walk.left stands c walk.slash (look_up around stands c) in
      let P : PlaceTrail → Type 0 = λ trail. Covers (reach_after around mode trail old) (noted around (names_entry mode true) stands c old) in
      subst P (sym (at_end c rest is (none refl))) (covers_after around mode t (noted around (names_entry mode true) stands c old))
  covers_step false c rest is none last =
      let t = middle_trail around mode walk.left stands rest walk.slash (look_up around stands c) in
      let P : PlaceTrail → Type 0 = λ trail. Covers (reach_after around mode trail old) (noted around (names_entry mode false) stands c old) in
      subst P (sym (in_between c rest is (λ no. let clash : false ≡ true = last no in absurd cc))) (covers_after around mode t (noted around (names_entry mode false) stands c old))

  pub note_error : (is_last : Bool) (c : Component) (rest : List Component) (new : Reach) (r : Result (Step M) WalkFault) → stack_of walk.rests ≡ c ∷ rest → (is_last ≡ true → rest ≡ []) → (rest ≡ [] → is_last ≡ true)
      → IsErr r → IsErrAnd r (λ f. f ≡ fault.NoMemory) → Covers new old × Covers (noted around (names_entry mode is_last) stands c old) new → HasOutcome number around mode trail.answer (reach_after around mode trail old) old new r
  note_error is_last c rest new r is none last err want part =
      at_want number around mode trail.answer (reach_after around mode trail old) old new r err want
      (part.0, covers_trans (reach_after around mode trail old) (noted around (names_entry mode is_last) stands c old) new (covers_step is_last c rest is none last) part.1)
