-- What comes of a whole walk.
use Rattle.std.proofs.Common.{◌≡◌, ℕ, Result, Ok, Err, sym, ap, subst, ◌∙◌}
use Rattle.std.specs.Result.{IsErr, IsErrAnd}
use Rattle.kr_view.specs.kr_tree.pr_base.declared.errno.Errno.{Errno}
use Rattle.kr_view.specs.kr_tree.pr_base.declared.path.WalkMode.{WalkMode}
use Rattle.kr_view.specs.declared.target.Reach.{Reach}
use Rattle.kr_view.specs.declared.target.Target.{Target as Told}
use Rattle.kr_view.specs.declared.target.WalkFault.{WalkFault}
use Rattle.kr_view.specs.declared.target.WalkFault.TheVariants as fault
use Rattle.kr_view.specs.Component.{Surroundings}
use Rattle.kr_view.specs.Walk.{PlaceTrail, PlaceTarget}
use Rattle.kr_view.specs.Reach.{Covers, reach_after}
use Rattle.kr_view.specs.Answers.{IsAnswer, IsReached}
use Rattle.kr_walk.specs.Steps.{HasOutcome}
use Rattle.kr_view.proofs.ReachLemmas.{covers_refl, covers_trans, covers_after}

module _ {M : Type 0} (number : M → ℕ) (around : Surroundings) (mode : WalkMode) (trail : PlaceTrail) (first : Reach) where
  -- where memory is wanting before the first step
  pub want_at_start : (r : Result (Told M) WalkFault) → IsErr r → IsErrAnd r (λ f. f ≡ fault.NoMemory) → IsReached around mode trail first first r
  want_at_start (Ok target) err want = absurd cc
  want_at_start (Err (fault.Err e)) err want = absurd cc
  want_at_start (Err fault.NoMemory) err want = (covers_refl first, covers_after around mode trail first)

  pub error_answer : (answer : Result PlaceTarget Errno) (whole old new : Reach) (e : WalkFault) (r : Result (Told M) WalkFault) → HasOutcome {M = M} number around mode answer whole old new (Err e) → answer ≡ trail.answer
      → IsErr r → IsErrAnd r (λ f. f ≡ e) → IsAnswer number trail.answer r
  error_answer answer whole old new e (Ok target) out ends err same = absurd cc
  error_answer answer whole old new (fault.Err e) (Err fault.NoMemory) out ends err same = tt
  error_answer answer whole old new fault.NoMemory (Err fault.NoMemory) out ends err same = tt
  error_answer answer whole old new fault.NoMemory (Err (fault.Err f)) out ends err same = absurd cc
  error_answer answer whole old new (fault.Err e) (Err (fault.Err f)) out ends err same = let one : f ≡ e = cc in sym ends ∙ out.0 ∙ ap Err (sym one)

  pub error_reach : (answer : Result PlaceTarget Errno) (whole old new : Reach) (e : WalkFault) (r : Result (Told M) WalkFault) → HasOutcome {M = M} number around mode answer whole old new (Err e) → whole ≡ reach_after around mode trail first
      → Covers old first → IsErr r → IsErrAnd r (λ f. f ≡ e) → IsReached around mode trail first new r
  error_reach answer whole old new e (Ok target) out reaches covers err same = absurd cc
  error_reach answer whole old new (fault.Err e) (Err fault.NoMemory) out reaches covers err same = absurd cc
  error_reach answer whole old new fault.NoMemory (Err (fault.Err f)) out reaches covers err same = absurd cc
  error_reach answer whole old new (fault.Err e) (Err (fault.Err f)) out reaches covers err same = out.1 ∙ reaches
  error_reach answer whole old new fault.NoMemory (Err fault.NoMemory) out reaches covers err same =
      let P : Reach → Type 0 = λ whole. Covers whole new in
      (covers_trans new old first out.0 covers, subst P reaches out.1)
