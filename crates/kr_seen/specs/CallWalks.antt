-- The walks of a call's paths over a state in code: what is answered of them, and what they reach.
use Rattle.std.specs.Prelude.{◌≡◌, ℕ, List, [], ◌∷◌, Option, Some, None, Result, Ok, Err}
use Rattle.std.specs.Option.{option_map}
use Rattle.kr_ops.specs.pr_base.declared.errno.Errno.{Errno}
use Rattle.kr_ops.specs.kr_calls.PathTable.{PathUse, path_at}
use Rattle.kr_ops.specs.kr_calls.declared.request.Request.{Request}
use Rattle.kr_ops.specs.kr_tree.declared.place.Place.{Place}
use Rattle.kr_ops.specs.kr_view.declared.target.Reach.{Reach}
use Rattle.kr_ops.specs.kr_view.declared.target.Target.{Target}
use Rattle.kr_ops.specs.kr_view.declared.target.WalkFault.{WalkFault}
use Rattle.kr_ops.specs.kr_view.declared.target.WalkFault.TheVariants as fault
use Rattle.kr_ops.specs.kr_view.Answers.{told, target_numbered}
use Rattle.kr_ops.specs.kr_view.Leads.{numbered}
use Rattle.kr_ops.specs.kr_view.Reach.{Covers, reach_after}
use Rattle.kr_ops.specs.kr_view.View.{Row}
use Rattle.kr_ops.specs.kr_view.Walk.{PlaceTarget, place_walk}
use Rattle.kr_ops.specs.kr_model.ProcessDirectory.{around_of}
use Rattle.kr_ops.specs.kr_model.State.{State}
use Rattle.kr_ops.specs.kr_model.Walks as walks
use Rattle.kr_ops.specs.kr_model.Walks.{base_of, target_at}
use Rattle.kr_seen.specs.declared.walks.Targets.{Targets}

-- ---- what is reached

module _ {X : Type 0} (table : List Row) (pid : ℕ) (s : State ℕ X) where
  -- an empty path isn't walked, and one without a base isn't either
  abbrev pub walk_reach : PathUse → List ℕ → Result (Place ℕ) Errno → Reach → Reach
  walk_reach u [] base r = r
  walk_reach u (b ∷ path) (Ok base) r = reach_after (around_of table pid s) u.mode (place_walk (around_of table pid s) u.mode base (b ∷ path)) r
  walk_reach u (b ∷ path) (Err e) r = r

  abbrev pub path_reach : Option PathUse → Reach → Reach
  path_reach None r = r
  path_reach (Some u) r = walk_reach u u.text (base_of table pid s u) r

  -- the second path is walked where the first isn't refused
  abbrev pub second_reach : Result (Option PlaceTarget) Errno → Option PathUse → Reach → Reach
  second_reach (Ok target) u r = path_reach u r
  second_reach (Err e) u r = r

  abbrev pub call_reach : Request → Reach → Reach
  call_reach request r = second_reach (target_at table pid s (path_at request 0)) (path_at request 1) (path_reach (path_at request 0) r)

-- ---- what is answered

module _ {M : Type 0} (number : M → ℕ) where
  -- the place at which a path begins, or an error
  abbrev pub IsBase : Result (Place ℕ) Errno → Result (Place M) Errno → Type 0
  IsBase answer (Ok place) = answer ≡ Ok (numbered number place)
  IsBase answer (Err e) = answer ≡ Err e

  -- the target of a path, if it is walked
  abbrev pub IsTold : Option PlaceTarget → Option (Target M) → Type 0
  IsTold t target = option_map told t ≡ option_map (target_numbered number) target

  abbrev pub IsTarget : Result (Option PlaceTarget) Errno → Result (Option (Target M)) WalkFault → Type 0
  IsTarget answer (Ok target) = (t : Option PlaceTarget) × (answer ≡ Ok t) × IsTold t target
  IsTarget answer (Err (fault.Err e)) = answer ≡ Err e
  IsTarget answer (Err fault.NoMemory) = Unit {0}

  -- the targets of a call's paths, but for want of memory
  abbrev pub AreTargets : Result walks.Targets Errno → Result (Targets M) WalkFault → Type 0
  AreTargets answer (Ok targets) = (t : walks.Targets) × (answer ≡ Ok t) × IsTold t.first targets.first × IsTold t.second targets.second
  AreTargets answer (Err (fault.Err e)) = answer ≡ Err e
  AreTargets answer (Err fault.NoMemory) = Unit {0}

-- what was reached is all that the walks reach, and for want of memory a part of that
abbrev pub IsReachedTo : {T : Type 0} → Reach → Reach → Reach → Result T WalkFault → Type 0
IsReachedTo all old new (Ok x) = new ≡ all
IsReachedTo all old new (Err (fault.Err e)) = new ≡ all
IsReachedTo all old new (Err fault.NoMemory) = Covers new old × Covers all new
