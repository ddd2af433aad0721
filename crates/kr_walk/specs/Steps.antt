-- One step of a walk: what is left of the walk behind it, and what it reached.
use Rattle.std.specs.Prelude.{ℕ, ◌≡◌, ◌<◌, ◌+◌, ◌*◌, ◌^◌, Bool, false, List, [], ◌++◌, length, Some, Result, Ok, Err}
use Rattle.kr_view.specs.kr_tree.pr_base.Paths.{Component, component_of, components_of}
use Rattle.kr_view.specs.kr_tree.pr_base.WalkFrame.{begins_at, onward, walk_on}
use Rattle.kr_view.specs.kr_tree.pr_base.WalkLaws as laws
use Rattle.kr_view.specs.kr_tree.pr_base.declared.errno.Errno.{Errno}
use Rattle.kr_view.specs.kr_tree.pr_base.declared.errno.Errno.TheVariants.{ELOOP}
use Rattle.kr_view.specs.kr_tree.pr_base.declared.path.Last.TheVariants as last
use Rattle.kr_view.specs.kr_tree.pr_base.declared.path.WalkMode.{WalkMode}
use Rattle.kr_view.specs.kr_tree.declared.place.Place.{Place}
use Rattle.kr_view.specs.declared.target.Reach.{Reach}
use Rattle.kr_view.specs.declared.target.Target.{Target}
use Rattle.kr_view.specs.declared.target.WalkFault.{WalkFault}
use Rattle.kr_view.specs.declared.target.WalkFault.TheVariants as fault
use Rattle.kr_view.specs.kr_tree.declared.place.ProcAt.{ProcAt}
use Rattle.kr_walk.specs.declared.rests.Taken.{Taken}
use Rattle.kr_walk.specs.declared.surroundings.Sight.{Sight}
use Rattle.kr_walk.specs.declared.walk.Walk.{Walk}
use Rattle.kr_walk.specs.declared.walk.Step.{Step}
use Rattle.kr_walk.specs.declared.walk.Step.TheVariants.{Goes, Ends}
use Rattle.kr_view.specs.Leads.{numbered}
use Rattle.kr_view.specs.Component.{Surroundings, SeenPlace, seen_link}
use Rattle.kr_walk.specs.Sights.{sight_seen}
use Rattle.kr_view.specs.Walk.{PlaceTrail, PlaceTarget, looking}
use Rattle.kr_view.specs.Reach.{Covers, reach_after}
use Rattle.kr_view.specs.Answers.{told, target_numbered}
use Rattle.kr_walk.specs.Positions.{IsNamed}
use Rattle.kr_walk.specs.Rests.{components_left}
use Rattle.kr_walk.specs.Stacks.{stack_of, taken_bytes}

-- what is left of a walk
abbrev pub trail_of : {M : Type 0} → (M → ℕ) → Surroundings → WalkMode → Walk M → PlaceTrail
trail_of number around mode walk =
    walk_on (looking around) mode walk.left (numbered number walk.position.place) (stack_of walk.rests) walk.slash

-- how much work is left: links count more than the components of any text
abbrev pub work : {M : Type 0} → Walk M → ℕ
work walk = walk.left * 2 ^ 64 + length (stack_of walk.rests)

-- behind what a component shows that others follow, and behind the last one
abbrev pub middle_trail : Surroundings → WalkMode → ℕ → Place ℕ → List Component → Bool → SeenPlace → PlaceTrail
middle_trail around = laws.middle_trail (looking around)

abbrev pub last_trail : Surroundings → WalkMode → ℕ → Place ℕ → Component → Bool → SeenPlace → PlaceTrail
last_trail around = laws.last_trail (looking around)

-- the components behind one that was taken
abbrev pub rest_behind : {M : Type 0} → Taken → Walk M → List Component
rest_behind taken walk = components_left taken.rest ++ stack_of walk.rests

-- what is left of a walk behind a component that was taken from it, by what that shows
abbrev pub left_in_middle : {M : Type 0} → (M → ℕ) → Surroundings → WalkMode → Walk M → Taken → Sight M → PlaceTrail
left_in_middle number around mode walk taken sight =
    middle_trail around mode walk.left (numbered number walk.position.place) (rest_behind taken walk) walk.slash (sight_seen number around sight)

abbrev pub left_at_last : {M : Type 0} → (M → ℕ) → Surroundings → WalkMode → Walk M → Taken → Sight M → PlaceTrail
left_at_last number around mode walk taken sight =
    last_trail around mode walk.left (numbered number walk.position.place) (component_of (taken_bytes taken)) walk.slash (sight_seen number around sight)

-- what is left of it behind a link of the process directory, wherever that stands
abbrev pub left_by_jump : {M : Type 0} → (M → ℕ) → Surroundings → WalkMode → Walk M → ProcAt → Place ℕ → PlaceTrail
left_by_jump number around mode walk at link =
    middle_trail around mode walk.left (numbered number walk.position.place) (stack_of walk.rests) walk.slash (seen_link around.space link (around.leads at))

abbrev pub left_by_last_jump : {M : Type 0} → (M → ℕ) → Surroundings → WalkMode → Walk M → ProcAt → Place ℕ → Component → PlaceTrail
left_by_last_jump number around mode walk at link c =
    last_trail around mode walk.left (numbered number walk.position.place) c walk.slash (seen_link around.space link (around.leads at))

-- ---- what is reached

-- where a path, or the text of a link, has no component
abbrev pub here_target : Place ℕ → Bool → PlaceTarget
here_target s slash = record { dir = s; name = []; last = last.Root; slash = slash; found = Some s; jumped = false }

-- ---- outcomes

-- the target to which a process link led
abbrev pub IsLanded : {M : Type 0} → (M → ℕ) → Result PlaceTarget Errno → Result (Target M) WalkFault → Type 0
IsLanded number answer (Ok target) = (t : PlaceTarget) × (answer ≡ Ok t) × (told t ≡ target_numbered number target)
IsLanded number answer (Err (fault.Err e)) = answer ≡ Err e
IsLanded number answer (Err fault.NoMemory) = Unit {0}

-- the walk behind a link that was followed
pub record Follows {M : Type 0} (number : M → ℕ) (around : Surroundings) (walk : Walk M) (text : List ℕ) (slash : Bool) (on : Walk M) : Type 0 where
  pub trail : (mode : WalkMode) → trail_of number around mode on ≡ onward (looking around) mode walk.left (begins_at (looking around) (numbered number walk.position.place) text) (components_of text ++ stack_of walk.rests) slash
  pub named : IsNamed around.space.tree on.position.place.host on.position.name
  pub less : work on < work walk

abbrev pub IsFollowed : {M : Type 0} → (M → ℕ) → Surroundings → Walk M → List ℕ → Bool → Result (Walk M) WalkFault → Type 0
IsFollowed number around walk text slash (Ok on) = Follows number around walk text slash on
IsFollowed number around walk text slash (Err (fault.Err e)) = (e ≡ ELOOP) × (walk.left ≡ 0)
IsFollowed number around walk text slash (Err fault.NoMemory) = Unit {0}

-- the walk that goes on ends as the whole one does
pub record GoesOn {M : Type 0} (number : M → ℕ) (around : Surroundings) (mode : WalkMode) (answer : Result PlaceTarget Errno) (whole old new : Reach) (on : Walk M) : Type 0 where
  pub ends : (trail_of number around mode on).answer ≡ answer
  pub reaches : reach_after around mode (trail_of number around mode on) new ≡ whole
  pub covers : Covers new old
  pub named : IsNamed around.space.tree on.position.place.host on.position.name

-- the answer, and all that is reached; where memory is wanting a part of that
abbrev pub HasOutcome : {M : Type 0} → (M → ℕ) → Surroundings → WalkMode → Result PlaceTarget Errno → Reach → Reach → Reach → Result (Step M) WalkFault → Type 0
HasOutcome number around mode answer whole old new (Ok (Goes on)) = GoesOn number around mode answer whole old new on
HasOutcome number around mode answer whole old new (Ok (Ends target)) =
    ((t : PlaceTarget) × (answer ≡ Ok t) × (told t ≡ target_numbered number target)) × (new ≡ whole)
HasOutcome number around mode answer whole old new (Err (fault.Err e)) = (answer ≡ Err e) × (new ≡ whole)
HasOutcome number around mode answer whole old new (Err fault.NoMemory) = Covers new old × Covers whole new

-- what comes of a step where this trail is left
abbrev pub IsOutcome : {M : Type 0} → (M → ℕ) → Surroundings → WalkMode → PlaceTrail → Reach → Reach → Result (Step M) WalkFault → Type 0
IsOutcome number around mode trail old new result = HasOutcome number around mode trail.answer (reach_after around mode trail old) old new result

-- a step that goes on leaves less work
abbrev pub HasLess : {M : Type 0} → ℕ → Result (Step M) WalkFault → Type 0
HasLess bound (Ok (Goes on)) = work on < bound
HasLess bound (Ok (Ends target)) = Unit {0}
HasLess bound (Err e) = Unit {0}
