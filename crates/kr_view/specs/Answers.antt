-- What a walk answers its caller.
use Rattle.std.specs.Prelude.{ℕ, ◌≡◌, Result, Ok, Err}
use Rattle.std.specs.Option.{option_map}
use Rattle.kr_tree.specs.pr_base.declared.errno.Errno.{Errno}
use Rattle.kr_tree.specs.pr_base.declared.memory.NoMemory.{NoMemory}
use Rattle.kr_tree.specs.pr_base.declared.path.WalkMode.{WalkMode}
use Rattle.kr_view.specs.declared.target.Target.{Target}
use Rattle.kr_view.specs.declared.target.WalkFault.{WalkFault}
use Rattle.kr_view.specs.declared.target.WalkFault.TheVariants as fault
use Rattle.kr_view.specs.declared.target.Reach.{Reach}
use Rattle.kr_view.specs.Leads.{numbered}
use Rattle.kr_view.specs.Walk.{PlaceTrail, PlaceTarget}
use Rattle.kr_view.specs.Component.{Surroundings}
use Rattle.kr_view.specs.Reach.{Covers, reach_after}

-- a target as its caller is told it
abbrev pub told : PlaceTarget → Target ℕ
told t = record { dir = t.dir; name = t.name; last = t.last; slash = t.slash; found = t.found }

abbrev pub target_numbered : {M : Type 0} → (M → ℕ) → Target M → Target ℕ
target_numbered number t = record {
  dir = numbered number t.dir;
  name = t.name;
  last = t.last;
  slash = t.slash;
  found = option_map (numbered number) t.found;
}

-- the answer is the walk's, but for want of memory
abbrev pub IsAnswer : {M : Type 0} → (M → ℕ) → Result PlaceTarget Errno → Result (Target M) WalkFault → Type 0
IsAnswer number answer (Ok target) = (t : PlaceTarget) × (answer ≡ Ok t) × (told t ≡ target_numbered number target)
IsAnswer number answer (Err (fault.Err e)) = answer ≡ Err e
IsAnswer number answer (Err fault.NoMemory) = Unit {0}

-- what was reached is what the walk reaches, and for want of memory a part of that
abbrev pub IsReached : {T : Type 0} → Surroundings → WalkMode → PlaceTrail → Reach → Reach → Result T WalkFault → Type 0
IsReached around mode trail old new (Ok target) = new ≡ reach_after around mode trail old
IsReached around mode trail old new (Err (fault.Err e)) = new ≡ reach_after around mode trail old
IsReached around mode trail old new (Err fault.NoMemory) = Covers new old × Covers (reach_after around mode trail old) new

-- a part of a walk that doesn't answer for want of memory has reached all, another a part
abbrev pub HasReached : {T : Type 0} → Reach → Reach → Reach → Result T NoMemory → Type 0
HasReached whole old new (Ok x) = new ≡ whole
HasReached whole old new (Err e) = Covers new old × Covers whole new
