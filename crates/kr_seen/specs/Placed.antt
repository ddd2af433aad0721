-- A target of the code as the definitions speak of it: its mounts by their numbers in the view.
use Rattle.std.specs.Prelude.{ℕ, false, Some}
use Rattle.std.specs.Option.{option_map}
use Rattle.kr_ops.specs.kr_view.declared.target.Target.{Target}
use Rattle.kr_ops.specs.kr_view.Answers.{target_numbered}
use Rattle.kr_ops.specs.kr_view.Walk.{PlaceTarget}
use Rattle.kr_ops.specs.kr_model.Applied.{Mounts}

-- a walk also says whether a link of the process directory led to its target, which no call is told
abbrev pub placed : Target ℕ → PlaceTarget
placed t = record { dir = t.dir; name = t.name; last = t.last; slash = t.slash; found = t.found; jumped = false }

module _ {T : Type 0} where
  abbrev pub placed_in : (T → ℕ) → Target T → PlaceTarget
  placed_in number t = placed (target_numbered number t)

  -- the mounts that the changes of a call may name, as the machine calls them: those of its first path
  abbrev pub target_mounts : Target T → Mounts T
  target_mounts t = record { found = option_map (λ p. p.mount) t.found; directory = Some t.dir.mount }
