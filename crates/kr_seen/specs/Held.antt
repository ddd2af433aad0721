-- What a view of the process directory keeps.
use Rattle.std.specs.Prelude.{ℕ, List}
use Rattle.kr_ops.specs.kr_tree.declared.place.Place.{Place}
use Rattle.kr_ops.specs.kr_view.View.{Row}
use Rattle.kr_ops.specs.declared.state.State.{State}
use Rattle.kr_ops.specs.Meaning.{meaning}
use Rattle.kr_seen.specs.Shown.{Shown}

-- the mounts of a view, where absolute paths begin, and a state in code
pub record Held (T : Type 0) (M : ℕ) : Type 0 where
  pub table : List Row
  pub root : Place T
  pub state : State T M

-- what is shown of it
abbrev pub shown_of : {T : Type 0} {M : ℕ} → Held T M → Shown T
shown_of h = record { table = h.table; root = h.root; state = meaning h.state }
