-- What the names of places rest on: a state of the code in whose tree a table of mounts stands.
use Rattle.std.specs.Prelude.{ℕ, List}
use Rattle.kr_ops.specs.kr_tree.Lawful.{IsSound as IsSoundTree}
use Rattle.kr_ops.specs.kr_view.View.{Row, StandsIn}
use Rattle.kr_ops.specs.declared.state.State.{State}
use Rattle.kr_ops.specs.Sound.{IsSound}

pub record CarriesMounts {T : Type 0} {M : ℕ} (table : List Row) (s : State T M) : Type 0 where
  pub sound : IsSound s
  pub tree : IsSoundTree s.tree
  pub mounts : StandsIn s.tree table
