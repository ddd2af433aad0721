-- The state in which a run begins.
use Rattle.std.specs.Prelude.{◌≡◌, ℕ, false, List, [], Ok}
use Rattle.std.specs.Option.{option_map_or}
use Rattle.law_loose.specs.kr_core.kr_first.Starting.{start_of, start_reach}
use Rattle.law_loose.specs.kr_core.kr_first.declared.starting.First.{First}
use Rattle.law_loose.specs.kr_core.kr_inode.declared.user.User.{User}
use Rattle.law_loose.specs.kr_loose.kr_tree.Tree.{Tree}
use Rattle.law_loose.specs.kr_view.View.{Row}
use Rattle.law_loose.specs.kr_model.State.{Image, State, process}
use Rattle.law_loose.specs.kr_loose.Marks.{AreUnmarked}
use Rattle.law_loose.specs.law_beside.Opened.{StandOnNodes}

-- nothing was put, no process stays at a call, and no byte is marked
pub record IsFresh (s : State ℕ Image) : Type 0 where
  pub out : s.out ≡ []
  pub err : s.err ≡ []
  pub go : (pid : ℕ) → option_map_or (λ p. p.waits) (process pid s) false ≡ false
  pub unmarked : AreUnmarked s

pub record StartsAreFresh : Type 0 where
  pub fresh : (table : List Row) (tree : Tree) (user : User) (input : List ℕ) (first : First) (s : State ℕ Image) → start_of table tree user input first ≡ Ok s → IsFresh s
  -- where its walks look up no name in the process directory
  pub nodes : (table : List Row) (tree : Tree) (user : User) (input : List ℕ) (first : First) (s : State ℕ Image) → start_of table tree user input first ≡ Ok s
      → (start_reach table tree user first).met_proc ≡ false → StandOnNodes s
