-- A walker that remembers nothing as long as a process stands at a call that can alter the tree.
use Rattle.std.specs.Prelude.{◌≡◌, ◌≢◌, ℕ, Bool, true, List, length}
use Rattle.std.specs.List.{list_any}
use Rattle.std.specs.Ordering.{eq_by_cmp, nat_cmp}
use Rattle.law_steady.specs.pt_canon.Remembering.{Walking}

-- a walker, and the processes that pause it, each of them once
pub record Pausing : Type 0 where
  pub walker : Walking
  pub pids : List ℕ

abbrev pub is_pausing : ℕ → List ℕ → Bool
is_pausing pid pids = list_any (eq_by_cmp nat_cmp pid) pids

-- there is a pause for each of them
pub record IsPausedBy (walker : Walking) (pids : List ℕ) : Type 0 where
  pub counts : walker.pauses ≡ length pids

-- it is paused for a process
pub record IsPausedFor (x : Pausing) (pid : ℕ) : Type 0 where
  pub pauses : is_pausing pid x.pids ≡ true
  pub stands : x.walker.pauses ≢ 0
