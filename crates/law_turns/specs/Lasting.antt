-- What a call leaves on either kernel: a lawful state, with what lasts.
use Rattle.std.specs.Prelude.{◌≡◌, ◌<◌, ◌^◌, ℕ, suc, List, Some, Ok, Err}
use Rattle.kr_core.specs.pr_base.declared.errno.Errno.{Errno}
use Rattle.law_places.specs.kr_view.View.{Row}
use Rattle.pt_results.specs.kr_calls.declared.request.Request.{Request}
use Rattle.law_places.specs.kr_model.State.{Image, Process, State, process}
use Rattle.law_places.specs.kr_model.Walks.{seen, targets_of}
use Rattle.kr_core.specs.law_allowed.Allowed.{HoldsBytes, LeavesLawful}
use Rattle.kr_core.specs.law_allowed.Told.{SourcesAreNamed, mounts_walked}
use Rattle.kr_core.specs.kr_steps.Calls.{IsNoExec, LastsLawful}
use Rattle.kr_core.specs.kr_turns.PlainCall.{plain_call}
use Rattle.law_turns.specs.Calls.{decoded_by, decoded_in}
use Rattle.law_turns.specs.Operating.{done_in}

-- what a call rests on: its caller lives, in a lawful state with what lasts after few calls, and its memory holds bytes; and sources of
-- mounts that are files have names
pub record CanBeCalled (table : List Row) (made pid : ℕ) (s : State ℕ Image) (p : Process ℕ Image) : Type 0 where
  pub lives : process pid s ≡ Some p
  pub lasts : LastsLawful (λ m. m) table made s
  pub few : made < 2 ^ 31
  pub holds : HoldsBytes p.image.memory.pages
  pub named : SourcesAreNamed table

-- a call that is decoded is allowed, and what lasts lasts
pub record LeavesLasting (table : List Row) (made pid : ℕ) (s : State ℕ Image) (p : Process ℕ Image) (r : Request) : Type 0 where
  pub allowed : LeavesLawful (λ m. m) table (mounts_walked (targets_of table pid (decoded_in pid p s) r)) pid (decoded_in pid p s) (done_in pid r (seen table pid (decoded_in pid p s) r) (decoded_in pid p s))
  pub lasts : LastsLawful (λ m. m) table (suc made) (plain_call table pid s).state

-- whatever its paths lead to, where it is no execve(2)
abbrev pub CallsLast : Type 0
CallsLast =
    (table : List Row) (made pid : ℕ) (s : State ℕ Image) (p : Process ℕ Image) (r : Request) → CanBeCalled table made pid s p → (decoded_by p).reply ≡ Ok r → IsNoExec r → LeavesLasting table made pid s p r

-- one that isn't decoded leaves it, too
abbrev pub RefusedCallsLast : Type 0
RefusedCallsLast =
    (table : List Row) (made pid : ℕ) (s : State ℕ Image) (p : Process ℕ Image) (e : Errno) → CanBeCalled table made pid s p → (decoded_by p).reply ≡ Err e → LastsLawful (λ m. m) table (suc made) (plain_call table pid s).state
