-- A call for a turn of a kernel, by what its machine can do.
use Rattle.std.proofs.Common.{◌≡◌, inr, ℕ, Bool, List, [], ◌∷◌, Option, Some, None, refl, subst, slice_get}
use Rattle.std.specs.List.{filter}
use Rattle.pr_sources.specs.kr_model.State.{Image, Process}
use Rattle.kr_loose.specs.kr_turns.Steps.{goes_on, picked_process}
use Rattle.kr_loose.specs.kr_core.Kernel.{Clears, Kernel, machine_by}
use Rattle.kr_loose.specs.kr_turns.Run.{Deadlock, Ending, Over, Put, after_put, ending_of, if_any}
use Rattle.kr_loose.specs.kr_turns.Turn.{Machine}
use Rattle.pr_sources.specs.pr_io.Drawn.{Received}
use Rattle.pr_run.specs.Puts.{StopsMaking, StopsTurn}
use Rattle.pr_run.specs.declared.turns.Stop.{Stop}
use Rattle.pr_run.specs.declared.turns.Stop.TheVariants as stop

-- a list with an element is none that is empty
any-in : {A : Type 0} (xs : List A) (k : ℕ) (x : A) (none some : Option Ending) → slice_get xs k ≡ Some x → if_any xs none some ≡ some
any-in [] k x none some e = absurd cc
any-in (y ∷ ys) k x none some e = refl

any-passing : {A : Type 0} (test : A → Bool) (xs : List A) (k : ℕ) (x : A) → slice_get (filter test xs) k ≡ Some x → if_any xs (Some Over) (if_any (filter test xs) (Some Deadlock) None) ≡ None
any-passing test [] k x e = absurd cc
any-passing test (y ∷ ys) k x e = any-in (filter test (y ∷ ys)) k x (Some Deadlock) None e

-- a machine goes on where a process is picked
pub goes : {S : Type 0} (m : Machine S) (pick : ℕ) (p : Process ℕ Image) → picked_process m.state pick ≡ Some p → ending_of m ≡ None
goes m pick p e = any-passing (goes_on m.state) m.state.living _ p e

-- a kernel whose bytes were forgotten
pub forgotten : {P S Q T : Type 0} {M : ℕ} (number : T → ℕ) (part : S → Q) (old new : Kernel P S T M) → Clears number old new → machine_by number part new ≡ after_put (machine_by number part old)
forgotten number part old new c = λ i. record { state = c.state i; watcher = part (c.stops i); tally = record { status = c.status i; broken = c.broken i } }

-- one that goes on, and stops
pub stops-made : (ending : Option Ending) (put own : Put) (out err : Received) → own ≡ put → ending ≡ None → (s : Stop) → StopsTurn own out err s → StopsMaking ending put out err s
stops-made ending put own out err same on stop.NoMemory p = inr (on, subst (λ q. StopsTurn q out err stop.NoMemory) same p)
stops-made ending put own out err same on stop.Out p = (on, subst (λ q. StopsTurn q out err stop.Out) same p)
stops-made ending put own out err same on stop.Err p = (on, subst (λ q. StopsTurn q out err stop.Err) same p)
stops-made ending put own out err same on stop.Left p = (on, p)
