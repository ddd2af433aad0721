-- A process that a kernel holds at a stop.
use Rattle.std.specs.Prelude.{ℕ, ◌≤◌, ◌^◌, Bool, List, IsSome}
use Rattle.kr_hostview.specs.pr_base.Peeks.{NamesAreTexts}
use Rattle.kr_execve.specs.kr_view.View.{Row}
use Rattle.kr_steps.specs.kr_model.Peeks.{peeked_of}
use Rattle.kr_steps.specs.kr_model.State.{process}
use Rattle.kr_hostview.specs.kr_ops.declared.state.State.{State}
use Rattle.kr_hostview.specs.kr_ops.Meaning.{meaning}
use Rattle.kr_calm.specs.kr_seen.Numbered.{state_numbered}
use Rattle.kr_steps.specs.Calls.{Runs}
use Rattle.kr_steps.specs.kr_stops.Stopped.{Stopped}
use Rattle.kr_steps.specs.kr_stops.declared.handed.Handed.{Handed}

-- the process of a number in a state of the code
abbrev pub stopped_in : {T : Type 0} {M : ℕ} → (T → ℕ) → State T M → (pid : ℕ) → Handed → Stopped
stopped_in number s pid handed = record { state = state_numbered number (meaning s); pid = pid; handed = handed }

-- it lives, in a state that runs, and numbers of processes have 32 bits
pub record Stands {T : Type 0} {M : ℕ} (number : T → ℕ) (table : List Row) (calls pid : ℕ) (s : State T M) : Type 0 where
  pub runs : Runs number table calls s
  pub lives : IsSome (process pid (meaning s))
  pub small : (meaning s).next_pid ≤ 2 ^ 32

-- what a kernel lends for a stop: its view, its state after `calls` calls, and which process stopped. Names that are told are texts
pub record Held (P T : Type 0) (M : ℕ) : Type 0 where
  pub places : P
  pub state : State T M
  pub pid : ℕ
  pub handed : Handed
  pub calls : ℕ
  -- which state was lent
  pub lent : ℕ
  -- whether no peek looked up a name in the process directory at this stop
  pub unmet : Bool
  pub texts : ∥ NamesAreTexts (peeked_of (meaning state) pid) ∥₁

-- what a watcher leaves of it but for what is in the state
pub record Around (P : Type 0) : Type 0 where
  pub places : P
  pub calls : ℕ
  pub lent : ℕ

-- and what a peek leaves
pub record Left (P : Type 0) : Type 0 where
  pub stopped : Stopped
  pub around : Around P

module _ {P T : Type 0} {M : ℕ} (number : T → ℕ) where
  abbrev pub stopped_of : Held P T M → Stopped
  stopped_of h = stopped_in number h.state h.pid h.handed

  abbrev pub around_of : Held P T M → Around P
  around_of h = record { places = h.places; calls = h.calls; lent = h.lent }

  abbrev pub left_of : Held P T M → Left P
  left_of h = record { stopped = stopped_of h; around = around_of h }
