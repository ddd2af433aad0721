-- Where processes stand between the stops of their calls.
use Rattle.std.specs.Prelude.{ℕ, ◌==◌, Bool, false, not, List, [], ◌∷◌, ◌++◌, Option, Some, None}
use Rattle.std.specs.List.{filter, find}
use Rattle.std.specs.Option.{option_map, option_map_or}
use Rattle.kr_turns.specs.kr_stops.declared.handed.Handed.{Handed}
use Rattle.kr_core.specs.declared.paused.Begun.{Begun}
use Rattle.kr_core.specs.declared.paused.Between.{Between}
use Rattle.kr_core.specs.declared.paused.Between.TheVariants.{AtCall, Entered, Done}
use Rattle.kr_core.specs.declared.paused.Paused.{Paused}
use Rattle.kr_core.specs.declared.paused.Phase.{Phase}
use Rattle.kr_core.specs.declared.paused.Phase.TheVariants as phase

abbrev pub is_paused : ℕ → Paused → Bool
is_paused pid p = p.pid == pid

-- where a process stands; one of which nothing is kept runs
abbrev pub between_of : ℕ → List Paused → Option Between
between_of pid paused = option_map (λ p. p.between) (find (is_paused pid) paused)

-- nothing is kept of it any more
abbrev pub unpaused : ℕ → List Paused → List Paused
unpaused pid paused = filter (λ p. not (is_paused pid p)) paused

-- it stands there
abbrev pub paused_at : ℕ → Between → List Paused → List Paused
paused_at pid between paused = unpaused pid paused ++ record { pid = pid; between = between } ∷ []

-- ---- as callers are told

abbrev pub phase_between : Between → Phase
phase_between AtCall = phase.AtCall
phase_between (Entered begun) = phase.Entered
phase_between (Done handed) = phase.Done

abbrev pub phase_at : Option Between → Phase
phase_at between = option_map_or phase_between between phase.Running

-- ---- what is kept of it

abbrev pub begun_at : Option Between → Option Begun
begun_at None = None
begun_at (Some AtCall) = None
begun_at (Some (Entered begun)) = Some begun
begun_at (Some (Done handed)) = None

abbrev pub handed_at : Option Between → Option Handed
handed_at None = None
handed_at (Some AtCall) = None
handed_at (Some (Entered begun)) = None
handed_at (Some (Done handed)) = Some handed

-- whether its call was begun, and was execve(2) before its first stop
abbrev pub is_exec_at : Option Between → Bool
is_exec_at between = option_map_or (λ begun. begun.exec) (begun_at between) false
