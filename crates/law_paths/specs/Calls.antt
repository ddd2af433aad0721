-- Calls along paths, other than execve(2), with their stops.
use Rattle.std.specs.Prelude.{◌≡◌, ℤ, Bool, true, false, not, List, Option, Ok, Err}
use Rattle.law_plans.specs.pr_base.declared.errno.Errno.{Errno}
use Rattle.law_plans.specs.kr_view.View.{Row}
use Rattle.law_stops.specs.kr_calls.Decoding.{Decoded}
use Rattle.law_stops.specs.kr_calls.declared.request.Request.{Request}
use Rattle.law_stops.specs.kr_calls.declared.request.Request.TheVariants as call
use Rattle.law_stops.specs.kr_stops.Stopped.{Stopped}
use Rattle.law_plans.specs.pt_faker.Stopping.{decoded_at}
use Rattle.law_stops.specs.law_turns.PathCalls.{HasPath}
use Rattle.law_plans.specs.law_edits.Requests.{NewText}
use Rattle.law_stops.specs.Answering.{IsAnsweredAlike}
use Rattle.law_stops.specs.Cancelling.{IsCancelledAlike}
use Rattle.law_stops.specs.Scene.{IsCalm, Scene, asked}
use Rattle.law_stops.specs.Swapping.{IsPassedAlike, IsSwappedAlike}
use Rattle.law_stops.specs.Together.{CallsGoTogether}
use Rattle.law_stops.specs.Turning.{ComeToCall, StayTogether}

-- what the tracer makes of such a call: it leaves it as it is, swaps its paths, cancels it or answers it, as the kernel with mounts has it
pub data MadeAlike {S : Type 0} (scene : Scene S) (r : Request) : Type 0 where
  Passed : IsPassedAlike scene r → MadeAlike scene r
  Swapped : (first : NewText) (second : Option NewText) → IsSwappedAlike scene r first second → MadeAlike scene r
  Cancelled : (e : Errno) → IsCancelledAlike scene r e → MadeAlike scene r
  Answered : (answer : ℤ) → IsAnsweredAlike scene r answer → MadeAlike scene r

abbrev pub PathCallsAreMadeAlike : Type 0 → Type 0
PathCallsAreMadeAlike S = (scene : Scene S) (r : Request) → ComeToCall scene → asked scene ≡ Ok r → HasPath r → IsCalm scene → MadeAlike scene r

-- where it breaks no calm rule, such a call and its stops keep the match
abbrev pub PathCallsGoTogether : Type 0 → Type 0
PathCallsGoTogether S = (scene : Scene S) (r : Request) → ComeToCall scene → asked scene ≡ Ok r → HasPath r → IsCalm scene → StayTogether scene

-- a call that is decoded is execve(2)
abbrev pub is_execve : Request → Bool
is_execve (call.Execve path args env) = true
is_execve _ = false

-- what was decoded isn't, if anything was
abbrev pub executes_nothing : Decoded → Bool
executes_nothing (Ok r) = not (is_execve r)
executes_nothing (Err e) = true

-- nor is what a process asks for
abbrev pub asks_no_execve : Stopped → Bool
asks_no_execve t = executes_nothing (decoded_at t).reply

-- and so does each other call but execve(2)
abbrev pub OtherCallsGoTogether : Type 0 → Type 0
OtherCallsGoTogether S = (table : List Row) → CallsGoTogether S asks_no_execve table
