-- Execve(2) with its stops.
use Rattle.std.specs.Prelude.{◌≡◌, ℕ, List, Ok}
use Rattle.law_stops.specs.kr_calls.declared.request.Request.TheVariants as call
use Rattle.law_stops.specs.Scene.{IsCalm, Scene, asked}
use Rattle.law_stops.specs.Turning.{ComeToCall, StayTogether}

-- such a call and its stops keep the match, where it breaks no calm rule
abbrev pub ExecvesGoTogether : Type 0 → Type 0
ExecvesGoTogether S = (scene : Scene S) (path : List ℕ) (args env : ℕ) → ComeToCall scene → asked scene ≡ Ok (call.Execve path args env) → IsCalm scene → StayTogether scene
