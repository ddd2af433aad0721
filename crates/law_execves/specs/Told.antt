-- Execve(2) with its stops, where processes are told an identity.
use Rattle.std.specs.Prelude.{◌≡◌, ℕ, List, Ok}
use Rattle.law_stops.specs.kr_calls.declared.request.Request.TheVariants as call
use Rattle.law_stops.specs.pt_faker.Faking.{Faking}
use Rattle.law_stops.specs.Beginning.{GoesUntoldToProgram}
use Rattle.law_stops.specs.Going.{ComeToFakedCall, GoesTogether}
use Rattle.law_stops.specs.Scene.{IsCalm, Scene, asked}

-- where no identity is told, such a call ends alike on both kernels, a new program begins on both or on none, and the call keeps both
-- machines together, where it breaks no calm rule
abbrev pub UntoldExecvesGoOn : Type 0
UntoldExecvesGoOn = (scene : Scene Faking) (path : List ℕ) (args env : ℕ) → ComeToFakedCall scene → asked scene ≡ Ok (call.Execve path args env) → IsCalm scene → GoesUntoldToProgram scene

-- so it keeps them together with an identity
abbrev pub FakedExecvesGoTogether : Type 0
FakedExecvesGoTogether = (scene : Scene Faking) (path : List ℕ) (args env : ℕ) → ComeToFakedCall scene → asked scene ≡ Ok (call.Execve path args env) → GoesTogether scene
