-- A calm execve(2) of a caller of both machines.
use Rattle.std.proofs.Common.{◌≡◌, ℕ, List, Ok}
use Rattle.law_stops.specs.kr_calls.declared.request.Request.TheVariants as call
use Rattle.law_stops.specs.Scene.{IsCalm, Scene, asked}
use Rattle.law_stops.specs.Turning.{ComeToCall}
use Rattle.law_stops.proofs.CallerLemmas.{Callers, callers_of}

pub record ExecveCall {S : Type 0} (scene : Scene S) : Type 0 where
  pub callers : Callers scene
  pub path : List ℕ
  pub args : ℕ
  pub env : ℕ
  pub decoded : asked scene ≡ Ok (call.Execve path args env)
  pub calm : IsCalm scene

abbrev pub execve_of : {S : Type 0} {scene : Scene S} → ComeToCall scene → (path : List ℕ) (args env : ℕ) → asked scene ≡ Ok (call.Execve path args env) → IsCalm scene → ExecveCall scene
execve_of comes path args env decoded calm = record { callers = callers_of comes; path = path; args = args; env = env; decoded = decoded; calm = calm }
