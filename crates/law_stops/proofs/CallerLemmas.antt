-- The caller of a scene, as a process of both machines.
use Rattle.std.proofs.Common.{◌≡◌, ℕ, Option, Some, None, refl}
use Rattle.std.specs.Prelude.{IsSome}
use Rattle.law_edits.specs.kr_model.State.{Image, Process, process}
use Rattle.law_edits.specs.pt_faker.Faking.{Faking}
use Rattle.law_turns.proofs.RunLemmas.{lives_too}
use Rattle.law_stops.specs.Scene.{Scene}
use Rattle.law_stops.specs.Turning.{ComeToCall}
use Rattle.law_stops.specs.Going.{ComeToFakedCall, untold}

-- two machines as a living process comes to a call on both, and the process on each
pub record Callers {S : Type 0} (scene : Scene S) : Type 0 where
  pub comes : ComeToCall scene
  pub caller : Process ℕ Image
  pub also_caller : Process ℕ Image
  pub lives : process scene.pid scene.mounted.state ≡ Some caller
  pub also_lives : process scene.pid scene.traced.state ≡ Some also_caller

module _ {S : Type 0} {scene : Scene S} (comes : ComeToCall scene) where
  found : (o : Option (Process ℕ Image)) → process scene.pid scene.mounted.state ≡ o → IsSome o → Callers scene
  found None none some = absurd cc
  found (Some p) lives some =
      let q = lives_too scene.table scene.traced.watcher.tags scene.pid scene.mounted.state scene.traced.state p comes.matches.states lives in
      record { comes = comes; caller = p; also_caller = q.0; lives = lives; also_lives = q.1 }

  -- there is such a process
  pub callers_of : Callers scene
  callers_of = found (process scene.pid scene.mounted.state) refl comes.lives

-- ---- where an identity is told

pub record FakedCallers (scene : Scene Faking) : Type 0 where
  pub comes : ComeToFakedCall scene
  pub caller : Process ℕ Image
  pub also_caller : Process ℕ Image
  pub lives : process scene.pid scene.mounted.state ≡ Some caller
  pub also_lives : process scene.pid scene.traced.state ≡ Some also_caller

-- the same machines come to the call with a tracer that tells none
pub comes_untold : (scene : Scene Faking) → ComeToFakedCall scene → ComeToCall (untold scene)
comes_untold scene comes = record {
  matches = record { states = comes.matches.states; statuses = comes.matches.statuses };
  lasts = comes.lasts;
  also_lasts = comes.also_lasts;
  few = comes.few;
  named = comes.named;
  sized = comes.sized;
  also_sized = comes.also_sized;
  traces = record { bindings = comes.goes.bindings; identities = refl };
  watched = comes.watched;
  lives = comes.lives;
}

abbrev pub untold_callers : {scene : Scene Faking} → FakedCallers scene → Callers (untold scene)
untold_callers {scene} callers = record {
  comes = comes_untold scene callers.comes;
  caller = callers.caller;
  also_caller = callers.also_caller;
  lives = callers.lives;
  also_lives = callers.also_lives;
}

pub faked_callers_of : {scene : Scene Faking} → ComeToFakedCall scene → FakedCallers scene
faked_callers_of {scene} comes =
    let callers = callers_of (comes_untold scene comes) in record { comes = comes; caller = callers.caller; also_caller = callers.also_caller; lives = callers.lives; also_lives = callers.also_lives }
