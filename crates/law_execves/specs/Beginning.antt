-- Execve(2) as it begins on both machines.
use Rattle.std.specs.Prelude.{◌≡◌, ℕ, List, Ok}
use Rattle.law_programs.specs.rv_mem.Layout.{layout_of}
use Rattle.law_programs.specs.rv_mem.Memory.{Memory}
use Rattle.law_programs.specs.rv_mem.Pages.{IsPlaced, IsWhole}
use Rattle.law_programs.specs.rv_mem.declared.regs.Regs.{Regs}
use Rattle.law_stops.specs.pt_args.Bases.{working_text}
use Rattle.law_stops.specs.kr_calls.declared.request.Request.TheVariants as call
use Rattle.law_stops.specs.kr_steps.Computing.{computed}
use Rattle.law_stops.specs.pt_faker.Stopping.{memory_at}
use Rattle.law_stops.specs.Scene.{IsCalm, Scene, asked, caller_there, here, texts_there}
use Rattle.law_stops.specs.Turning.{ComeToCall}
use Rattle.law_programs.specs.Finding.{texts_here}
use Rattle.law_programs.specs.Refusing.{IsBegun}

-- what the tracer goes by at the first stop is what it would be told of the state of the kernel with mounts; and both kernels begin
-- together, whatever registers and whatever memory of the same layout the tracer leaves
pub record BeginsTogether {S : Type 0} (scene : Scene S) : Type 0 where
  pub texts : texts_there scene ≡ texts_here scene.table (here scene) scene.pid scene.traced.watcher.tags
  pub begun : (regs : Regs) (memory : Memory) → IsWhole memory.pages → IsPlaced memory.pages → layout_of memory.pages ≡ layout_of (memory_at (caller_there scene)).pages
      → IsBegun scene.table (here scene) (computed scene.pid regs memory scene.traced.state) scene.pid scene.traced.watcher.tags (working_text (texts_here scene.table (here scene) scene.pid scene.traced.watcher.tags) scene.pid)

abbrev pub ExecvesBeginTogether : Type 0 → Type 0
ExecvesBeginTogether S = (scene : Scene S) (path : List ℕ) (args env : ℕ) → ComeToCall scene → asked scene ≡ Ok (call.Execve path args env) → IsCalm scene → BeginsTogether scene
