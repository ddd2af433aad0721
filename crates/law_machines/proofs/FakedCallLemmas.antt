-- Every call of a calm run keeps both machines together, where processes are told an identity.
use Rattle.std.proofs.Common.{◌≡◌, true, List, Ok}
use Rattle.std.proofs.lemmas.Bool.{false≢true}
use Rattle.law_starts.specs.pt_args.Laws.{ShelvesHoldTheirItems, TextsAreReadBack}
use Rattle.law_starts.specs.kr_calls.declared.request.Request.{Request}
use Rattle.law_starts.specs.kr_calls.declared.request.Request.TheVariants as call
use Rattle.pr_top.specs.kr_view.View.{Row}
use Rattle.law_starts.specs.pt_faker.Faking.{Faking}
use Rattle.law_starts.specs.pt_tracer.Watched.{is_execve}
use Rattle.law_paths.specs.law_stops.Going.{ComeToFakedCall, GoesTogether}
use Rattle.law_paths.specs.law_stops.Runs.{EachCallGoesTogether}
use Rattle.law_paths.specs.law_stops.Scene.{Scene, asked}
use Rattle.law_paths.specs.law_stops.Together.{any_call}
use Rattle.law_paths.proofs.law_stops.WholeLemmas.{all_calls_go_together}
use Rattle.law_paths.proofs.FakedOtherLemmas.{along}
use Rattle.law_execves.proofs.ToldLemmas.{faked_execves_go_together}

-- what holds of each execve holds of each request that is one. Over a request alone, since each of the other cases would be dear over a scene.
of_execve : (P : Request → Type 0) → ((path : _) (args : _) (env : _) → P (call.Execve path args env)) → (r : Request) → is_execve r ≡ true → P r
of_execve P execve (call.Execve path args env) runs = execve path args env
of_execve P execve _ runs = absurd (false≢true runs)

module _ (back : TextsAreReadBack) (shelves : ShelvesHoldTheirItems) (scene : Scene Faking) (comes : ComeToFakedCall scene) where
  programs : (r : Request) → asked scene ≡ Ok r → is_execve r ≡ true → GoesTogether scene
  programs r decoded runs = of_execve (λ r. asked scene ≡ Ok r → GoesTogether scene) (λ path args env is. faked_execves_go_together back shelves scene path args env comes is) r runs decoded

pub faked_calls_go_together : TextsAreReadBack → ShelvesHoldTheirItems → (table : List Row) → EachCallGoesTogether any_call table
faked_calls_go_together back shelves table =
    all_calls_go_together any_call table
    (record {
      along = λ scene r over comes decoded told asks. along back shelves scene r comes decoded told;
      programs = λ scene r over comes decoded runs asks. programs back shelves scene comes r decoded runs;
    })
