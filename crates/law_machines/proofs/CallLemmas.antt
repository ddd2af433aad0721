-- Every call of a calm run keeps both machines together.
use Rattle.std.proofs.Common.{◌≡◌, true, List, Ok, Err, refl, ap, ◌∙◌}
use Rattle.law_starts.specs.pt_args.Laws.{ShelvesHoldTheirItems, TextsAreReadBack}
use Rattle.law_starts.specs.kr_calls.Decoding.{Decoded}
use Rattle.law_starts.specs.kr_calls.declared.request.Request.{Request}
use Rattle.law_starts.specs.kr_calls.declared.request.Request.TheVariants as call
use Rattle.pr_top.specs.kr_view.View.{Row}
use Rattle.law_paths.specs.law_stops.Scene.{IsCalm, Scene, asked}
use Rattle.law_paths.specs.law_stops.Together.{CallsGoTogether, any_call}
use Rattle.law_paths.specs.law_stops.Turning.{ComeToCall, StayTogether}
use Rattle.law_paths.specs.Calls.{executes_nothing}
use Rattle.law_paths.proofs.OtherLemmas.{other_calls_go_together}
use Rattle.law_execves.proofs.FollowLemmas.{execves_go_together}

module _ {S : Type 0} (back : TextsAreReadBack) (shelves : ShelvesHoldTheirItems) (scene : Scene S) (comes : ComeToCall scene) (calm : IsCalm scene) where
  other : (reply : Decoded) → asked scene ≡ reply → executes_nothing reply ≡ true → StayTogether scene
  other reply is none = other_calls_go_together back shelves S scene.table scene refl comes (ap executes_nothing is ∙ none) calm

  request : (r : Request) → asked scene ≡ Ok r → StayTogether scene
  request (call.Execve path args env) is = execves_go_together back shelves S scene path args env comes is calm
  request _ is = other _ is refl

  any : (reply : Decoded) → asked scene ≡ reply → StayTogether scene
  any (Ok r) is = request r is
  any (Err e) is = other (Err e) is refl

pub calls_go_together : TextsAreReadBack → ShelvesHoldTheirItems → (S : Type 0) (table : List Row) → CallsGoTogether S any_call table
calls_go_together back shelves S table scene over comes asks calm = any back shelves scene comes calm (asked scene) refl
