-- Every call but execve(2) is told of a path, or of none.
use Rattle.std.proofs.Common.{◌≡◌, ◌⊎◌, inl, inr, true, Ok, Err, refl, sym, subst}
use Rattle.std.specs.Prelude.{not}
use Rattle.law_stops.specs.pt_args.Laws.{ShelvesHoldTheirItems, TextsAreReadBack}
use Rattle.law_stops.specs.kr_calls.CallTable.{Told, ToldNothing, line}
use Rattle.law_stops.specs.kr_calls.Decoding.{Decoded}
use Rattle.law_stops.specs.kr_calls.declared.request.Request.{Request}
use Rattle.law_stops.specs.kr_calls.declared.request.Request.TheVariants as call
use Rattle.law_stops.specs.law_turns.Pathless.{IsPathless, TellsNothing}
use Rattle.law_stops.specs.law_turns.PathCalls.{HasPath, TellsPath}
use Rattle.law_stops.specs.Scene.{asked}
use Rattle.law_stops.specs.Turning.{HasNoPath, StayTogether}
use Rattle.law_stops.proofs.CallLemmas.{pathless_calls_go_together}
use Rattle.law_paths.specs.Calls.{OtherCallsGoTogether, executes_nothing, is_execve}
use Rattle.law_paths.proofs.JoinLemmas.{path_calls_go_together}

one_or_none : (t : Told) → TellsNothing t ⊎ TellsPath t
one_or_none ToldNothing = inl tt
one_or_none _ = inr tt

either : (r : Request) → not (is_execve r) ≡ true → IsPathless r ⊎ HasPath r
either (call.Execve path args env) other = absurd cc
either r other = one_or_none (line r).told

pub other_calls_go_together : TextsAreReadBack → ShelvesHoldTheirItems → (S : Type 0) → OtherCallsGoTogether S
other_calls_go_together back shelves S table scene over comes other calm = by (asked scene) refl other
  where
    request : (r : Request) → asked scene ≡ Ok r → IsPathless r ⊎ HasPath r → StayTogether scene
    request r is (inl pathless) = pathless_calls_go_together S scene comes (subst HasNoPath (sym is) pathless) calm
    request r is (inr path) = path_calls_go_together back shelves S scene r comes is path calm

    by : (reply : Decoded) → asked scene ≡ reply → executes_nothing reply ≡ true → StayTogether scene
    by (Ok r) is other = request r is (either r other)
    by (Err e) is other = pathless_calls_go_together S scene comes (subst HasNoPath (sym is) tt) calm
