-- All calls where an identity is told.
use Rattle.std.proofs.Common.{◌≡◌, Bool, true, false, List, Ok, Err, refl, sym, subst}
use Rattle.law_edits.specs.kr_view.View.{Row}
use Rattle.law_turns.specs.kr_calls.CallTable.{Told, ToldNothing, line}
use Rattle.law_turns.specs.kr_calls.Decoding.{Decoded}
use Rattle.law_turns.specs.kr_calls.declared.request.Request.{Request}
use Rattle.law_turns.specs.kr_calls.declared.request.Request.TheVariants as call
use Rattle.law_turns.specs.kr_stops.Stopped.{Stopped}
use Rattle.law_turns.specs.law_kept.ImagePaths.{is_told_of_paths, tells_paths}
use Rattle.law_edits.specs.pt_faker.Faking.{Faking}
use Rattle.law_edits.specs.pt_tracer.Watched.{is_execve}
use Rattle.law_turns.specs.Pathless.{IsPathless, TellsNothing}
use Rattle.law_stops.specs.Turning.{HasNoPath}
use Rattle.law_stops.specs.Going.{ComeToFakedCall, IsCalmFaked, StayTogetherFaked}
use Rattle.law_stops.specs.Scene.{Scene, asked, caller_here}
use Rattle.law_stops.specs.Whole.{AllCallsGoTogether, KindsGoTogether, WatchersStartAlike}
use Rattle.law_stops.proofs.PathlessLemmas.{faked_calls_go_together}

-- any other call has no path
tells_nothing : (t : Told) → tells_paths t ≡ false → TellsNothing t
tells_nothing ToldNothing told = tt
tells_nothing _ told = absurd cc

has_none : (r : Request) → is_told_of_paths r ≡ false → is_execve r ≡ false → IsPathless r
has_none (call.Execve path args env) told runs = absurd cc
has_none r told runs = tells_nothing (line r).told told

module _ (allows : Stopped → Bool) (table : List Row) (kinds : KindsGoTogether allows table) (scene : Scene Faking) (over : scene.table ≡ table) (comes : ComeToFakedCall scene) (allowed : allows (caller_here scene) ≡ true) (calm : IsCalmFaked scene) where
  without_path : (reply : Decoded) → asked scene ≡ reply → HasNoPath reply → StayTogetherFaked scene
  without_path reply is kind = faked_calls_go_together scene comes (subst HasNoPath (sym is) kind) calm

  by_kind : (r : Request) → asked scene ≡ Ok r → (told runs : Bool) → is_told_of_paths r ≡ told → is_execve r ≡ runs → StayTogetherFaked scene
  by_kind r is true runs told execs = kinds.along scene r over comes is told allowed calm
  by_kind r is false true told execs = kinds.programs scene r over comes is execs allowed calm
  by_kind r is false false told execs = without_path (Ok r) is (has_none r told execs)

  by_reply : (reply : Decoded) → asked scene ≡ reply → StayTogetherFaked scene
  by_reply (Ok r) is = by_kind r is (is_told_of_paths r) (is_execve r) refl refl
  by_reply (Err e) is = without_path (Err e) is tt

pub all_calls_go_together : AllCallsGoTogether
all_calls_go_together allows table kinds scene over comes allowed calm = by_reply allows table kinds scene over comes allowed calm (asked scene) refl

pub watchers_start_alike : WatchersStartAlike
watchers_start_alike table tags user uid gid = record { bindings = refl; user = refl; identities = refl }
