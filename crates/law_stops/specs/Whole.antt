-- All calls where an identity is told, by their kinds; and watchers as they start.
use Rattle.std.specs.Prelude.{◌≡◌, ℕ, Bool, true, List, Some, Ok}
use Rattle.law_edits.specs.kr_inode.declared.user.User.{User}
use Rattle.law_edits.specs.kr_view.View.{Row}
use Rattle.law_edits.specs.kr_mounts.Standing.{texts_of}
use Rattle.law_turns.specs.kr_calls.declared.request.Request.{Request}
use Rattle.law_turns.specs.kr_stops.Stopped.{Stopped}
use Rattle.law_turns.specs.law_kept.ImagePaths.{is_told_of_paths}
use Rattle.law_edits.specs.pt_bind.Tags.{TagTable}
use Rattle.law_edits.specs.pt_faker.Faking.{Faking, starting_faking}
use Rattle.law_edits.specs.pt_tracer.Watched.{is_execve, starting_tracing}
use Rattle.law_stops.specs.Scene.{Scene, asked, caller_here}
use Rattle.law_stops.specs.Going.{ComeToFakedCall, GoBySame, GoesTogether}
use Rattle.law_stops.specs.Runs.{EachCallGoesTogether}

-- calls along paths and those of new programs, of which a test holds, keep both machines together, where they break no calm rule
pub record KindsGoTogether (allows : Stopped → Bool) (table : List Row) : Type 0 where
  pub along : (scene : Scene Faking) (r : Request) → scene.table ≡ table → ComeToFakedCall scene → asked scene ≡ Ok r → is_told_of_paths r ≡ true → allows (caller_here scene) ≡ true → GoesTogether scene
  pub programs : (scene : Scene Faking) (r : Request) → scene.table ≡ table → ComeToFakedCall scene → asked scene ≡ Ok r → is_execve r ≡ true → allows (caller_here scene) ≡ true → GoesTogether scene

-- then all calls do of which it holds
abbrev pub AllCallsGoTogether : Type 0
AllCallsGoTogether = (allows : Stopped → Bool) (table : List Row) → KindsGoTogether allows table → EachCallGoesTogether allows table

-- both watchers start with the same identities
abbrev pub WatchersStartAlike : Type 0
WatchersStartAlike = (table : List Row) (tags : TagTable) (user : User) (uid gid : ℕ) → GoBySame table (starting_faking user uid gid) (starting_tracing (texts_of table) tags user (Some (uid, gid)))
