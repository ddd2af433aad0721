-- A machine with mounts on which a watcher tells processes an identity of their own, and a plain one on which the tracer tells the same.
use Rattle.std.specs.Prelude.{◌≡◌, ◌<◌, ◌^◌, ℕ, suc, List, IsSome, Some, None}
use Rattle.law_edits.specs.kr_view.View.{Row, plain}
use Rattle.law_edits.specs.kr_mounts.Standing.{texts_of}
use Rattle.law_edits.specs.kr_model.State.{Image, State, process}
use Rattle.law_turns.specs.law_allowed.Told.{SourcesAreNamed}
use Rattle.law_turns.specs.law_kept.Bytes.{HasBytes}
use Rattle.law_turns.specs.kr_steps.Calls.{LastsLawful}
use Rattle.law_turns.specs.kr_turns.Turn.{Machine, watched_call}
use Rattle.law_edits.specs.pt_bind.Tags.{TagTable}
use Rattle.law_edits.specs.pt_faker.Faking.{Faking, faker}
use Rattle.law_edits.specs.pt_tracer.Watched.{Tracing, tracer, with_identities}
use Rattle.law_turns.specs.law_places.Matching.{IsMatch}
use Rattle.law_turns.specs.Quiet.{MachinesMatch}
use Rattle.law_turns.specs.Sizes.{AreSized}
use Rattle.law_stops.specs.Scene.{Scene, caller_there, traced_after}
use Rattle.law_stops.specs.Turning.{tags_kept}

-- both watchers go by the same host user and the same identities, and the tracer by the texts of the mounts
pub record GoBySame (table : List Row) (f : Faking) (x : Tracing) : Type 0 where
  pub bindings : x.bindings ≡ texts_of table
  pub user : x.user ≡ f.user
  pub identities : x.identities ≡ Some f.identities

-- two states that match, with what lasts
pub record StandAlike (table : List Row) (tags : TagTable) (made : ℕ) (s w : State ℕ Image) : Type 0 where
  pub matches : IsMatch table tags s w
  pub lasts : LastsLawful (λ k. k) table made s
  pub also_lasts : LastsLawful (λ k. k) plain made w

-- two machines between whose turns nothing shows, as a living process comes to a call on both
pub record ComeToFakedCall (scene : Scene Faking) : Type 0 where
  pub matches : MachinesMatch tags_kept scene.table scene.mounted scene.traced
  pub lasts : LastsLawful (λ k. k) scene.table scene.made scene.mounted.state
  pub also_lasts : LastsLawful (λ k. k) plain scene.made scene.traced.state
  pub few : scene.made < 2 ^ 31
  pub named : SourcesAreNamed scene.table
  pub sized : AreSized scene.mounted.state
  pub also_sized : AreSized scene.traced.state
  pub goes : GoBySame scene.table scene.mounted.watcher scene.traced.watcher
  -- what the tracer leaves at the first stop, where it tells no identity, has bytes
  pub watched : HasBytes (tracer.entry (with_identities None scene.traced.watcher) (caller_there scene)).1.state
  pub lives : IsSome (process scene.pid scene.mounted.state)

-- and behind it
pub record ComeFromFakedCall (table : List Row) (made : ℕ) (m : Machine Faking) (n : Machine Tracing) : Type 0 where
  pub matches : MachinesMatch tags_kept table m n
  pub lasts : LastsLawful (λ k. k) table (suc made) m.state
  pub also_lasts : LastsLawful (λ k. k) plain (suc made) n.state
  pub goes : GoBySame table m.watcher n.watcher

-- the mounted machine behind a call and its stops
abbrev pub faked_after : Scene Faking → Machine Faking
faked_after scene = watched_call faker 1 scene.table scene.pid scene.mounted

-- the call breaks no calm rule
abbrev pub IsCalmFaked : Scene Faking → Type 0
IsCalmFaked scene = (faked_after scene).tally.broken ≡ None

-- so the call and its stops keep the match
abbrev pub StayTogetherFaked : Scene Faking → Type 0
StayTogetherFaked scene = ComeFromFakedCall scene.table scene.made (faked_after scene) (traced_after scene)

-- the call of a process keeps both machines together, where it breaks no calm rule
abbrev pub GoesTogether : Scene Faking → Type 0
GoesTogether scene = IsCalmFaked scene → StayTogetherFaked scene

-- the same machines with a tracer that tells no identity
abbrev pub untold : Scene Faking → Scene Faking
untold scene = record scene { traced = record scene.traced { watcher = with_identities None scene.traced.watcher } }
