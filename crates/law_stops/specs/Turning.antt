-- A call with its stops: on a machine with mounts that nobody watches, and on a plain one with the tracer, without an identity.
use Rattle.std.specs.Prelude.{◌≡◌, ◌<◌, ◌^◌, ℕ, suc, List, IsSome, None, Result, Ok, Err}
use Rattle.law_turns.specs.pr_base.declared.errno.Errno.{Errno}
use Rattle.law_edits.specs.kr_view.View.{Row, plain}
use Rattle.law_edits.specs.kr_mounts.Standing.{texts_of}
use Rattle.law_turns.specs.kr_calls.declared.request.Request.{Request}
use Rattle.law_edits.specs.kr_model.State.{process}
use Rattle.law_turns.specs.law_allowed.Told.{SourcesAreNamed}
use Rattle.law_turns.specs.law_kept.Bytes.{HasBytes}
use Rattle.law_turns.specs.kr_steps.Calls.{LastsLawful}
use Rattle.law_turns.specs.kr_turns.Turn.{Machine}
use Rattle.law_edits.specs.pt_bind.Tags.{TagTable}
use Rattle.law_edits.specs.pt_tracer.Watched.{Tracing, tracer}
use Rattle.law_turns.specs.Pathless.{IsPathless}
use Rattle.law_turns.specs.Quiet.{MachinesMatch}
use Rattle.law_turns.specs.Sizes.{AreSized}
use Rattle.law_stops.specs.Scene.{IsCalm, Scene, asked, caller_there, mounted_after, traced_after}

-- a tracer goes by the texts of the mounts, and tells no identity
pub record Traces (table : List Row) (x : Tracing) : Type 0 where
  pub bindings : x.bindings ≡ texts_of table
  pub identities : x.identities ≡ None

abbrev pub tags_kept : Tracing → TagTable
tags_kept x = x.tags

-- two machines between whose turns nothing shows, as a living process comes to a call on both
pub record ComeToCall {S : Type 0} (scene : Scene S) : Type 0 where
  pub matches : MachinesMatch tags_kept scene.table scene.mounted scene.traced
  pub lasts : LastsLawful (λ k. k) scene.table scene.made scene.mounted.state
  pub also_lasts : LastsLawful (λ k. k) plain scene.made scene.traced.state
  pub few : scene.made < 2 ^ 31
  pub named : SourcesAreNamed scene.table
  pub sized : AreSized scene.mounted.state
  pub also_sized : AreSized scene.traced.state
  pub traces : Traces scene.table scene.traced.watcher
  -- what the tracer leaves at the first stop has bytes
  pub watched : HasBytes (tracer.entry scene.traced.watcher (caller_there scene)).1.state
  pub lives : IsSome (process scene.pid scene.mounted.state)

-- and behind it
pub record ComeFromCall {S : Type 0} (table : List Row) (made : ℕ) (m : Machine S) (n : Machine Tracing) : Type 0 where
  pub matches : MachinesMatch tags_kept table m n
  pub lasts : LastsLawful (λ k. k) table (suc made) m.state
  pub also_lasts : LastsLawful (λ k. k) plain (suc made) n.state
  pub traces : Traces table n.watcher

-- so the call and its stops keep the match
abbrev pub StayTogether : {S : Type 0} → Scene S → Type 0
StayTogether scene = ComeFromCall scene.table scene.made (mounted_after scene) (traced_after scene)

-- a call that isn't decoded, or has no path
abbrev pub HasNoPath : Result Request Errno → Type 0
HasNoPath (Ok r) = IsPathless r
HasNoPath (Err e) = Unit {0}

-- where it breaks no calm rule, such a call and its stops keep the match
abbrev pub PathlessCallsGoTogether : Type 0 → Type 0
PathlessCallsGoTogether S = (scene : Scene S) → ComeToCall scene → HasNoPath (asked scene) → IsCalm scene → StayTogether scene
