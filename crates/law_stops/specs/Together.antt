-- Turns and runs of a machine with mounts that nobody watches, and of a plain one with the tracer, without an identity: where each call keeps
-- both machines together, so does a turn, and a run.
use Rattle.std.specs.Prelude.{◌≡◌, ◌<◌, ◌≤◌, ◌^◌, ℕ, suc, Bool, true, List, Option, None}
use Rattle.law_turns.specs.pr_base.MountText.{MountText}
use Rattle.law_edits.specs.pt_ident.IdentityTable.{IdentityTable}
use Rattle.law_edits.specs.kr_view.View.{Row, plain}
use Rattle.law_edits.specs.kr_mounts.Standing.{texts_of}
use Rattle.law_turns.specs.law_allowed.Told.{SourcesAreNamed}
use Rattle.law_turns.specs.law_kept.Bytes.{TableHasBytes}
use Rattle.law_turns.specs.law_kept.Turns.{WatchesBytes}
use Rattle.law_turns.specs.kr_turns.Run.{Slot, run}
use Rattle.law_turns.specs.kr_stops.Stopped.{Stopped}
use Rattle.law_turns.specs.kr_turns.Turn.{Machine, turn}
use Rattle.law_turns.specs.kr_stops.Watching.{unwatched}
use Rattle.law_edits.specs.pt_tracer.Watched.{Tracing, tracer}
use Rattle.law_turns.specs.Runs.{ComeAlike, GoTogether, KeepOn}
use Rattle.law_stops.specs.Scene.{IsCalm, Scene, caller_here}
use Rattle.law_stops.specs.Turning.{ComeToCall, StayTogether, tags_kept}

-- each call of a calm run of which a test holds, as the kernel with mounts is asked for it, keeps the machines together, with its stops
abbrev pub CallsGoTogether : Type 0 → (Stopped → Bool) → List Row → Type 0
CallsGoTogether S allows table = (scene : Scene S) → scene.table ≡ table → ComeToCall scene → allows (caller_here scene) ≡ true → IsCalm scene → StayTogether scene

abbrev pub any_call : Stopped → Bool
any_call t = true

-- what the tracer goes by from turn to turn: the texts of the mounts, no identity, and what is sound by a test
abbrev pub gone_by : {S : Type 0} → List Row → S → List MountText × Option IdentityTable × Bool
gone_by table x = (texts_of table, None, true)

abbrev pub goes_by : (Tracing → Bool) → Tracing → List MountText × Option IdentityTable × Bool
goes_by sound x = (x.bindings, x.identities, sound x)

-- what a run rests on: sources of mounts that are files have names, the table is made of bytes, and what the tracer
-- puts into memory is, as long as it is sound
pub record CanRun (sound : Tracing → Bool) (table : List Row) : Type 0 where
  pub named : SourcesAreNamed table
  pub bytes : TableHasBytes table
  pub watches : WatchesBytes (λ x. sound x ≡ true) tracer

-- so where every call does, each turn does that breaks no calm rule
abbrev pub TracedTurnsGoTogether : Type 0 → Type 0
TracedTurnsGoTogether S =
    (sound : Tracing → Bool) (table : List Row) → CallsGoTogether S any_call table → CanRun sound table
    → (pick fuel made : ℕ) (m : Machine S) (n : Machine Tracing) → made < 2 ^ 31 → GoTogether tags_kept table made m n → KeepOn (gone_by table) (goes_by sound) m n
    → (turn unwatched 1 table pick fuel m).tally.broken ≡ None
    → GoTogether tags_kept table (suc made) (turn unwatched 1 table pick fuel m) (turn tracer 0 plain pick fuel n)
    × KeepOn (gone_by table) (goes_by sound) (turn unwatched 1 table pick fuel m) (turn tracer 0 plain pick fuel n)

-- and a calm run and the watched one come to the same bytes, the same end, the same status and the same tree
abbrev pub TracedRunsComeAlike : Type 0 → Type 0
TracedRunsComeAlike S =
    (sound : Tracing → Bool) (table : List Row) (slots : ℕ → Slot) → CallsGoTogether S any_call table → CanRun sound table
    → (turns : ℕ) (m : Machine S) (n : Machine Tracing) → turns ≤ 2 ^ 31 → GoTogether tags_kept table 0 m n → KeepOn (gone_by table) (goes_by sound) m n
    → (run unwatched 1 table slots turns m).machine.tally.broken ≡ None
    → ComeAlike (run unwatched 1 table slots turns m) (run tracer 0 plain slots turns n)
