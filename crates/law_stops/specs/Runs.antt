-- Turns and runs of both machines where processes are told an identity: where each call keeps them together, so does a turn, and a run.
use Rattle.std.specs.Prelude.{◌≡◌, ◌<◌, ◌≤◌, ◌^◌, ℕ, suc, Bool, true, List, Option, Some, None}
use Rattle.law_turns.specs.pr_base.MountText.{MountText}
use Rattle.law_edits.specs.pt_ident.IdentityTable.{IdentityTable}
use Rattle.law_edits.specs.kr_inode.declared.user.User.{User}
use Rattle.law_edits.specs.kr_view.View.{Row, plain}
use Rattle.law_edits.specs.kr_mounts.Standing.{texts_of}
use Rattle.law_turns.specs.law_allowed.Told.{SourcesAreNamed}
use Rattle.law_turns.specs.law_kept.Bytes.{TableHasBytes}
use Rattle.law_turns.specs.law_kept.Turns.{WatchesBytes}
use Rattle.law_turns.specs.kr_turns.Run.{Slot, run}
use Rattle.law_turns.specs.kr_stops.Stopped.{Stopped}
use Rattle.law_turns.specs.kr_turns.Turn.{Machine, turn}
use Rattle.law_edits.specs.pt_faker.Faking.{Faking, faker}
use Rattle.law_edits.specs.pt_tracer.Watched.{Tracing, tracer, with_identities}
use Rattle.law_turns.specs.Runs.{ComeAlike, GoTogether, KeepOn}
use Rattle.law_stops.specs.Scene.{Scene, caller_here}
use Rattle.law_stops.specs.Together.{any_call}
use Rattle.law_stops.specs.Turning.{tags_kept}
use Rattle.law_stops.specs.Going.{ComeToFakedCall, GoesTogether}

-- each call of a calm run of which a test holds keeps the machines together, with its stops
abbrev pub EachCallGoesTogether : (Stopped → Bool) → List Row → Type 0
EachCallGoesTogether allows table = (scene : Scene Faking) → scene.table ≡ table → ComeToFakedCall scene → allows (caller_here scene) ≡ true → GoesTogether scene

-- what both watchers go by from turn to turn: the texts of the mounts, the host user, the identities, and what is sound by a test of each
abbrev pub Kept : Type 0
Kept = List MountText × User × Option IdentityTable × Bool × Bool

abbrev pub faked_by : (Faking → Bool) → List Row → Faking → Kept
faked_by safe table f = (texts_of table, f.user, Some f.identities, safe f, true)

abbrev pub traced_by : (Tracing → Bool) → Tracing → Kept
traced_by sound x = (x.bindings, x.user, x.identities, true, sound x)

-- what a run rests on: sources of mounts that are files have names, the table is made of bytes, and so is
-- what both watchers put into memory, as long as they are sound; and the tracer is as sound without an identity
pub record CanRunFaked (safe : Faking → Bool) (sound : Tracing → Bool) (table : List Row) : Type 0 where
  pub named : SourcesAreNamed table
  pub bytes : TableHasBytes table
  pub fakes : WatchesBytes (λ f. safe f ≡ true) faker
  pub watches : WatchesBytes (λ x. sound x ≡ true) tracer
  pub untold : (x : Tracing) → sound x ≡ true → sound (with_identities None x) ≡ true

-- so where every call does, each turn does that breaks no calm rule
abbrev pub FakedTurnsGoTogether : Type 0
FakedTurnsGoTogether =
    (safe : Faking → Bool) (sound : Tracing → Bool) (table : List Row) → EachCallGoesTogether any_call table → CanRunFaked safe sound table
    → (pick fuel made : ℕ) (m : Machine Faking) (n : Machine Tracing) → made < 2 ^ 31 → GoTogether tags_kept table made m n → KeepOn (faked_by safe table) (traced_by sound) m n
    → (turn faker 1 table pick fuel m).tally.broken ≡ None
    → GoTogether tags_kept table (suc made) (turn faker 1 table pick fuel m) (turn tracer 0 plain pick fuel n)
    × KeepOn (faked_by safe table) (traced_by sound) (turn faker 1 table pick fuel m) (turn tracer 0 plain pick fuel n)

-- and a calm run and the watched one come to the same bytes, the same end, the same status and the same tree
abbrev pub FakedRunsComeAlike : Type 0
FakedRunsComeAlike =
    (safe : Faking → Bool) (sound : Tracing → Bool) (table : List Row) (slots : ℕ → Slot) → EachCallGoesTogether any_call table → CanRunFaked safe sound table
    → (turns : ℕ) (m : Machine Faking) (n : Machine Tracing) → turns ≤ 2 ^ 31 → GoTogether tags_kept table 0 m n → KeepOn (faked_by safe table) (traced_by sound) m n
    → (run faker 1 table slots turns m).machine.tally.broken ≡ None
    → ComeAlike (run faker 1 table slots turns m) (run tracer 0 plain slots turns n)
