-- A whole turn, on a machine with mounts and on the plain one that the tracer watches: where it breaks no calm rule, both are together behind
-- it as they were before it.
use Rattle.std.specs.Prelude.{◌≡◌, ◌<◌, ◌^◌, ℕ, suc, List, None}
use Rattle.pr_top.specs.kr_view.View.{Row, plain}
use Rattle.law_starts.specs.law_kept.Bytes.{TableHasBytes}
use Rattle.law_starts.specs.kr_turns.Turn.{Machine, turn}
use Rattle.law_starts.specs.kr_stops.Watching.{unwatched}
use Rattle.law_starts.specs.pt_faker.Faking.{Faking, faker}
use Rattle.law_machines.specs.Watchers.{anything, goes_by_bytes}
use Rattle.law_starts.specs.pt_tracer.Watched.{Tracing, tracer}
use Rattle.law_paths.specs.law_stops.Runs.{faked_by, traced_by}
use Rattle.law_paths.specs.law_stops.Together.{goes_by, gone_by}
use Rattle.law_paths.specs.law_stops.Turning.{tags_kept}
use Rattle.law_starts.specs.law_turns.Runs.{GoTogether, KeepOn}
use Rattle.law_starts.specs.law_allowed.Told.{SourcesAreNamed}

-- ---- what both machines are between turns, after `made` of them

-- where no identity is told: they match, both are lawful with what lasts and made of bytes, and the tracer goes by the texts of the mounts,
-- which are of bytes, and tells no identity
pub record AreTogether {S : Type 0} (table : List Row) (made : ℕ) (m : Machine S) (n : Machine Tracing) : Type 0 where
  pub together : GoTogether tags_kept table made m n
  pub keeps : KeepOn (gone_by table) (goes_by goes_by_bytes) m n

-- where one is told: so they are, and both watchers tell the same identities
pub record AreTogetherFaked (table : List Row) (made : ℕ) (m : Machine Faking) (n : Machine Tracing) : Type 0 where
  pub together : GoTogether tags_kept table made m n
  pub keeps : KeepOn (faked_by anything table) (traced_by goes_by_bytes) m n

-- ---- a turn

-- whatever process is picked, and whether it computes, dies of a signal, or makes a call with its stops: without an identity, and with one. Of
-- the mounts it is asked that their texts are of bytes and that sources that are files have names
pub record WholeTurnsGoTogether (S : Type 0) : Type 0 where
  pub untold : (table : List Row) (pick fuel made : ℕ) (m : Machine S) (n : Machine Tracing) → SourcesAreNamed table → TableHasBytes table → made < 2 ^ 31 → AreTogether table made m n
      → (turn unwatched 1 table pick fuel m).tally.broken ≡ None
      → AreTogether table (suc made) (turn unwatched 1 table pick fuel m) (turn tracer 0 plain pick fuel n)
  pub told : (table : List Row) (pick fuel made : ℕ) (m : Machine Faking) (n : Machine Tracing) → SourcesAreNamed table → TableHasBytes table → made < 2 ^ 31 → AreTogetherFaked table made m n
      → (turn faker 1 table pick fuel m).tally.broken ≡ None
      → AreTogetherFaked table (suc made) (turn faker 1 table pick fuel m) (turn tracer 0 plain pick fuel n)
