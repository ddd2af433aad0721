-- What a tracer keeps: what it traces, of which alone the definition of its stops speaks, and a walker, which may remember.
use Rattle.std.specs.Prelude.{ℕ, [], Option}
use Rattle.law_steady.specs.kr_tree.Tree.{Tree}
use Rattle.law_steady.specs.pt_bind.Binding.{rows_of}
use Rattle.law_steady.specs.pt_bind.Tags.{TagTable}
use Rattle.pt_faker.specs.kr_inode.declared.user.User.{User}
use Rattle.law_steady.specs.pt_canon.Remembering.{Walking}
use Rattle.pt_tracer.specs.Agreeing.{AgreesWith}
use Rattle.pt_tracer.specs.Pausing.{IsPausedFor, Pausing}
use Rattle.pt_tracer.specs.Watched.{Tracing, starting_tracing}

pub record Keeping : Type 0 where
  pub tracing : Tracing
  pub pausing : Pausing

-- before the first turn, by a walker without a pause
abbrev pub starting_keeping : Walking → TagTable → User → Option (ℕ × ℕ) → Keeping
starting_keeping walker tags user ids = record { tracing = starting_tracing (rows_of walker.table) tags user ids; pausing = record { walker = walker; pids = [] } }

-- what is remembered agrees with a tree
abbrev pub KeepingAgrees : Keeping → Tree → User → Type 0
KeepingAgrees x tree user = AgreesWith x.pausing.walker tree user

-- nothing is remembered, whatever becomes of the tree, till the next stop or the end of a process
abbrev pub KeepingIsFree : Keeping → ℕ → Type 0
KeepingIsFree x pid = IsPausedFor x.pausing pid
