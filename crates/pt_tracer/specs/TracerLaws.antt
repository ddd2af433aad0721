-- Laws of what the tracer does at the stops of a call, and as processes come and go.
use Rattle.std.specs.FinMap as map
use Rattle.std.specs.Prelude.{◌≡◌, ◌≢◌, ℕ, Option, None}
use Rattle.std.specs.Option.{option_map}
use Rattle.pt_faker.specs.Stopping.{Stopped}
use Rattle.law_steady.specs.pt_bind.Tags.{tag_of}
use Rattle.law_steady.specs.pt_bind.declared.slot.Slot.{Slot}
use Rattle.pt_faker.specs.pt_ident.Identity.{Identity, starting}
use Rattle.pt_faker.specs.pt_ident.IdentityTable.{IdentityTable, identity_at}
use Rattle.pt_tracer.specs.Watched.{Tracing, born, entered, exited, gone, without_pending}

-- the identity of a process, if there are any
abbrev pub identity_in : Option IdentityTable → ℕ → Option Identity
identity_in identities pid = option_map (λ table. identity_at table pid) identities

-- that with which processes start
abbrev pub starting_in : Option IdentityTable → Option Identity
starting_in identities = option_map (λ table. starting table.uid table.gid) identities

-- a second stop without a first one changes nothing, and behind a second stop there is none
pub record ExitsFollowEntries : Type 0 where
  pub quiet : (x : Tracing) (t : Stopped) → map.get x.pending t.pid ≡ None → exited x t ≡ (x, t)
  pub spent : (x : Tracing) (t : Stopped) → map.get (exited x t).0.pending t.pid ≡ None

-- a first stop forgets what an earlier one of the process left
abbrev pub EntriesForget : Type 0
EntriesForget = (x : Tracing) (t : Stopped) → entered (without_pending t.pid x) t ≡ entered x t

-- what is kept of all processes but one stays
pub record LeavesOthers (x y : Tracing) (pid : ℕ) : Type 0 where
  pub tags : (q : ℕ) (slot : Slot) → q ≢ pid → tag_of y.tags q slot ≡ tag_of x.tags q slot
  pub identities : (q : ℕ) → q ≢ pid → identity_in y.identities q ≡ identity_in x.identities q
  pub pending : (q : ℕ) → q ≢ pid → map.get y.pending q ≡ map.get x.pending q

-- so it is at both stops of a call for the processes other than its caller, at a birth for those other than the child, and at an end for
-- those other than the one that ends
pub record OthersStay : Type 0 where
  pub at_entry : (x : Tracing) (t : Stopped) → LeavesOthers x (entered x t).0 t.pid
  pub at_exit : (x : Tracing) (t : Stopped) → LeavesOthers x (exited x t).0 t.pid
  pub at_birth : (x : Tracing) (parent child : ℕ) → LeavesOthers x (born x parent child) child
  pub at_end : (x : Tracing) (pid : ℕ) → LeavesOthers x (gone x pid) pid

-- a child has its parent's tags and identity, and nothing is left of a process that ended
pub record ComeAndGo : Type 0 where
  pub child_tags : (x : Tracing) (parent child : ℕ) (slot : Slot) → tag_of (born x parent child).tags child slot ≡ tag_of x.tags parent slot
  pub child_identity : (x : Tracing) (parent child : ℕ) → identity_in (born x parent child).identities child ≡ identity_in x.identities parent
  pub no_tags : (x : Tracing) (pid : ℕ) (slot : Slot) → tag_of (gone x pid).tags pid slot ≡ 0
  pub no_identity : (x : Tracing) (pid : ℕ) → identity_in (gone x pid).identities pid ≡ starting_in x.identities
  pub no_call : (x : Tracing) (pid : ℕ) → map.get (gone x pid).pending pid ≡ None
