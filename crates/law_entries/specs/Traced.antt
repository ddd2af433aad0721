-- A tracer without an identity is local: for a process it goes by its bindings, by the host user and by that process's tags, and between the stops of
-- its call it keeps what is pending.
use Rattle.std.specs.FinMap as map
use Rattle.std.specs.Prelude.{◌≡◌, ℕ, List, Option, None}
use Rattle.pt_tracer.specs.pr_base.MountText.{MountText}
use Rattle.pt_tracer.specs.kr_inode.declared.user.User.{User}
use Rattle.pt_tracer.specs.pt_bind.Tags.{tag_of}
use Rattle.pt_tracer.specs.pt_bind.declared.slot.Slot.{Slot}
use Rattle.pt_tracer.specs.Watched.{Tracing, asks, tracer}
use Rattle.pt_tracer.specs.declared.pending.Pending.{Pending}
use Rattle.kr_loose.specs.Local.{IsLocal, Locality}
use Rattle.law_entries.specs.Lasting.{StaysFor}

-- the tags slot by slot
pub record TracedPart : Type 0 where
  pub bindings : List MountText
  pub user : User
  pub tags : Slot → ℕ

abbrev pub traced_part : ℕ → Tracing → TracedPart
traced_part pid x = record { bindings = x.bindings; user = x.user; tags = λ slot. tag_of x.tags pid slot }

abbrev pub pending_of : ℕ → Tracing → Option Pending
pending_of pid x = map.get x.pending pid

abbrev pub tracer_locality : Locality Tracing TracedPart (Option Pending)
tracer_locality = record { part = traced_part; kept = pending_of }

-- no identity is told
abbrev pub TellsNoIdentity : Tracing → Type 0
TellsNoIdentity x = x.identities ≡ None

abbrev pub TracersAreLocal : Type 0
TracersAreLocal = IsLocal tracer asks tracer_locality TellsNoIdentity StaysFor
