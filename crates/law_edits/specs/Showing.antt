-- What watchers do for identities in two memories that are equal but for marked bytes.
use Rattle.std.specs.Prelude.{◌≡◌, ℕ, false, List, length}
use Rattle.pt_tracer.specs.rv_mem.Actions.{AreEqualUnmarked, CarriedOut, carried_out}
use Rattle.pt_tracer.specs.rv_mem.Memory.{Memory, with_pages}
use Rattle.pt_tracer.specs.rv_mem.Pages.{written}
use Rattle.pt_tracer.specs.kr_inode.declared.user.User.{User}
use Rattle.pt_tracer.specs.pt_ident.Identity.{Effect, Identity, on_memory}
use Rattle.pt_tracer.specs.pt_ident.IdentityTable.{IdentityTable}
use Rattle.pt_tracer.specs.pt_faker.Faking.{show_owner}

-- carried out on both, no marked byte was read, and all other bytes are equal
pub record LeaveAlike {A : Type 0} (one other : CarriedOut A) : Type 0 where
  pub replies : one.reply ≡ other.reply
  pub unread : one.memory.read_marked ≡ false
  pub memories : AreEqualUnmarked one.memory.pages other.memory.pages

-- a memory in which bytes were just written
abbrev pub just_written : ℕ → List ℕ → Memory → Memory
just_written at bytes m = with_pages m (written m.pages at bytes)

-- as fstat(2) leaves it where it answers 0
abbrev pub OwnersAreShownAlike : Type 0
OwnersAreShownAlike =
    (user : User) (table : IdentityTable) (at : ℕ) (bytes : List ℕ) (m w : Memory) → length bytes ≡ 128 → AreEqualUnmarked m.pages w.pages → m.read_marked ≡ false
    → LeaveAlike (carried_out (show_owner user table at) (just_written at bytes m)) (carried_out (show_owner user table at) (just_written at bytes w))

-- a calm call reads no marked byte at its first stop either
abbrev pub EffectsAreDoneAlike : Type 0
EffectsAreDoneAlike =
    (i : Identity) (e : Effect) (m w : Memory) → AreEqualUnmarked m.pages w.pages → (carried_out (on_memory i e) m).memory.read_marked ≡ false
    → LeaveAlike (carried_out (on_memory i e) m) (carried_out (on_memory i e) w)
