-- The registers and the memory of a call behind the swap of its paths, and the memory by which it is judged that a text which is no
-- path, or a path that stays, lies off the shelf.
use Rattle.std.specs.Prelude.{◌≡◌, ◌≢◌, ℕ, ◌≤◌, ◌<◌, true, false, [], Option, Some, None, Ok, slice_index}
use Rattle.pt_tracer.specs.rv_mem.Actions.{AreEqualUnmarked, carried_out}
use Rattle.pt_tracer.specs.rv_mem.Memory.{Memory, text_of}
use Rattle.pt_tracer.specs.rv_mem.Pages.{Pages, is_marked}
use Rattle.pt_tracer.specs.rv_mem.declared.regs.Regs.{Regs}
use Rattle.law_walks.specs.kr_calls.Decoding.{decoding, text_limit}
use Rattle.law_edits.specs.Requests.{NewText}

-- a text that is read at the address in its register, and isn't empty
pub record IsPut (w : Pages) (regs : Regs) (s : NewText) : Type 0 where
  pub stands : text_of w (slice_index regs.x s.register) text_limit ≡ Ok s.text
  pub some : s.text ≢ []

abbrev pub IsSecondPut : Pages → Regs → Option NewText → Type 0
IsSecondPut w regs None = Unit {0}
IsSecondPut w regs (Some s) = IsPut w regs s

abbrev pub IsNotSecond : ℕ → Option NewText → Type 0
IsNotSecond k None = Unit {0}
IsNotSecond k (Some s) = k ≢ s.register

-- each path's register has the address of its new text, and all others are as before
pub record AreSwapped (first : NewText) (second : Option NewText) (old new : Regs) (w : Pages) : Type 0 where
  pub same : (k : ℕ) → k ≢ first.register → IsNotSecond k second → slice_index new.x k ≡ slice_index old.x k
  pub one : IsPut w new first
  pub two : IsSecondPut w new second

-- ---- the other machine

-- the bytes from an address on, up to another one, are marked
abbrev pub AreMarkedFrom : (bottom top : ℕ) → Pages → Type 0
AreMarkedFrom bottom top m = (a : ℕ) → bottom ≤ a → a < top → is_marked m a ≡ true

-- a memory that is equal but for marked bytes, in which the call is decoded without a marked byte
pub record IsDecodedCalmly (regs : Regs) (m : Memory) (w : Pages) : Type 0 where
  pub alike : AreEqualUnmarked m.pages w
  pub unread : (carried_out (decoding regs) m).memory.read_marked ≡ false
