-- How calls use the caller's memory, one use after the other, and how far a row has come between two uses.
use Rattle.std.specs.Prelude.{◌≡◌, ℕ, true, List, length, IsSome}
use Rattle.kr_ops.specs.rv_mem.Memory.{Memory, after_read, with_pages}
use Rattle.kr_ops.specs.rv_mem.Pages.{allows_all, bytes_from, written}
use Rattle.kr_ops.specs.rv_mem.declared.rights.Use.TheVariants.{Read, Write}
use Rattle.kr_ops.specs.kr_model.Known.{known}
use Rattle.kr_ops.specs.kr_model.Reply.{Replying}
use Rattle.kr_ops.specs.kr_model.State as model
use Rattle.kr_ops.specs.declared.state.State.{State}
use Rattle.kr_ops.specs.Meaning.{meaning}
use Rattle.kr_ops.specs.Sound.{IsSound}
use Rattle.kr_seen.specs.PerformedRows.{carried, memory_of, with_memory_of}

module _ {T : Type 0} {M : ℕ} where
  -- ---- what uses leave

  -- the caller has this memory now, and all else stayed: what calls may ask of the state among it
  pub record HasMemory (pid : ℕ) (memory : Memory) (old new : State T M) : Type 0 where
    pub means : meaning new ≡ with_memory_of pid memory (meaning old)
    pub sound : IsSound new
    pub lives : IsSome (model.process pid (meaning new))
    pub known : known model.image_layout pid (meaning new) ≡ known model.image_layout pid (meaning old)

  -- n bytes were read, each of which may be
  pub record Reads (pid at n : ℕ) (bytes : List ℕ) (old new : State T M) : Type 0 where
    pub allowed : allows_all (memory_of pid (meaning old)).pages at n Read ≡ true
    pub bytes_are : bytes ≡ bytes_from (memory_of pid (meaning old)).pages at n
    pub leaves : HasMemory pid (after_read (memory_of pid (meaning old)) at n) old new

  -- these bytes were written, where each may be
  pub record Writes (pid at : ℕ) (bytes : List ℕ) (old new : State T M) : Type 0 where
    pub allowed : allows_all (memory_of pid (meaning old)).pages at (length bytes) Write ≡ true
    pub leaves : HasMemory pid (with_pages (memory_of pid (meaning old)) (written (memory_of pid (meaning old)).pages at bytes)) old new

  -- ---- a row under way

  -- what was begun on the first state has come to this rest on the second: both come to one reply and one memory of the
  -- caller, and but for that memory the two states are one
  pub record HasComeTo (pid : ℕ) (begun : Replying) (old : State T M) (rest : Replying) (now : State T M) : Type 0 where
    pub carried : carried pid begun (meaning old) ≡ carried pid rest (meaning now)
    pub others : (memory : Memory) → with_memory_of pid memory (meaning now) ≡ with_memory_of pid memory (meaning old)

  -- what comes to one rest on the first state comes to the other on the second, on which calls can rest as well
  pub record CarriesOn (pid : ℕ) (rest next : Replying) (old new : State T M) : Type 0 where
    pub comes : (begun : Replying) (start : State T M) → HasComeTo pid begun start rest old → HasComeTo pid begun start next new
    pub sound : IsSound new
    pub lives : IsSome (model.process pid (meaning new))
