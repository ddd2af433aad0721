-- What a call reads of its caller's memory before it ends it: of a writev(2) into a pipe that nobody reads its list, and of the other
-- calls that end their caller nothing.
use Rattle.std.specs.Prelude.{◌≡◌, ℕ, ◌*◌, ℤ, ◌&&◌, not, Bool, false, nat_lt, is_some, if◌then◌else◌}
use Rattle.std.specs.Option.{option_and_then, option_map_or}
use Rattle.kr_seen.specs.rv_mem.Actions.{CarriedOut, carried_out}
use Rattle.kr_seen.specs.rv_mem.Memory.{Memory, after_read}
use Rattle.kr_seen.specs.rv_mem.Pages.{allows_all}
use Rattle.kr_seen.specs.rv_mem.declared.rights.Use.TheVariants.{Read}
use Rattle.kr_seen.specs.kr_calls.declared.request.Request.{Request}
use Rattle.kr_seen.specs.kr_calls.declared.request.Request.TheVariants as call
use Rattle.kr_seen.specs.kr_files.declared.opened.What.{What}
use Rattle.kr_seen.specs.kr_files.declared.opened.What.TheVariants.{PipeWrite}
use Rattle.kr_seen.specs.kr_model.Applied.{Mounts}
use Rattle.kr_seen.specs.kr_model.Asking.{descriptor_number}
use Rattle.kr_seen.specs.kr_model.Known.{Known, known}
use Rattle.kr_seen.specs.kr_model.Operation.{IsNoExec, operation}
use Rattle.kr_seen.specs.kr_model.Reply.{Reply}
use Rattle.kr_seen.specs.kr_model.Seen.{Seen}
use Rattle.kr_seen.specs.kr_model.State.{image_layout}
use Rattle.kr_seen.specs.kr_model.declared.outcome.Outcome.TheVariants.{Ended}
use Rattle.kr_seen.specs.kr_ops.declared.state.State.{State}
use Rattle.kr_seen.specs.kr_ops.Meaning.{meaning}
use Rattle.kr_seen.specs.Carrying.{after_row, carried, memory_of}
use Rattle.kr_seen.specs.Using.{HasMemory}

-- an end for writing of a pipe that nobody reads
abbrev pub is_unread : Known → What → Bool
is_unread k (PipeWrite p) = is_some (k.pipe p) && not (k.reader p)
is_unread k _ = false

-- a descriptor on which a write kills
abbrev pub kills : Known → ℤ → Bool
kills k fd = option_map_or (λ o. o.write && is_unread k o.what) (option_and_then k.opened (descriptor_number fd)) false

-- a list of at most 1,024 pieces that can be read, each an address and a length of 8 bytes
abbrev pub is_read : ℕ → ℕ → Memory → Bool
is_read list count m = not (nat_lt 1024 count) && allows_all m.pages list (16 * count) Read

-- the memory in which that is noted
abbrev pub noted : Known → Request → Memory → Memory
noted k (call.Writev fd list count) m = if kills k fd && is_read list count m then after_read m list (16 * count) else m
noted k _ m = m

-- the call, other than execve, comes to the same on it, and where it ends its caller, it reads nothing more
pub record NotedAsRead (pid : ℕ) (request : Request) (seen : Seen) (k : Known) (m : Memory) : Type 0 where
  pub alike : carried_out (operation pid request seen k) (noted k request m) ≡ carried_out (operation pid request seen k) m
  pub ending : (carried_out (operation pid request seen k) m).reply.outcome ≡ Ended → (carried_out (operation pid request seen k) m).memory ≡ noted k request m

abbrev pub ListsAreNoted : Type 0
ListsAreNoted = (pid : ℕ) (request : Request) (seen : Seen) (k : Known) (m : Memory) → IsNoExec request → NotedAsRead pid request seen k m

-- ---- a state in which it is noted

module _ {T : Type 0} {M : ℕ} (pid : ℕ) (request : Request) (old new : State T M) where
  -- the row of a call on a state; for an execve, of which nothing is noted, that isn't its own
  abbrev pub row_on : Seen → State T M → CarriedOut Reply
  row_on seen s = carried pid (operation pid request seen (known image_layout pid (meaning s))) (meaning s)

  pub record IsNoted : Type 0 where
    -- the caller has that memory, and all else stays
    pub leaves : HasMemory pid (noted (known image_layout pid (meaning old)) request (memory_of pid (meaning old))) old new
    -- the row comes to the same reply and to the same memory, and leaves the same
    pub alike : (seen : Seen) → row_on seen new ≡ row_on seen old
    pub after : (mounts : Mounts T) (done : CarriedOut Reply) → after_row mounts pid done (meaning new) ≡ after_row mounts pid done (meaning old)
    -- where it ends the caller, all that it read is noted before
    pub ending : (seen : Seen) → (row_on seen old).reply.outcome ≡ Ended → (memory_of pid (meaning new)).read_marked ≡ (row_on seen old).memory.read_marked
