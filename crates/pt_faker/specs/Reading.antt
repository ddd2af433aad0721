-- The lists of texts of execve(2), as a tracer reads them by peeks: address after address and byte after byte, where the first test
-- that fails counts, as it does for the kernel. Addresses have 64 bits.
use Rattle.std.specs.Prelude.{◌≡◌, ℕ, zero, suc, ◌+◌, ◌*◌, ◌-◌, ◌%◌, ◌^◌, nat_eq, List, [], ◌∷◌, ◌++◌, length, slice_index, Result, Ok, Err, if◌then◌else◌}
use Rattle.elf_load.specs.pr_base.declared.errno.Errno.{Errno}
use Rattle.elf_load.specs.pr_base.declared.errno.Errno.TheVariants.{EFAULT, E2BIG}
use Rattle.pt_ident.specs.rv_mem.Actions.{Action, Done, read_if_allowed}
use Rattle.pt_ident.specs.rv_mem.declared.rights.Use.TheVariants.{Read}
use Rattle.pt_ident.specs.kr_calls.Expansion.{bytes_with_ends}
use Rattle.pt_ident.specs.kr_calls.declared.fault.CallFault.{CallFault}
use Rattle.pt_ident.specs.kr_calls.declared.fault.CallFault.TheVariants as call
use Rattle.kr_exec.specs.Lists.{Trying, address_at, and_then, at_least_one, if_it_fits, most_bytes, most_texts, next_address}
use Rattle.pt_faker.specs.Stopping.{Stopped}
use Rattle.pt_faker.specs.declared.lists.Handed.{Handed}
use Rattle.pt_faker.specs.declared.lists.List.{List as ListRead}
use Rattle.pt_faker.specs.Carrying.{CarriesOut}

-- ---- texts

-- EFAULT where it may not be read
abbrev pub byte_at : ℕ → Trying ℕ
byte_at at = read_if_allowed at 1 (Read ∷ []) (Done (Err EFAULT)) (λ bytes. Done (Ok (slice_index bytes 0)))

abbrev pub next_byte : ℕ → ℕ
next_byte at = (at + 1) % 2 ^ 64

-- the rest of a text behind what was read of it: E2BIG where none of `most` bytes is its end
unfoldable pub text_from : (most at : ℕ) → List ℕ → Trying (List ℕ)
text_from zero at read = Done (Err E2BIG)
text_from (suc most) at read =
    and_then (byte_at at) (λ b. if nat_eq b 0 then Done (Ok read) else text_from most (next_byte at) (read ++ b ∷ []))

abbrev pub text_at : ℕ → Trying (List ℕ)
text_at at = text_from most_bytes at []

-- E2BIG where it has more bytes, with its end, than may still come
abbrev pub text_within : ℕ → ℕ → Trying (List ℕ)
text_within room at = and_then (text_at at) (if_it_fits room)

-- ---- lists

-- the rest of a list behind the texts that were read of it, where `left` texts and `room` bytes may still come
unfoldable pub texts_from : (left at room : ℕ) → List (List ℕ) → Trying (List (List ℕ))
texts_from zero at room read = and_then (address_at at) (λ address. if nat_eq address 0 then Done (Ok read) else Done (Err E2BIG))
texts_from (suc left) at room read =
    and_then (address_at at) (λ address.
    if nat_eq address 0 then Done (Ok read)
    else and_then (text_within room address) (λ text. texts_from left (next_address at) (room - (length text + 1)) (read ++ text ∷ [])))

-- a list at the address 0 is empty
abbrev pub list_at : (at room : ℕ) → Trying (List (List ℕ))
list_at at room = if nat_eq at 0 then Done (Ok []) else texts_from most_texts at room []

-- of the environment its bytes alone count, with an end for each text; they come behind those of the arguments
abbrev pub env_at : ℕ → List (List ℕ) → Trying Handed
env_at env args = and_then (list_at env (most_bytes - bytes_with_ends args)) (λ texts. Done (Ok (record { args = args; env_bytes = bytes_with_ends texts })))

-- a program without arguments is given an empty one
abbrev pub lists_at : (args env : ℕ) → Trying Handed
lists_at args env = and_then (list_at args most_bytes) (λ texts. env_at env (at_least_one texts))

-- the addresses of `count` texts of a list, but for its first: eight bytes each
abbrev pub addresses_behind : (at count : ℕ) → Trying (List ℕ)
addresses_behind at count = read_if_allowed (next_address at) (8 * count) (Read ∷ []) (Done (Err EFAULT)) (λ bytes. Done (Ok bytes))

-- ---- what a function does

-- an action was carried out and gave this answer. Of want of memory nothing is said
abbrev pub Reads : {A : Type 0} → Result A CallFault → Trying A → (old new : Stopped) → Type 0
Reads (Ok x) action old new = CarriesOut action (Ok x) old new
Reads (Err (call.Err e)) action old new = CarriesOut action (Err e) old new
Reads (Err call.NoMemory) action old new = Unit {0}

-- the texts of a list that was read
abbrev pub texts_read : Result ListRead CallFault → Result (List (List ℕ)) CallFault
texts_read (Ok list) = Ok list.texts
texts_read (Err fault) = Err fault
