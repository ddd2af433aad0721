-- The lists of texts that execve(2) reads, as a tree of memory actions: address by address and text by text up to the
-- address 0, where the first test that fails counts. How many texts and bytes there may be is our own.
use Rattle.std.specs.Prelude.{◌≡◌, ℕ, zero, suc, ◌+◌, ◌-◌, ◌%◌, ◌^◌, true, nat_eq, nat_lt, List, [], ◌∷◌, length, Result, Ok, Err, if◌then◌else◌}
use Rattle.elf_read.specs.pr_base.Fields.{little_endian}
use Rattle.elf_read.specs.pr_base.declared.errno.Errno.{Errno}
use Rattle.elf_read.specs.pr_base.declared.errno.Errno.TheVariants.{EFAULT, E2BIG}
use Rattle.kr_calls.specs.rv_mem.Actions.{Action, Done, MayUse, ReadBytes, WriteBytes, CarriedOut, read_if_allowed}
use Rattle.kr_calls.specs.rv_mem.Memory.{Memory}
use Rattle.kr_calls.specs.rv_mem.declared.rights.Use.TheVariants.{Read}
use Rattle.kr_calls.specs.Texts.{read_text}
use Rattle.kr_calls.specs.Expansion.{bytes_with_ends}
use Rattle.kr_calls.specs.declared.fault.CallFault.{CallFault}
use Rattle.kr_calls.specs.declared.fault.CallFault.TheVariants as call
use Rattle.kr_exec.specs.declared.lists.Lists.{Lists}
use Rattle.kr_exec.specs.declared.lists.List.{List as ListRead}

-- an action that gives something or an error
abbrev pub Trying : Type 0 → Type 0
Trying A = Action (Result A Errno)

-- what is done with what an action gave, where it gave something
abbrev pub and_then : {A B : Type 0} → Trying A → (A → Trying B) → Trying B
and_then (Done (Ok x)) next = next x
and_then (Done (Err errno)) next = Done (Err errno)
and_then (MayUse at n uses go) next = MayUse at n uses (λ allowed. and_then (go allowed) next)
and_then (ReadBytes at n go) next = ReadBytes at n (λ bytes. and_then (go bytes) next)
and_then (WriteBytes at bytes go) next = WriteBytes at bytes (and_then go next)

-- ---- one text

-- the address of a text: EFAULT where its bytes aren't readable
abbrev pub address_at : ℕ → Trying ℕ
address_at at = read_if_allowed at 8 (Read ∷ []) (Done (Err EFAULT)) (λ bytes. Done (Ok (little_endian bytes)))

-- how many bytes both lists may have, with an end for each text
abbrev pub most_bytes : ℕ
most_bytes = 131072

-- the text at an address: EFAULT where it isn't readable, E2BIG where it doesn't end
abbrev pub text_at : ℕ → Trying (List ℕ)
text_at at = read_text most_bytes at (Done (Err EFAULT)) (Done (Err E2BIG)) (λ text. Done (Ok text))

-- E2BIG where a text with its end has more bytes than may still come
abbrev pub if_it_fits : ℕ → List ℕ → Trying (List ℕ)
if_it_fits room text = if nat_lt (length text) room then Done (Ok text) else Done (Err E2BIG)

abbrev pub text_within : ℕ → ℕ → Trying (List ℕ)
text_within room at = and_then (text_at at) (if_it_fits room)

-- ---- a list

-- where the next address stands; the numbers of addresses have 64 bits
abbrev pub next_address : ℕ → ℕ
next_address at = (at + 8) % 2 ^ 64

-- the address 0 ends a list
abbrev pub unless_ended : Trying (List (List ℕ)) → ℕ → Trying (List (List ℕ))
unless_ended next address = if nat_eq address 0 then Done (Ok []) else next

abbrev pub behind : List ℕ → List (List ℕ) → Trying (List (List ℕ))
behind text rest = Done (Ok (text ∷ rest))

-- the texts from an address in a list on, where `left` texts and `room` bytes may still come
unfoldable pub texts_from : (left at room : ℕ) → Trying (List (List ℕ))
texts_from zero at room = and_then (address_at at) (unless_ended (Done (Err E2BIG)))
texts_from (suc left) at room =
    and_then (address_at at) (λ address.
    unless_ended (and_then (text_within room address) (λ text.
    and_then (texts_from left (next_address at) (room - (length text + 1))) (behind text))) address)

-- how many texts a list may have
abbrev pub most_texts : ℕ
most_texts = 4096

-- a list at the address 0 is empty
abbrev pub list_at : (at room : ℕ) → Trying (List (List ℕ))
list_at at room = if nat_eq at 0 then Done (Ok []) else texts_from most_texts at room

-- ---- both lists

-- a program without arguments is given an empty one
abbrev pub at_least_one : List (List ℕ) → List (List ℕ)
at_least_one [] = [] ∷ []
at_least_one (text ∷ texts) = text ∷ texts

-- the environment after the arguments, whose bytes count with its own
abbrev pub env_at : ℕ → List (List ℕ) → Trying Lists
env_at env args = and_then (list_at env (most_bytes - bytes_with_ends args)) (λ texts. Done (Ok (record { args = args; env = texts })))

abbrev pub lists_at : (args env : ℕ) → Trying Lists
lists_at args env = and_then (list_at args most_bytes) (λ texts. env_at env (at_least_one texts))

-- ---- what the code does beside the definition

-- a memory was read, and no more of it than another tells
pub record IsPartRead (old new whole : Memory) : Type 0 where
  pub pages : new.pages ≡ old.pages
  pub kept : old.read_marked ≡ true → new.read_marked ≡ true
  pub within : new.read_marked ≡ true → whole.read_marked ≡ true

-- the answer is the reply and the memory is the one after it. Where memory is wanting, a part of it was read
abbrev pub Reads : {A : Type 0} → Result A CallFault → CarriedOut (Result A Errno) → Memory → Memory → Type 0
Reads (Ok value) done old new = (done.reply ≡ Ok value) × (new ≡ done.memory)
Reads (Err (call.Err errno)) done old new = (done.reply ≡ Err errno) × (new ≡ done.memory)
Reads (Err call.NoMemory) done old new = IsPartRead old new done.memory

-- the texts of a list that was read
abbrev pub texts_read : Result ListRead CallFault → Result (List (List ℕ)) CallFault
texts_read (Ok list) = Ok list.texts
texts_read (Err fault) = Err fault
