-- What the code that reads a request does beside the definition of it.
use Rattle.std.specs.Prelude.{◌≡◌, ℕ, Bool, true, false, IsTrue, List, [], ◌∷◌, Result, Ok, Err, if◌then◌else◌}
use Rattle.rv_mem.specs.pr_base.declared.errno.Errno.{Errno}
use Rattle.rv_mem.specs.pr_base.declared.errno.Errno.TheVariants.{EFAULT, ENAMETOOLONG, ENOENT}
use Rattle.rv_mem.specs.Actions.{Action, Done, MayUse, ReadBytes, WriteBytes, CarriedOut, carried_out}
use Rattle.rv_mem.specs.Memory.{Memory}
use Rattle.rv_mem.specs.declared.fault.TextFault.{TextFault}
use Rattle.rv_mem.specs.declared.fault.TextFault.TheVariants as text
use Rattle.rv_mem.specs.declared.regs.Regs.{Regs}
use Rattle.kr_calls.specs.declared.request.Request.{Request}
use Rattle.kr_calls.specs.Arguments.{number}
use Rattle.kr_calls.specs.CallTable.{line}
use Rattle.kr_calls.specs.Decoding.{decoding}
use Rattle.kr_calls.specs.declared.fault.CallFault.{CallFault}
use Rattle.kr_calls.specs.declared.fault.CallFault.TheVariants as call

abbrev pub fault_of : TextFault → CallFault
fault_of text.BadAddress = call.Err EFAULT
fault_of text.TooLong = call.Err ENAMETOOLONG
fault_of text.NoMemory = call.NoMemory

-- a text that was read, where it isn't empty or may be
abbrev pub named_text : Bool → List ℕ → Result (List ℕ) CallFault
named_text may_be_empty [] = if may_be_empty then Ok [] else Err (call.Err ENOENT)
named_text may_be_empty (b ∷ text) = Ok (b ∷ text)

-- the answer is the reply, unless memory was wanting, and the memory is the one after it
abbrev pub Gives : {A : Type 0} → Result A CallFault → CarriedOut (Result A Errno) → Memory → Type 0
Gives (Ok value) done new = (done.reply ≡ Ok value) × (new ≡ done.memory)
Gives (Err (call.Err errno)) done new = (done.reply ≡ Err errno) × (new ≡ done.memory)
Gives (Err call.NoMemory) done new = new ≡ done.memory

abbrev pub Decodes : {A : Type 0} → Result A CallFault → Action (Result A Errno) → Memory → Memory → Type 0
Decodes result action old new = Gives result (carried_out action old) new

-- a text that was looked for is the reply's, or its error is
abbrev pub Finds : {A : Type 0} → Result (Unit {0}) Errno → Action (Result A Errno) → Memory → Memory → Type 0
Finds {A = A} (Ok found) action old new = (x : A) × ((carried_out action old).reply ≡ Ok x) × (new ≡ (carried_out action old).memory)
Finds (Err errno) action old new = ((carried_out action old).reply ≡ Err errno) × (new ≡ (carried_out action old).memory)

-- whether an action uses the memory at all, as one that reads a text does
abbrev pub uses_memory : {A : Type 0} → Action A → Bool
uses_memory (Done reply) = false
uses_memory (MayUse at n uses next) = true
uses_memory (ReadBytes at n next) = true
uses_memory (WriteBytes at bytes next) = true

-- memory is wanting only where a text was read
abbrev pub WantsForTexts : {A : Type 0} → Result A CallFault → Action (Result A Errno) → Type 0
WantsForTexts result action = result ≡ Err call.NoMemory → IsTrue (uses_memory action)

-- a request that the decoding of some registers and memory gives
pub record CanBeGiven (request : Request) : Type 0 where
  pub regs : Regs
  pub memory : Memory
  pub given : (carried_out (decoding regs) memory).reply ≡ Ok request

-- what was decoded is such a request
abbrev pub DecodedIsGiven : Type 0
DecodedIsGiven = (regs : Regs) (old new : Memory) (request : Request) → Decodes (Ok request) (decoding regs) old new → CanBeGiven request

-- a request that was decoded is one whose line has the number in the registers
abbrev pub DecodedAreNumbered : Type 0
DecodedAreNumbered = (regs : Regs) (m : Memory) (r : Request) → (carried_out (decoding regs) m).reply ≡ Ok r → (line r).number ≡ number regs

-- decoding writes nothing
abbrev pub DecodingsLeavePages : Type 0
DecodingsLeavePages = (regs : Regs) (m : Memory) → (carried_out (decoding regs) m).memory.pages ≡ m.pages
