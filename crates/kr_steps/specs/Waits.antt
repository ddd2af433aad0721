-- Whether a process that stays at its call has to wait still: its registers tell what the call itself would answer.
use Rattle.std.specs.Prelude.{◌≡◌, ℕ, Bool, true, false, Ok}
use Rattle.std.specs.Option.{option_map}
use Rattle.rv_cpu.specs.rv_mem.Actions.{carried_out}
use Rattle.rv_cpu.specs.rv_mem.Memory.{Memory}
use Rattle.rv_cpu.specs.rv_mem.declared.regs.Regs.{Regs}
use Rattle.kr_perform.specs.kr_files.declared.opened.Opened.{Opened}
use Rattle.kr_perform.specs.kr_files.declared.opened.What.{What}
use Rattle.kr_perform.specs.kr_calls.Decoding.{decoding}
use Rattle.kr_perform.specs.kr_calls.declared.request.Request.{Request}
use Rattle.kr_perform.specs.kr_calls.declared.request.Request.TheVariants as call
use Rattle.kr_perform.specs.kr_model.Asking.{descriptor_number}
use Rattle.kr_perform.specs.kr_model.Known.{Known}
use Rattle.kr_perform.specs.kr_model.Operation.{IsNoExec, operation}
use Rattle.kr_perform.specs.kr_model.Seen.{Seen}
use Rattle.kr_perform.specs.kr_model.declared.outcome.Outcome.TheVariants.{Wait}
use Rattle.kr_steps.specs.Waiting.{read_waits, write_waits, open_waits, child_waits, still_waits}

-- ---- by the request

-- whether a request has to wait
abbrev pub request_waits : Known → ℕ → Request → Bool
request_waits k caller (call.Read fd buf n) = open_waits (read_waits k) k (descriptor_number fd)
request_waits k caller (call.Readv fd list count) = open_waits (read_waits k) k (descriptor_number fd)
request_waits k caller (call.Write fd buf n) = open_waits (write_waits k) k (descriptor_number fd)
request_waits k caller (call.Writev fd list count) = open_waits (write_waits k) k (descriptor_number fd)
request_waits k caller (call.Wait4 child status options usage) = child_waits k caller child
request_waits k caller _ = false

-- registers give a request
abbrev pub IsDecoded : Regs → Memory → Request → Type 0
IsDecoded regs memory r = (carried_out (decoding regs) memory).reply ≡ Ok r

-- the registers tell the same of a call as its request does
abbrev pub WaitsAreDecoded : Type 0
WaitsAreDecoded =
    (regs : Regs) (memory : Memory) (r : Request) → IsDecoded regs memory r → (caller : ℕ) (k : Known) → still_waits k caller regs ≡ request_waits k caller r

-- ---- what a call comes to

-- it comes to wait
abbrev pub ComesToWait : ℕ → Request → Seen → Known → Memory → Type 0
ComesToWait caller r seen k m = (carried_out (operation caller r seen k) m).reply.outcome ≡ Wait

-- a call, other than execve, that comes to wait is seen to wait by its caller's registers, and so its caller isn't ready
abbrev pub WaitsAreSeen : Type 0
WaitsAreSeen =
    (regs : Regs) (memory : Memory) (r : Request) → IsDecoded regs memory r → IsNoExec r
    → (caller : ℕ) (seen : Seen) (k : Known) (m : Memory) → ComesToWait caller r seen k m
    → still_waits k caller regs ≡ true

-- what never changes of an open file: its kind, and whether it was opened to be read and to be written. Others who share
-- it may change its offset and O_APPEND, and one who moves a name the entry that it remembers
pub record Nature : Type 0 where
  pub what : What
  pub read : Bool
  pub write : Bool

abbrev pub nature : Opened (Unit {0}) → Nature
nature o = record { what = o.what; read = o.read; write = o.write }

-- what is known of a caller that stays at its call: the same is open under each of its descriptors as when it came to
-- wait, and its pages are those that they were
pub record IsAsWhenItWaited (before now : Known) (m w : Memory) : Type 0 where
  pub opened : (fd : ℕ) → option_map nature (now.opened fd) ≡ option_map nature (before.opened fd)
  pub pages : w.pages ≡ m.pages

-- a call, other than execve, that came to wait comes to wait again as long as it is seen to wait by its caller's registers, whatever was done
-- meanwhile to pipes, children and files: a caller that isn't ready would have been told nothing
abbrev pub WaitsLast : Type 0
WaitsLast =
    (regs : Regs) (memory : Memory) (r : Request) → IsDecoded regs memory r → IsNoExec r
    → (caller : ℕ) (first seen : Seen) (before now : Known) (m w : Memory) → ComesToWait caller r first before m → IsAsWhenItWaited before now m w
    → still_waits now caller regs ≡ true → ComesToWait caller r seen now w
