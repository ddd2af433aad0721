-- What is read and changed of a stopped process.
use Rattle.std.specs.Prelude.{ℕ, List, Result, get_or, slice_set}
use Rattle.law_lawful.specs.rv_mem.Actions.{CarriedOut, carried_out}
use Rattle.law_lawful.specs.rv_mem.Memory.{Memory, after_read, with_pages}
use Rattle.law_lawful.specs.rv_mem.Pages.{written}
use Rattle.law_lawful.specs.kr_calls.Decodes.{Gives}
use Rattle.law_lawful.specs.kr_calls.Decoding.{Decoded, decoding}
use Rattle.law_lawful.specs.kr_calls.declared.fault.CallFault.{CallFault}
use Rattle.law_lawful.specs.kr_calls.declared.request.Request.{Request}
use Rattle.kr_stops.specs.Stopped.{Stopped, edited, image_at}

abbrev pub memory_at : Stopped → Memory
memory_at t = (image_at t).memory

abbrev pub register_at : Stopped → ℕ → ℕ
register_at t k = get_or (image_at t).regs.x k 0

abbrev pub with_register : ℕ → ℕ → Stopped → Stopped
with_register k v t = let own = image_at t in edited (record { x = slice_set own.regs.x k v; pc = own.regs.pc }) own.memory t

abbrev pub with_memory : Memory → Stopped → Stopped
with_memory memory t = edited (image_at t).regs memory t

abbrev pub after_peek : ℕ → ℕ → Stopped → Stopped
after_peek at n t = with_memory (after_read (memory_at t) at n) t

abbrev pub after_poke : ℕ → List ℕ → Stopped → Stopped
after_poke at bytes t = let own = memory_at t in with_memory (with_pages own (written own.pages at bytes)) t

-- the decoding of what stands there
abbrev pub decoded_at : Stopped → CarriedOut Decoded
decoded_at t = carried_out (decoding (image_at t).regs) (memory_at t)

abbrev pub Decodes : Stopped → Result Request CallFault → Type 0
Decodes t result = Gives result (decoded_at t) (decoded_at t).memory

abbrev pub after_request : Stopped → Stopped
after_request t = with_memory (decoded_at t).memory t
