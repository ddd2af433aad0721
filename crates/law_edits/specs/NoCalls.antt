-- Registers that have the number of no call.
use Rattle.std.specs.Prelude.{◌≡◌, Ok, Err, slice_set}
use Rattle.pt_tracer.specs.pr_base.declared.errno.Errno.TheVariants.{ENOSYS}
use Rattle.pt_tracer.specs.rv_mem.Actions.{carried_out}
use Rattle.pt_tracer.specs.rv_mem.Memory.{Memory}
use Rattle.pt_tracer.specs.rv_mem.declared.regs.Regs.{Regs}
use Rattle.law_walks.specs.kr_calls.Decoding.{decoding}
use Rattle.law_walks.specs.kr_calls.declared.request.Request.{Request}

-- the largest word, in a7
abbrev pub without_call : Regs → Regs
without_call regs = record { x = slice_set regs.x 17 0xffff_ffff_ffff_ffff; pc = regs.pc }

-- it is refused before any byte is read
abbrev pub NoCallsAreDecoded : Type 0
NoCallsAreDecoded =
    (regs : Regs) (m w : Memory) (r : Request) → (carried_out (decoding regs) m).reply ≡ Ok r → carried_out (decoding (without_call regs)) w ≡ record { reply = Err ENOSYS; memory = w }
