-- Whether a request has to wait is told by the registers that it is decoded from.
use Rattle.std.proofs.Common.{◌≡◌, ℕ, Bool, true, false, ◌||◌, cond, sym, refl, ap, subst, Ok}
use Rattle.std.specs.Prelude.{◌==◌}
use Rattle.rv_cpu.specs.rv_mem.Actions.{carried_out}
use Rattle.rv_cpu.specs.rv_mem.Memory.{Memory}
use Rattle.rv_cpu.specs.rv_mem.declared.regs.Regs.{Regs}
use Rattle.kr_perform.specs.kr_calls.Arguments.{has_other, int, long, number, word}
use Rattle.kr_perform.specs.kr_calls.CallTable.{line}
use Rattle.kr_perform.specs.kr_calls.Decoding.{accepts, decoding_of, unless, wait_flags}
use Rattle.kr_perform.specs.kr_calls.declared.request.Request.{Request}
use Rattle.kr_perform.specs.kr_calls.declared.request.Request.TheVariants as call
use Rattle.kr_perform.specs.kr_model.Asking.{descriptor_number}
use Rattle.kr_perform.specs.kr_model.Known.{Known}
use Rattle.kr_perform.proofs.kr_model.kr_calls.DecodingLemmas.{decoded_are_numbered}
use Rattle.kr_steps.specs.Waiting.{read_waits, write_waits, open_waits, child_waits}
use Rattle.kr_steps.specs.Waits.{request_waits, WaitsAreDecoded}

module _ (regs : Regs) (memory : Memory) (caller : ℕ) (k : Known) where
  -- what the registers tell, by the number of the call
  abbrev told : ℕ → Bool
  told n =
      cond (n == 63 || n == 65) (open_waits (read_waits k) k (descriptor_number (int regs 0)))
      (cond (n == 64 || n == 66) (open_waits (write_waits k) k (descriptor_number (int regs 0)))
      (cond (n == 260) (child_waits k caller (int regs 0)) false))

  module _ (r : Request) where
    abbrev Gives : ℕ → Type 0
    Gives n = (carried_out (decoding_of n regs) memory).reply ≡ Ok r

    abbrev Tells : ℕ → Type 0
    Tells n = told n ≡ request_waits k caller r

    read_told : Gives 63 → Tells 63
    read_told e = let same : call.Read (int regs 0) (long regs 1) (long regs 2) ≡ r = cc in ap (request_waits k caller) same

    write_told : Gives 64 → Tells 64
    write_told e = let same : call.Write (int regs 0) (long regs 1) (long regs 2) ≡ r = cc in ap (request_waits k caller) same

    readv_told : Gives 65 → Tells 65
    readv_told e = let same : call.Readv (int regs 0) (long regs 1) (long regs 2) ≡ r = cc in ap (request_waits k caller) same

    writev_told : Gives 66 → Tells 66
    writev_told e = let same : call.Writev (int regs 0) (long regs 1) (long regs 2) ≡ r = cc in ap (request_waits k caller) same

    wait4_told : Gives 260 → Tells 260
    wait4_told e = by (has_other (word regs 2) wait_flags) e
      where
        by : (b : Bool) → (carried_out (unless b (accepts (call.Wait4 (int regs 0) (long regs 1) (int regs 2) (long regs 3)))) memory).reply ≡ Ok r → child_waits k caller (int regs 0) ≡ request_waits k caller r
        by true e = absurd cc
        by false e = let same : call.Wait4 (int regs 0) (long regs 1) (int regs 2) (long regs 3) ≡ r = cc in ap (request_waits k caller) same

  -- the calls that can wait, by their numbers; the registers of any other tell that it doesn't
  told_of : (r : Request) → Gives r (line r).number → Tells r (line r).number
  told_of (call.Read fd buf n) e = read_told (call.Read fd buf n) e
  told_of (call.Write fd buf n) e = write_told (call.Write fd buf n) e
  told_of (call.Readv fd list count) e = readv_told (call.Readv fd list count) e
  told_of (call.Writev fd list count) e = writev_told (call.Writev fd list count) e
  told_of (call.Wait4 child status options usage) e = wait4_told (call.Wait4 child status options usage) e
  told_of _ e = refl

pub decoded_waits : WaitsAreDecoded
decoded_waits regs memory r e caller k =
    let same : (line r).number ≡ number regs = decoded_are_numbered regs memory r e in
    subst (Tells regs memory caller k r) same (told_of regs memory caller k r (subst (Gives regs memory caller k r) (sym same) e))
