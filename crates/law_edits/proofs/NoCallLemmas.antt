-- The number of no call is refused.
use Rattle.std.proofs.Common.{◌≡◌, Err, ap}
use Rattle.std.proofs.lemmas.List.{get_or-set_same}
use Rattle.pt_tracer.specs.pr_base.declared.errno.Errno.TheVariants.{ENOSYS}
use Rattle.pt_tracer.specs.rv_mem.Actions.{carried_out}
use Rattle.pt_tracer.specs.rv_mem.Memory.{Memory}
use Rattle.pt_tracer.specs.rv_mem.declared.regs.Regs.{Regs}
use Rattle.law_walks.specs.kr_calls.Arguments.{number}
use Rattle.law_walks.specs.kr_calls.Decoding.{decoding, decoding_of}
use Rattle.law_edits.specs.NoCalls.{NoCallsAreDecoded, without_call}
use Rattle.law_edits.proofs.ShelfLemmas.{has_number}

-- registers that have it
pub refused_at : (regs : Regs) (w : Memory) → number regs ≡ 0xffff_ffff_ffff_ffff → carried_out (decoding regs) w ≡ record { reply = Err ENOSYS; memory = w }
refused_at regs w is = ap (λ n. carried_out (decoding_of n regs) w) is

pub no_calls_are_decoded : NoCallsAreDecoded
no_calls_are_decoded regs m w r is = refused_at (without_call regs) w (get_or-set_same regs.x 17 0xffff_ffff_ffff_ffff 0 (has_number regs m r is))
