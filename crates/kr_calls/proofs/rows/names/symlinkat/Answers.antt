use Rattle.std.proofs.Common.{false, refl}
use Rattle.kr_calls.specs.Arguments.{long}
use Rattle.kr_calls.specs.Decoding.{symlinkat_with}
use Rattle.kr_calls.proofs.TwoTextLemmas.{accepted, failed, may_want}
use Rattle.kr_calls.proofs.rows.names.symlinkat.Goals as goal

pub returns-in-Ok-clause-decoded : goal.returns-in-Ok-clause-decoded
returns-in-Ok-clause-decoded g c =
    accepted false (long c.args.regs.now 0) _ (long c.args.regs.now 2) _ (symlinkat_with c.args.regs.now) c.args.mem.now c.two_texts.new.mem c.in-Ok.text c.in-Ok.path c.symlinkat_with.result refl c.long.ensures c.long-2.ensures c.symlinkat_with.ensures c.in-Ok.ensures.decoded

pub returns-in-Err-clause-decoded : goal.returns-in-Err-clause-decoded
returns-in-Err-clause-decoded g c =
    failed false (long c.args.regs.now 0) _ (long c.args.regs.now 2) _ (symlinkat_with c.args.regs.now) c.args.mem.now c.two_texts.new.mem c.in-Err.fault refl c.long.ensures c.long-2.ensures c.in-Err.ensures.decoded

pub returns-in-Err-clause-wanting : goal.returns-in-Err-clause-wanting
returns-in-Err-clause-wanting g c =
    may_want false (long c.args.regs.now 0) (long c.args.regs.now 2) (symlinkat_with c.args.regs.now) _ refl
