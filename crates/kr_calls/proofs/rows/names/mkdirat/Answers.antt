use Rattle.std.proofs.Common.{false, refl}
use Rattle.kr_calls.specs.Arguments.{long}
use Rattle.kr_calls.specs.Decoding.{accepts, mkdirat_with}
use Rattle.kr_calls.proofs.TextLemmas.{accepted, failed, may_want}
use Rattle.kr_calls.proofs.rows.names.mkdirat.Goals as goal

pub returns-in-Ok-clause-decoded : goal.returns-in-Ok-clause-decoded
returns-in-Ok-clause-decoded g c =
    accepted false false _ (long c.args.regs.now 1) _ (mkdirat_with c.args.regs.now) c.args.mem.now c.path.new.mem c.in-Ok.path c.mkdirat_with.result refl refl c.long.ensures c.mkdirat_with.ensures c.in-Ok.ensures.decoded

pub returns-in-Err-clause-decoded : goal.returns-in-Err-clause-decoded
returns-in-Err-clause-decoded g c =
    failed false false _ (long c.args.regs.now 1) _ (mkdirat_with c.args.regs.now) c.args.mem.now c.path.new.mem c.in-Err.fault refl refl c.long.ensures c.in-Err.ensures.decoded

pub returns-in-Err-clause-wanting : goal.returns-in-Err-clause-wanting
returns-in-Err-clause-wanting g c =
    may_want false false (long c.args.regs.now 1) (λ path. accepts (mkdirat_with c.args.regs.now path)) _ refl
