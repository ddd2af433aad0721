use Rattle.std.proofs.Common.{◌≡◌, ◌∙◌, false, refl, sym, ap}
use Rattle.std.specs.Prelude.{nat_lt}
use Rattle.kr_calls.specs.Arguments.{word, long}
use Rattle.kr_calls.specs.Decoding.{accepts, faccessat_with}
use Rattle.kr_calls.proofs.TextLemmas.{accepted, failed, may_want}
use Rattle.kr_calls.proofs.rows.files.faccessat.Goals as goal

pub returns-in-Ok-clause-decoded : goal.returns-in-Ok-clause-decoded
returns-in-Ok-clause-decoded g c =
    let passed : nat_lt 7 (word c.args.regs.now 2) ≡ false = ap (λ w. nat_lt 7 w) (sym c.word.ensures) ∙ sym c.has_other_right.ensures ∙ c.if-has_other_right.false in
    accepted _ false _ (long c.args.regs.now 1) _ (faccessat_with c.args.regs.now) c.args.mem.now c.path.new.mem c.in-Ok.path c.faccessat_with.result passed refl c.long.ensures c.faccessat_with.ensures c.in-Ok.ensures.decoded

pub returns-in-Err-clause-decoded : goal.returns-in-Err-clause-decoded
returns-in-Err-clause-decoded g c =
    let passed : nat_lt 7 (word c.args.regs.now 2) ≡ false = ap (λ w. nat_lt 7 w) (sym c.word.ensures) ∙ sym c.has_other_right.ensures ∙ c.if-has_other_right.false in
    failed _ false _ (long c.args.regs.now 1) _ (faccessat_with c.args.regs.now) c.args.mem.now c.path.new.mem c.in-Err.fault passed refl c.long.ensures c.in-Err.ensures.decoded

pub returns-in-Err-clause-wanting : goal.returns-in-Err-clause-wanting
returns-in-Err-clause-wanting g c =
    let passed : nat_lt 7 (word c.args.regs.now 2) ≡ false = ap (λ w. nat_lt 7 w) (sym c.word.ensures) ∙ sym c.has_other_right.ensures ∙ c.if-has_other_right.false in
    may_want _ false (long c.args.regs.now 1) (λ path. accepts (faccessat_with c.args.regs.now path)) _ passed
