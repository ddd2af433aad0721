use Rattle.std.proofs.Common.{◌≡◌, ◌∙◌, false, refl, sym, ap}
use Rattle.kr_calls.specs.Arguments.{word, long}
use Rattle.kr_calls.specs.Decoding.{accepts, readlinkat_with, has_no_size}
use Rattle.kr_calls.proofs.TextLemmas.{accepted, failed, may_want}
use Rattle.kr_calls.proofs.rows.files.readlinkat.Goals as goal

pub returns-in-Ok-clause-decoded : goal.returns-in-Ok-clause-decoded
returns-in-Ok-clause-decoded g c =
    let passed : has_no_size (word c.args.regs.now 3) ≡ false = ap (λ w. has_no_size w) (sym c.word.ensures) ∙ sym c.has_no_size.ensures ∙ c.if-has_no_size.false in
    accepted _ false _ (long c.args.regs.now 1) _ (readlinkat_with c.args.regs.now) c.args.mem.now c.path.new.mem c.in-Ok.path c.readlinkat_with.result passed refl c.long.ensures c.readlinkat_with.ensures c.in-Ok.ensures.decoded

pub returns-in-Err-clause-decoded : goal.returns-in-Err-clause-decoded
returns-in-Err-clause-decoded g c =
    let passed : has_no_size (word c.args.regs.now 3) ≡ false = ap (λ w. has_no_size w) (sym c.word.ensures) ∙ sym c.has_no_size.ensures ∙ c.if-has_no_size.false in
    failed _ false _ (long c.args.regs.now 1) _ (readlinkat_with c.args.regs.now) c.args.mem.now c.path.new.mem c.in-Err.fault passed refl c.long.ensures c.in-Err.ensures.decoded

pub returns-in-Err-clause-wanting : goal.returns-in-Err-clause-wanting
returns-in-Err-clause-wanting g c =
    let passed : has_no_size (word c.args.regs.now 3) ≡ false = ap (λ w. has_no_size w) (sym c.word.ensures) ∙ sym c.has_no_size.ensures ∙ c.if-has_no_size.false in
    may_want _ false (long c.args.regs.now 1) (λ path. accepts (readlinkat_with c.args.regs.now path)) _ passed
