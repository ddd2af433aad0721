use Rattle.std.proofs.Common.{◌≡◌, ◌∙◌, false, refl, sym, ap}
use Rattle.kr_calls.specs.Arguments.{word, long}
use Rattle.kr_calls.specs.Decoding.{accepts, openat_with, has_bad_open_flags}
use Rattle.kr_calls.proofs.TextLemmas.{accepted, failed, may_want}
use Rattle.kr_calls.proofs.rows.files.openat.Goals as goal

pub returns-in-Ok-clause-decoded : goal.returns-in-Ok-clause-decoded
returns-in-Ok-clause-decoded g c =
    let passed : has_bad_open_flags (word c.args.regs.now 2) ≡ false = ap (λ w. has_bad_open_flags w) (sym c.word.ensures) ∙ sym c.has_bad_open_flags.ensures ∙ c.if-has_bad_open_flags.false in
    accepted _ false _ (long c.args.regs.now 1) _ (openat_with c.args.regs.now) c.args.mem.now c.path.new.mem c.in-Ok.path c.openat_with.result passed refl c.long.ensures c.openat_with.ensures c.in-Ok.ensures.decoded

pub returns-in-Err-clause-decoded : goal.returns-in-Err-clause-decoded
returns-in-Err-clause-decoded g c =
    let passed : has_bad_open_flags (word c.args.regs.now 2) ≡ false = ap (λ w. has_bad_open_flags w) (sym c.word.ensures) ∙ sym c.has_bad_open_flags.ensures ∙ c.if-has_bad_open_flags.false in
    failed _ false _ (long c.args.regs.now 1) _ (openat_with c.args.regs.now) c.args.mem.now c.path.new.mem c.in-Err.fault passed refl c.long.ensures c.in-Err.ensures.decoded

pub returns-in-Err-clause-wanting : goal.returns-in-Err-clause-wanting
returns-in-Err-clause-wanting g c =
    let passed : has_bad_open_flags (word c.args.regs.now 2) ≡ false = ap (λ w. has_bad_open_flags w) (sym c.word.ensures) ∙ sym c.has_bad_open_flags.ensures ∙ c.if-has_bad_open_flags.false in
    may_want _ false (long c.args.regs.now 1) (λ path. accepts (openat_with c.args.regs.now path)) _ passed
