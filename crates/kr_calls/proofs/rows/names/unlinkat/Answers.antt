use Rattle.std.proofs.Common.{◌≡◌, ◌∙◌, false, refl, sym, ap}
use Rattle.kr_calls.specs.Arguments.{word, long, has_other}
use Rattle.kr_calls.specs.Decoding.{accepts, unlinkat_with, remove_flags}
use Rattle.kr_calls.proofs.TextLemmas.{accepted, failed, may_want}
use Rattle.kr_calls.proofs.rows.names.unlinkat.Goals as goal

pub returns-in-Ok-clause-decoded : goal.returns-in-Ok-clause-decoded
returns-in-Ok-clause-decoded g c =
    let passed : has_other (word c.args.regs.now 2) remove_flags ≡ false = ap (λ w. has_other w remove_flags) (sym c.word.ensures) ∙ sym c.has_other_remove_flag.ensures ∙ c.if-has_other_remove_flag.false in
    accepted _ false _ (long c.args.regs.now 1) _ (unlinkat_with c.args.regs.now) c.args.mem.now c.path.new.mem c.in-Ok.path c.unlinkat_with.result passed refl c.long.ensures c.unlinkat_with.ensures c.in-Ok.ensures.decoded

pub returns-in-Err-clause-decoded : goal.returns-in-Err-clause-decoded
returns-in-Err-clause-decoded g c =
    let passed : has_other (word c.args.regs.now 2) remove_flags ≡ false = ap (λ w. has_other w remove_flags) (sym c.word.ensures) ∙ sym c.has_other_remove_flag.ensures ∙ c.if-has_other_remove_flag.false in
    failed _ false _ (long c.args.regs.now 1) _ (unlinkat_with c.args.regs.now) c.args.mem.now c.path.new.mem c.in-Err.fault passed refl c.long.ensures c.in-Err.ensures.decoded

pub returns-in-Err-clause-wanting : goal.returns-in-Err-clause-wanting
returns-in-Err-clause-wanting g c =
    let passed : has_other (word c.args.regs.now 2) remove_flags ≡ false = ap (λ w. has_other w remove_flags) (sym c.word.ensures) ∙ sym c.has_other_remove_flag.ensures ∙ c.if-has_other_remove_flag.false in
    may_want _ false (long c.args.regs.now 1) (λ path. accepts (unlinkat_with c.args.regs.now path)) _ passed
