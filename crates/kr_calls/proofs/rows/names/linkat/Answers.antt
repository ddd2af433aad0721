use Rattle.std.proofs.Common.{◌≡◌, ◌∙◌, false, sym, ap}
use Rattle.kr_calls.specs.Arguments.{word, long, has_other}
use Rattle.kr_calls.specs.Decoding.{linkat_with, link_flags}
use Rattle.kr_calls.proofs.TwoTextLemmas.{accepted, failed, may_want}
use Rattle.kr_calls.proofs.rows.names.linkat.Goals as goal

pub returns-in-Ok-clause-decoded : goal.returns-in-Ok-clause-decoded
returns-in-Ok-clause-decoded g c =
    let passed : has_other (word c.args.regs.now 4) link_flags ≡ false = ap (λ w. has_other w link_flags) (sym c.word.ensures) ∙ sym c.has_other_link_flag.ensures ∙ c.if-has_other_link_flag.false in
    accepted _ (long c.args.regs.now 1) _ (long c.args.regs.now 3) _ (linkat_with c.args.regs.now) c.args.mem.now c.two_texts.new.mem c.in-Ok.old c.in-Ok.new c.linkat_with.result passed c.long.ensures c.long-2.ensures c.linkat_with.ensures c.in-Ok.ensures.decoded

pub returns-in-Err-clause-decoded : goal.returns-in-Err-clause-decoded
returns-in-Err-clause-decoded g c =
    let passed : has_other (word c.args.regs.now 4) link_flags ≡ false = ap (λ w. has_other w link_flags) (sym c.word.ensures) ∙ sym c.has_other_link_flag.ensures ∙ c.if-has_other_link_flag.false in
    failed _ (long c.args.regs.now 1) _ (long c.args.regs.now 3) _ (linkat_with c.args.regs.now) c.args.mem.now c.two_texts.new.mem c.in-Err.fault passed c.long.ensures c.long-2.ensures c.in-Err.ensures.decoded

pub returns-in-Err-clause-wanting : goal.returns-in-Err-clause-wanting
returns-in-Err-clause-wanting g c =
    let passed : has_other (word c.args.regs.now 4) link_flags ≡ false = ap (λ w. has_other w link_flags) (sym c.word.ensures) ∙ sym c.has_other_link_flag.ensures ∙ c.if-has_other_link_flag.false in
    may_want _ (long c.args.regs.now 1) (long c.args.regs.now 3) (linkat_with c.args.regs.now) _ passed
