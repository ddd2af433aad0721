use Rattle.std.proofs.Common.{◌≡◌, ◌∙◌, false, sym, ap}
use Rattle.kr_calls.specs.Arguments.{word, long, has, has_other}
use Rattle.kr_calls.specs.Decoding.{accepts, fchownat_with, stat_flags}
use Rattle.kr_calls.proofs.TextLemmas.{accepted, failed, may_want}
use Rattle.kr_calls.proofs.rows.names.fchownat.Goals as goal

pub returns-in-Ok-clause-decoded : goal.returns-in-Ok-clause-decoded
returns-in-Ok-clause-decoded g c =
    let passed : has_other (word c.args.regs.now 4) stat_flags ≡ false = ap (λ w. has_other w stat_flags) (sym c.word-flags.ensures) ∙ sym c.has_other_stat_flag.ensures ∙ c.if-has_other_stat_flag.false in
    accepted _ (has (word c.args.regs.now 4) 0x1000) _ (long c.args.regs.now 1) _ (fchownat_with c.args.regs.now) c.args.mem.now c.path.new.mem c.in-Ok.path c.fchownat_with.result passed (c.allows_empty_path-may_be_empty.ensures ∙ ap (λ w. has w 0x1000) c.word-flags.ensures) c.long.ensures c.fchownat_with.ensures c.in-Ok.ensures.decoded

pub returns-in-Err-clause-decoded : goal.returns-in-Err-clause-decoded
returns-in-Err-clause-decoded g c =
    let passed : has_other (word c.args.regs.now 4) stat_flags ≡ false = ap (λ w. has_other w stat_flags) (sym c.word-flags.ensures) ∙ sym c.has_other_stat_flag.ensures ∙ c.if-has_other_stat_flag.false in
    failed _ (has (word c.args.regs.now 4) 0x1000) _ (long c.args.regs.now 1) _ (fchownat_with c.args.regs.now) c.args.mem.now c.path.new.mem c.in-Err.fault passed (c.allows_empty_path-may_be_empty.ensures ∙ ap (λ w. has w 0x1000) c.word-flags.ensures) c.long.ensures c.in-Err.ensures.decoded

pub returns-in-Err-clause-wanting : goal.returns-in-Err-clause-wanting
returns-in-Err-clause-wanting g c =
    let passed : has_other (word c.args.regs.now 4) stat_flags ≡ false = ap (λ w. has_other w stat_flags) (sym c.word-flags.ensures) ∙ sym c.has_other_stat_flag.ensures ∙ c.if-has_other_stat_flag.false in
    may_want _ (has (word c.args.regs.now 4) 0x1000) (long c.args.regs.now 1) (λ path. accepts (fchownat_with c.args.regs.now path)) _ passed
