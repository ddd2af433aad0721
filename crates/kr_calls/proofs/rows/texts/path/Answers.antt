use Rattle.std.proofs.Common.{◌≡◌, ◌∙◌, Err, sym, ap, subst}
use Rattle.kr_calls.specs.Decodes.{Decodes}
use Rattle.kr_calls.specs.Decoding.{text_read}
use Rattle.kr_calls.proofs.TextLemmas.{text_decoded, answered}
use Rattle.kr_calls.proofs.rows.texts.path.Goals as goal

pub returns-in-Ok-clause-decoded : goal.returns-in-Ok-clause-decoded
returns-in-Ok-clause-decoded g c =
    let whole = text_decoded c.args.may_be_empty c.args.at c.args.mem.now c.text_at.new.self c.text_at.result c.text_at.ensures.text c.text_at.ensures.after in
    let answer : answered c.args.may_be_empty c.text_at.result ≡ c.named.result = ap (answered c.args.may_be_empty) c.in-Ok.is ∙ sym c.named.ensures in
    subst (λ r. Decodes r (text_read c.args.may_be_empty c.args.at) c.args.mem.now c.text_at.new.self) answer whole

pub returns-in-Err-clause-decoded : goal.returns-in-Err-clause-decoded
returns-in-Err-clause-decoded g c =
    let whole = text_decoded c.args.may_be_empty c.args.at c.args.mem.now c.text_at.new.self c.text_at.result c.text_at.ensures.text c.text_at.ensures.after in
    let answer : answered c.args.may_be_empty c.text_at.result ≡ Err c.from.result = ap (answered c.args.may_be_empty) c.in-Err.is ∙ ap Err (sym c.from.ensures) in
    subst (λ r. Decodes r (text_read c.args.may_be_empty c.args.at) c.args.mem.now c.text_at.new.self) answer whole
