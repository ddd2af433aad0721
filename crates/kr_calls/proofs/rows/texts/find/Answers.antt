use Rattle.std.proofs.Common.{◌∙◌, Ok, Err, ap}
use Rattle.kr_calls.proofs.TwoTextLemmas.{finds, told_by, told_some, never_wants}
use Rattle.kr_calls.proofs.rows.texts.find.Goals as goal

pub unreachable-requires : goal.unreachable-requires
unreachable-requires g c =
    never_wants c.args.mem.now.pages c.args.at 4096 c.text_size.result c.text_size.ensures.size (c.in-Err-NoMemory.is ∙ ap Err c.in-Err-NoMemory.field-0-is)

pub returns-in-Ok-eq0-clause-found : goal.returns-in-Ok-eq0-clause-found
returns-in-Ok-eq0-clause-found g c =
    finds c.args.at c.args.mem.now c.text_size.new.self c.text_size.result _ c.text_size.ensures.size c.text_size.ensures.after
    (ap told_by (c.in-Ok-eq0.is ∙ ap Ok c.in-Ok-eq0.field-0-test))

pub returns-in-Ok-clause-found : goal.returns-in-Ok-clause-found
returns-in-Ok-clause-found g c =
    finds c.args.at c.args.mem.now c.text_size.new.self c.text_size.result _ c.text_size.ensures.size c.text_size.ensures.after
    (ap told_by c.in-Ok.is ∙ told_some c.in-Ok._size c.in-Ok._size-test.1)

pub returns-in-Err-BadAddress-clause-found : goal.returns-in-Err-BadAddress-clause-found
returns-in-Err-BadAddress-clause-found g c =
    finds c.args.at c.args.mem.now c.text_size.new.self c.text_size.result _ c.text_size.ensures.size c.text_size.ensures.after
    (ap told_by (c.in-Err-BadAddress.is ∙ ap Err c.in-Err-BadAddress.field-0-is))

pub returns-in-Err-TooLong-clause-found : goal.returns-in-Err-TooLong-clause-found
returns-in-Err-TooLong-clause-found g c =
    finds c.args.at c.args.mem.now c.text_size.new.self c.text_size.result _ c.text_size.ensures.size c.text_size.ensures.after
    (ap told_by (c.in-Err-TooLong.is ∙ ap Err c.in-Err-TooLong.field-0-is))
