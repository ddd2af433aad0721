use Rattle.std.proofs.Common.{Err, ap, ◌∙◌, subst}
use Rattle.kr_calls.specs.rv_mem.Actions.{carried_out}
use Rattle.kr_exec.specs.Lists.{Reads, text_at}
use Rattle.kr_exec.proofs.ListLemmas.{answered, text_reads}
use Rattle.kr_exec.proofs.lists.text_at.Goals as goal

pub returns-in-Ok-clause-read : goal.returns-in-Ok-clause-read
returns-in-Ok-clause-read g c =
    subst (λ r. Reads r (carried_out (text_at c.args.at) c.args.mem.now) c.args.mem.now c.text_at.new.self) (ap answered c.in-Ok.is)
    (text_reads c.args.at c.args.mem.now c.text_at.new.self c.text_at.result c.text_at.ensures.text c.text_at.ensures.after)

pub returns-in-Err-BadAddress-clause-read : goal.returns-in-Err-BadAddress-clause-read
returns-in-Err-BadAddress-clause-read g c =
    subst (λ r. Reads r (carried_out (text_at c.args.at) c.args.mem.now) c.args.mem.now c.text_at.new.self) (ap answered (c.in-Err-BadAddress.is ∙ ap Err c.in-Err-BadAddress.field-0-is))
    (text_reads c.args.at c.args.mem.now c.text_at.new.self c.text_at.result c.text_at.ensures.text c.text_at.ensures.after)

pub returns-in-Err-TooLong-clause-read : goal.returns-in-Err-TooLong-clause-read
returns-in-Err-TooLong-clause-read g c =
    subst (λ r. Reads r (carried_out (text_at c.args.at) c.args.mem.now) c.args.mem.now c.text_at.new.self) (ap answered (c.in-Err-TooLong.is ∙ ap Err c.in-Err-TooLong.field-0-is))
    (text_reads c.args.at c.args.mem.now c.text_at.new.self c.text_at.result c.text_at.ensures.text c.text_at.ensures.after)

pub returns-in-Err-NoMemory-clause-read : goal.returns-in-Err-NoMemory-clause-read
returns-in-Err-NoMemory-clause-read g c =
    subst (λ r. Reads r (carried_out (text_at c.args.at) c.args.mem.now) c.args.mem.now c.text_at.new.self) (ap answered (c.in-Err-NoMemory.is ∙ ap Err c.in-Err-NoMemory.field-0-is))
    (text_reads c.args.at c.args.mem.now c.text_at.new.self c.text_at.result c.text_at.ensures.text c.text_at.ensures.after)
