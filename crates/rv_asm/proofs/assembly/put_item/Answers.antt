use Rattle.std.proofs.Common.{append_assoc, rules}
use Rattle.std.proofs.lemmas.Result.{IfOk-equal}
use Rattle.rv_asm.proofs.assembly.put_item.Goals as goal

pub returns-in_ok-put_word-in-Address : goal.returns-in_ok-put_word-in-Address
returns-in_ok-put_word-in-Address c = search (rules, IfOk-equal, append_assoc)
