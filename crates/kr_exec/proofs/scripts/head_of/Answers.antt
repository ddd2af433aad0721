use Rattle.std.proofs.Common.{◌∙◌, ap, arith, take}
use Rattle.kr_exec.proofs.LimitLemmas.{take-least}
use Rattle.kr_exec.proofs.scripts.head_of.Goals as goal

pub returns-clause-head : goal.returns-clause-head
returns-clause-head g c = take-least c.bytes_of-bytes.result.now c.min.result 256 (omega (arith, c.min.ensures)) ∙ ap (take 256) c.bytes_of-bytes.ensures
