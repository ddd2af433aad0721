use Rattle.std.proofs.Common.{◌≡◌, false}
use Rattle.kr_seen.specs.kr_files.Descriptors.{meanings}
use Rattle.kr_calm.specs.InUse.{any_opened_below}
use Rattle.kr_calm.specs.Questions.{opened_answers}
use Rattle.kr_calm.proofs.uses.any_opened.Given as goal

abbrev pub invariant-loop-fd : goal.invariant-loop-fd
invariant-loop-fd g l = any_opened_below l.fd (opened_answers l.tree l.question) l.files.table (meanings l.descs) ≡ false
