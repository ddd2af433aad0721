use Rattle.kr_ops.proofs.kr_files.ServedLemmas.{served-new}
use Rattle.calls_tests.proofs.guest.Guest.new.Goals as goal

pub invariant_of-result : goal.invariant_of-result
invariant_of-result c = served-new c.new.result c.new-2.result c.new.ensures c.new-2.ensures
