use Rattle.std.proofs.Common.{refl, false}
use Rattle.kr_ops.proofs.kr_files.ServedLemmas.{served-pipe}
use Rattle.calls_tests.proofs.guest.Guest.pipe.Goals as goal

pub invariant_of-self : goal.invariant_of-self
invariant_of-self c =
    served-pipe c.self.inside.files c.self.inside.descs (λ _. 0) c.self.invariant c.pipe.new.self c.pipe.new.d c.pipe.result false (λ _ _. refl)
    c.pipe.ensures.lowest c.pipe.ensures.table c.pipe.ensures.gives c.pipe.ensures.err c.pipe.ensures.err_descs
