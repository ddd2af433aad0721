use Rattle.std.proofs.Common.{drop}
use Rattle.kr_ops.specs.kr_files.Files.{pipe_after_read}
use Rattle.kr_ops.proofs.kr_files.ServedLemmas.{served-bytes, served-if_ok}
use Rattle.calls_tests.proofs.guest.Guest.read.Goals as goal

pub invariant_of-self : goal.invariant_of-self
invariant_of-self c =
    served-if_ok c.self.inside.files c.self.inside.descs (λ _. 0) c.self.invariant c.pipe_read.new.self c.pipe_read.result (pipe_after_read c.args.pipe c.args.n)
    (served-bytes c.self.inside.files c.self.inside.descs (λ _. 0) c.self.invariant c.args.pipe (drop c.args.n))
    c.pipe_read.ensures.after c.pipe_read.ensures.err
