use Rattle.kr_ops.specs.kr_files.Files.{has_reader, pipe_after_write}
use Rattle.kr_ops.specs.kr_files.Pipes.{after_write}
use Rattle.kr_ops.proofs.kr_files.ServedLemmas.{served-bytes, served-if_ok}
use Rattle.calls_tests.proofs.guest.Guest.write.Goals as goal

pub invariant_of-self : goal.invariant_of-self
invariant_of-self c =
    served-if_ok c.self.inside.files c.self.inside.descs (λ _. 0) c.self.invariant c.pipe_write.new.self c.pipe_write.result (pipe_after_write c.args.pipe c.args.b.now)
    (served-bytes c.self.inside.files c.self.inside.descs (λ _. 0) c.self.invariant c.args.pipe (λ bytes. after_write bytes (has_reader c.self.inside.files.table c.args.pipe) c.args.b.now))
    c.pipe_write.ensures.after c.pipe_write.ensures.err
