use Rattle.std.proofs.Common.{◌∙◌, arith}
use Rattle.kr_files.proofs.SlotLemmas.{slots-same}
use Rattle.kr_files.proofs.DescriptorLemmas.{put_in}
use Rattle.kr_files.proofs.AnswerLemmas.{on_error}
use Rattle.kr_files.proofs.descs.Descs.put.Goals as goal

pub returns-in_err-widen-clause-err : goal.returns-in_err-widen-clause-err
returns-in_err-widen-clause-err c =
    on_error c.from_residual.result _ (slots-same c.self.inside.list.items c.widen.new.list.items c.widen.ensures.same ∙ c.self.view_is)

pub returns-clause-ok : goal.returns-clause-ok
returns-clause-ok c =
    put_in c.self.inside.list.items c.widen.new.list.items c.args.self.now c.args.fd c.args.descriptor c.self.view_is c.widen.ensures.same (omega (arith, c.in_ok-widen.ensures.ok))
