use Rattle.std.proofs.Common.{◌∙◌, Some, set, ap, arith}
use Rattle.std.specs.FinMap as map
use Rattle.std.proofs.lemmas.List.{length-set}
use Rattle.kr_files.proofs.AnswerLemmas.{on_error}
use Rattle.kr_files.proofs.SlotLemmas.{slots-same}
use Rattle.kr_files.proofs.DescriptorLemmas.{put_in, put_over}
use Rattle.kr_files.proofs.descs.Descs.claim_pair.Goals as goal

pub returns-in_err-widen-clause-err : goal.returns-in_err-widen-clause-err
returns-in_err-widen-clause-err c =
    on_error c.from_residual.result _ (slots-same c.self.inside.list.items c.widen.new.list.items c.widen.ensures.same ∙ c.self.view_is)

pub returns-clause-ok : goal.returns-clause-ok
returns-clause-ok c =
    let wide = c.in_ok-widen.ensures.ok in
    put_over (set c.widen.new.list.items c.args.first (Some c.unnamed.result)) (map.insert c.args.self.now c.args.first c.unnamed.result) c.args.second c.unnamed-2.result
    (put_in c.self.inside.list.items c.widen.new.list.items c.args.self.now c.args.first c.unnamed.result c.self.view_is c.widen.ensures.same (omega arith))
    (omega (arith, length-set c.widen.new.list.items c.args.first (Some c.unnamed.result)))
    ∙ ap (λ x. map.insert (map.insert c.args.self.now c.args.first x) c.args.second c.unnamed-2.result) c.unnamed.ensures
    ∙ ap (map.insert _ c.args.second) c.unnamed-2.ensures
