use Rattle.std.proofs.Common.{rules}
use Rattle.std.specs.Prelude.{◌==◌, not}
use Rattle.std.proofs.lemmas.Fn.{filter_same}
use Rattle.kr_ops.specs.declared.state.EndedProcess.{EndedProcess}
use Rattle.kr_ops.proofs.ending.forget_ended.Goals as goal

pub returns : goal.returns
returns c = filter_same _ (λ (e : EndedProcess). not (e.pid == c.args.pid)) _ (λ x b f' k. search rules) _ _ c.retain.ensures.filtered
