use Rattle.std.proofs.Common.{rules}
use Rattle.std.specs.Prelude.{◌==◌, not}
use Rattle.std.proofs.lemmas.Fn.{filter_same}
use Rattle.kr_core.specs.declared.paused.Paused.{Paused}
use Rattle.kr_core.proofs.paused.let_run.Goals as goal

pub returns : goal.returns
returns c = filter_same _ (λ (p : Paused). not (p.pid == c.args.pid)) _ (λ x b f' k. search rules) _ _ c.retain.ensures.filtered
