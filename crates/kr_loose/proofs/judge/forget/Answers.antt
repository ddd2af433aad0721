use Rattle.std.proofs.Common.{rules}
use Rattle.std.specs.Prelude.{◌==◌, not}
use Rattle.std.proofs.lemmas.Fn.{filter_same}
use Rattle.kr_loose.specs.declared.judge.Counted.{Counted}
use Rattle.kr_loose.proofs.judge.forget.Goals as goal

pub returns : goal.returns
returns c = filter_same _ (λ (p : Counted). not (p.pid == c.args.pid)) _ (λ x b f' k. search rules) _ _ c.retain.ensures.filtered
