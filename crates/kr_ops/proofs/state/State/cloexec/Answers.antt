use Rattle.std.proofs.Common.{sym, ap, ◌∙◌}
use Rattle.std.specs.Option.{option_map}
use Rattle.law_lawful.specs.kr_files.Descriptors.{Named}
use Rattle.kr_ops.proofs.AskLemmas.{cloexec-same}
use Rattle.kr_ops.proofs.ChangeLemmas.{named-nowhere}
use Rattle.kr_ops.proofs.state.State.cloexec.Goals as goal

pub returns-in-Some : goal.returns-in-Some
returns-in-Some g c = c.cloexec.ensures ∙ cloexec-same c.args.self.now c.args.pid c.in-Some.k c.index.result.now c.requires c.in-Some.ensures.some c.index.ensures c.args.fd

pub returns-in-None : goal.returns-in-None
returns-in-None g c = sym (ap (option_map (λ (x : Named). x.cloexec)) (named-nowhere c.args.self.now c.args.pid c.args.fd (c.index_of.ensures.none c.in-None.is)))
