use Rattle.std.proofs.Common.{sym, ap, ◌∙◌}
use Rattle.std.specs.Option.{option_and_then}
use Rattle.law_lawful.specs.kr_files.Descriptors.{Named}
use Rattle.law_lawful.specs.kr_files.Files.{file_at}
use Rattle.kr_ops.proofs.AskLemmas.{opened-same}
use Rattle.kr_ops.proofs.ChangeLemmas.{named-nowhere}
use Rattle.kr_ops.proofs.state.State.opened.Goals as goal

pub returns-in-Some : goal.returns-in-Some
returns-in-Some g c = c.get.ensures.value ∙ opened-same c.args.self.now c.args.pid c.in-Some.k c.index.result.now c.requires c.in-Some.ensures.some c.index.ensures c.args.fd

pub returns-in-None : goal.returns-in-None
returns-in-None g c = sym (ap (option_and_then (λ (x : Named). file_at c.args.self.now.files.table x.number)) (named-nowhere c.args.self.now c.args.pid c.args.fd (c.index_of.ensures.none c.in-None.is)))
