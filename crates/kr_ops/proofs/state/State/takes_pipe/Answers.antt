use Rattle.std.proofs.Common.{sym, ap, ◌∙◌, false, Option}
use Rattle.std.specs.Option.{option_map_or}
use Rattle.law_lawful.specs.kr_files.Files.{takes_pipe}
use Rattle.law_lawful.specs.kr_model.State.{Image, Process}
use Rattle.kr_ops.proofs.ListLemmas.{none-found}
use Rattle.kr_ops.proofs.OpeningLemmas.{takes-pipe}
use Rattle.kr_ops.proofs.state.State.takes_pipe.Goals as goal

pub returns-in-Some : goal.returns-in-Some
returns-in-Some g c = c.takes_pipe.ensures ∙ sym (takes-pipe c.args.self.now c.args.pid c.in-Some.k c.index.result.now c.requires c.in-Some.ensures.some c.index.ensures)

pub returns-in-None : goal.returns-in-None
returns-in-None g c =
    sym (ap (λ (o : Option (Process _ Image)). option_map_or (λ q. takes_pipe c.args.self.now.files.table q.descs) o false) (none-found c.args.pid c.args.self.now.living.items (c.index_of.ensures.none c.in-None.is)))
