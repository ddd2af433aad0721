use Rattle.std.proofs.Common.{Option, sym, ap, ◌∙◌}
use Rattle.std.specs.Option.{option_map_or}
use Rattle.elf_load.specs.rv_mem.Memory.{Memory}
use Rattle.kr_perform.specs.kr_model.State as model
use Rattle.kr_perform.proofs.kr_ops.ListLemmas.{none-found}
use Rattle.kr_perform.specs.kr_seen.Carrying.{no_memory}
use Rattle.kr_perform.proofs.kr_seen.UsingLemmas.{memory-at}
use Rattle.kr_execve.proofs.marks.marks_read.Goals as goal

pub returns-in-Some : goal.returns-in-Some
returns-in-Some g c =
    c.mark_was_read.ensures
    ∙ sym (ap (λ (m : Memory). m.read_marked) (memory-at c.args.state.now c.args.pid c.in-Some.k c.index.result.now c.requires c.in-Some.ensures.some c.index.ensures))

pub returns-in-None : goal.returns-in-None
returns-in-None g c =
    sym (ap (λ (o : Option (model.Process g.row.T.Denot model.Image)). (option_map_or (λ (p : model.Process g.row.T.Denot model.Image). p.image.memory) o no_memory).read_marked) (none-found c.args.pid c.args.state.now.living.items (c.index_of.ensures.none c.in-None.is)))
