use Rattle.std.proofs.Common.{sym, ap, ◌∙◌}
use Rattle.kr_steps.specs.rv_mem.Pages.{allows_all}
use Rattle.kr_steps.specs.kr_model.State.{Image}
use Rattle.kr_hostview.proofs.kr_ops.OpeningLemmas.{not-living}
use Rattle.kr_turns.proofs.EditingLemmas.{image-here}
use Rattle.kr_turns.proofs.editing.can.Goals as goal

pub unreachable-requires : goal.unreachable-requires
unreachable-requires g c = not-living c.args.state.now c.args.pid (c.index_of.ensures.none c.in-None.is) c.requires.lives

pub returns : goal.returns
returns g c =
    c.can.ensures.allowed
    ∙ ap (λ (i : Image). allows_all i.memory.pages c.args.at c.args.n c.args.what) (sym (image-here c.args.state.now c.args.pid c.in-Some.k c.index.result.now c.requires.sound c.in-Some.ensures.some c.index.ensures))
