use Rattle.std.proofs.Common.{get_or, sym, ap}
use Rattle.kr_steps.specs.kr_model.State.{Image}
use Rattle.kr_hostview.proofs.kr_ops.OpeningLemmas.{not-living}
use Rattle.kr_turns.proofs.EditingLemmas.{image-here}
use Rattle.kr_turns.proofs.editing.register.Goals as goal

pub unreachable-requires : goal.unreachable-requires
unreachable-requires g c = not-living c.args.state.now c.args.pid (c.index_of.ensures.none c.in-None.is) c.requires.caller.lives

pub returns : goal.returns
returns g c = ap (λ (i : Image). get_or i.regs.x c.args.k 0) (sym (image-here c.args.state.now c.args.pid c.in-Some.at c.index.result.now c.requires.caller.sound c.in-Some.ensures.some c.index.ensures))
