use Rattle.std.proofs.Common.{slice_set}
use Rattle.kr_steps.specs.kr_model.State.{Image}
use Rattle.kr_hostview.proofs.kr_ops.OpeningLemmas.{not-living}
use Rattle.kr_turns.proofs.EditingLemmas.{becomes, runs-on, untouched}
use Rattle.kr_turns.proofs.editing.set_register.Goals as goal

pub unreachable-requires : goal.unreachable-requires
unreachable-requires g c = not-living c.args.state.now c.args.pid (c.index_of.ensures.none c.in_default.is) c.requires.caller.lives

pub returns-clause-set : goal.returns-clause-set
returns-clause-set g c =
    becomes c.args.state.now c.args.pid c.in-Some.at c.index_mut-process.result.now c.requires.caller.sound c.in-Some.ensures.some c.index_mut-process.ensures.value
    (λ (i : Image). record { regs = record { x = slice_set i.regs.x c.args.k c.args.v; pc = i.regs.pc }; memory = i.memory })

pub returns-clause-runs : goal.returns-clause-runs
returns-clause-runs g c =
    let p = c.index_mut-process.result.now in
    runs-on c.args.state.now c.args.pid c.in-Some.at p c.requires.caller.sound c.in-Some.ensures.some c.index_mut-process.ensures.value (record { x = slice_set p.regs.x c.args.k c.args.v; pc = p.regs.pc }) p.mem (untouched p.mem)
