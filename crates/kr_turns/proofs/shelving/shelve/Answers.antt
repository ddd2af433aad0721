use Rattle.std.proofs.Common.{sym, ap, ◌∙◌}
use Rattle.kr_steps.specs.rv_mem.Layout.{layout_of}
use Rattle.kr_steps.specs.rv_mem.Memory.{Memory}
use Rattle.kr_calm.specs.Shelf.{lacks_shelf_by, shelved_by}
use Rattle.kr_steps.specs.kr_model.State.{Image}
use Rattle.kr_hostview.specs.kr_ops.Meaning.{meaning}
use Rattle.kr_hostview.proofs.kr_ops.OpeningLemmas.{not-living}
use Rattle.kr_steps.proofs.ComputingLemmas.{changed_at}
use Rattle.kr_turns.proofs.EditingLemmas.{becomes, image-here, runs-on}
use Rattle.kr_turns.proofs.ShelfLemmas.{shelf-layout}
use Rattle.kr_turns.proofs.shelving.shelve.Goals as goal

pub unreachable-requires : goal.unreachable-requires
unreachable-requires g c = not-living c.args.state.now c.args.pid (c.index_of.ensures.none c.in_default.is) c.requires.lives

pub returns-clause-marks : goal.returns-clause-marks
returns-clause-marks g c =
    let p = c.index_mut-process.result.now in
    ap (λ (m : Memory). meaning (changed_at c.args.state.now c.args.pid c.in-Some.k p c.requires.sound c.in-Some.ensures.some c.index_mut-process.ensures.value p.regs m p.waits)) c.mark_shelf-lacks.ensures.marks
    ∙ becomes c.args.state.now c.args.pid c.in-Some.k p c.requires.sound c.in-Some.ensures.some c.index_mut-process.ensures.value (λ (i : Image). record { regs = i.regs; memory = shelved_by g.row.M i.regs i.memory })

pub returns-clause-lacks : goal.returns-clause-lacks
returns-clause-lacks g c =
    let p = c.index_mut-process.result.now in
    c.mark_shelf-lacks.ensures.lacks
    ∙ ap (λ (i : Image). lacks_shelf_by g.row.M i.regs i.memory) (sym (image-here c.args.state.now c.args.pid c.in-Some.k p c.requires.sound c.in-Some.ensures.some c.index_mut-process.ensures.value))

pub returns-clause-runs : goal.returns-clause-runs
returns-clause-runs g c =
    let p = c.index_mut-process.result.now in
    runs-on c.args.state.now c.args.pid c.in-Some.k p c.requires.sound c.in-Some.ensures.some c.index_mut-process.ensures.value p.regs c.mark_shelf-lacks.new.mem
    (λ whole placed. record { whole = c.can-can.ensures.whole; placed = c.can-can.ensures.placed; layout = ap (λ (m : Memory). layout_of m.pages) c.mark_shelf-lacks.ensures.marks ∙ shelf-layout g.row.M p.regs p.mem })
