use Rattle.std.proofs.Common.{length, sym, ap, subst, ◌≡◌, ◌∙◌}
use Rattle.std.specs.Prelude.{IsOk, IsTrue, OnOk, ◌↔◌}
use Rattle.std.proofs.lemmas.Result.{on_ok_weaker}
use Rattle.kr_steps.specs.rv_mem.Memory.{Memory, after_read}
use Rattle.kr_steps.specs.rv_mem.Pages.{allows_all, bytes_from}
use Rattle.kr_steps.specs.kr_model.State.{Image}
use Rattle.kr_hostview.specs.kr_ops.Meaning.{meaning}
use Rattle.kr_hostview.proofs.kr_ops.OpeningLemmas.{not-living}
use Rattle.kr_steps.proofs.ComputingLemmas.{changed_at}
use Rattle.kr_turns.proofs.EditingLemmas.{becomes, image-here, on-err, read-like, runs-on, same-here}
use Rattle.kr_turns.proofs.editing.peek.Goals as goal

pub unreachable-requires : goal.unreachable-requires
unreachable-requires g c = not-living c.args.state.now c.args.pid (c.index_of.ensures.none c.in_default.is) c.requires.lives

pub returns-clause-when : goal.returns-clause-when
returns-clause-when g c =
    subst (λ (i : Image). IsOk c.read.result ↔ IsTrue (allows_all i.memory.pages c.args.at (length c.args.into.now) c.args.what)) (sym (image-here c.args.state.now c.args.pid c.in-Some.k c.index_mut-process.result.now c.requires.sound c.in-Some.ensures.some c.index_mut-process.ensures.value)) c.read.ensures.when

pub returns-clause-bytes : goal.returns-clause-bytes
returns-clause-bytes g c =
    subst (λ (i : Image). OnOk c.read.result (c.read.new.into ≡ bytes_from i.memory.pages c.args.at (length c.args.into.now))) (sym (image-here c.args.state.now c.args.pid c.in-Some.k c.index_mut-process.result.now c.requires.sound c.in-Some.ensures.some c.index_mut-process.ensures.value)) c.read.ensures.bytes

pub returns-clause-after : goal.returns-clause-after
returns-clause-after g c =
    let p = c.index_mut-process.result.now in
    on_ok_weaker c.read.result
    (λ h.
    ap (λ (m : Memory). meaning (changed_at c.args.state.now c.args.pid c.in-Some.k c.index_mut-process.result.now c.requires.sound c.in-Some.ensures.some c.index_mut-process.ensures.value p.regs m p.waits)) h
    ∙ becomes c.args.state.now c.args.pid c.in-Some.k c.index_mut-process.result.now c.requires.sound c.in-Some.ensures.some c.index_mut-process.ensures.value (λ (i : Image). record { regs = i.regs; memory = after_read i.memory c.args.at (length c.args.into.now) }))
    c.read.ensures.after

pub returns-clause-err : goal.returns-clause-err
returns-clause-err g c =
    let p = c.index_mut-process.result.now in
    on-err c.read.result (λ h. ap (λ (m : Memory). meaning (changed_at c.args.state.now c.args.pid c.in-Some.k c.index_mut-process.result.now c.requires.sound c.in-Some.ensures.some c.index_mut-process.ensures.value p.regs m p.waits)) h ∙ same-here c.args.state.now c.args.pid c.in-Some.k c.index_mut-process.result.now c.requires.sound c.in-Some.ensures.some c.index_mut-process.ensures.value) c.read.ensures.err

pub returns-clause-runs : goal.returns-clause-runs
returns-clause-runs g c =
    let p = c.index_mut-process.result.now in
    runs-on c.args.state.now c.args.pid c.in-Some.k c.index_mut-process.result.now c.requires.sound c.in-Some.ensures.some c.index_mut-process.ensures.value p.regs c.read.new.self (read-like c.read.result p.mem c.read.new.self c.args.at (length c.args.into.now) c.read.ensures.after c.read.ensures.err)
