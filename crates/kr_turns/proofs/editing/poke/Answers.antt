use Rattle.std.proofs.Common.{false, length, sym, ap, subst, ◌≡◌, ◌∙◌}
use Rattle.std.specs.Prelude.{IsErrOf, ◌↔◌}
use Rattle.std.proofs.lemmas.Result.{on_ok_weaker}
use Rattle.kr_steps.specs.rv_mem.Memory.{Memory, with_pages}
use Rattle.kr_steps.specs.rv_mem.Pages.{allows_all, written}
use Rattle.kr_steps.specs.rv_mem.declared.fault.StoreFault.TheVariants.{BadAddress}
use Rattle.kr_steps.specs.rv_mem.declared.rights.Use.TheVariants.{Write}
use Rattle.kr_steps.specs.kr_model.State.{Image}
use Rattle.kr_hostview.specs.kr_ops.Meaning.{meaning}
use Rattle.kr_hostview.proofs.kr_ops.OpeningLemmas.{not-living}
use Rattle.kr_steps.proofs.ComputingLemmas.{changed_at}
use Rattle.kr_turns.proofs.EditingLemmas.{becomes, image-here, on-err, runs-on, same-here, write-like}
use Rattle.kr_turns.proofs.editing.poke.Goals as goal

pub unreachable-requires : goal.unreachable-requires
unreachable-requires g c = not-living c.args.state.now c.args.pid (c.index_of.ensures.none c.in_default.is) c.requires.lives

pub returns-clause-bad : goal.returns-clause-bad
returns-clause-bad g c =
    subst (λ (i : Image). IsErrOf c.write.result BadAddress ↔ (allows_all i.memory.pages c.args.at (length c.args.b.now) Write ≡ false)) (sym (image-here c.args.state.now c.args.pid c.in-Some.k c.index_mut-process.result.now c.requires.sound c.in-Some.ensures.some c.index_mut-process.ensures.value)) c.write.ensures.bad

pub returns-clause-after : goal.returns-clause-after
returns-clause-after g c =
    let p = c.index_mut-process.result.now in
    on_ok_weaker c.write.result
    (λ h.
    ap (λ (m : Memory). meaning (changed_at c.args.state.now c.args.pid c.in-Some.k c.index_mut-process.result.now c.requires.sound c.in-Some.ensures.some c.index_mut-process.ensures.value p.regs m p.waits)) h
    ∙ becomes c.args.state.now c.args.pid c.in-Some.k c.index_mut-process.result.now c.requires.sound c.in-Some.ensures.some c.index_mut-process.ensures.value (λ (i : Image). record { regs = i.regs; memory = with_pages i.memory (written i.memory.pages c.args.at c.args.b.now) }))
    c.write.ensures.ok

pub returns-clause-err : goal.returns-clause-err
returns-clause-err g c =
    let p = c.index_mut-process.result.now in
    on-err c.write.result (λ h. ap (λ (m : Memory). meaning (changed_at c.args.state.now c.args.pid c.in-Some.k c.index_mut-process.result.now c.requires.sound c.in-Some.ensures.some c.index_mut-process.ensures.value p.regs m p.waits)) h ∙ same-here c.args.state.now c.args.pid c.in-Some.k c.index_mut-process.result.now c.requires.sound c.in-Some.ensures.some c.index_mut-process.ensures.value) c.write.ensures.err

pub returns-clause-runs : goal.returns-clause-runs
returns-clause-runs g c =
    let p = c.index_mut-process.result.now in
    runs-on c.args.state.now c.args.pid c.in-Some.k c.index_mut-process.result.now c.requires.sound c.in-Some.ensures.some c.index_mut-process.ensures.value p.regs c.write.new.self (write-like c.write.result p.mem c.write.new.self c.args.at c.args.b.now c.write.ensures.ok c.write.ensures.err)
