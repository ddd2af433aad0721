use Rattle.std.proofs.Common.{◌≡◌, true, false, sym, subst, length}
use Rattle.std.specs.Prelude.{◌↔◌, IsErrOf}
use Rattle.std.proofs.lemmas.Result.{on_ok_weaker, on_err_weaker}
use Rattle.kr_ops.specs.rv_mem.Memory.{Memory, with_pages}
use Rattle.kr_ops.specs.rv_mem.Pages.{allows_all, written}
use Rattle.kr_ops.specs.rv_mem.declared.fault.StoreFault.TheVariants.{BadAddress}
use Rattle.kr_ops.specs.rv_mem.declared.rights.Use.TheVariants.{Write}
use Rattle.kr_ops.proofs.OpeningLemmas.{not-living}
use Rattle.kr_seen.proofs.UsingLemmas.{allowed-unless, as-it-was, memory-at, on-ok-both, writes-now}
use Rattle.kr_seen.proofs.caller.write.Goals as goal

pub unreachable-requires : goal.unreachable-requires
unreachable-requires g c = not-living c.args.state.now c.args.pid (c.index_of.ensures.none c.in_default.is) c.requires.lives

pub returns-clause-ok : goal.returns-clause-ok
returns-clause-ok g c =
    let p = c.index_mut.result.now in
    let n = length c.args.bytes.now in
    let allowed = allows_all p.mem.pages c.args.at n Write ≡ true in
    let after = c.write.new.self ≡ with_pages p.mem (written p.mem.pages c.args.at c.args.bytes.now) in
    on_ok_weaker c.write.result
    (λ (h : allowed × after). writes-now c.args.state.now c.args.pid c.in-Some.k p c.requires.sound c.in-Some.ensures.some c.index_mut.ensures.value c.write.new.self c.args.at c.args.bytes.now c.requires.lives h.0 h.1)
    (on-ok-both c.write.result allowed after (allowed-unless c.write.result BadAddress (allows_all p.mem.pages c.args.at n Write) c.write.ensures.bad) c.write.ensures.ok)

pub returns-clause-bad : goal.returns-clause-bad
returns-clause-bad g c =
    subst (λ (m : Memory). IsErrOf c.write.result BadAddress ↔ (allows_all m.pages c.args.at (length c.args.bytes.now) Write ≡ false))
    (sym (memory-at c.args.state.now c.args.pid c.in-Some.k c.index_mut.result.now c.requires.sound c.in-Some.ensures.some c.index_mut.ensures.value)) c.write.ensures.bad

pub returns-clause-err : goal.returns-clause-err
returns-clause-err g c =
    let p = c.index_mut.result.now in
    on_err_weaker c.write.result
    (λ (h : c.write.new.self ≡ p.mem). as-it-was c.args.state.now c.args.pid c.in-Some.k p c.requires.sound c.in-Some.ensures.some c.index_mut.ensures.value c.write.new.self h)
    c.write.ensures.err
