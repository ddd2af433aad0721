use Rattle.std.proofs.Common.{◌≡◌, true, false, ap, ◌∙◌, length}
use Rattle.std.proofs.lemmas.Result.{on_ok_weaker, on_err_weaker}
use Rattle.kr_ops.specs.rv_mem.Memory.{Memory, after_read}
use Rattle.kr_ops.specs.rv_mem.Pages.{allows_all, bytes_from}
use Rattle.kr_ops.specs.rv_mem.declared.rights.Use.TheVariants.{Read}
use Rattle.kr_ops.proofs.OpeningLemmas.{not-living}
use Rattle.kr_seen.proofs.UsingLemmas.{allowed-where-ok, as-it-was, memory-at, on-ok-both, reads-now, refused-where-err}
use Rattle.kr_seen.proofs.caller.read_into.Goals as goal

pub unreachable-requires : goal.unreachable-requires
unreachable-requires g c = not-living c.args.state.now c.args.pid (c.index_of.ensures.none c.in_default.is) c.requires.lives

pub returns-clause-ok : goal.returns-clause-ok
returns-clause-ok g c =
    let p = c.index_mut.result.now in
    let n = length c.args.into.now in
    let allowed = allows_all p.mem.pages c.args.at n Read ≡ true in
    let bytes = c.read.new.into ≡ bytes_from p.mem.pages c.args.at n in
    let after = c.read.new.self ≡ after_read p.mem c.args.at n in
    on_ok_weaker c.read.result
    (λ (h : allowed × (bytes × after)). reads-now c.args.state.now c.args.pid c.in-Some.k p c.requires.sound c.in-Some.ensures.some c.index_mut.ensures.value c.read.new.self c.args.at n c.read.new.into c.requires.lives h.0 h.1.0 h.1.1)
    (on-ok-both c.read.result allowed (bytes × after) (allowed-where-ok c.read.result (allows_all p.mem.pages c.args.at n Read) c.read.ensures.when)
    (on-ok-both c.read.result bytes after c.read.ensures.bytes c.read.ensures.after))

pub returns-clause-bad : goal.returns-clause-bad
returns-clause-bad g c =
    let p = c.index_mut.result.now in
    let n = length c.args.into.now in
    on_err_weaker c.read.result
    (λ (h : allows_all p.mem.pages c.args.at n Read ≡ false). ap (λ (m : Memory). allows_all m.pages c.args.at n Read) (memory-at c.args.state.now c.args.pid c.in-Some.k p c.requires.sound c.in-Some.ensures.some c.index_mut.ensures.value) ∙ h)
    (refused-where-err c.read.result (allows_all p.mem.pages c.args.at n Read) c.read.ensures.when)

pub returns-clause-err : goal.returns-clause-err
returns-clause-err g c =
    let p = c.index_mut.result.now in
    on_err_weaker c.read.result
    (λ (h : c.read.new.self ≡ p.mem). as-it-was c.args.state.now c.args.pid c.in-Some.k p c.requires.sound c.in-Some.ensures.some c.index_mut.ensures.value c.read.new.self h)
    c.read.ensures.err
