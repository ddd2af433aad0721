use Rattle.std.proofs.Common.{sym, ap, ◌∙◌}
use Rattle.kr_ops.specs.rv_mem.Memory.{Memory}
use Rattle.kr_ops.specs.rv_mem.Pages.{allows_all}
use Rattle.kr_ops.proofs.OpeningLemmas.{not-living}
use Rattle.kr_seen.proofs.UsingLemmas.{memory-at}
use Rattle.kr_seen.proofs.caller.may_use.Goals as goal

pub unreachable-requires : goal.unreachable-requires
unreachable-requires g c = not-living c.args.state.now c.args.pid (c.index_of.ensures.none c.in-None.is) c.requires.lives

pub returns : goal.returns
returns g c =
    c.can.ensures.allowed
    ∙ ap (λ (m : Memory). allows_all m.pages c.args.at c.args.n c.args.what) (sym (memory-at c.args.state.now c.args.pid c.in-Some.k c.index.result.now c.requires.sound c.in-Some.ensures.some c.index.ensures))
