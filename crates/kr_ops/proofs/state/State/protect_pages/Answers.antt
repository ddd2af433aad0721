use Rattle.std.proofs.Common.{refl, ◌≡◌, ◌/◌, arith}
use Rattle.std.specs.Prelude.{◌↔◌, IsOk, IsTrue}
use Rattle.std.proofs.lemmas.Result.{on_ok_weaker}
use Rattle.law_lawful.specs.pr_base.Page.{page_size}
use Rattle.law_lawful.specs.rv_mem.Memory.{with_pages}
use Rattle.law_lawful.specs.rv_mem.Pages.{has_pages, protected}
use Rattle.law_lawful.specs.kr_model.Change.{ProtectPages}
use Rattle.kr_ops.proofs.OpeningLemmas.{not-living}
use Rattle.kr_ops.proofs.PageLemmas.{of-process, paged-means, room-changed}
use Rattle.kr_ops.proofs.ServeLemmas.{kept-names}
use Rattle.kr_ops.proofs.state.State.protect_pages.Goals as goal

pub unreachable-requires : goal.unreachable-requires
unreachable-requires g c = not-living c.args.self.now c.args.pid (c.index_of.ensures.none c.in_default.is) c.requires.caller.lives

pub returns-clause-when : goal.returns-clause-when
returns-clause-when g c = of-process c.args.self.now c.args.pid c.in-Some.k c.index_mut.result.now c.requires.caller.sound c.in-Some.ensures.some c.index_mut.ensures.value (λ all m. IsOk c.protect.result ↔ IsTrue (has_pages m (c.args.at / page_size) c.args.pages)) c.protect.ensures.when

pub returns-clause-makes : goal.returns-clause-makes
returns-clause-makes g c =
    let p = c.index_mut.result.now in
    on_ok_weaker c.protect.result
    (λ (is : c.protect.new.self ≡ with_pages p.mem (protected p.mem.pages (c.args.at / page_size) c.args.pages c.args.rights)). λ mounts.
    paged-means c.args.self.now c.args.pid c.in-Some.k p c.protect.new.self (ProtectPages (c.args.at / page_size) c.args.pages c.args.rights) c.requires.caller.sound c.in-Some.ensures.some c.index_mut.ensures.value is)
    c.protect.ensures.ok

pub returns-clause-served : goal.returns-clause-served
returns-clause-served g c =
    let s = c.args.self.now in
    let within = c.in-Some.ensures.some.within in
    record {
      files = kept-names s c.requires.caller.sound.served c.in-Some.k c.index_mut.result.now _ within c.index_mut.ensures.value refl;
      room = room-changed s.living.items c.in-Some.k s.room s.room c.index_mut.result.now _ c.requires.caller.sound.served.room within c.index_mut.ensures.value (omega (arith, c.protect.ensures.count));
    }
