use Rattle.std.proofs.Common.{refl, ◌≡◌, ◌/◌, arith}
use Rattle.std.specs.Prelude.{◌↔◌, IsErrOf, IsTrue}
use Rattle.std.proofs.lemmas.Result.{on_ok_weaker}
use Rattle.law_lawful.specs.pr_base.Page.{page_size}
use Rattle.law_lawful.specs.rv_mem.Memory.{passes_limit, with_pages}
use Rattle.law_lawful.specs.rv_mem.Pages.{mapped}
use Rattle.law_lawful.specs.rv_mem.declared.fault.MapFault.TheVariants.{Full}
use Rattle.law_lawful.specs.kr_model.Change.{MapPages}
use Rattle.kr_ops.proofs.OpeningLemmas.{not-living}
use Rattle.kr_ops.proofs.PageLemmas.{counted-in, of-process, paged-means, room-either}
use Rattle.kr_ops.proofs.ServeLemmas.{kept-names}
use Rattle.kr_ops.proofs.state.State.map_pages.Goals as goal

pub unreachable-requires : goal.unreachable-requires
unreachable-requires g c = not-living c.args.self.now c.args.pid (c.index_of.ensures.none c.in_default.is) c.requires.caller.lives

pub map-requires : goal.map-requires
map-requires g c =
    (omega arith, (c.requires.aligned, (c.requires.below, counted-in c.args.self.now.living.items c.in-Some.k c.args.self.now.room c.index_mut.result.now c.requires.caller.sound.served.room c.in-Some.ensures.some.within c.index_mut.ensures.value)))

pub returns-clause-full : goal.returns-clause-full
returns-clause-full g c =
    of-process c.args.self.now c.args.pid c.in-Some.k c.index_mut.result.now c.requires.caller.sound c.in-Some.ensures.some c.index_mut.ensures.value
    (λ all m. IsErrOf c.map.result Full ↔ IsTrue (passes_limit all m (mapped m (c.args.at / page_size) c.args.pages c.args.rights))) c.map.ensures.full

pub returns-clause-makes : goal.returns-clause-makes
returns-clause-makes g c =
    let p = c.index_mut.result.now in
    on_ok_weaker c.map.result
    (λ (is : c.map.new.self ≡ with_pages p.mem (mapped p.mem.pages (c.args.at / page_size) c.args.pages c.args.rights)). λ mounts.
    paged-means c.args.self.now c.args.pid c.in-Some.k p c.map.new.self (MapPages (c.args.at / page_size) c.args.pages c.args.rights) c.requires.caller.sound c.in-Some.ensures.some c.index_mut.ensures.value is)
    c.map.ensures.ok

pub returns-clause-served : goal.returns-clause-served
returns-clause-served g c =
    let s = c.args.self.now in
    let within = c.in-Some.ensures.some.within in
    record {
      files = kept-names s c.requires.caller.sound.served c.in-Some.k c.index_mut.result.now _ within c.index_mut.ensures.value refl;
      room = room-either c.map.result s.living.items c.in-Some.k s.room c.map.new.room c.index_mut.result.now c.map.new.self c.requires.caller.sound.served.room within c.index_mut.ensures.value c.map.ensures.room c.map.ensures.err c.map.ensures.err_room;
    }
