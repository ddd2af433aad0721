use Rattle.std.proofs.Common.{refl, ◌/◌, arith}
use Rattle.law_lawful.specs.pr_base.Page.{page_size}
use Rattle.law_lawful.specs.kr_model.Applied.{images, with_image}
use Rattle.law_lawful.specs.kr_model.Change.{UnmapPages}
use Rattle.kr_ops.proofs.ChangeLemmas.{nobody-changed}
use Rattle.kr_ops.proofs.PageLemmas.{counted-in, paged-means, room-after}
use Rattle.kr_ops.proofs.ServeLemmas.{kept-names}
use Rattle.kr_ops.proofs.state.State.unmap_pages.Goals as goal

pub unmap-requires : goal.unmap-requires
unmap-requires g c =
    (omega arith, (c.requires.aligned, (c.requires.below, counted-in c.args.self.now.living.items c.in-Some.k c.args.self.now.room c.index_mut.result.now c.requires.sound.served.room c.in-Some.ensures.some.within c.index_mut.ensures.value)))

pub returns-in-Some-clause-makes : goal.returns-in-Some-clause-makes
returns-in-Some-clause-makes g c = λ mounts.
    paged-means c.args.self.now c.args.pid c.in-Some.k c.index_mut.result.now c.unmap.new.self (UnmapPages (c.args.at / page_size) c.args.pages) c.requires.sound c.in-Some.ensures.some c.index_mut.ensures.value c.unmap.ensures.pages

pub returns-in-Some-clause-served : goal.returns-in-Some-clause-served
returns-in-Some-clause-served g c =
    let s = c.args.self.now in
    let within = c.in-Some.ensures.some.within in
    record {
      files = kept-names s c.requires.sound.served c.in-Some.k c.index_mut.result.now _ within c.index_mut.ensures.value refl;
      room = room-after s.living.items c.in-Some.k s.room c.unmap.new.room c.index_mut.result.now _ c.requires.sound.served.room within c.index_mut.ensures.value c.unmap.ensures.room;
    }

pub returns-in_default-clause-makes : goal.returns-in_default-clause-makes
returns-in_default-clause-makes g c = λ mounts.
    nobody-changed c.args.self.now c.args.pid (with_image (images.paged (UnmapPages (c.args.at / page_size) c.args.pages))) (c.index_of.ensures.none c.in_default.is)
