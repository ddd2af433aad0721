use Rattle.std.proofs.Common.{refl, ap, subst, ◌∙◌, arith}
use Rattle.elf_load.specs.rv_mem.Memory.{Memory, page_count}
use Rattle.elf_load.specs.rv_mem.Pages.{IsPlaced}
use Rattle.elf_load.proofs.ImageLemmas.{nothing_left}
use Rattle.kr_perform.proofs.kr_ops.OpeningLemmas.{not-living}
use Rattle.kr_execve.proofs.LoadingLemmas.{can-load, has-room, loaded-means, loaded-served, loaded-within}
use Rattle.kr_execve.proofs.loading.replace_image.Goals as goal

pub unreachable-requires : goal.unreachable-requires
unreachable-requires g c = not-living c.args.state.now c.args.pid (c.index_of.ensures.none c.in_default.is) c.requires.caller.lives

pub unmap-requires : goal.unmap-requires
unmap-requires g c =
    let image = c.in_ok-image.image in
    let gives = c.in_ok-image.ensures.gives in (
      omega arith,
      (refl, (omega arith, has-room c.args.state.now c.args.pid c.in-Some.k c.index_mut-process.result.now c.requires.caller.sound c.in-Some.ensures.some c.index_mut-process.ensures.value c.args.plan.now image.regs image.mem image.brk c.image_of.new.room gives.4)),
    )

pub returns : goal.returns
returns g c =
    let s = c.args.state.now in
    let p = c.index_mut-process.result.now in
    let at = c.in-Some.ensures.some in
    let e = c.index_mut-process.ensures.value in
    let plan = c.args.plan.now in
    let image = c.in_ok-image.image in
    let gives = c.in_ok-image.ensures.gives in
    let gone = ap (λ (m : Memory). m.pages) c.unmap.ensures.pages in
    let inside = ap (λ (m : Memory). m.pages) c.drop.view_is in
    let none = ap page_count gone ∙ nothing_left p.mem.pages (subst IsPlaced (inside ∙ gone) c.drop.invariant.0) in (
      loaded-within s c.args.pid c.in-Some.k p c.requires.caller.sound at e plan image.regs image.mem image.brk gives.1 gives.2 gives.3 gives.0,
      can-load s c.args.pid c.in-Some.k p c.requires.caller.sound at e plan image.regs image.mem image.brk gives.1 gives.2 gives.3 gives.0 c.requires.loadable c.in_ok-image.ensures.whole c.in_ok-image.ensures.placed,
      loaded-means s c.args.pid c.in-Some.k p c.requires.caller.sound at e plan image.regs image.mem image.brk gives.1 gives.2 gives.3 c.unmap.new.room,
      loaded-served s c.args.pid c.in-Some.k p c.requires.caller.sound at e plan image.regs image.mem image.brk c.image_of.new.room c.unmap.new.room c.unmap.new.self.pages gives.4 c.unmap.ensures.room none,
    )
