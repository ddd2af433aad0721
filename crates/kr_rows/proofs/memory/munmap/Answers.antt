use Rattle.std.proofs.Common.{◌*◌, ◌/◌, refl, sym, ap, subst, ◌∙◌, [], ◌∷◌}
use Rattle.kr_seen.specs.rv_mem.Memory.{Memory}
use Rattle.kr_seen.specs.rv_mem.Pages.{IsPlaced, unmapped}
use Rattle.kr_seen.specs.kr_model.Change.{ChangePages, UnmapPages}
use Rattle.kr_seen.specs.kr_model.MemoryRows.{page_count}
use Rattle.kr_seen.specs.kr_model.Reply.{answers}
use Rattle.kr_seen.specs.kr_ops.Meaning.{meaning}
use Rattle.kr_seen.proofs.kr_ops.OpeningLemmas.{not-living}
use Rattle.kr_seen.specs.PerformedRows.{memory_of}
use Rattle.kr_rows.proofs.PagingLemmas.{page-at, unmapped-cut}
use Rattle.kr_seen.proofs.PerformLemmas.{by-reply, pages-alike}
use Rattle.kr_seen.proofs.UsingLemmas.{memory-at}
use Rattle.kr_rows.proofs.memory.munmap.Goals as goal

pub unreachable-requires : goal.unreachable-requires
unreachable-requires g c = not-living c.args.state.now c.args.pid (c.index_of.ensures.none c.in_default.is) c.requires.lives

pub returns-clause-performs : goal.returns-clause-performs
returns-clause-performs g c = λ some.
    let s = meaning c.args.state.now in
    let m = (memory_of c.args.pid s).pages in
    let first = c.args.a / 4096 in
    let n = c.within-count.result in
    let at = c.min-at.result * 4096 / 4096 in
    let placed : IsPlaced m = subst (λ (m : Memory). IsPlaced m.pages) (sym (memory-at c.args.state.now c.args.pid c.in-Some.k c.index.result.now c.requires.sound c.in-Some.ensures.some c.index.ensures)) c.within-count.ensures.placed in
    by-reply c.args.pid _ c.args.state.now c.unmap_pages.new.self c.number.result c.requires.sound.pids (answers 0 (ChangePages (UnmapPages first (page_count c.args.len)) ∷ []))
    refl c.number.ensures
    (λ mounts. c.unmap_pages.ensures.makes mounts ∙ pages-alike c.args.pid s c.requires.sound.pids (UnmapPages at n) (UnmapPages first (page_count c.args.len))
    (ap (λ q. unmapped m q n) (page-at c.min-at.result ∙ c.min-at.ensures) ∙ unmapped-cut m first c.page_count.result n c.within-count.ensures.count placed ∙ ap (unmapped m first) c.page_count.ensures))
