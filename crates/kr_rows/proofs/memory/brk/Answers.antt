use Rattle.std.proofs.Common.{◌≡◌, ◌*◌, ◌/◌, ◌-◌, ◌<◌, ◌≤◌, true, false, Err, IsErrOf, lit<, refl, sym, ap, ◌∙◌, [], ◌∷◌, arith}
use Rattle.kr_seen.specs.rv_mem.Layout.{layout_of}
use Rattle.kr_seen.specs.rv_mem.declared.rights.Rights.{Rights}
use Rattle.kr_seen.specs.rv_mem.declared.fault.MapFault.TheVariants.{Full}
use Rattle.kr_seen.specs.kr_model.Applied.{applied, images}
use Rattle.kr_seen.specs.kr_model.Change.{ChangePages, MapPages, SetBreak, UnmapPages}
use Rattle.kr_seen.specs.kr_model.Known.{known}
use Rattle.kr_seen.specs.kr_model.MemoryRows.{grow, has_page, mapped_among, page_count, passes_limit}
use Rattle.kr_seen.specs.kr_model.Reply.{answers, done}
use Rattle.kr_seen.specs.kr_model.State as model
use Rattle.kr_seen.specs.kr_ops.Meaning.{meaning}
use Rattle.kr_seen.proofs.kr_ops.OpeningLemmas.{not-living}
use Rattle.kr_rows.proofs.BreakLemmas.{break-bounded, break-known, layout-at, start-known}
use Rattle.kr_rows.proofs.PagingLemmas.{below-the-start, grows, grows-by, has_page-same, last-page, limits-for, none-among, ok-not-full, page-at, past-the-end, pids-paged, shrinks, stays-if-full, stays-if-taken}
use Rattle.kr_seen.proofs.PerformLemmas.{by-reply}
use Rattle.kr_rows.proofs.memory.brk.Goals as goal

pub unreachable-requires : goal.unreachable-requires
unreachable-requires g c = not-living c.args.state.now c.args.pid (c.index_of.ensures.none c.in_default.is) c.requires.caller.lives

pub address-requires : goal.address-requires
address-requires g c =
    let p = c.index.result.now in
    let most = break-bounded c.args.state.now c.args.pid c.in-Some.k p c.requires.caller.sound c.in-Some.ensures.some c.index.ensures c.requires.breaks in
    omega arith

pub returns-then-a-index-clause-performs : goal.returns-then-a-index-clause-performs
returns-then-a-index-clause-performs g c = λ some.
    let s = c.args.state.now in
    let k = known model.image_layout c.args.pid (meaning s) in
    let p = c.index.result.now in
    let there = c.in-Some.ensures.some in
    let brk = break-known s c.args.pid c.in-Some.k p c.requires.caller.sound there c.index.ensures in
    let start = start-known s c.args.pid c.in-Some.k c.index-2.result.now c.requires.caller.sound there c.index-2.ensures in
    by-reply c.args.pid _ s s c.address.result c.requires.caller.sound.pids (answers p.brk [])
    (below-the-start k c.args.a (omega arith) ∙ ap (λ n. done n []) brk) c.address.ensures (λ mounts. refl)

pub address-requires-then-a-gt-PAGES_END : goal.address-requires-then-a-gt-PAGES_END
address-requires-then-a-gt-PAGES_END g c =
    let p = c.index.result.now in
    let most = break-bounded c.args.state.now c.args.pid c.in-Some.k p c.requires.caller.sound c.in-Some.ensures.some c.index.ensures c.requires.breaks in
    omega arith

pub returns-then-a-gt-PAGES_END-clause-performs : goal.returns-then-a-gt-PAGES_END-clause-performs
returns-then-a-gt-PAGES_END-clause-performs g c = λ some.
    let s = c.args.state.now in
    let k = known model.image_layout c.args.pid (meaning s) in
    let p = c.index.result.now in
    let there = c.in-Some.ensures.some in
    let brk = break-known s c.args.pid c.in-Some.k p c.requires.caller.sound there c.index.ensures in
    let start = start-known s c.args.pid c.in-Some.k c.index-2.result.now c.requires.caller.sound there c.index-2.ensures in
    by-reply c.args.pid _ s s c.address-then-a-gt-PAGES_END.result c.requires.caller.sound.pids (answers p.brk [])
    (past-the-end k c.args.a (omega arith) c.if-a-gt-PAGES_END.true ∙ ap (λ n. done n []) brk) c.address-then-a-gt-PAGES_END.ensures (λ mounts. refl)

pub overflow_cast-first : goal.overflow_cast-first
overflow_cast-first g c =
    let p = c.index.result.now in
    let most = break-bounded c.args.state.now c.args.pid c.in-Some.k p c.requires.caller.sound c.in-Some.ensures.some c.index.ensures c.requires.breaks in
    let few = last-page p.brk most in
    omega arith

pub unmap_pages-requires : goal.unmap_pages-requires
unmap_pages-requires g c =
    let p = c.index.result.now in
    let most = break-bounded c.args.state.now c.args.pid c.in-Some.k p c.requires.caller.sound c.in-Some.ensures.some c.index.ensures c.requires.breaks in
    let few = last-page p.brk most in
    (lit< tt, (c.requires.caller.sound, (omega arith, omega arith)))

pub set_break-requires : goal.set_break-requires
set_break-requires g c =
    (lit< tt, pids-paged (meaning c.args.state.now) (meaning c.unmap_pages.new.self) c.args.pid (UnmapPages (c.page_count-end.result * 4096 / 4096) (c.page_count-first.result - c.page_count-end.result)) c.requires.caller.sound.pids c.unmap_pages.ensures.makes)

pub returns-then-end-first-clause-performs : goal.returns-then-end-first-clause-performs
returns-then-end-first-clause-performs g c = λ some.
    let s = c.args.state.now in
    let k = known model.image_layout c.args.pid (meaning s) in
    let p = c.index.result.now in
    let there = c.in-Some.ensures.some in
    let brk = break-known s c.args.pid c.in-Some.k p c.requires.caller.sound there c.index.ensures in
    let start = start-known s c.args.pid c.in-Some.k c.index-2.result.now c.requires.caller.sound there c.index-2.ensures in
    let first = c.page_count-first.result in
    let end = c.page_count-end.result in
    let from : page_count k.caller.brk ≡ first = ap page_count brk ∙ sym c.page_count-first.ensures in
    let to : page_count c.args.a ≡ end = sym c.page_count-end.ensures in
    let low : k.caller.brk_start ≤ c.args.a = omega arith in
    let a = c.args.a in
    let least : page_count a ≤ page_count k.caller.brk = omega arith in
    let counted : page_count k.caller.brk - page_count a ≡ first - end = omega arith in
    by-reply c.args.pid _ s c.set_break.new.self c.address-then-end-first.result c.requires.caller.sound.pids (answers a (ChangePages (UnmapPages (end * 4096 / 4096) (first - end)) ∷ SetBreak a ∷ []))
    (shrinks k a low c.if-a-gt-PAGES_END.false least
    ∙ ap (λ q. done a (ChangePages (UnmapPages q (page_count k.caller.brk - page_count a)) ∷ SetBreak a ∷ [])) (to ∙ sym (page-at end))
    ∙ ap (λ n. done a (ChangePages (UnmapPages (end * 4096 / 4096) n) ∷ SetBreak a ∷ [])) counted)
    c.address-then-end-first.ensures
    (λ mounts. c.set_break.ensures.makes mounts ∙ ap (applied images mounts c.args.pid (SetBreak a)) (c.unmap_pages.ensures.makes mounts))

pub returns-then-has_any-clause-performs : goal.returns-then-has_any-clause-performs
returns-then-has_any-clause-performs g c = λ some.
    let s = c.args.state.now in
    let k = known model.image_layout c.args.pid (meaning s) in
    let p = c.index.result.now in
    let there = c.in-Some.ensures.some in
    let brk = break-known s c.args.pid c.in-Some.k p c.requires.caller.sound there c.index.ensures in
    let start = start-known s c.args.pid c.in-Some.k c.index-2.result.now c.requires.caller.sound there c.index-2.ensures in
    let first = c.page_count-first.result in
    let end = c.page_count-end.result in
    let from : page_count k.caller.brk ≡ first = ap page_count brk ∙ sym c.page_count-first.ensures in
    let to : page_count c.args.a ≡ end = sym c.page_count-end.ensures in
    let low : k.caller.brk_start ≤ c.args.a = omega arith in
    let count = end - first in
    let at = first * 4096 / 4096 in
    let more : page_count k.caller.brk < page_count c.args.a = omega arith in
    let counted : page_count c.args.a - page_count k.caller.brk ≡ count = omega arith in
    let placed : page_count k.caller.brk ≡ at = from ∙ sym (page-at first) in
    let grown = grows k c.args.a low c.if-a-gt-PAGES_END.false more ∙ ap (grow k c.args.a) counted in
    let layout = layout-at s c.args.pid c.in-Some.k c.index-3.result.now c.requires.caller.sound there c.index-3.ensures in
    let taken : has_page k.caller.layout (page_count k.caller.brk) count ≡ c.has_any.result =
    ap (λ l. has_page l (page_count k.caller.brk) count) layout ∙ ap (λ q. has_page (layout_of c.index-3.result.now.mem.pages) q count) placed
    ∙ sym (has_page-same (layout_of c.index-3.result.now.mem.pages) at count) ∙ sym c.has_any.ensures in
    by-reply c.args.pid _ s s c.address-then-has_any.result c.requires.caller.sound.pids (answers p.brk [])
    (grown ∙ stays-if-taken k c.args.a count (taken ∙ c.if-has_any.true) ∙ ap (λ n. done n []) brk) c.address-then-has_any.ensures (λ mounts. refl)

pub set_break-requires-in-Ok : goal.set_break-requires-in-Ok
set_break-requires-in-Ok g c =
    (lit< tt, pids-paged (meaning c.args.state.now) (meaning c.map_pages.new.self) c.args.pid (MapPages (c.page_count-first.result * 4096 / 4096) (c.page_count-end.result - c.page_count-first.result) (record { r = true; w = true; x = false })) c.requires.caller.sound.pids c.in-Ok.ensures.makes)

pub returns-in-Ok-clause-performs : goal.returns-in-Ok-clause-performs
returns-in-Ok-clause-performs g c = λ some.
    let s = c.args.state.now in
    let k = known model.image_layout c.args.pid (meaning s) in
    let p = c.index.result.now in
    let there = c.in-Some.ensures.some in
    let brk = break-known s c.args.pid c.in-Some.k p c.requires.caller.sound there c.index.ensures in
    let start = start-known s c.args.pid c.in-Some.k c.index-2.result.now c.requires.caller.sound there c.index-2.ensures in
    let first = c.page_count-first.result in
    let end = c.page_count-end.result in
    let from : page_count k.caller.brk ≡ first = ap page_count brk ∙ sym c.page_count-first.ensures in
    let to : page_count c.args.a ≡ end = sym c.page_count-end.ensures in
    let low : k.caller.brk_start ≤ c.args.a = omega arith in
    let count = end - first in
    let at = first * 4096 / 4096 in
    let more : page_count k.caller.brk < page_count c.args.a = omega arith in
    let counted : page_count c.args.a - page_count k.caller.brk ≡ count = omega arith in
    let placed : page_count k.caller.brk ≡ at = from ∙ sym (page-at first) in
    let grown = grows k c.args.a low c.if-a-gt-PAGES_END.false more ∙ ap (grow k c.args.a) counted in
    let layout = layout-at s c.args.pid c.in-Some.k c.index-3.result.now c.requires.caller.sound there c.index-3.ensures in
    let taken : has_page k.caller.layout (page_count k.caller.brk) count ≡ c.has_any.result =
    ap (λ l. has_page l (page_count k.caller.brk) count) layout ∙ ap (λ q. has_page (layout_of c.index-3.result.now.mem.pages) q count) placed
    ∙ sym (has_page-same (layout_of c.index-3.result.now.mem.pages) at count) ∙ sym c.has_any.ensures in
    let none : has_page k.caller.layout (page_count k.caller.brk) count ≡ false = taken ∙ c.if-has_any.false in
    let among : mapped_among k.caller.layout at count ≡ 0 = none-among k.caller.layout at count (ap (λ q. has_page k.caller.layout q count) (sym placed) ∙ none) in
    let a = c.args.a in
    let rights : Rights = record { r = true; w = true; x = false } in
    let free = ok-not-full c.in-Ok.field-0 Full (passes_limit k count (mapped_among k.caller.layout at count)) (limits-for (meaning s) c.args.pid c.requires.caller.lives _ at count rights c.in-Ok.ensures.full) in
    by-reply c.args.pid _ s c.set_break-in-Ok.new.self c.address-in-Ok.result c.requires.caller.sound.pids (answers a (ChangePages (MapPages at count rights) ∷ SetBreak a ∷ []))
    (grown ∙ grows-by k a count (ap (passes_limit k count) (sym among) ∙ free) none ∙ ap (λ q. done a (ChangePages (MapPages q count rights) ∷ SetBreak a ∷ [])) placed)
    c.address-in-Ok.ensures
    (λ mounts. c.set_break-in-Ok.ensures.makes mounts ∙ ap (applied images mounts c.args.pid (SetBreak a)) (c.in-Ok.ensures.makes mounts))

pub returns-in-Err-Full-clause-performs : goal.returns-in-Err-Full-clause-performs
returns-in-Err-Full-clause-performs g c = λ some.
    let s = c.args.state.now in
    let k = known model.image_layout c.args.pid (meaning s) in
    let p = c.index.result.now in
    let there = c.in-Some.ensures.some in
    let brk = break-known s c.args.pid c.in-Some.k p c.requires.caller.sound there c.index.ensures in
    let start = start-known s c.args.pid c.in-Some.k c.index-2.result.now c.requires.caller.sound there c.index-2.ensures in
    let first = c.page_count-first.result in
    let end = c.page_count-end.result in
    let from : page_count k.caller.brk ≡ first = ap page_count brk ∙ sym c.page_count-first.ensures in
    let to : page_count c.args.a ≡ end = sym c.page_count-end.ensures in
    let low : k.caller.brk_start ≤ c.args.a = omega arith in
    let count = end - first in
    let at = first * 4096 / 4096 in
    let more : page_count k.caller.brk < page_count c.args.a = omega arith in
    let counted : page_count c.args.a - page_count k.caller.brk ≡ count = omega arith in
    let placed : page_count k.caller.brk ≡ at = from ∙ sym (page-at first) in
    let grown = grows k c.args.a low c.if-a-gt-PAGES_END.false more ∙ ap (grow k c.args.a) counted in
    let layout = layout-at s c.args.pid c.in-Some.k c.index-3.result.now c.requires.caller.sound there c.index-3.ensures in
    let taken : has_page k.caller.layout (page_count k.caller.brk) count ≡ c.has_any.result =
    ap (λ l. has_page l (page_count k.caller.brk) count) layout ∙ ap (λ q. has_page (layout_of c.index-3.result.now.mem.pages) q count) placed
    ∙ sym (has_page-same (layout_of c.index-3.result.now.mem.pages) at count) ∙ sym c.has_any.ensures in
    let none : has_page k.caller.layout (page_count k.caller.brk) count ≡ false = taken ∙ c.if-has_any.false in
    let among : mapped_among k.caller.layout at count ≡ 0 = none-among k.caller.layout at count (ap (λ q. has_page k.caller.layout q count) (sym placed) ∙ none) in
    let rights : Rights = record { r = true; w = true; x = false } in
    let over = (limits-for (meaning s) c.args.pid c.requires.caller.lives (IsErrOf c.map_pages.result Full) at count rights c.map_pages.ensures.full).0 (c.in-Err-Full.is ∙ ap (λ x. Err x) c.in-Err-Full.field-0-is) in
    by-reply c.args.pid _ s c.map_pages.new.self c.address-in-Err-Full.result c.requires.caller.sound.pids (answers p.brk [])
    (grown ∙ stays-if-full k c.args.a count (ap (passes_limit k count) (sym among) ∙ over) ∙ ap (λ n. done n []) brk)
    c.address-in-Err-Full.ensures (λ mounts. c.in-Err-Full.ensures.err)
