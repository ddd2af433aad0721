use Rattle.std.proofs.Common.{◌≡◌, ℕ, ◌*◌, ◌/◌, ◌≤◌, ◌==◌, Bool, not, refl, sym, ap, subst, ◌∙◌, [], ◌∷◌, arith, if◌then◌else◌, ◌↔◌, IsOk, IsTrue, is_ok}
use Rattle.kr_seen.specs.pr_base.declared.errno.Errno.TheVariants.{ENOMEM}
use Rattle.kr_seen.specs.rv_mem.Layout.{layout_of}
use Rattle.kr_seen.specs.rv_mem.Memory.{Memory}
use Rattle.kr_seen.specs.rv_mem.Pages.{IsPlaced, has_pages, protected}
use Rattle.kr_seen.specs.kr_model.Change.{ChangePages, ProtectPages}
use Rattle.kr_seen.specs.kr_model.Known.{known}
use Rattle.kr_seen.specs.kr_model.MemoryRows.{mapped_among, page_count, rights_of}
use Rattle.kr_seen.specs.kr_model.Reply.{Replying, answers, done, refuse}
use Rattle.kr_seen.specs.kr_model.State as model
use Rattle.kr_seen.specs.kr_ops.Meaning.{meaning}
use Rattle.kr_seen.proofs.kr_ops.OpeningLemmas.{not-living}
use Rattle.kr_seen.specs.PerformedRows.{memory_of}
use Rattle.kr_rows.proofs.PagingLemmas.{counted-cut, cut-is-absent, layout-known, not-where-err, of-caller, page-at, protected-cut}
use Rattle.kr_seen.proofs.PerformLemmas.{by-refusal, by-reply, pages-alike}
use Rattle.kr_seen.proofs.UsingLemmas.{memory-at}
use Rattle.kr_rows.proofs.memory.mprotect.Goals as goal

pub unreachable-requires : goal.unreachable-requires
unreachable-requires g c = not-living c.args.state.now c.args.pid (c.index_of.ensures.none c.in_default.is) c.requires.lives

pub returns-then-from-pages-clause-performs : goal.returns-then-from-pages-clause-performs
returns-then-from-pages-clause-performs g c = λ some.
    let s = meaning c.args.state.now in
    let k = known model.image_layout c.args.pid s in
    let m = (memory_of c.args.pid s).pages in
    let first = c.args.a / 4096 in
    let n = c.within-count.result in
    let pages = c.page_count-pages.result in
    let rights = rights_of c.args.prot in
    let row : ℕ → Bool → Replying = λ count all. if not all then refuse ENOMEM else done 0 (ChangePages (ProtectPages first count rights) ∷ []) in
    let layout = layout-known s c.args.pid c.requires.lives in
    let counted : (mapped_among k.caller.layout first (page_count c.args.len) == page_count c.args.len) ≡ (mapped_among (layout_of m) first pages == pages) =
    ap (λ l. mapped_among l first (page_count c.args.len) == page_count c.args.len) layout ∙ ap (λ n. mapped_among (layout_of m) first n == n) (sym c.page_count-pages.ensures) in
    let placed : IsPlaced m = subst (λ (m : Memory). IsPlaced m.pages) (sym (memory-at c.args.state.now c.args.pid c.in-Some.k c.index.result.now c.requires.sound c.in-Some.ensures.some c.index.ensures)) c.within-count.ensures.placed in
    by-refusal c.args.pid _ c.args.state.now c.args.state.now c.refused.result c.requires.sound.pids ENOMEM
    (ap (row (page_count c.args.len)) (counted ∙ cut-is-absent m first pages n c.within-count.ensures.count placed (omega arith)))
    c.refused.ensures refl

pub returns-in-Ok-clause-performs : goal.returns-in-Ok-clause-performs
returns-in-Ok-clause-performs g c = λ some.
    let s = meaning c.args.state.now in
    let k = known model.image_layout c.args.pid s in
    let m = (memory_of c.args.pid s).pages in
    let first = c.args.a / 4096 in
    let n = c.within-count.result in
    let pages = c.page_count-pages.result in
    let rights = rights_of c.args.prot in
    let row : ℕ → Bool → Replying = λ count all. if not all then refuse ENOMEM else done 0 (ChangePages (ProtectPages first count rights) ∷ []) in
    let layout = layout-known s c.args.pid c.requires.lives in
    let counted : (mapped_among k.caller.layout first (page_count c.args.len) == page_count c.args.len) ≡ (mapped_among (layout_of m) first pages == pages) =
    ap (λ l. mapped_among l first (page_count c.args.len) == page_count c.args.len) layout ∙ ap (λ n. mapped_among (layout_of m) first n == n) (sym c.page_count-pages.ensures) in
    let at = c.min-at.result * 4096 / 4096 in
    let most : pages ≤ n = omega arith in
    let there : has_pages m at n ≡ (mapped_among (layout_of m) first pages == pages) = ap (λ q. has_pages m q n) (page-at c.min-at.result ∙ c.min-at.ensures) ∙ counted-cut m first pages n c.within-count.ensures.count most in
    let all = (of-caller s c.args.pid c.requires.lives (λ m. IsOk c.protect_pages.result ↔ IsTrue (has_pages m at n)) c.protect_pages.ensures.when).0 (ap is_ok c.in-Ok.is) in
    by-reply c.args.pid _ c.args.state.now c.protect_pages.new.self c.number.result c.requires.sound.pids (answers 0 (ChangePages (ProtectPages first (page_count c.args.len) rights) ∷ []))
    (ap (row (page_count c.args.len)) (counted ∙ sym there ∙ all))
    c.number.ensures
    (λ mounts. c.in-Ok.ensures.makes mounts ∙ pages-alike c.args.pid s c.requires.sound.pids (ProtectPages at n c.rights_of.result) (ProtectPages first (page_count c.args.len) rights)
    (ap (λ q. protected m q n c.rights_of.result) (page-at c.min-at.result ∙ c.min-at.ensures) ∙ protected-cut m first pages n c.within-count.ensures.count c.rights_of.result most
    ∙ ap (λ count. protected m first count c.rights_of.result) c.page_count-pages.ensures ∙ ap (protected m first (page_count c.args.len)) c.rights_of.ensures))

pub returns-in-Err-clause-performs : goal.returns-in-Err-clause-performs
returns-in-Err-clause-performs g c = λ some.
    let s = meaning c.args.state.now in
    let k = known model.image_layout c.args.pid s in
    let m = (memory_of c.args.pid s).pages in
    let first = c.args.a / 4096 in
    let n = c.within-count.result in
    let pages = c.page_count-pages.result in
    let rights = rights_of c.args.prot in
    let row : ℕ → Bool → Replying = λ count all. if not all then refuse ENOMEM else done 0 (ChangePages (ProtectPages first count rights) ∷ []) in
    let layout = layout-known s c.args.pid c.requires.lives in
    let counted : (mapped_among k.caller.layout first (page_count c.args.len) == page_count c.args.len) ≡ (mapped_among (layout_of m) first pages == pages) =
    ap (λ l. mapped_among l first (page_count c.args.len) == page_count c.args.len) layout ∙ ap (λ n. mapped_among (layout_of m) first n == n) (sym c.page_count-pages.ensures) in
    let at = c.min-at.result * 4096 / 4096 in
    let most : pages ≤ n = omega arith in
    let there : has_pages m at n ≡ (mapped_among (layout_of m) first pages == pages) = ap (λ q. has_pages m q n) (page-at c.min-at.result ∙ c.min-at.ensures) ∙ counted-cut m first pages n c.within-count.ensures.count most in
    let none = not-where-err c.protect_pages.result c.in-Err.field-0 (has_pages m at n) c.in-Err.is (of-caller s c.args.pid c.requires.lives (λ m. IsOk c.protect_pages.result ↔ IsTrue (has_pages m at n)) c.protect_pages.ensures.when) in
    by-refusal c.args.pid _ c.args.state.now c.protect_pages.new.self c.refused-in-Err.result c.requires.sound.pids ENOMEM
    (ap (row (page_count c.args.len)) (counted ∙ sym there ∙ none))
    c.refused-in-Err.ensures c.in-Err.ensures.err
