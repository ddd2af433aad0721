use Rattle.std.proofs.Common.{◌≡◌, ◌<◌, ◌-◌, ◌∙◌, subst, sym, ap, arith, length}
use Rattle.std.specs.Prelude.{slice_index_or}
use Rattle.std.specs.Vec.{vec_len}
use Rattle.rv_mem.specs.Marks.{marks_at}
use Rattle.rv_mem.specs.PageList.{pages_of}
use Rattle.rv_mem.proofs.PageListLemmas.{below, long, length-pages_of, stays_with, no_unmarked}
use Rattle.rv_mem.proofs.page_list.PageList.swap_remove.Goals as goal

pub index-requires : goal.index-requires
index-requires g c = subst (λ n. c.args.place < n) (sym c.self.inside.pages.ok.0) (below g.row.MARKED c.self.inside.pages.items c.self.inside.marks.items c.args.self.now c.self.view_is c.args.place c.requires)

pub swap_remove-page-requires : goal.swap_remove-page-requires
swap_remove-page-requires g c = subst (λ n. c.args.place < n) (sym c.self.inside.pages.ok.0) (below g.row.MARKED c.self.inside.pages.items c.self.inside.marks.items c.args.self.now c.self.view_is c.args.place c.requires)

pub overflow_sub-last : goal.overflow_sub-last
overflow_sub-last g c = let low = below g.row.MARKED c.self.inside.pages.items c.self.inside.marks.items c.args.self.now c.self.view_is c.args.place c.requires in omega (arith, low, c.len-last.ensures, c.self.inside.pages.ok.0)

pub remove-requires-clause-within : goal.remove-requires-clause-within
remove-requires-clause-within g c = let low = below g.row.MARKED c.self.inside.pages.items c.self.inside.marks.items c.args.self.now c.self.view_is c.args.place c.requires in omega (arith, low, c.len-last.ensures, c.self.inside.pages.ok.0)

pub returns-clause-size : goal.returns-clause-size
returns-clause-size g c =
    let size = length-pages_of g.row.MARKED c.swap_remove-page.new.self.items c.remove.new.all.items in
    omega (arith, size, long g.row.MARKED c.self.inside.pages.items c.self.inside.marks.items c.args.self.now c.self.view_is, c.swap_remove-page.ensures.len, c.self.inside.pages.ok.0, c.swap_remove-page.new.self.ok.0)

pub returns-clause-same : goal.returns-clause-same
returns-clause-same g c j d l =
    let qs = c.swap_remove-page.new.self.items in
    let ns = c.remove.new.all.items in
    let was = long g.row.MARKED c.self.inside.pages.items c.self.inside.marks.items c.args.self.now c.self.view_is in
    let len = c.swap_remove-page.ensures.len in
    let low : j < length qs = omega (arith, l, length-pages_of g.row.MARKED qs ns) in
    let before : j < length c.args.self.now = omega (arith, low, was, len, c.self.inside.pages.ok.0, c.swap_remove-page.new.self.ok.0) in
    stays_with g.row.MARKED c.self.inside.pages.items c.self.inside.marks.items c.args.self.now c.self.view_is qs ns j j no_unmarked low before
    (c.swap_remove-page.ensures.by_index.1 j no_unmarked d (omega (arith, low, len, c.swap_remove-page.new.self.ok.0)))
    (c.remove.ensures.others j d (omega (arith, low, len, c.self.inside.pages.ok.0, c.swap_remove-page.new.self.ok.0, c.len-last.ensures)))

pub returns-clause-moved : goal.returns-clause-moved
returns-clause-moved g c l =
    let qs = c.swap_remove-page.new.self.items in
    let ns = c.remove.new.all.items in
    let was = long g.row.MARKED c.self.inside.pages.items c.self.inside.marks.items c.args.self.now c.self.view_is in
    let len = c.swap_remove-page.ensures.len in
    let left = length-pages_of g.row.MARKED qs ns in
    let low : c.args.place < length qs = omega (arith, l, left) in
    let last : vec_len c.self.inside.pages - 1 ≡ length (pages_of g.row.MARKED qs ns) = omega (arith, left, len, c.swap_remove-page.new.self.ok.0) in
    let end : c.len-last.result - 1 ≡ length (pages_of g.row.MARKED qs ns) = omega (arith, last, c.len-last.ensures) in
    let before : length (pages_of g.row.MARKED qs ns) < length c.args.self.now = omega (arith, left, was, len, c.self.inside.pages.ok.0, c.swap_remove-page.new.self.ok.0) in
    stays_with g.row.MARKED c.self.inside.pages.items c.self.inside.marks.items c.args.self.now c.self.view_is qs ns c.args.place (length (pages_of g.row.MARKED qs ns)) no_unmarked low before
    (c.swap_remove-page.ensures.by_index.0 no_unmarked (omega (arith, low, len, c.swap_remove-page.new.self.ok.0)) ∙ ap (λ k. slice_index_or c.self.inside.pages.items k no_unmarked) last)
    (c.remove.ensures.moved (omega (arith, low, len, c.self.inside.pages.ok.0, c.swap_remove-page.new.self.ok.0, c.len-last.ensures)) ∙ ap (λ k. marks_at g.row.MARKED c.self.inside.marks.items k) end)
