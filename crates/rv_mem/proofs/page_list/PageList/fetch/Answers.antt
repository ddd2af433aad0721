use Rattle.std.proofs.Common.{◌<◌, ◌∙◌, subst, sym, ap}
use Rattle.rv_table.specs.Small.{instr_of}
use Rattle.rv_table.specs.Rows.{decoded}
use Rattle.rv_mem.specs.Code.{word_at}
use Rattle.rv_mem.specs.Page.{PageState}
use Rattle.rv_mem.proofs.CodeLemmas.{recalled_whole}
use Rattle.rv_mem.proofs.PageListLemmas.{below, stands_with}
use Rattle.rv_mem.proofs.page_list.PageList.fetch.Goals as goal

pub index-requires : goal.index-requires
index-requires g c = subst (λ n. c.args.place < n) (sym c.self.inside.pages.ok.0) (below g.row.MARKED c.self.inside.pages.items c.self.inside.marks.items c.args.self.now c.self.view_is c.args.place c.requires.there)

pub returns-then-is_instr-clause-value : goal.returns-then-is_instr-clause-value
returns-then-is_instr-clause-value g c =
    recalled_whole (instr_of c.recalled-found.result) _ (c.is_instr.ensures c.if-is_instr.true) c.recalled-found.ensures
    ∙ sym (ap (λ (p : PageState). decoded (word_at p.bytes c.args.offset)) (stands_with g.row.MARKED c.self.inside.pages.items c.self.inside.marks.items c.args.self.now c.self.view_is c.args.place c.index.result.now c.requires.there c.index.ensures))
