use Rattle.std.proofs.Common.{◌∙◌, sym}
use Rattle.rv_mem.proofs.PageListLemmas.{long}
use Rattle.rv_mem.proofs.page_list.PageList.len.Goals as goal

pub returns : goal.returns
returns g c = c.len.ensures ∙ c.self.inside.pages.ok.0 ∙ sym (long g.row.MARKED c.self.inside.pages.items c.self.inside.marks.items c.args.self.now c.self.view_is)
