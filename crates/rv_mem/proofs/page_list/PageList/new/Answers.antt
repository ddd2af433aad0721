use Rattle.rv_mem.proofs.PageListLemmas.{pages_of-empty}
use Rattle.rv_mem.proofs.page_list.PageList.new.Goals as goal

pub returns : goal.returns
returns g c = pages_of-empty g.row.MARKED c.new-pages.result.items c.new-marks.result.items c.new-pages.ensures.items
