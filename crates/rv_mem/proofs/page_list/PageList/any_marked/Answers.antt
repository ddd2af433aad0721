use Rattle.std.proofs.Common.{◌∙◌, ap, take, drop, List}
use Rattle.std.specs.List.{list_any}
use Rattle.rv_mem.specs.declared.marks.Marks.{Marks}
use Rattle.rv_mem.specs.Marks.{marks_at}
use Rattle.rv_mem.proofs.PageListLemmas.{marked_with}
use Rattle.rv_mem.proofs.page_list.PageList.any_marked.Goals as goal

pub returns : goal.returns
returns g c =
    c.any.ensures
    ∙ ap (λ l. list_any (λ m. m) (take c.args.count (drop c.args.offset l)))
    (ap (λ (ms : List Marks). marks_at g.row.MARKED ms c.args.place) c.deref.ensures.value ∙ marked_with g.row.MARKED c.self.inside.pages.items c.self.inside.marks.items c.args.self.now c.self.view_is c.args.place c.requires.there)
