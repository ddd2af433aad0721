use Rattle.std.proofs.Common.{◌∙◌, ◌++◌, [], ◌∷◌, ap}
use Rattle.rv_mem.specs.Marks.{no_marks}
use Rattle.rv_mem.specs.PageList.{Unmarked, with_marks, pages_of}
use Rattle.rv_mem.proofs.PageListLemmas.{pages_of-push}
use Rattle.rv_mem.proofs.page_list.PageList.push_fresh.Goals as goal

pub returns-clause-ok : goal.returns-clause-ok
returns-clause-ok g c =
    ap (λ (ms : _). pages_of g.row.MARKED c.push.new.self.items ms) c.make_room.ensures.same
    ∙ ap (λ (ps : _). pages_of g.row.MARKED ps c.self.inside.marks.items) c.in_ok-push.ensures.items
    ∙ pages_of-push g.row.MARKED c.self.inside.pages.items c.self.inside.marks.items c.fresh.result c.self.invariant.0
    ∙ ap (λ (l : _). l ++ with_marks c.fresh.result no_marks ∷ []) c.self.view_is
    ∙ ap (λ (p : Unmarked). c.args.self.now ++ with_marks p no_marks ∷ []) c.fresh.ensures
