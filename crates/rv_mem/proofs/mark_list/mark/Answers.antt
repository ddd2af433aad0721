use Rattle.std.proofs.Common.{◌-◌, ◌∙◌, refl, ap, true, replicate}
use Rattle.std.proofs.Math.Seq.{sets}
use Rattle.rv_mem.proofs.PageListLemmas.{changed-part}
use Rattle.rv_mem.proofs.mark_list.mark.Goals as goal

pub returns-clause-changed : goal.returns-clause-changed
returns-clause-changed g c =
    let count = c.args.to - c.args.from in
    let changed =
    changed-part g.row.MARKED c.reach.new.all.items _ c.args.place c.index_mut.result.now c.set.new.self c.args.from count true c.requires.kept c.reach.ensures.there refl c.index_mut.ensures.value c.set.ensures in
    record {
      here = changed.here ∙ ap (λ l. sets l c.args.from (replicate count true)) (c.reach.ensures.same g.row.MARKED c.args.place);
      others = λ j d. changed.others j d ∙ c.reach.ensures.same g.row.MARKED j;
    }
