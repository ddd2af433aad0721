use Rattle.std.proofs.Common.{◌∙◌, refl, sym, arith}
use Rattle.rv_mem.proofs.PageLemmas.{kept_marks-unkept, kept_marks-none}
use Rattle.rv_mem.proofs.PageListLemmas.{changed-set, marks_at-past, marks_at-unkept}
use Rattle.rv_mem.proofs.mark_list.put.Goals as goal

pub returns-then-this-eq0-clause-changed : goal.returns-then-this-eq0-clause-changed
returns-then-this-eq0-clause-changed g c = record {
  here = marks_at-unkept g.row.MARKED c.args.all.now.items c.args.place c.if-this-eq0.true ∙ sym (kept_marks-unkept g.row.MARKED c.args.marks c.if-this-eq0.true);
  others = λ j d. refl;
}

pub returns-then-place-len-clause-changed : goal.returns-then-place-len-clause-changed
returns-then-place-len-clause-changed g c = changed-set g.row.MARKED c.args.all.now.items c.args.place c.args.marks (omega (arith, c.if-place-len.true, c.len.ensures, c.args.all.now.ok.0))

pub returns-then-has_some-clause-changed : goal.returns-then-has_some-clause-changed
returns-then-has_some-clause-changed g c =
    let changed = changed-set g.row.MARKED c.reach.new.all.items c.args.place c.args.marks c.reach.ensures.there in
    record { here = changed.here; others = λ j d. changed.others j d ∙ c.reach.ensures.same g.row.MARKED j }

pub returns-else-has_some-clause-changed : goal.returns-else-has_some-clause-changed
returns-else-has_some-clause-changed g c = record {
  here = marks_at-past g.row.MARKED c.args.all.now.items c.args.place (omega (arith, c.if-place-len.false, c.len.ensures, c.args.all.now.ok.0))
      ∙ sym (kept_marks-none g.row.MARKED c.args.marks (c.has_some.ensures c.if-has_some.false));
  others = λ j d. refl;
}
