use Rattle.std.proofs.Common.{◌-◌, refl, false, arith}
use Rattle.rv_mem.proofs.PageListLemmas.{changed-part, changed-no_part, marks_at-past, marks_at-unkept}
use Rattle.rv_mem.proofs.mark_list.clear.Goals as goal
use Rattle.rv_mem.proofs.mark_list.clear.Goals.{else-this-ne0-via-then-this-ne0+else-place-len, else-this-ne0-via-else-this-ne0}

pub returns-then-place-len-clause-changed : goal.returns-then-place-len-clause-changed
returns-then-place-len-clause-changed g c =
    changed-part g.row.MARKED c.args.all.now.items _ c.args.place c.index_mut.result.now c.clear.new.self c.args.from (c.args.to - c.args.from) false c.if-this-ne0.true
    (omega (arith, c.if-place-len.true, c.len.ensures, c.args.all.now.ok.0)) refl c.index_mut.ensures.value c.clear.ensures

pub returns-else-this-ne0-clause-changed : goal.returns-else-this-ne0-clause-changed
returns-else-this-ne0-clause-changed g c =
    elim c.else-this-ne0.branch [
      | else-this-ne0-via-then-this-ne0+else-place-len w ↦ changed-no_part g.row.MARKED c.args.all.now.items c.args.place c.args.from (c.args.to - c.args.from)
          (marks_at-past g.row.MARKED c.args.all.now.items c.args.place (omega (arith, w.if-place-len.false, w.len.ensures, c.args.all.now.ok.0)))
      | else-this-ne0-via-else-this-ne0 w ↦ changed-no_part g.row.MARKED c.args.all.now.items c.args.place c.args.from (c.args.to - c.args.from)
          (marks_at-unkept g.row.MARKED c.args.all.now.items c.args.place w.if-this-ne0.false)
    ]
