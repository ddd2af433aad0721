use Rattle.std.specs.FinMap as map
use Rattle.std.proofs.Common.{◌∙◌, ap}
use Rattle.kr_inode.proofs.pr_base.BTreeLemmas.{inserted}
use Rattle.pt_ident.specs.Owners.{over}
use Rattle.pt_ident.proofs.owners.Owners.note.Goals as goal

pub returns-clause-ok : goal.returns-clause-ok
returns-clause-ok c =
    let old = c.args.self.now in
    inserted c.self.inside.by_inode c.insert.new.self old c.args.ino c.with-entry.result c.self.view_is c.in_ok-insert.ensures.updates
    ∙ ap (map.insert old c.args.ino) (c.with-entry.ensures ∙ ap (λ e. over e c.args.change) c.entry.ensures)
