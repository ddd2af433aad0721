use Rattle.std.specs.FinMap as map
use Rattle.std.proofs.Common.{◌∙◌, ap}
use Rattle.kr_inode.proofs.pr_base.BTreeLemmas.{inserted}
use Rattle.pt_ident.specs.IdentityTable.{IdentityTable}
use Rattle.pt_ident.proofs.TableLemmas.{same_table}
use Rattle.pt_ident.proofs.table.Identities.born.Goals as goal

pub returns : goal.returns
returns c =
    same_table c.args.self.now _ _ _ _ _ _ c.self.view_is
    (inserted c.self.inside.kept c.insert.new.self c.args.self.now.kept c.args.child c.in_ok-ids.ids (ap (λ (t : IdentityTable). t.kept) c.self.view_is) c.in_ok-insert.ensures.updates
    ∙ ap (map.insert c.args.self.now.kept c.args.child) c.in_ok-ids.ensures)
