use Rattle.std.proofs.Common.{ap}
use Rattle.kr_inode.proofs.pr_base.BTreeLemmas.{removed}
use Rattle.pt_ident.specs.IdentityTable.{IdentityTable}
use Rattle.pt_ident.proofs.TableLemmas.{same_table}
use Rattle.pt_ident.proofs.table.Identities.gone.Goals as goal

pub returns : goal.returns
returns c =
    same_table c.args.self.now _ _ _ _ _ _ c.self.view_is
    (removed c.self.inside.kept c.remove-ids.new.self c.args.self.now.kept c.args.pid (ap (λ (t : IdentityTable). t.kept) c.self.view_is) c.remove-ids.ensures.updates)
