use Rattle.std.proofs.Common.{◌∙◌, ap}
use Rattle.kr_inode.proofs.pr_base.BTreeLemmas.{get-view}
use Rattle.pt_ident.specs.IdentityTable.{IdentityTable}
use Rattle.pt_ident.proofs.TableLemmas.{is_kept, is_starting}
use Rattle.pt_ident.proofs.table.Identities.copy_of.Goals as goal

pub returns-in_ok-copy-in-Some : goal.returns-in_ok-copy-in-Some
returns-in_ok-copy-in-Some c =
    c.in_ok-copy-in-Some.ensures
    ∙ is_kept c.args.self.now c.args.pid _ (c.in-Some.ensures.value ∙ get-view c.self.inside.kept.entries c.args.self.now.kept c.args.pid (ap (λ (t : IdentityTable). t.kept) c.self.view_is))

pub returns-in_ok-ids-in-None : goal.returns-in_ok-ids-in-None
returns-in_ok-ids-in-None c =
    is_starting c.args.self.now c.args.pid _ _ _ _ _ c.self.view_is
    (c.in-None.ensures.value ∙ get-view c.self.inside.kept.entries c.args.self.now.kept c.args.pid (ap (λ (t : IdentityTable). t.kept) c.self.view_is))
    c.in_ok-ids-in-None.ensures
