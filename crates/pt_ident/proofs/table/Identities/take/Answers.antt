use Rattle.std.proofs.Common.{◌∙◌, ap}
use Rattle.kr_inode.proofs.pr_base.BTreeLemmas.{get-view, removed}
use Rattle.pt_ident.specs.IdentityTable.{IdentityTable}
use Rattle.pt_ident.proofs.TableLemmas.{is_kept, is_starting, same_table}
use Rattle.pt_ident.proofs.table.Identities.take.Goals.{in-Some, in-None+in_ok-ids-in-None}
use Rattle.pt_ident.proofs.table.Identities.take.Goals as goal

pub returns-clause-identity : goal.returns-clause-identity
returns-clause-identity c =
    let stored = ap (λ (t : IdentityTable). t.kept) c.self.view_is in
    elim c.match-remove.branch [
      | in-Some w ↦ rw w.result-is (is_kept c.args.self.now c.args.pid _ (w.in-Some.ensures.value ∙ get-view c.self.inside.kept.entries c.args.self.now.kept c.args.pid stored))
      | in-None+in_ok-ids-in-None w ↦
          rw w.result-is
          (is_starting c.args.self.now c.args.pid _ _ _ _ _ c.self.view_is (w.in-None.ensures.value ∙ get-view c.self.inside.kept.entries c.args.self.now.kept c.args.pid stored) w.in_ok-ids-in-None.ensures)
    ]

pub returns-clause-ok : goal.returns-clause-ok
returns-clause-ok c =
    let stored = ap (λ (t : IdentityTable). t.kept) c.self.view_is in
    let taken = same_table c.args.self.now _ _ _ _ _ _ c.self.view_is (removed c.self.inside.kept c.remove.new.self c.args.self.now.kept c.args.pid stored c.remove.ensures.updates) in
    elim c.match-remove.branch [ in-Some w ↦ rw w.result-is taken | in-None+in_ok-ids-in-None w ↦ rw w.result-is taken ]
