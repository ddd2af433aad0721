use Rattle.std.proofs.Common.{◌∙◌, ap, sym}
use Rattle.std.specs.Option.{unwrap_or}
use Rattle.kr_inode.proofs.pr_base.BTreeLemmas.{get-view}
use Rattle.pt_ident.specs.Owners.{unsaid}
use Rattle.pt_ident.proofs.owners.Owners.entry.Goals as goal

pub returns-in-None : goal.returns-in-None
returns-in-None c =
    let none = sym (get-view c.self.inside.by_inode.entries c.args.self.now c.args.ino c.self.view_is) ∙ sym c.in-None.ensures.value in
    c.new.ensures ∙ sym (ap (λ o. unwrap_or o unsaid) none)

pub returns-in-Some : goal.returns-in-Some
returns-in-Some c =
    let found = sym (get-view c.self.inside.by_inode.entries c.args.self.now c.args.ino c.self.view_is) ∙ sym c.in-Some.ensures.value in
    sym (ap (λ o. unwrap_or o unsaid) found)
