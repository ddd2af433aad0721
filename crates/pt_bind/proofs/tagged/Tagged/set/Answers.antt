use Rattle.std.proofs.Common.{◌∙◌, ap, sym}
use Rattle.pr_base.proofs.BTreeLemmas.{inserted}
use Rattle.pt_bind.specs.Tags.{Tagged, with_slot}
use Rattle.pt_bind.proofs.tagged.Tagged.set.Goals as goal

pub returns-in_ok-insert-in-Fd-clause-ok : goal.returns-in_ok-insert-in-Fd-clause-ok
returns-in_ok-insert-in-Fd-clause-ok c =
    let kept = ap (λ (t : Tagged). t.fds) c.self.view_is in
    let fds = inserted c.self.inside.fds c.insert.new.self c.args.self.now.fds c.in-Fd.fd c.args.tag kept c.in_ok-insert-in-Fd.ensures.updates in
    (λ i. record { cwd = (c.self.view_is i).cwd; exe = (c.self.view_is i).exe; fds = fds i }) ∙ sym (ap (λ s. with_slot c.args.self.now s c.args.tag) c.in-Fd.is)
