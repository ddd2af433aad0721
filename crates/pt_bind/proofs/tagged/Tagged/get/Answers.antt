use Rattle.std.proofs.Common.{◌∙◌, ap, sym}
use Rattle.std.specs.Option.{unwrap_or}
use Rattle.pr_base.proofs.BTreeLemmas.{get-view}
use Rattle.pt_bind.specs.Tags.{Tagged, tag_at}
use Rattle.pt_bind.proofs.tagged.Tagged.get.Goals as goal

pub returns-in-Fd : goal.returns-in-Fd
returns-in-Fd c =
    let kept = ap (λ (t : Tagged). t.fds) c.self.view_is in
    let found = c.copied.ensures ∙ c.get.ensures.value ∙ get-view c.self.inside.fds.entries c.args.self.now.fds c.in-Fd.fd kept in
    c.unwrap_or.ensures ∙ ap (λ o. unwrap_or o 0) found ∙ sym (ap (tag_at c.args.self.now) c.in-Fd.is)
