use Rattle.std.specs.FinMap as map
use Rattle.std.proofs.Common.{◌∙◌, sym, Some, None}
use Rattle.pr_base.proofs.BTreeLemmas.{get-view}
use Rattle.pt_bind.proofs.TagLemmas.{no_tag, tags_at}
use Rattle.pt_bind.proofs.tags.Tags.get.Goals as goal

pub returns-in-None : goal.returns-in-None
returns-in-None c =
    let none = sym (get-view c.self.inside.by_pid.entries c.args.self.now c.args.pid c.self.view_is) ∙ sym c.in-None.ensures.value in
    sym (tags_at (map.get c.args.self.now c.args.pid) None c.args.slot none ∙ no_tag c.args.slot)

pub returns-in-Some : goal.returns-in-Some
returns-in-Some c =
    let found = sym (get-view c.self.inside.by_pid.entries c.args.self.now c.args.pid c.self.view_is) ∙ sym c.in-Some.ensures.value in
    c.get-in-Some.ensures ∙ sym (tags_at (map.get c.args.self.now c.args.pid) (Some c.in-Some.tags.now) c.args.slot found)
