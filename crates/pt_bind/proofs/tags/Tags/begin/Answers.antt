use Rattle.std.specs.FinMap as map
use Rattle.std.proofs.Common.{◌∙◌, ap, sym}
use Rattle.pr_base.proofs.BTreeLemmas.{inserted}
use Rattle.pt_bind.specs.declared.slot.Slot.TheVariants.{Cwd, Exe}
use Rattle.pt_bind.specs.Tags.{with_slot}
use Rattle.pt_bind.proofs.TagLemmas.{two_tags}
use Rattle.pt_bind.proofs.tags.Tags.begin.Goals as goal

pub returns-clause-ok : goal.returns-clause-ok
returns-clause-ok c =
    let old = c.args.self.now in
    inserted c.self.inside.by_pid c.insert.new.self old c.args.pid c.set-2.new.self c.self.view_is c.in_ok-insert.ensures.updates
    ∙ ap (map.insert old c.args.pid) (c.in_ok-set-2.ensures.ok ∙ ap (λ t. with_slot t Exe c.args.exe) (c.in_ok-set.ensures.ok ∙ ap (λ t. with_slot t Cwd c.args.cwd) c.in_ok-tags.ensures))
    ∙ sym (two_tags old c.args.pid c.args.cwd c.args.exe)
