use Rattle.std.proofs.Common.{◌≡◌, ◌∙◌, ap, sym}
use Rattle.std.specs.Option.{unwrap_or}
use Rattle.pr_base.proofs.BTreeLemmas.{get-view}
use Rattle.pt_bind.specs.Tags.{untagged, tags_of}
use Rattle.pt_bind.proofs.TagLemmas.{if_ok}
use Rattle.pt_bind.proofs.tags.Tags.copy_of.Goals as goal

pub returns-in-None : goal.returns-in-None
returns-in-None c =
    let none = sym (get-view c.self.inside.by_pid.entries c.args.self.now c.args.pid c.self.view_is) ∙ sym c.in-None.ensures.value in
    c.new.ensures ∙ sym (ap (λ o. unwrap_or o untagged) none)

pub returns-in-Some : goal.returns-in-Some
returns-in-Some c =
    let found = sym (get-view c.self.inside.by_pid.entries c.args.self.now c.args.pid c.self.view_is) ∙ sym c.in-Some.ensures.value in
    if_ok c.copy.result (λ t. t ≡ c.in-Some.tags.now) (λ t. t ≡ tags_of c.args.self.now c.args.pid) (λ t e. e ∙ sym (ap (λ o. unwrap_or o untagged) found)) c.copy.ensures
