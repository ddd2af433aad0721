use Rattle.std.specs.FinMap as map
use Rattle.std.proofs.Common.{◌≡◌, ◌∙◌, ap, sym}
use Rattle.std.specs.Option.{unwrap_or}
use Rattle.pr_base.proofs.BTreeLemmas.{get-view, inserted, written, untouched}
use Rattle.pt_bind.specs.Tags.{untagged, with_slot, with_tag}
use Rattle.pt_bind.proofs.TagLemmas.{same_insert, if_ok, if_err}
use Rattle.pt_bind.proofs.tags.Tags.set.Goals as goal

pub returns-in-Some-clause-ok : goal.returns-in-Some-clause-ok
returns-in-Some-clause-ok c =
    let old = c.args.self.now in
    let found = sym (get-view c.self.inside.by_pid.entries old c.args.pid c.self.view_is) ∙ sym c.in-Some.ensures.value in
    let put = written c.self.inside.by_pid (c.get_mut.follows.lender c.set.new.self) old c.args.pid c.in-Some.tags.now c.set.new.self c.self.view_is c.in-Some.ensures.value (c.get_mut.follows.holds c.set.new.self).3 in
    if_ok c.set.result
    (λ _. c.set.new.self ≡ with_slot c.in-Some.tags.now c.args.slot c.args.tag)
    (λ _. map.from_entries (c.get_mut.follows.lender c.set.new.self).entries ≡ with_tag old c.args.pid c.args.slot c.args.tag)
    (λ _ e. put ∙ ap (map.insert old c.args.pid) (e ∙ ap (λ t. with_slot t c.args.slot c.args.tag) (sym (ap (λ o. unwrap_or o untagged) found))))
    c.set.ensures.ok

pub returns-in-Some-clause-err : goal.returns-in-Some-clause-err
returns-in-Some-clause-err c =
    let old = c.args.self.now in
    let found = sym (get-view c.self.inside.by_pid.entries old c.args.pid c.self.view_is) ∙ sym c.in-Some.ensures.value in
    let put = written c.self.inside.by_pid (c.get_mut.follows.lender c.set.new.self) old c.args.pid c.in-Some.tags.now c.set.new.self c.self.view_is c.in-Some.ensures.value (c.get_mut.follows.holds c.set.new.self).3 in
    if_err c.set.result
    (c.set.new.self ≡ c.in-Some.tags.now)
    (map.from_entries (c.get_mut.follows.lender c.set.new.self).entries ≡ old)
    (λ e. put ∙ ap (map.insert old c.args.pid) e ∙ same_insert old c.args.pid c.in-Some.tags.now found)
    c.set.ensures.err

pub returns-clause-ok : goal.returns-clause-ok
returns-clause-ok c =
    let old = c.args.self.now in
    let none = sym (get-view c.self.inside.by_pid.entries old c.args.pid c.self.view_is) ∙ sym c.in_default.ensures.value in
    let kept = untouched c.self.inside.by_pid c.get_mut.follows.lender-at-none old c.self.view_is c.get_mut.follows.holds-at-none in
    inserted c.get_mut.follows.lender-at-none c.insert.new.self old c.args.pid c.set-2.new.self kept c.in_ok-insert.ensures.updates
    ∙ ap (map.insert old c.args.pid) (c.in_ok-set.ensures.ok ∙ ap (λ t. with_slot t c.args.slot c.args.tag) (c.new-tags.ensures ∙ sym (ap (λ o. unwrap_or o untagged) none)))
