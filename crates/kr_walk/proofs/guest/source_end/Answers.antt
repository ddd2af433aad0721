use Rattle.std.proofs.Common.{sym, ap, ◌∙◌}
use Rattle.std.specs.Option.{option_map}
use Rattle.std.proofs.lemmas.Bool.{eqb-true}
use Rattle.kr_view.specs.kr_tree.pr_base.Paths.{below_root}
use Rattle.kr_walk.proofs.WayUpLemmas.{way_begins, found_down, none_down, not_removed, way_goes_on, called_apart}
use Rattle.kr_walk.proofs.guest.source_end.Goals as goal

pub loop-mount-init : goal.loop-mount-init
loop-mount-init g c = way_begins c.args.tree.now _ c.args.name.now c.args.dir c.requires.named

pub returns-then-end-eq0-clause-below : goal.returns-then-end-eq0-clause-below
returns-then-end-eq0-clause-below g c = λ r there.
    sym (ap (option_map below_root) (none_down c.args.tree.now _ c.args.name.now c.args.dir c.loop-mount.at c.loop-mount.end c.loop-mount.invariant
    (λ top is. called_apart c.args.tree.now c.directories_have_host_names.ensures.lead is.0.source c.loop-mount.at top c.loop-mount.invariant.left is.2 c.loop-mount.invariant.called (sym (c.is_source.ensures is.0 is.1) ∙ c.loop-mount-test.true))
    r.source c.if-end-eq0.true (λ top named. (r, there, named))))

pub returns-in_err-at-clause-below : goal.returns-in_err-at-clause-below
returns-in_err-at-clause-below g c = λ r there. absurd (not_removed c.args.tree.now _ c.args.name.now c.args.dir c.loop-mount.at c.loop-mount.end c.loop-mount.invariant
    (λ top is. called_apart c.args.tree.now c.directories_have_host_names.ensures.lead is.0.source c.loop-mount.at top c.loop-mount.invariant.left is.2 c.loop-mount.invariant.called (sym (c.is_source.ensures is.0 is.1) ∙ c.loop-mount-test.true)) c.trees_are_kept.ensures.kept.sound c.directories_have_host_names.ensures.lead (sym c.above.ensures ∙ c.in_err-at.was))

pub loop-mount-smaller : goal.loop-mount-smaller
loop-mount-smaller g c = (way_goes_on c.args.tree.now _ c.args.name.now c.args.dir c.loop-mount.at c.loop-mount.end c.loop-mount.invariant
    (λ top is. called_apart c.args.tree.now c.directories_have_host_names.ensures.lead is.0.source c.loop-mount.at top c.loop-mount.invariant.left is.2 c.loop-mount.invariant.called (sym (c.is_source.ensures is.0 is.1) ∙ c.loop-mount-test.true)) c.trees_are_kept.ensures.kept.sound c.directories_have_host_names.ensures.lead
    c.in_ok-at.at c.last_slash-end.result (sym c.above.ensures ∙ c.in_ok-at.was) c.if-end-eq0.false c.last_slash-end.ensures.last).1

pub loop-mount-preserved : goal.loop-mount-preserved
loop-mount-preserved g c = (way_goes_on c.args.tree.now _ c.args.name.now c.args.dir c.loop-mount.at c.loop-mount.end c.loop-mount.invariant
    (λ top is. called_apart c.args.tree.now c.directories_have_host_names.ensures.lead is.0.source c.loop-mount.at top c.loop-mount.invariant.left is.2 c.loop-mount.invariant.called (sym (c.is_source.ensures is.0 is.1) ∙ c.loop-mount-test.true)) c.trees_are_kept.ensures.kept.sound c.directories_have_host_names.ensures.lead
    c.in_ok-at.at c.last_slash-end.result (sym c.above.ensures ∙ c.in_ok-at.was) c.if-end-eq0.false c.last_slash-end.ensures.last).0

pub returns-clause-below : goal.returns-clause-below
returns-clause-below g c = λ r there. found_down c.args.tree.now _ c.args.name.now c.args.dir c.loop-mount.at c.loop-mount.end c.loop-mount.invariant r.source (eqb-true r.source c.loop-mount.at (sym (c.is_source.ensures r there) ∙ c.loop-mount-test.false))
