use Rattle.std.proofs.Common.{◌++◌, ◌∙◌, ap}
use Rattle.std.specs.BTreeMap.{is_at}
use Rattle.std.specs.Map.{lookup}
use Rattle.std.specs.Ordering.{nat_cmp}
use Rattle.kr_text.specs.Canonical.{line_at}
use Rattle.kr_text.proofs.WayLemmas.{at_start, fewer_names, on_the_way, at_end}
use Rattle.kr_text.proofs.canonical.write.Goals as goal

pub loop-name-init : goal.loop-name-init
loop-name-init c =
    at_start c.args.tree.now c.trees_are_kept.ensures.kept c.args.user c.in_ok-listing.listing.items c.new-first.result c.in_ok-waiting.waiting
    c.in_ok-listing.ensures (λ i. ap (lookup (is_at (nat_cmp i))) c.new-first.ensures.empty) c.in_ok-waiting.ensures

pub loop-name-smaller : goal.loop-name-smaller
loop-name-smaller c =
    fewer_names c.args.tree.now c.trees_are_kept.ensures.kept c.in-Some.name c.next.new.self c.loop-name.waiting c.go_on.new.waiting
    c.in-Some.ensures c.in_ok-go_on.ensures.waiting c.loop-name.invariant.there

pub loop-name-preserved : goal.loop-name-preserved
loop-name-preserved c =
    on_the_way c.args.tree.now c.trees_are_kept.ensures.kept c.args.user c.in-Some.name c.next.new.self c.loop-name.waiting c.go_on.new.waiting c.loop-name.listing.items c.line_at.new.out.items c.loop-name.first c.go_on.new.first
    c.in-Some.ensures c.in_ok-go_on.ensures.waiting (c.in_ok-line_at.ensures ∙ ap (λ first. c.loop-name.listing.items ++ line_at c.args.tree.now c.in-Some.name first) c.get.ensures.value) c.in_ok-go_on.ensures.first c.loop-name.invariant

pub returns : goal.returns
returns c = c.from.ensures ∙ at_end c.args.tree.now c.args.user c.loop-name.listing.items c.loop-name.first c.loop-name.waiting c.in_default.ensures.0 c.loop-name.invariant
