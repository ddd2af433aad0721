use Rattle.std.proofs.Common.{rules, ◌≡◌, ◌++◌, ◌∷◌, map, true, sym, ap, subst, ◌∙◌}
use Rattle.kr_tree.specs.Names.{is_name}
use Rattle.kr_text.specs.Canonical.{below}
use Rattle.kr_text.specs.Order.{AreNamed}
use Rattle.kr_text.proofs.OrderLemmas.{put_in_front, all_but_last}
use Rattle.kr_text.proofs.order.Waiting.put_below.Goals as goal

pub loop-name-preserved : goal.loop-name-preserved
loop-name-preserved c =
    let path = c.args.path.now in
    let taken = c.pop_last.new.self in
    let put : c.put.new.self ≡ below path (c.in-Some.name.now, c.in-Some.ino) ∷ c.loop-name.self = search rules in
    record {
      waiting = ap (λ w. map (below path) taken ++ w) put ∙ put_in_front (below path) taken (c.in-Some.name.now, c.in-Some.ino) c.loop-name.self ∙ ap (λ names. map (below path) names ++ c.loop-name.self) (sym c.in-Some.ensures) ∙ c.loop-name.invariant.waiting;
      well_formed = all_but_last (λ p. is_name p.0 ≡ true) taken (c.in-Some.name.now, c.in-Some.ino) (subst AreNamed c.in-Some.ensures c.loop-name.invariant.well_formed);
    }
