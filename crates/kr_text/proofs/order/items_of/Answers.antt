use Rattle.std.proofs.Common.{rules, ◌≡◌, ◌∷◌, ◌++◌, [], length, ap, sym, subst, ◌∙◌, arith, append-nil}
use Rattle.std.specs.List.{All}
use Rattle.std.proofs.lemmas.List.Elements.{All-push}
use Rattle.kr_tree.specs.Tree.{entries}
use Rattle.kr_text.specs.declared.order.Item.{Item}
use Rattle.kr_text.specs.Order.{HasHead, pair_of, pairs_of, pairs_in}
use Rattle.kr_text.proofs.OrderLemmas.{later, later_start, later_next, later_none, put_in_front}
use Rattle.kr_text.proofs.order.items_of.Goals as goal

pub loop-serial-init : goal.loop-serial-init
loop-serial-init c =
    let none = c.new-items.ensures.items in
    let start = later_start c.args.tree.now c.args.dir c.trees_are_kept.ensures.kept in
    record {
      pairs = λ k. pairs_of (none k) ++ pairs_in (start k);
      heads = λ k d l. let few = ap length none in absurd (omega (arith, few, l));
    }

pub loop-serial-smaller : goal.loop-serial-smaller
loop-serial-smaller c =
    let fewer = ap length (later_next c.args.tree.now c.args.dir c.loop-serial.after _ c.trees_are_kept.ensures.kept c.in-Some.ensures) in
    omega arith

pub loop-serial-preserved : goal.loop-serial-preserved
loop-serial-preserved c =
    let next = later_next c.args.tree.now c.args.dir c.loop-serial.after _ c.trees_are_kept.ensures.kept c.in-Some.ensures in
    let items = c.loop-serial.items.items in
    let item : Item = record { head = c.head_of-head.result; name = c.in-Some.name; ino = c.in-Some.ino } in
    let put : c.push.new.self.items ≡ items ++ item ∷ [] = search rules in
    let more = pairs_in (later c.in-Some.serial (entries c.args.tree.now c.args.dir)) in
    record {
      pairs = ap (λ is. pairs_of is ++ more) put ∙ sym (put_in_front pair_of items item more) ∙ ap (λ es. pairs_of items ++ pairs_in es) (sym next) ∙ c.loop-serial.invariant.pairs;
      heads = subst (All HasHead) (sym put) (All-push HasHead items item c.loop-serial.invariant.heads c.head_of-head.ensures);
    }

pub returns-clause-pairs : goal.returns-clause-pairs
returns-clause-pairs c =
    sym (append-nil (pairs_of c.loop-serial.items.items)) ∙ ap (λ es. pairs_of c.loop-serial.items.items ++ pairs_in es) (sym (later_none c.loop-serial.after (entries c.args.tree.now c.args.dir) (sym c.in_default.ensures))) ∙ c.loop-serial.invariant.pairs
