use Rattle.std.proofs.Common.{◌≡◌, ℕ, ◌+◌, ◌%◌, ◌∷◌, ◌++◌, List, Option, None, drop, length, append_assoc, arith, ap, subst, sym, ◌∙◌}
use Rattle.std.proofs.lemmas.List.Elements.{All-get_or}
use Rattle.rv_asm.specs.declared.item.Item.{Item}
use Rattle.rv_asm.specs.Program.{IsProper, label_of, size_of, total}
use Rattle.rv_asm.specs.Assembly.{far_label, first_far, code_from}
use Rattle.rv_asm.proofs.Reach.{has_words}
use Rattle.rv_asm.proofs.Programs.{drop-item, option_or_none, size_aligned}
use Rattle.rv_asm.proofs.assembly.assemble.Goals as goal

-- the first of the items that are left, and those behind it, are in reach
left_in_reach : (places : List (Option ℕ)) (at : ℕ) (item : Item) (left rest : List Item) → left ≡ item ∷ rest → first_far places at left ≡ None → (far_label places at item (label_of item) ≡ None) × (first_far places (at + size_of item) rest ≡ None)
left_in_reach places at item left rest is none =
    option_or_none (far_label places at item (label_of item)) (first_far places (at + size_of item) rest) (sym (ap (first_far places at) is) ∙ none)

pub put_item-requires-clause-words : goal.put_item-requires-clause-words
put_item-requires-clause-words c =
    let items : List Item = c.args.items.now in
    let k : ℕ = c.loop-item.item-index in
    let item : Item = c.item-item.result in
    let proper : IsProper (length c.args.places.now) item =
    subst (IsProper (length c.args.places.now)) (sym c.item-item.is) (All-get_or (IsProper (length c.args.places.now)) items k item c.loop-item-test.true c.requires.sound.proper) in
    has_words c.args.places.now c.loop-item.at (length c.args.places.now) (total items) item proper
    (left_in_reach c.args.places.now c.loop-item.at item (drop k items) (drop (k + 1) items) (drop-item items k item c.loop-item-test.true c.item-item.is) c.loop-item.invariant.reached).0
    c.loop-item.invariant.aligned c.requires.sound.inside

pub loop-item-preserved : goal.loop-item-preserved
loop-item-preserved c =
    let items : List Item = c.args.items.now in
    let places : List (Option ℕ) = c.args.places.now in
    let k : ℕ = c.loop-item.item-index in
    let at : ℕ = c.loop-item.at in
    let item : Item = c.item-item.result in
    let rest : List Item = drop (k + 1) items in
    let next : drop k items ≡ item ∷ rest = drop-item items k item c.loop-item-test.true c.item-item.is in
    let proper : IsProper (length places) item =
    subst (IsProper (length places)) (sym c.item-item.is) (All-get_or (IsProper (length places)) items k item c.loop-item-test.true c.requires.sound.proper) in
    let whole : size_of item % 4 ≡ 0 = size_aligned (length places) item proper in
    record {
      front = rw (c.size-at.ensures, c.in_ok-put_item.ensures, append_assoc) (ap (λ (left : List Item). c.loop-item.code.items ++ code_from places at left) (sym next) ∙ c.loop-item.invariant.front);
      counted = omega (arith, ap total next, c.size-at.ensures);
      aligned = omega (arith, c.size-at.ensures);
      reached = rw c.size-at.ensures (left_in_reach places at item (drop k items) rest next c.loop-item.invariant.reached).1;
    }
