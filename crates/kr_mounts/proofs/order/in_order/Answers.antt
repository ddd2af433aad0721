use Rattle.std.proofs.Common.{◌≡◌, ◌∙◌, length, map, All, List, ℕ, sym, ap, subst, rules, vec_len}
use Rattle.std.specs.BTreeMap.{values}
use Rattle.std.proofs.lemmas.Result.{IfOk-weaker}
use Rattle.pt_bind.specs.Binding.{IsWritten, names_of}
use Rattle.kr_mounts.specs.Found.{HasTexts, located_told}
use Rattle.kr_mounts.specs.MountTable.{counting, in_order}
use Rattle.kr_mounts.specs.Turns.{IsNoted}
use Rattle.kr_mounts.proofs.TurnLemmas.{all_texts, all_turns, empty_is, no_turns, own_of, turn_taken}
use Rattle.kr_mounts.proofs.order.in_order.Goals as goal

pub loop-one-init : goal.loop-one-init
loop-one-init c = no_turns c.args.located.items c.new-seen.result c.new-turns.result c.requires c.new-seen.ensures.empty c.new-turns.ensures.empty

pub count-names-requires : goal.count-names-requires
count-names-requires c = subst IsWritten (sym c.as_slice.ensures) (own_of c.args.located.items c.pop.new.self.items c.loop-one.left.items c.loop-one.seen c.loop-one.turns c.loop-one.invariant c.in-Some.one c.in-Some.ensures.items).location

pub loop-one-preserved : goal.loop-one-preserved
loop-one-preserved c =
    let one = c.in-Some.one in
    let left = c.pop.new.self.items in
    let counted : vec_len c.pop.new.self ≡ length c.pop.new.self.items = search rules in
    let P : List ℕ → Type 0 = λ b. IsNoted c.loop-one.seen b c.note.new.seen c.in_ok-is_new.is_new in
    let noted = subst P c.as_slice-in-Some.ensures c.in_ok-is_new.ensures in
    turn_taken c.args.located.items left c.loop-one.left.items c.loop-one.seen c.note.new.seen c.loop-one.turns c.loop-one.invariant one c.in-Some.ensures.items
    (record { names = c.count-names.result; number = c.len-number.result }) c.take_turn.new.turns c.in_ok-is_new.is_new noted (c.count-names.ensures ∙ ap (λ b. length (names_of b)) c.as_slice.ensures) (c.len-number.ensures ∙ counted) c.in_ok-take_turn.ensures

pub returns : goal.returns
returns c =
    let have = c.loop-one.invariant in
    let counted : vec_len c.loop-one.left ≡ length c.loop-one.left.items = search rules in
    let none = empty_is c.loop-one.left.items (sym counted ∙ c.in_default.ensures.cases.0) in
    let whole = all_turns c.args.located.items c.loop-one.left.items c.loop-one.seen c.loop-one.turns have none in
    let texts = all_texts (length c.loop-one.left.items) c.loop-one.turns.entries have.each in
    record {
      order = IfOk-weaker c.in_turn.result (λ v. v.items ≡ values c.loop-one.turns) (λ v. map located_told v.items ≡ in_order (counting (map located_told c.args.located.items))) (λ v is. ap (map located_told) is ∙ whole) c.in_turn.ensures;
      texts = IfOk-weaker c.in_turn.result (λ v. v.items ≡ values c.loop-one.turns) (λ v. All HasTexts v.items) (λ v is. subst (All HasTexts) (sym is) texts) c.in_turn.ensures;
    }
