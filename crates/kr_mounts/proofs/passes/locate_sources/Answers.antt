use Rattle.std.proofs.Common.{◌≡◌, ◌∷◌, ◌++◌, [], All, Ok, map, sym, ap, subst, ◌∙◌, arith}
use Rattle.std.specs.Vec.Iter.{into_iter_items}
use Rattle.std.proofs.lemmas.List.{map-append}
use Rattle.std.proofs.lemmas.List.Elements.{All-head, All-nil, All-push, All-tail}
use Rattle.kr_mounts.specs.Found.{HasTexts, located_told}
use Rattle.kr_mounts.specs.MountTable.{and_then, located, locations}
use Rattle.kr_mounts.specs.Passes.{HasSource, sourced_told}
use Rattle.kr_mounts.proofs.PassLemmas.{all_done, as_next, none_before, none_left, one_more, told_error, told_memory}
use Rattle.kr_mounts.proofs.passes.locate_sources.Goals as goal

pub loop-one-init : goal.loop-one-init
loop-one-init c =
    let at = locations c.args.tree.now c.args.user c.args.root in
    let none = sym c.new-all.ensures.items in
    let read = sym c.into_iter-one-iterator.ensures.into_iter_gives.0 in
    record {
      same = none_before (at (map sourced_told c.args.sourced.items)) ∙ (λ i. and_then (at (map sourced_told (read i))) (λ rest. Ok (map located_told (none i) ++ rest)));
      sources = subst (All HasSource) read c.requires;
      texts = subst (All HasTexts) none (All-nil HasTexts);
    }

pub locate-requires : goal.locate-requires
locate-requires c = All-head HasSource c.in-Some.one (into_iter_items c.next.new.self) (subst (All HasSource) c.in-Some.ensures.steps.0 c.loop-one.invariant.sources)

pub returns-in_err-one : goal.returns-in_err-one
returns-in_err-one c =
    let at = locations c.args.tree.now c.args.user c.args.root in
    let whole = at (map sourced_told c.args.sourced.items) in
    let one = located c.args.tree.now c.args.user c.args.root (sourced_told c.in-Some.one) in
    let rest = at (map sourced_told (into_iter_items c.next.new.self)) in
    let acc = map located_told c.loop-one.all.items in
    let is = c.loop-one.invariant.same ∙ ap (λ xs. and_then (at (map sourced_told xs)) (λ rest. Ok (acc ++ rest))) c.in-Some.ensures.steps.0 in
    let next = as_next whole one rest acc is in
    told_error (λ v. map located_told v.items) (λ v. All HasTexts v.items) whole located_told HasTexts one _ next _ c.in_err-one.ensures _ c.from_residual.ensures.0 c.from_residual.ensures.1

pub returns-in_err-add : goal.returns-in_err-add
returns-in_err-add c =
    told_memory (λ v. map located_told v.items) (λ v. All HasTexts v.items) (locations c.args.tree.now c.args.user c.args.root (map sourced_told c.args.sourced.items)) _ c.from_residual-in_err-add.ensures.0 c.from_residual-in_err-add.ensures.1

pub loop-one-preserved : goal.loop-one-preserved
loop-one-preserved c =
    let at = locations c.args.tree.now c.args.user c.args.root in
    let whole = at (map sourced_told c.args.sourced.items) in
    let one = located c.args.tree.now c.args.user c.args.root (sourced_told c.in-Some.one) in
    let new = c.in_ok-one.one in
    let left = into_iter_items c.next.new.self in
    let rest = at (map sourced_told left) in
    let before = c.loop-one.all.items in
    let acc = map located_told before in
    let is = c.loop-one.invariant.same ∙ ap (λ xs. and_then (at (map sourced_told xs)) (λ rest. Ok (acc ++ rest))) c.in-Some.ensures.steps.0 in
    let more = one_more whole one rest acc is (located_told new) c.in_ok-one.ensures.0 in
    let added = c.in_ok-add.ensures in
    let told = ap (map located_told) added ∙ map-append located_told before (new ∷ []) in
    record {
      same = more ∙ ap (λ acc. and_then rest (λ rest. Ok (acc ++ rest))) (sym told);
      sources = All-tail HasSource c.in-Some.one left (subst (All HasSource) c.in-Some.ensures.steps.0 c.loop-one.invariant.sources);
      texts = subst (All HasTexts) (sym added) (All-push HasTexts before new c.loop-one.invariant.texts c.in_ok-one.ensures.1);
    }

pub returns : goal.returns
returns c =
    let at = locations c.args.tree.now c.args.user c.args.root in
    let acc = map located_told c.loop-one.all.items in
    let left = into_iter_items c.loop-one.one-iterator in
    let none : left ≡ [] = none_left left (let counted = c.loop-one.one-iterator.rest.ok.0 in let all = c.in-None.ensures.steps.0 in omega arith) in
    (all_done (at (map sourced_told c.args.sourced.items)) acc (c.loop-one.invariant.same ∙ ap (λ xs. and_then (at (map sourced_told xs)) (λ rest. Ok (acc ++ rest))) none), c.loop-one.invariant.texts)
