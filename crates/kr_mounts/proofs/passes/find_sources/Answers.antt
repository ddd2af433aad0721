use Rattle.std.proofs.Common.{◌≡◌, ◌<◌, ◌∷◌, ◌++◌, [], ◌+◌, List, ℕ, All, Ok, length, drop, get_or, map, sym, ap, subst, ◌∙◌}
use Rattle.std.proofs.lemmas.List.{drop_all, drop_more, map-append}
use Rattle.std.proofs.lemmas.List.Elements.{All-nil, All-push}
use Rattle.pt_bind.specs.pr_base.declared.bind.Bind.{Bind}
use Rattle.kr_mounts.specs.MountTable.{and_then, sourced, sources}
use Rattle.kr_mounts.specs.Passes.{HasSource, sourced_told}
use Rattle.kr_mounts.proofs.PassLemmas.{all_done, as_next, none_before, one_more, told_error, told_memory}
use Rattle.kr_mounts.proofs.passes.find_sources.Goals as goal

next_bind : (binds : List Bind) (k : ℕ) (bind : Bind) → k < length binds → bind ≡ get_or binds k bind → drop k binds ≡ bind ∷ drop (k + 1) binds
next_bind binds k bind within is = drop_more binds k bind within ∙ ap (λ (b : Bind). b ∷ drop (k + 1) binds) (sym is)

pub loop-bind-init : goal.loop-bind-init
loop-bind-init c =
    let whole = sources c.args.tree.now c.args.user c.args.binds.now in
    let none = sym c.new-sourced.ensures.items in
    record {
      same = none_before whole ∙ (λ i. and_then whole (λ rest. Ok (map sourced_told (none i) ++ rest)));
      texts = subst (All HasSource) none (All-nil HasSource);
    }

pub returns-in_err-one : goal.returns-in_err-one
returns-in_err-one c =
    let t = c.args.tree.now in
    let user = c.args.user in
    let k = c.loop-bind.bind-index in
    let bind = c.bind-item.result in
    let rest = sources t user (drop (k + 1) c.args.binds.now) in
    let acc = map sourced_told c.loop-bind.sourced.items in
    let item = next_bind c.args.binds.now k bind c.loop-bind-test.true c.bind-item.is in
    let is = c.loop-bind.invariant.same ∙ ap (λ bs. and_then (sources t user bs) (λ rest. Ok (acc ++ rest))) item in
    let next = as_next (sources t user c.args.binds.now) (sourced t user bind) rest acc is in
    told_error (λ v. map sourced_told v.items) (λ v. All HasSource v.items) (sources t user c.args.binds.now) sourced_told HasSource (sourced t user bind) _ next _ c.in_err-one.ensures _ c.from_residual.ensures.0 c.from_residual.ensures.1

pub returns-in_err-add_source : goal.returns-in_err-add_source
returns-in_err-add_source c =
    told_memory (λ v. map sourced_told v.items) (λ v. All HasSource v.items) (sources c.args.tree.now c.args.user c.args.binds.now) _ c.from_residual-in_err-add_source.ensures.0 c.from_residual-in_err-add_source.ensures.1

pub loop-bind-preserved : goal.loop-bind-preserved
loop-bind-preserved c =
    let t = c.args.tree.now in
    let user = c.args.user in
    let k = c.loop-bind.bind-index in
    let bind = c.bind-item.result in
    let one = c.in_ok-one.one in
    let before = c.loop-bind.sourced.items in
    let rest = sources t user (drop (k + 1) c.args.binds.now) in
    let acc = map sourced_told before in
    let item = next_bind c.args.binds.now k bind c.loop-bind-test.true c.bind-item.is in
    let is = c.loop-bind.invariant.same ∙ ap (λ bs. and_then (sources t user bs) (λ rest. Ok (acc ++ rest))) item in
    let more = one_more (sources t user c.args.binds.now) (sourced t user bind) rest acc is (sourced_told one) c.in_ok-one.ensures.0 in
    let added = c.in_ok-add_source.ensures in
    let told = ap (map sourced_told) added ∙ map-append sourced_told before (one ∷ []) in
    record {
      same = more ∙ ap (λ acc. and_then rest (λ rest. Ok (acc ++ rest))) (sym told);
      texts = subst (All HasSource) (sym added) (All-push HasSource before one c.loop-bind.invariant.texts c.in_ok-one.ensures.1);
    }

pub returns : goal.returns
returns c =
    let t = c.args.tree.now in
    let user = c.args.user in
    let acc = map sourced_told c.loop-bind.sourced.items in
    let none = drop_all c.loop-bind.bind-index c.args.binds.now c.loop-bind-test.false in
    (all_done (sources t user c.args.binds.now) acc (c.loop-bind.invariant.same ∙ ap (λ bs. and_then (sources t user bs) (λ rest. Ok (acc ++ rest))) none), c.loop-bind.invariant.texts)
