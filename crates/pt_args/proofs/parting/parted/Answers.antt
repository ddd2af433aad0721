use Rattle.std.proofs.Common.{◌+◌, ◌-◌, List, ℕ, [], ◌∷◌, drop, length, subst, sym, take}
use Rattle.pt_canon.specs.pr_base.Paths.{slash}
use Rattle.pt_args.specs.Parting.{IsParted}
use Rattle.pt_args.proofs.PartedLemmas.{behind_is, last_within, parted_below, parted_in_root, root_alone}
use Rattle.pt_args.proofs.parting.parted.Goals as goal

pub returns-then-text-eq1 : goal.returns-then-text-eq1
returns-then-text-eq1 c = root_alone c.args.text.now c.requires c.if-text-eq1.true

pub slice_bounds-name-count : goal.slice_bounds-name-count
slice_bounds-name-count c = last_within c.args.text.now c.requires c.if-text-eq1.false c.last_slash-end.result c.last_slash-end.ensures.last

pub slice_bounds-name-start : goal.slice_bounds-name-start
slice_bounds-name-start c = last_within c.args.text.now c.requires c.if-text-eq1.false c.last_slash-end.result c.last_slash-end.ensures.last

pub returns-then-end-eq0 : goal.returns-then-end-eq0
returns-then-end-eq0 c =
    let end = c.last_slash-end.result in
    let P : List ℕ → Type 0 = λ dir. IsParted c.args.text.now dir (take (length c.args.text.now - (end + 1)) (drop (end + 1) c.args.text.now)) in
    let Q : List ℕ → Type 0 = λ name. IsParted c.args.text.now (slash ∷ []) name in
    subst P (sym c.as_slice.ensures) (subst Q (sym (behind_is (end + 1) c.args.text.now)) (parted_in_root c.args.text.now c.requires c.if-text-eq1.false end c.last_slash-end.ensures.last c.if-end-eq0.true))

pub returns : goal.returns
returns c =
    let end = c.last_slash-end.result in
    let Q : List ℕ → Type 0 = λ name. IsParted c.args.text.now (take end c.args.text.now) name in
    subst Q (sym (behind_is (end + 1) c.args.text.now)) (parted_below c.args.text.now c.requires c.if-text-eq1.false end c.last_slash-end.ensures.last c.if-end-eq0.false)
