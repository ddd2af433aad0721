use Rattle.std.proofs.Common.{◌≡◌, ◌∷◌, ◌++◌, [], List, All, map, arith, sym, ap, subst, ◌∙◌}
use Rattle.std.specs.Vec.Iter.{into_iter_items}
use Rattle.std.proofs.lemmas.List.Elements.{All-cons, All-head, All-nil, All-push, All-tail}
use Rattle.kr_walk.specs.kr_tree.Tree.{Tree}
use Rattle.kr_walk.specs.kr_view.View.{Row}
use Rattle.kr_mounts.specs.Bounds.{IsSpelled}
use Rattle.kr_mounts.specs.Found.{HasTexts, located_told, source_told}
use Rattle.kr_mounts.specs.Growth.{Same}
use Rattle.kr_mounts.specs.MountTable.{Settling, points, root_row}
use Rattle.kr_mounts.specs.Passes.{standing}
use Rattle.kr_mounts.specs.Stored.{table_of}
use Rattle.kr_mounts.proofs.PassLemmas.{none_left, settled_error, settled_memory}
use Rattle.kr_mounts.proofs.WayLemmas.{grown_onward}
use Rattle.kr_mounts.proofs.passes.stand.Goals as goal

pub root_mount-requires : goal.root_mount-requires
root_mount-requires c = c.requires.root

pub with-requires : goal.with-requires
with-requires c = c.in_ok-root.ensures.texts.location

pub returns-in_err-root-clause-settled : goal.returns-in_err-root-clause-settled
returns-in_err-root-clause-settled c = settled_memory (points c.args.user (map located_told c.args.ordered.items) c.args.tree.now (root_row (source_told c.args.root) ∷ [])) c.args.tree.now _ c.from_residual.ensures.0 c.from_residual.ensures.1

pub returns-in_err-mounted-clause-settled : goal.returns-in_err-mounted-clause-settled
returns-in_err-mounted-clause-settled c = settled_memory (points c.args.user (map located_told c.args.ordered.items) c.args.tree.now (root_row (source_told c.args.root) ∷ [])) c.args.tree.now _ c.from_residual-in_err-mounted.ensures.0 c.from_residual-in_err-mounted.ensures.1

pub returns-in_err-root-clause-grown : goal.returns-in_err-root-clause-grown
returns-in_err-root-clause-grown c = Same

pub returns-in_err-mounted-clause-grown : goal.returns-in_err-mounted-clause-grown
returns-in_err-mounted-clause-grown c = Same

pub loop-one-init : goal.loop-one-init
loop-one-init c =
    let read = c.into_iter-one-iterator.ensures.into_iter_gives.0 in
    let root = c.in_ok-root.root in
    let table : table_of c.in_ok-mounted.mounted ≡ root_row (source_told c.args.root) ∷ [] =
    ap table_of (c.in_ok-mounted.ensures ∙ ap (λ ms. ms ++ root ∷ []) c.empty.ensures) ∙ ap (λ r. r ∷ []) c.in_ok-root.ensures.row in
    record {
      same = λ i. points c.args.user (map located_told (read i)) c.args.tree.now (table i);
      texts = subst (All HasTexts) (sym read) c.requires.texts;
      grown = Same;
      numbers = c.requires.numbers;
      spelled = subst (All IsSpelled) (sym (c.in_ok-mounted.ensures ∙ ap (λ ms. ms ++ root ∷ []) c.empty.ensures)) (All-cons IsSpelled root [] c.in_ok-root.ensures.texts (All-nil IsSpelled));
    }

pub place-requires : goal.place-requires
place-requires c =
    record {
      numbers = c.loop-one.invariant.numbers;
      texts = All-head HasTexts c.in-Some.one (into_iter_items c.next.new.self) (subst (All HasTexts) c.in-Some.ensures.steps.0 c.loop-one.invariant.texts);
    }

pub returns-in_err-mounted-2-clause-settled : goal.returns-in_err-mounted-2-clause-settled
returns-in_err-mounted-2-clause-settled c =
    let user = c.args.user in
    let l = c.loop-one in
    let table = table_of l.mounted in
    let step : (Tree → List Row → Settling) → Settling = standing user table (located_told c.in-Some.one) l.tree in
    let go : Tree → List Row → Settling = points user (map located_told (into_iter_items c.next.new.self)) in
    let is = sym l.invariant.same ∙ ap (λ xs. points user (map located_told xs) l.tree table) c.in-Some.ensures.steps.0 in
    settled_error (points user (map located_told c.args.ordered.items) c.args.tree.now (root_row (source_told c.args.root) ∷ [])) step go c.place.new.tree _ is c.in_err-mounted-2.ensures.placed _ c.from_residual-in_err-mounted-2.ensures.0 c.from_residual-in_err-mounted-2.ensures.1

pub returns-in_err-mounted-2-clause-grown : goal.returns-in_err-mounted-2-clause-grown
returns-in_err-mounted-2-clause-grown c = grown_onward c.args.user c.args.tree.now c.loop-one.tree c.place.new.tree c.loop-one.invariant.grown c.in_err-mounted-2.ensures.grown

pub loop-one-preserved : goal.loop-one-preserved
loop-one-preserved c =
    let user = c.args.user in
    let l = c.loop-one in
    let table = table_of l.mounted in
    let left = into_iter_items c.next.new.self in
    let is = sym l.invariant.same ∙ ap (λ xs. points user (map located_told xs) l.tree table) c.in-Some.ensures.steps.0 in
    record {
      same = sym (is ∙ c.in_ok-mounted-2.ensures.placed (points user (map located_told left)));
      texts = All-tail HasTexts c.in-Some.one left (subst (All HasTexts) c.in-Some.ensures.steps.0 l.invariant.texts);
      grown = grown_onward user c.args.tree.now l.tree c.place.new.tree l.invariant.grown c.in_ok-mounted-2.ensures.grown;
      numbers = c.in_ok-mounted-2.ensures.numbers;
      spelled = (let one = c.in_ok-mounted-2.ensures.more in subst (All IsSpelled) (sym one.added) (All-push IsSpelled l.mounted one.mount l.invariant.spelled one.spelled));
    }

pub returns-clause-settled : goal.returns-clause-settled
returns-clause-settled c =
    let l = c.loop-one in
    let left = into_iter_items l.one-iterator in
    let none : left ≡ [] = none_left left (let counted = l.one-iterator.rest.ok.0 in let all = c.in-None.ensures.steps.0 in omega arith) in
    let is = sym l.invariant.same ∙ ap (λ xs. points c.args.user (map located_told xs) l.tree (table_of l.mounted)) none in
    (ap (λ (s : Settling). s.tree) is, ap (λ (s : Settling). s.answer) is)
