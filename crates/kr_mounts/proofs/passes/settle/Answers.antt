use Rattle.std.proofs.Common.{◌≡◌, ◌∷◌, [], List, All, Ok, sym, ap, subst, ◌∙◌}
use Rattle.kr_mounts.specs.Bounds.{IsSpelled}
use Rattle.kr_mounts.specs.Found.{source_told}
use Rattle.kr_mounts.specs.Growth.{Same}
use Rattle.kr_mounts.specs.MountTable.{Located, points, points_of, root_row, settling}
use Rattle.kr_mounts.specs.Stored.{table_of}
use Rattle.kr_mounts.specs.declared.mount.Mount.{Mount}
use Rattle.kr_mounts.proofs.BoundLemmas.{bounds_settled, by_recursion, settled_apart}
use Rattle.kr_mounts.proofs.passes.settle.Goals as goal

pub returns-in_err-root-clause-grown : goal.returns-in_err-root-clause-grown
returns-in_err-root-clause-grown c = Same

pub returns-in_err-ordered-clause-grown : goal.returns-in_err-ordered-clause-grown
returns-in_err-ordered-clause-grown c = Same

pub in_order-requires : goal.in_order-requires
in_order-requires c = c.in_ok-root.ensures.1.1

pub stand-requires : goal.stand-requires
stand-requires c = record { numbers = c.requires; root = c.in_ok-root.ensures.1.0; texts = c.in_ok-ordered.ensures.texts }

pub returns-clause-bounds : goal.returns-clause-bounds
returns-clause-bounds c = λ numbered.
    let t = c.args.tree.now in
    let user = c.args.user in
    let first = root_row (source_told c.in_ok-root.field-0.root) in
    let same : ◌≡◌ {A = List Mount} c.in_ok-settled.settled c.in_ok-mounted.mounted = c.in_ok-settled.ensures ∙ c.into_mounts-mounts.ensures.all in
    let answer : (settling t user c.args.root.now c.args.binds.now).answer ≡ Ok (table_of c.in_ok-settled.settled) =
    ap (λ r. (points_of t user r).answer) c.in_ok-root.ensures.0
    ∙ ap (λ (all : List Located). (points user all t (first ∷ [])).answer) (sym c.in_ok-ordered.ensures.order)
    ∙ c.in_ok-mounted.ensures.settled.1
    ∙ ap (λ (ms : List Mount). Ok (table_of ms)) (sym same) in
    let texts : All IsSpelled c.in_ok-settled.settled = subst (All IsSpelled) (sym same) c.in_ok-mounted.ensures.texts in
    bounds_settled c.in_ok-settled.settled (by_recursion c.in_ok-settled.settled texts) (settled_apart t user c.args.root.now c.args.binds.now numbered (table_of c.in_ok-settled.settled) answer)
