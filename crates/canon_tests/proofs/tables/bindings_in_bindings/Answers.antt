use Rattle.std.proofs.Common.{[], ◌∷◌, ◌∙◌, refl, subst, sym}
use Rattle.std.specs.Prelude.{codes}
use Rattle.pt_results.specs.pt_bind.Binding.{AreBounds}
use Rattle.pt_results.specs.pr_base.declared.bind.Bound.{Bound}
use Rattle.canon_tests.proofs.SettledRows.{added, bounds_by_test, row}
use Rattle.canon_tests.proofs.tables.bindings_in_bindings.Goals as goal

pub build-requires : goal.build-requires
build-requires c =
    let root = added Bound _ _ _ [] c.in_ok-add.ensures c.new-bounds.ensures.items in
    let two = added Bound _ _ _ _ c.in_ok-add-2.ensures root in
    let three = added Bound _ _ _ _ c.in_ok-add-3.ensures two in
    let four = added Bound _ _ _ _ c.in_ok-add-4.ensures three in
    let five = added Bound _ _ _ _ c.in_ok-add-5.ensures four in
    let six = added Bound _ _ _ _ c.in_ok-add-6.ensures five in
    subst AreBounds (sym (c.as_slice.ensures.value ∙ six))
    (bounds_by_test (codes "g" ∷ []) (
    row 4 (codes "x" ∷ codes "mnt" ∷ []) (codes "data" ∷ []) (codes "x" ∷ codes "other" ∷ [])
    ∷ row 2 (codes "mnt" ∷ []) (codes "other" ∷ []) (codes "mnt" ∷ codes "g" ∷ [])
    ∷ row 3 (codes "b" ∷ []) (codes "data" ∷ []) (codes "b" ∷ codes "g" ∷ [])
    ∷ row 1 (codes "all" ∷ []) [] (codes "all" ∷ codes "g" ∷ [])
    ∷ row 6 (codes "proc" ∷ []) (codes "proc" ∷ []) (codes "proc" ∷ codes "g" ∷ [])
    ∷ []) refl refl)
