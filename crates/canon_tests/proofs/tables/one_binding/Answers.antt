use Rattle.std.proofs.Common.{[], ◌∷◌, ◌∙◌, refl, subst, sym}
use Rattle.std.specs.Prelude.{codes}
use Rattle.pt_results.specs.pt_bind.Binding.{AreBounds}
use Rattle.pt_results.specs.pr_base.declared.bind.Bound.{Bound}
use Rattle.canon_tests.proofs.SettledRows.{added, bounds_by_test, row}
use Rattle.canon_tests.proofs.tables.one_binding.Goals as goal

pub build-requires : goal.build-requires
build-requires c =
    let root = added Bound _ _ _ [] c.in_ok-add.ensures c.new-bounds.ensures.items in
    let two = added Bound _ _ _ _ c.in_ok-add-2.ensures root in
    subst AreBounds (sym (c.as_slice.ensures.value ∙ two))
    (bounds_by_test (codes "g" ∷ []) (row 1 (codes "mnt" ∷ []) (codes "data" ∷ []) (codes "mnt" ∷ codes "g" ∷ []) ∷ []) refl refl)
