use Rattle.std.proofs.Common.{◌≡◌, ◌∷◌, [], All, map}
use Rattle.std.specs.Vec.Iter.{into_iter_items}
use Rattle.kr_mounts.specs.Bounds.{IsSpelled}
use Rattle.kr_mounts.specs.Found.{HasTexts, located_told, source_told}
use Rattle.kr_mounts.specs.Growth.{IsGrown}
use Rattle.kr_mounts.specs.MountTable.{points, root_row}
use Rattle.kr_mounts.specs.Stored.{table_of}
use Rattle.kr_mounts.specs.Ways.{HasNumbers}
use Rattle.kr_mounts.proofs.passes.stand.Given as goal

abbrev pub invariant-loop-one : goal.invariant-loop-one
invariant-loop-one l = record {
  same : points l.user (map located_told (into_iter_items l.one-iterator)) l.tree (table_of l.mounted) ≡ points l.user (map located_told l.fn.ordered.items) l.fn.tree (root_row (source_told l.fn.root) ∷ []);
  texts : All HasTexts (into_iter_items l.one-iterator);
  grown : IsGrown l.user l.fn.tree l.tree;
  numbers : HasNumbers l.tree;
  spelled : All IsSpelled l.mounted;
}
