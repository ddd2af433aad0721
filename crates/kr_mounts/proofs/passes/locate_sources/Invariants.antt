use Rattle.std.proofs.Common.{◌≡◌, ◌++◌, All, map, Ok}
use Rattle.std.specs.Vec.Iter.{into_iter_items}
use Rattle.kr_mounts.specs.Found.{HasTexts, located_told}
use Rattle.kr_mounts.specs.MountTable.{and_then, locations}
use Rattle.kr_mounts.specs.Passes.{HasSource, sourced_told}
use Rattle.kr_mounts.proofs.passes.locate_sources.Given as goal

abbrev pub invariant-loop-one : goal.invariant-loop-one
invariant-loop-one l = record {
  same : locations l.tree l.user l.root (map sourced_told l.fn.sourced.items) ≡ and_then (locations l.tree l.user l.root (map sourced_told (into_iter_items l.one-iterator))) (λ rest. Ok (map located_told l.all.items ++ rest));
  sources : All HasSource (into_iter_items l.one-iterator);
  texts : All HasTexts l.all.items;
}
