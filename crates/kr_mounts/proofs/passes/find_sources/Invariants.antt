use Rattle.std.proofs.Common.{◌≡◌, ◌++◌, All, drop, map, Ok}
use Rattle.kr_mounts.specs.MountTable.{and_then, sources}
use Rattle.kr_mounts.specs.Passes.{HasSource, sourced_told}
use Rattle.kr_mounts.proofs.passes.find_sources.Given as goal

abbrev pub invariant-loop-bind : goal.invariant-loop-bind
invariant-loop-bind l = record {
  same : sources l.tree l.user l.binds ≡ and_then (sources l.tree l.user (drop l.bind-index l.binds)) (λ rest. Ok (map sourced_told l.sourced.items ++ rest));
  texts : All HasSource l.sourced.items;
}
