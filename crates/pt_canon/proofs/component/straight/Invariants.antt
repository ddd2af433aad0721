use Rattle.std.proofs.Common.{◌≡◌, map}
use Rattle.std.specs.List.{All}
use Rattle.pt_bind.specs.pr_base.Parts.{parts_left}
use Rattle.pt_bind.specs.pr_base.Paths.{IsComponent, component_of, components_of}
use Rattle.pt_canon.specs.Components.{straight}
use Rattle.pt_canon.proofs.component.straight.Given as goal

abbrev pub invariant-loop-part : goal.invariant-loop-part
invariant-loop-part l = record {
  leads : straight l.text (map component_of (parts_left l.part-iterator)) ≡ straight l.from (components_of l.path);
  fine : All IsComponent (map component_of (parts_left l.part-iterator));
}
