-- What a component in the hands of a walk stands for.
use Rattle.kr_view.specs.kr_tree.pr_base.Paths.{Component}
use Rattle.kr_view.specs.kr_tree.pr_base.Paths as paths
use Rattle.kr_walk.specs.declared.component.Component.{Component as Held}
use Rattle.kr_walk.specs.declared.component.Component.TheVariants.{Dot, DotDot, Name}

abbrev pub component_data : Held → Component
component_data Dot = paths.Dot
component_data DotDot = paths.DotDot
component_data (Name name) = paths.Name name.now
