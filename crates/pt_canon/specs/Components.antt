-- What a component in the hands of a walk stands for, and where components lead that meet no link. No public clause cites this module.
use Rattle.std.specs.Prelude.{List, [], ◌∷◌}
use Rattle.pt_bind.specs.pr_base.Paths.{Component}
use Rattle.pt_bind.specs.pr_base.Paths as paths
use Rattle.pt_bind.specs.pr_base.Texts.{Text}
use Rattle.pt_canon.specs.ProcessLinks.{above}
use Rattle.pt_canon.specs.declared.component.Component.{Component as Held}
use Rattle.pt_canon.specs.declared.component.Component.TheVariants.{Dot, DotDot, Name}

abbrev pub component_data : Held → Component
component_data Dot = paths.Dot
component_data DotDot = paths.DotDot
component_data (Name name) = paths.Name name.now

-- the text to which components lead from another one where no link stands on the way
abbrev pub straight : Text → List Component → Text
straight t [] = t
straight t (paths.Dot ∷ cs) = straight t cs
straight t (paths.DotDot ∷ cs) = straight (above t) cs
straight t (paths.Name name ∷ cs) = straight (name ∷ t) cs
