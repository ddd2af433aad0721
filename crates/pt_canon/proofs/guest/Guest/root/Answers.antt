use Rattle.std.proofs.Common.{◌∙◌, ap}
use Rattle.pt_bind.specs.Binding.{names_of}
use Rattle.pt_canon.proofs.GuestLemmas.{root_names}
use Rattle.pt_canon.proofs.guest.Guest.root.Goals as goal

pub returns : goal.returns
returns c = ap names_of c.new.ensures.items ∙ root_names
