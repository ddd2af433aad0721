use Rattle.std.proofs.Common.{◌∙◌, ap}
use Rattle.pt_canon.specs.Keys.{key_bytes}
use Rattle.pt_canon.proofs.key.Key.into_bytes.Goals as goal

pub returns-clause-bytes : goal.returns-clause-bytes
returns-clause-bytes c = c.self.invariant.same ∙ ap key_bytes c.self.view_is

pub returns-clause-read : goal.returns-clause-read
returns-clause-read c = c.self.view_is
