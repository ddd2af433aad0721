use Rattle.std.proofs.Common.{◌∙◌, ap}
use Rattle.pt_canon.specs.Keys.{key_bytes, key_in}
use Rattle.pt_canon.proofs.key.Key.bytes.Goals as goal

pub returns-clause-bytes : goal.returns-clause-bytes
returns-clause-bytes c = c.as_slice.ensures.value ∙ c.self.invariant.same ∙ ap key_bytes c.self.view_is

pub returns-clause-read : goal.returns-clause-read
returns-clause-read c = ap key_in c.as_slice.ensures.value ∙ c.self.view_is
