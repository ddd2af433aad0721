use Rattle.std.proofs.Common.{◌≡◌, take}
use Rattle.pt_ident.specs.Identity.{number_bytes}
use Rattle.pt_ident.proofs.stored.group_bytes.Given as goal

abbrev pub invariant-loop-group : goal.invariant-loop-group
invariant-loop-group l = l.bytes ≡ number_bytes (take l.group-index l.groups)
