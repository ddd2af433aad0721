use Rattle.std.proofs.Common.{◌≡◌, ◌+◌, ◌<◌, ◌≤◌, ℕ, Some}
use Rattle.kr_seen.specs.kr_files.Descriptors.{Named}
use Rattle.kr_seen.specs.kr_model.State.{named}
use Rattle.kr_seen.specs.kr_ops.Meaning.{meaning}
use Rattle.kr_transfer.proofs.listing.descriptor_entry.Given as goal

abbrev pub invariant-loop-fd : goal.invariant-loop-fd
invariant-loop-fd g l = (q : ℕ) (x : Named) → named l.of q (meaning l.state) ≡ Some x → q < l.fd → 3 + q ≤ l.after
