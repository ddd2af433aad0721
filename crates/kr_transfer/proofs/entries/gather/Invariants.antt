use Rattle.std.proofs.Common.{◌≡◌, ◌+◌, ◌≤◌, ◌++◌, length}
use Rattle.kr_seen.specs.kr_model.DirectoryRows.{behind, fitting, listed_bytes}
use Rattle.kr_seen.specs.kr_model.Known.{known}
use Rattle.kr_seen.specs.kr_model.State.{image_layout}
use Rattle.kr_seen.specs.kr_ops.Meaning.{meaning}
use Rattle.kr_transfer.specs.Listing.{all_shown, last_from}
use Rattle.kr_transfer.proofs.entries.gather.Given as goal

abbrev pub invariant-entries : goal.invariant-entries
invariant-entries g l =
    let all = all_shown (known image_layout l.pid (meaning l.state)) l.host in
    record {
      bytes : listed_bytes (fitting l.n (behind l.after all)) ≡ l.bytes ++ listed_bytes (fitting l.left (behind l.last all));
      last : last_from l.after (fitting l.n (behind l.after all)) ≡ last_from l.last (fitting l.left (behind l.last all));
      within : length l.bytes + l.left ≤ l.n;
    }

abbrev pub decreases-entries : goal.decreases-entries
decreases-entries g l = l.left
