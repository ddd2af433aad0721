use Rattle.std.proofs.Common.{◌≡◌, drop}
use Rattle.std.specs.Prelude.{map as map_list}
use Rattle.kr_seen.specs.kr_tree.declared.place.ProcAt.TheVariants.{Dir}
use Rattle.kr_seen.specs.kr_model.DirectoryRows.{listed_process}
use Rattle.kr_transfer.specs.Listing.{first_behind}
use Rattle.kr_transfer.proofs.listing.directory_entry.Given as goal

abbrev pub invariant-loop-k : goal.invariant-loop-k
invariant-loop-k g l = first_behind l.after (map_list (λ p. listed_process (Dir p.pid)) l.state.living.items) ≡ first_behind l.after (map_list (λ p. listed_process (Dir p.pid)) (drop l.k l.state.living.items))
