use Rattle.std.proofs.Common.{length}
use Rattle.std.specs.List.{flat_map}
use Rattle.kr_text.proofs.NamesLemmas.{under}
use Rattle.kr_text.proofs.WayLemmas.{IsOnTheWay}
use Rattle.kr_text.proofs.canonical.write.Given as goal

abbrev pub invariant-loop-name : goal.invariant-loop-name
invariant-loop-name l = IsOnTheWay l.tree l.fn.user l.listing.items l.first l.waiting

abbrev pub decreases-loop-name : goal.decreases-loop-name
decreases-loop-name l = length (flat_map (under l.tree) l.waiting)
