use Rattle.std.proofs.Common.{◌≡◌, Some}
use Rattle.kr_view.specs.kr_tree.Names.{host_name}
use Rattle.kr_view.specs.View.{Row, row}
use Rattle.kr_walk.proofs.WayUpLemmas.{WayUp}
use Rattle.kr_walk.proofs.guest.source_end.Given as goal

-- the way up from the directory, on which the source wasn't met
abbrev pub invariant-loop-mount : goal.invariant-loop-mount
invariant-loop-mount g l =
    WayUp l.tree (λ top. (r : Row) × (row (g.P.Places.mounts l.places) (g.P.Places.number l.mount) ≡ Some r) × (host_name l.tree r.source ≡ Some top)) l.name l.dir l.at l.end

abbrev pub decreases-loop-mount : goal.decreases-loop-mount
decreases-loop-mount g l = l.end
