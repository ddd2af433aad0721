use Rattle.std.proofs.Common.{◌≡◌, ◌∷◌, All, length}
use Rattle.pt_bind.specs.pr_base.Parts.{parts_left}
use Rattle.pt_bind.specs.pr_base.Paths.{IsPart, parts_of}
use Rattle.kr_mounts.specs.Growth.{IsGrown}
use Rattle.kr_mounts.specs.Points.{way}
use Rattle.kr_mounts.specs.Stored.{table_of}
use Rattle.kr_mounts.specs.Ways.{HasNumbers, wanted_of, way_of}
use Rattle.kr_mounts.proofs.point.Way.along_names.Given as goal

abbrev pub invariant-loop-next : goal.invariant-loop-next
invariant-loop-next l = record {
  same : way l.self.user (table_of l.self.mounted.now) (wanted_of l.wanted) l.tree l.foot.mount.number l.foot.inode l.name (parts_left l.parts) ≡ way_of l.self.user (table_of l.self.mounted.now) (wanted_of l.wanted) l.fn.tree (l.fn.first ∷ parts_of l.others);
  grown : IsGrown l.self.user l.fn.tree l.tree;
  numbers : HasNumbers l.tree;
  part : IsPart l.name;
  parts : All IsPart (parts_left l.parts);
}

abbrev pub decreases-loop-next : goal.decreases-loop-next
decreases-loop-next l = length (parts_left l.parts)
