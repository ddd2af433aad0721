-- Mounts as the code keeps them, their texts in bytes, and the rows that they stand for.
use Rattle.std.specs.Prelude.{List, map}
use Rattle.std.specs.Option.{option_map}
use Rattle.pt_bind.specs.pr_base.MountText.{bound_of}
use Rattle.kr_walk.specs.kr_view.View.{Point, Row}
use Rattle.std.specs.List.{All}
use Rattle.pt_bind.specs.Binding.{row_of as texts_of, IsWritten}
use Rattle.kr_mounts.specs.declared.mount.Mount.{Mount}
use Rattle.kr_mounts.specs.declared.mount.MountPoint.{MountPoint}

abbrev pub point_told : MountPoint → Point
point_told p = record { mount = p.mount; dir = p.dir; name = p.name }

-- the row of a mount
abbrev pub row_of_mount : Mount → Row
row_of_mount m = record {
  text = texts_of m.text;
  source = m.source;
  source_dir = m.source_dir;
  source_name = m.source_name;
  is_dir = m.is_dir;
  point = option_map point_told m.point;
}

abbrev pub table_of : List Mount → List Row
table_of mounts = map row_of_mount mounts

-- the mount of a row
abbrev pub point_kept : Point → MountPoint
point_kept p = record { mount = p.mount; dir = p.dir; name = p.name }

abbrev pub mount_of : Row → Mount
mount_of r = record {
  text = bound_of r.text;
  source = r.source;
  source_dir = r.source_dir;
  source_name = r.source_name;
  is_dir = r.is_dir;
  point = option_map point_kept r.point;
}

abbrev pub mounts_of : List Row → List Mount
mounts_of table = map mount_of table

-- locations are those of texts
abbrev pub AreLocated : List Mount → Type 0
AreLocated mounts = All (λ m. IsWritten m.text.location) mounts
