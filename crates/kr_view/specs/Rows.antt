-- What a caller is told of a mount, as plain data.
use Rattle.kr_view.specs.declared.view.MountRow.{MountRow}
use Rattle.kr_view.specs.View.{Shown}

abbrev pub row_told : MountRow → Shown
row_told r = record {
  source = r.source;
  source_dir = r.source_dir;
  source_name = r.source_name.now;
  point_dir = r.point_dir;
  point_name = r.point_name.now;
}
