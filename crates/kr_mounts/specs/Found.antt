-- What the code keeps of sources and locations, their texts in bytes, and what these stand for.
use Rattle.pt_bind.specs.Binding.{IsWritten, names_of}
use Rattle.kr_mounts.specs.Sources.{Source}
use Rattle.kr_mounts.specs.MountTable.{Located}
use Rattle.kr_mounts.specs.declared.source.Found.{Found}
use Rattle.kr_mounts.specs.declared.order.Located.{Located as KeptLocated}

abbrev pub source_told : Found → Source
source_told f = record { inode = f.inode; is_dir = f.is_dir; dir = f.dir; text = names_of f.text }

abbrev pub located_told : KeptLocated → Located
located_told one = record { index = one.index; keep = one.keep; source = source_told one.source; location = names_of one.location }

-- its texts are such
pub record HasTexts (one : KeptLocated) : Type 0 where
  pub source : IsWritten one.source.text
  pub location : IsWritten one.location
