-- Bindings worked out by hand: which count and in what order, and what is kept of locations by text.
use Rattle.std.proofs.Common.{◌≡◌, ℕ, true, false, [], ◌∷◌, None, Err, refl}
use Rattle.std.specs.Prelude.{codes}
use Rattle.pt_bind.specs.pr_base.Paths.{Dot, DotDot, Name}
use Rattle.pt_bind.specs.pr_base.Texts.{Text}
use Rattle.kr_mounts.specs.Sources.{Source}
use Rattle.kr_mounts.specs.Locations.{stepped, located_at}
use Rattle.kr_mounts.specs.MountTable.{Located, counting, in_order, root_row, row_of}
use Rattle.kr_mounts.specs.declared.fault.BindWhy.TheVariants.{AtRoot}

-- the source of the host's `/`, and that of a directory in it
abbrev whole : Source
whole = record { inode = 1; is_dir = true; dir = 1; text = [] }

abbrev data_dir : Source
data_dir = record { inode = 2; is_dir = true; dir = 1; text = codes "data" ∷ [] }

abbrev at : ℕ → Text → Located
at index location = record { index = index; keep = false; source = data_dir; location = location }

-- of equal locations the last one counts, wherever it stands
last_of_equal_ones : counting (at 1 (codes "mnt" ∷ []) ∷ at 2 (codes "b" ∷ []) ∷ at 3 (codes "mnt" ∷ []) ∷ []) ≡ at 2 (codes "b" ∷ []) ∷ at 3 (codes "mnt" ∷ []) ∷ []
last_of_equal_ones = refl

-- a location that another begins with comes first, whatever the order of options; a name that begins with another is
-- no matter
shorter_ones_first : in_order (at 1 (codes "x" ∷ codes "mnt" ∷ []) ∷ at 2 (codes "mnt" ∷ []) ∷ at 3 (codes "mntx" ∷ []) ∷ []) ≡ at 2 (codes "mnt" ∷ []) ∷ at 3 (codes "mntx" ∷ []) ∷ at 1 (codes "x" ∷ codes "mnt" ∷ []) ∷ []
shorter_ones_first = refl

-- ties stay in option order
ties_in_option_order : in_order (at 1 (codes "b" ∷ []) ∷ at 2 (codes "a" ∷ []) ∷ []) ≡ at 1 (codes "b" ∷ []) ∷ at 2 (codes "a" ∷ []) ∷ []
ties_in_option_order = refl

-- behind what is missing `.` is dropped, and `..` drops a name
dots_by_text : stepped (stepped (stepped (codes "a" ∷ []) (Name (codes "b"))) Dot) DotDot ≡ codes "a" ∷ []
dots_by_text = refl

root_stays_by_text : stepped [] DotDot ≡ []
root_stays_by_text = refl

no_mount_at_the_root : located_at [] ≡ Err AtRoot
no_mount_at_the_root = refl

-- a source that is the host's `/` stands in no directory and has no name
host_root_has_no_name : root_row whole ≡ record {
  text = record { index = 0; location = []; source = []; point = None };
  source = 1;
  source_dir = 0;
  source_name = [];
  is_dir = true;
  point = None;
}
host_root_has_no_name = refl

other_sources_have_theirs : (row_of 1 (codes "mnt" ∷ []) data_dir None None).source_name ≡ codes "data"
other_sources_have_theirs = refl
