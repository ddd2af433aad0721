-- The texts of a settled binding.
use Rattle.std.specs.Prelude.{ℕ, List, [], Option}
use Rattle.std.specs.Option.{option_map_or}
use Rattle.pr_base.specs.Paths.{text_of}
use Rattle.pr_base.specs.declared.bind.Bound.{Bound}

-- a row of the table of mounts as a tracer reads it: the binding's index, the guest text where it is
-- located, the host text of its source and that of its mount point. The root has index 0 and is
-- located at the root; it has no mount point
pub record MountText : Type 0 where
  pub index : ℕ
  pub location : List (List ℕ)
  pub source : List (List ℕ)
  pub point : Option (List (List ℕ))

-- the same in bytes: no bytes stand for a mount point that isn't there
abbrev pub bound_of : MountText → Bound
bound_of row = record {
  index = row.index;
  location = text_of row.location;
  source = text_of row.source;
  point = option_map_or text_of row.point [];
}
