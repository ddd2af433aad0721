-- The paths of each call, as its line in the table of the calls says.
use Rattle.std.specs.Prelude.{ℕ, ◌+◌, ◌==◌, List, [], ◌∷◌, Option, Some, None, if◌then◌else◌}
use Rattle.kr_calls.specs.declared.request.Request.{Request}
use Rattle.kr_calls.specs.CallTable.{line, paths_of}
pub use Rattle.kr_calls.specs.PathUses.{PathUse, link_mode, look_mode, make_mode, open_mode, path_use, working_directory}

-- path k of some, the first of which is path i
abbrev pub path_from : ℕ → List PathUse → ℕ → Option PathUse
path_from i [] k = None
path_from i (u ∷ us) k = if k == i then Some u else path_from (i + 1) us k

-- path k of a request, counted from 0
abbrev pub path_at : Request → ℕ → Option PathUse
path_at r k = path_from 0 (paths_of (line r).told) k
