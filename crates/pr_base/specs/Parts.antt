-- What the components of a path, and those that weren't read yet, show.
use Rattle.std.specs.Prelude.{ℕ, List}
use Rattle.pr_base.specs.Paths.{parts_of}
use Rattle.pr_base.specs.declared.path.Parts.{Parts}
use Rattle.pr_base.specs.declared.path.PartsLeft.{PartsLeft}

-- the whole path
abbrev pub path_of : Parts → List ℕ
path_of parts = parts.path.now

-- the bytes that weren't read yet
abbrev pub rest_of : PartsLeft → List ℕ
rest_of left = left.rest.now

-- the components that are left
abbrev pub parts_left : PartsLeft → List (List ℕ)
parts_left left = parts_of (rest_of left)
