-- How the bytes begin that a walk didn't read yet.
use Rattle.std.specs.Prelude.{ℕ, Bool, true, not, List, [], ◌∷◌}
use Rattle.kr_tree.specs.pr_base.Paths.{is_slash}

-- no slash stands in front
abbrev pub begins_part : List ℕ → Bool
begins_part [] = true
begins_part (b ∷ rest) = not (is_slash b)
