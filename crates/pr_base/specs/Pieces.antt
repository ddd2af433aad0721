-- How a path begins.
use Rattle.std.specs.Prelude.{◌≡◌, ◌≢◌, ℕ, List, [], ◌∷◌}
use Rattle.pr_base.specs.Paths.{slash}

-- its first byte is no slash
abbrev pub BeginsName : List ℕ → Type 0
BeginsName [] = ⊥
BeginsName (b ∷ _) = b ≢ slash

-- it is empty, or its first byte is a slash
abbrev pub BeginsSlash : List ℕ → Type 0
BeginsSlash [] = Unit {0}
BeginsSlash (b ∷ _) = b ≡ slash
