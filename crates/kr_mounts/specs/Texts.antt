-- Texts below the root, in bytes.
use Rattle.std.specs.Prelude.{◌≡◌, ℕ, List, [], ◌∷◌}
use Rattle.pt_bind.specs.pr_base.Paths.{AreParts, below_root}
use Rattle.pt_bind.specs.pr_base.Texts.{Text}

-- bytes are those of a text below the root
pub record IsBelow (bytes : List ℕ) : Type 0 where
  pub names : Text
  pub are_parts : AreParts names
  pub written : bytes ≡ below_root names

-- the deepest name of a text, and no bytes for the root
abbrev pub last_name : Text → List ℕ
last_name [] = []
last_name (name ∷ text) = name
