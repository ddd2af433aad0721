-- What a text is built from, name by name.
use Rattle.std.specs.Prelude.{◌≡◌, ℕ, List}
use Rattle.pt_results.specs.pr_base.Paths.{AreParts, below_root}
use Rattle.pt_results.specs.pr_base.Texts.{Text}

-- bytes are those of a text below the root
pub record IsBelowRoot (bytes : List ℕ) : Type 0 where
  pub names : Text
  pub are_parts : AreParts names
  pub written : bytes ≡ below_root names
