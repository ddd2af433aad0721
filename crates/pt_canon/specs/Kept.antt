-- How guest texts are kept. No public clause cites this module.
use Rattle.std.specs.Prelude.{◌≡◌, ℕ, List, ◌∷◌}
use Rattle.pt_bind.specs.pr_base.Paths.{IsPart, AreParts, below_root}
use Rattle.pt_bind.specs.pr_base.Texts.{Text}
use Rattle.pt_bind.specs.Binding.{names_of}

-- bytes are those of a text below the root
pub record IsBelowRoot (bytes : List ℕ) : Type 0 where
  pub names : Text
  pub are_parts : AreParts names
  pub written : bytes ≡ below_root names

-- the last name of such bytes, and what stands in front of it
pub record IsParted (bytes front name : List ℕ) : Type 0 where
  pub names : names_of bytes ≡ name ∷ names_of front
  pub front_below : IsBelowRoot front
  pub part : IsPart name
