-- Guest texts by their last names.
use Rattle.std.specs.Prelude.{◌≡◌, ℕ, List, ◌∷◌}
use Rattle.pt_canon.specs.pr_base.Paths.{IsPart}
use Rattle.pt_canon.specs.pt_bind.Binding.{IsWritten, names_of}

-- the text above a text and its last name
pub record IsParted (text dir name : List ℕ) : Type 0 where
  pub names : names_of text ≡ name ∷ names_of dir
  pub written : IsWritten dir
  pub part : IsPart name
