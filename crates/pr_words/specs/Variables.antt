-- The variables of an environment, texts `K=V`.
use Rattle.std.specs.Prelude.{ℕ, bytes_eq, Bool, false, List, [], ◌∷◌, Option, Some, None, if◌then◌else◌}
use Rattle.pr_words.specs.Values.{variable_name}

abbrev pub same_name : Option (List ℕ) → Option (List ℕ) → Bool
same_name (Some a) (Some b) = bytes_eq a b
same_name (Some a) None = false
same_name None b = false

-- a variable in the place of the one of its name, or behind all others
abbrev pub with_variable : List ℕ → List (List ℕ) → List (List ℕ)
with_variable text [] = text ∷ []
with_variable text (other ∷ texts) =
    if same_name (variable_name text) (variable_name other) then text ∷ texts else other ∷ with_variable text texts
