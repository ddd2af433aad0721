-- How the places of variables are kept. No public clause cites this module.
use Rattle.std.specs.Prelude.{◌≡◌, ℕ, Bool, List, position, Some, Vec}
use Rattle.std.specs.BTreeMap.{BTreeMap, get}
use Rattle.std.specs.Cmp.Lexicographic.{slice_cmp}
use Rattle.std.specs.Ordering.{nat_cmp}
use Rattle.pr_words.specs.Values.{variable_name}
use Rattle.pr_words.specs.Variables.{same_name}

-- whether a text is a variable of this name
abbrev pub has_name : List ℕ → List ℕ → Bool
has_name name text = same_name (Some name) (variable_name text)

-- each name has the place of the first variable of this name
abbrev pub IsIndex : {Z : Type 0} → List (List ℕ) → BTreeMap (Vec ℕ Z) ℕ → Type 0
IsIndex {Z} texts places = (name : Vec ℕ Z) → get (λ a b. slice_cmp nat_cmp a.items b.items) places name ≡ position (has_name name.items) texts
