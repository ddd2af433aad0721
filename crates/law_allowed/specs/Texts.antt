-- Texts, and the links that have them.
use Rattle.std.specs.Prelude.{◌≡◌, ◌≢◌, ℕ, List, Some}
use Rattle.std.specs.List.{All}
use Rattle.law_lawful.specs.kr_tree.Tree.{Tree, SymbolicLink, body}

-- no byte of a text is zero, since a text ends with its first one
abbrev pub IsText : List ℕ → Type 0
IsText bytes = All (λ b. b ≢ 0) bytes

abbrev pub LinksHaveTexts : Tree → Type 0
LinksHaveTexts t = (i : ℕ) (bytes : List ℕ) → body t i ≡ Some (SymbolicLink bytes) → IsText bytes
