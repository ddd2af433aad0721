-- Texts of names, deepest first: what lies below another text, and the bytes of a text.
use Rattle.std.specs.Prelude.{◌≡◌, ℕ, Bool, List, [], ◌∷◌, ◌++◌, Option, Some, None, bytes_eq}
use Rattle.std.specs.Bool.{if◌then◌else◌}
use Rattle.std.specs.Option.{option_map}
use Rattle.std.specs.Cmp.Lexicographic.{pointwise}
use Rattle.pr_base.specs.Paths.{AreNames, AreParts, text_of}

abbrev pub Text : Type 0
Text = List (List ℕ)

-- a name in what may have a text itself
abbrev pub below : List ℕ → Option Text → Option Text
below name text = option_map (λ names. name ∷ names) text

abbrev pub texts_eq : Text → Text → Bool
texts_eq = pointwise bytes_eq

-- the names of a text below another; none where it doesn't stand at or below that
abbrev pub names_below : Text → Text → Option Text
names_below top [] = if texts_eq top [] then Some [] else None
names_below top (name ∷ names) = if texts_eq top (name ∷ names) then Some [] else below name (names_below top names)

-- bytes are those of a text of well-formed names
pub record IsText (bytes : List ℕ) : Type 0 where
  pub names : Text
  pub well_formed : AreNames names
  pub written : bytes ≡ text_of names

-- ---- laws

-- the names below a text are those that stand in front of it
pub record NamesStandInFront : Type 0 where
  pub found : (top text rest : Text) → names_below top text ≡ Some rest → text ≡ rest ++ top
  pub there : (top rest : Text) → names_below top (rest ++ top) ≡ Some rest

-- two texts with the same bytes are one
abbrev pub TextsAreToldApart : Type 0
TextsAreToldApart = (one two : Text) → AreParts one → AreParts two → text_of one ≡ text_of two → one ≡ two
