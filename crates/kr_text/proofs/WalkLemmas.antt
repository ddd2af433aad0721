-- Paths walked from the root on, and texts of names from the deepest name on.
use Rattle.std.proofs.Common.{◌≡◌, ℕ, List, [], ◌∷◌, ◌++◌, reverse, Option, Some, None, Result, refl, sym, ap, ◌∙◌, append_assoc, append-nil}
use Rattle.std.specs.Option.{option_and_then}
use Rattle.std.proofs.lemmas.Grind.{reverse_onto}
use Rattle.kr_tree.specs.Tree.{Tree, root, entry}
use Rattle.kr_tree.specs.Names.{named}
use Rattle.kr_text.specs.declared.fault.TreeWhy.{TreeWhy}
use Rattle.kr_text.specs.Reading.{Place, place_below, free_in, directory_of}

-- what some names lead to from a directory on
abbrev pub walk : Tree → Option ℕ → List (List ℕ) → Option ℕ
walk t at [] = at
walk t at (name ∷ names) = walk t (option_and_then (λ dir. entry t dir name) at) names

-- a name put in front before the others are turned round
onto_reversed : (name : List ℕ) (names text : List (List ℕ)) → reverse names ++ name ∷ text ≡ reverse (name ∷ names) ++ text
onto_reversed name names text = sym (append_assoc (reverse names) (name ∷ []) text) ∙ ap (λ l. l ++ text) (sym (reverse_onto names name []))

walk_onto : (t : Tree) (names text : List (List ℕ)) → walk t (named t text) names ≡ named t (reverse names ++ text)
walk_onto t [] text = refl
walk_onto t (name ∷ names) text = walk_onto t names (name ∷ text) ∙ ap (named t) (onto_reversed name names text)

pub walk_nowhere : (t : Tree) (names : List (List ℕ)) → walk t None names ≡ None
walk_nowhere t [] = refl
walk_nowhere t (name ∷ names) = walk_nowhere t names

pub walk_root : (t : Tree) (names : List (List ℕ)) → walk t (Some root) names ≡ named t (reverse names)
walk_root t names = walk_onto t names [] ∙ ap (named t) (append-nil (reverse names))

-- the place at which the last of some names goes, the first of which is in a directory
abbrev pub placed : Tree → Option ℕ → List ℕ → List (List ℕ) → Result Place TreeWhy
placed t at last [] = free_in t last (directory_of t at)
placed t at last (name ∷ names) = placed t (option_and_then (λ dir. entry t dir last) at) name names

placed_onto : (t : Tree) (last : List ℕ) (names text : List (List ℕ)) → placed t (named t text) last names ≡ place_below t (reverse names ++ last ∷ text)
placed_onto t last [] text = refl
placed_onto t last (name ∷ names) text = placed_onto t name names (last ∷ text) ∙ ap (place_below t) (onto_reversed name names (last ∷ text))

pub placed_root : (t : Tree) (last : List ℕ) (names : List (List ℕ)) → placed t (Some root) last names ≡ place_below t (reverse (last ∷ names))
placed_root t last names = placed_onto t last names [] ∙ ap (place_below t) (sym (reverse_onto names last []))
