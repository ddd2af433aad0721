-- A variable put into a list of them.
use Rattle.std.proofs.Common.{◌≡◌, ℕ, suc, zero, ◌<◌, List, [], ◌∷◌, ◌++◌, length, get_or, set, Bool, true, false, Some, None, refl, ap, arith}
use Rattle.std.specs.List.{position}
use Rattle.std.proofs.lemmas.List.Quantifiers.{position-Some}
use Rattle.pr_words.specs.Values.{variable_name}
use Rattle.pr_words.specs.Variables.{same_name, with_variable}
use Rattle.pr_words.proofs.PositionLemmas.{none_passes}

abbrev pub has_name_of : List ℕ → List ℕ → Bool
has_name_of text other = same_name (variable_name text) (variable_name other)

put_here : (text : List ℕ) (i : ℕ) (texts : List (List ℕ)) → i < length texts → has_name_of text (get_or texts i []) ≡ true → ((k : ℕ) → k < i → has_name_of text (get_or texts k []) ≡ false) → set texts i text ≡ with_variable text texts
put_here text i [] inside here before = absurd (omega (arith, inside))
put_here text zero (other ∷ texts) inside here before = rw here refl
put_here text (suc i) (other ∷ texts) inside here before =
    let no : has_name_of text other ≡ false = before 0 (omega arith) in
    let rest = put_here text i texts (omega (arith, inside)) here (λ k l. before (suc k) (omega (arith, l))) in
    rw no (ap (λ l. other ∷ l) rest)

put_behind : (text : List ℕ) (texts : List (List ℕ)) → ((k : ℕ) → k < length texts → has_name_of text (get_or texts k []) ≡ false) → texts ++ text ∷ [] ≡ with_variable text texts
put_behind text [] none = refl
put_behind text (other ∷ texts) none =
    let no : has_name_of text other ≡ false = none 0 (omega arith) in
    let rest = put_behind text texts (λ k l. none (suc k) (omega (arith, l))) in
    rw no (ap (λ l. other ∷ l) rest)

-- in the place of the one with its name
pub put_at : (text : List ℕ) (texts : List (List ℕ)) (at : ℕ) → position (has_name_of text) texts ≡ Some at → set texts at text ≡ with_variable text texts
put_at text texts at e =
    let found = position-Some (has_name_of text) texts at [] e in
    put_here text at texts found.0 found.1 found.2

-- behind the others
pub put_last : (text : List ℕ) (texts : List (List ℕ)) → position (has_name_of text) texts ≡ None → texts ++ text ∷ [] ≡ with_variable text texts
put_last text texts e = put_behind text texts (λ k l. none_passes (has_name_of text) texts e k [] l)
