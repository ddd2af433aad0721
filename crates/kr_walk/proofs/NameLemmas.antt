-- The bytes of host names.
use Rattle.std.proofs.Common.{◌≡◌, ◌≢◌, ℕ, ◌≤◌, ◌+◌, List, [], ◌∷◌, ◌++◌, length, take, drop, All, refl, ap, ◌∙◌, arith, Option, Some, None}
use Rattle.std.specs.Option.{option_map, option_map_or}
use Rattle.std.proofs.lemmas.List.Elements.{All-head}
use Rattle.std.proofs.lemmas.List.{length-append}
use Rattle.std.proofs.Math.Seq.{take-append_seam}
use Rattle.kr_view.specs.kr_tree.pr_base.Paths.{slash, below_root, text_of, IsName, AreNames}

-- the bytes in front of the last slash of a name are those of the name above
pub cut_above : (names : List (List ℕ)) (name : List ℕ) (end : ℕ) → AreNames names → name ≡ below_root names → end ≤ length name
    → ((front last : List ℕ) → name ≡ front ++ slash ∷ last → All (λ b. b ≢ slash) last → end ≡ length front) → take end name ≡ below_root (drop 1 names)
cut_above [] name end are is within last =
    let none : length name ≡ 0 = ap length is in
    let zero : end ≡ 0 = omega arith in
    ap (λ n. take n name) zero
cut_above (part ∷ names) name end are is within last =
    let front = last (below_root names) part is ((All-head IsName part names are).no_slash) in
    ap (λ n. take n name) front ∙ ap (take (length (below_root names))) is ∙ take-append_seam (below_root names) (slash ∷ part)

-- one byte alone is the root's text
pub root_text : (names : List (List ℕ)) (text : List ℕ) → AreNames names → text ≡ text_of names → length text ≡ 1 → below_root names ≡ []
root_text [] text are is one = refl
root_text (part ∷ names) text are is one =
    let some : part ≢ [] = (All-head IsName part names are).some in
    let whole : length text ≡ length (below_root names) + length (slash ∷ part) = ap length is ∙ length-append (below_root names) (slash ∷ part) in
    let none : length part ≡ 0 = omega arith in
    absurd (some (empty part none))
  where
    empty : (bytes : List ℕ) → length bytes ≡ 0 → bytes ≡ []
    empty [] h = refl
    empty (b ∷ bytes) h = absurd (omega arith)

-- a longer one begins no other way
pub other_text : (names : List (List ℕ)) (text : List ℕ) → text ≡ text_of names → length text ≢ 1 → text ≡ below_root names
other_text [] text is more = absurd (more (ap length is))
other_text (part ∷ names) text is more = is

-- the bytes below the root, where there is a name
pub below_where_there : (name : Option (List (List ℕ))) (text bytes : List ℕ) → ((names : List (List ℕ)) → name ≡ Some names → AreNames names) → Some text ≡ option_map text_of name
    → ((names : List (List ℕ)) → AreNames names → text ≡ text_of names → bytes ≡ below_root names) → Some bytes ≡ option_map below_root name
below_where_there None text bytes are is cut = absurd cc
below_where_there (Some names) text bytes are is cut = ap Some (cut names (are names refl) (ap (λ o. option_map_or (λ t. t) o []) is))

-- the bytes of a name that is there
pub lengths_below : (name : Option (List (List ℕ))) → option_map length (option_map below_root name) ≡ option_map (λ names. length (below_root names)) name
lengths_below None = refl
lengths_below (Some names) = refl
