-- Paths that are written, read again.
use Rattle.std.proofs.Common.{◌≡◌, ℕ, ◌≤◌, true, false, List, [], ◌∷◌, ◌++◌, length, reverse, Ok, refl, sym, ap, ◌∙◌, arith}
use Rattle.std.specs.Prelude.{Bool, ◌||◌, nat_le}
use Rattle.std.specs.List.{AllByRecursion, list_all, slice_split, onto_first}
use Rattle.std.specs.Cmp.Derive.{both_true}
use Rattle.std.proofs.lemmas.Bool.{le-leb}
use Rattle.std.proofs.lemmas.Grind.{reverse_onto}
use Rattle.std.proofs.lemmas.List.{reverse-reverse, length-reverse}
use Rattle.std.proofs.lemmas.List.Splits.{slice_split_none, slice_split-cons_yes, slice_split-cons_no}
use Rattle.kr_tree.specs.pr_base.Paths.{is_slash, not_empty, parts_of, below_root, text_of}
use Rattle.kr_tree.proofs.pr_base.PathLemmas.{pieces_seam}
use Rattle.kr_tree.specs.Names.{is_name}
use Rattle.kr_text.specs.Fields.{is_path, is_empty, path_limit, names_of, path_of}
use Rattle.kr_text.specs.Canonical.{path_field}
use Rattle.kr_text.specs.Same.{AreTextBytes}
use Rattle.kr_text.proofs.FullPathLemmas.{name_bytes}
use Rattle.kr_text.proofs.WrittenFields.{AreGraphic, escapes_read, escapes_graphic}

-- ---- the pieces of a text

-- names of a text
abbrev pub AreNames : List (List ℕ) → Type 0
AreNames text = AllByRecursion (λ name. is_name name ≡ true) text

pieces_below : (text : List (List ℕ)) → AreNames text → slice_split is_slash (below_root text) ≡ [] ∷ reverse text
pieces_below [] are = refl
pieces_below (name ∷ text) are =
    pieces_seam (below_root text) name
    ∙ ap (λ ps. ps ++ slice_split is_slash name) (pieces_below text are.1)
    ∙ ap (λ ps. ([] ∷ reverse text) ++ ps) (slice_split_none is_slash name (name_bytes name are.0).1)
    ∙ ap (λ ps. [] ∷ ps) (sym (reverse_onto text name []))

-- ---- names turned round

names-append : (a b : List (List ℕ)) → AreNames a → AreNames b → AreNames (a ++ b)
names-append [] b are more = more
names-append (name ∷ a) b are more = (are.0, names-append a b are.1 more)

names_reversed : (text : List (List ℕ)) → AreNames text → AreNames (reverse text)
names_reversed [] are = tt
names_reversed (name ∷ text) are = rw (reverse_onto text name []) (names-append (reverse text) (name ∷ []) (names_reversed text are.1) (are.0, tt))

names_pass : (text : List (List ℕ)) → AreNames text → list_all is_name text ≡ true
names_pass [] are = refl
names_pass (name ∷ text) are = both_true are.0 (names_pass text are.1)

none_empty : (text : List (List ℕ)) → AreNames text → not_empty text ≡ text
none_empty [] are = refl
none_empty ([] ∷ text) are = let some = (name_bytes [] are.0).0 in absurd (omega arith)
none_empty ((b ∷ name) ∷ text) are = ap (λ ps. (b ∷ name) ∷ ps) (none_empty text are.1)

-- ---- a path

same_rest : (a b : List ℕ) (ps qs : List (List ℕ)) → a ∷ ps ≡ b ∷ qs → ps ≡ qs
same_rest a b ps qs e = cc

pub names_back : (text : List (List ℕ)) → AreNames text → length (text_of text) ≤ path_limit → names_of (text_of text) ≡ Ok text
names_back [] are fits = refl
names_back (name ∷ text) are fits = go (below_root (name ∷ text)) refl (pieces_below (name ∷ text) are)
  where
    go : (bytes : List ℕ) → below_root (name ∷ text) ≡ bytes → slice_split is_slash bytes ≡ [] ∷ reverse (name ∷ text) → names_of bytes ≡ Ok (name ∷ text)
    go [] e pieces =
        let none : length (reverse (name ∷ text)) ≡ 0 = ap length (sym (same_rest [] [] [] (reverse (name ∷ text)) pieces)) in
        let some = length-reverse (name ∷ text) in
        absurd (omega (arith, none, some))
    go (b ∷ names) e pieces = elim (is_slash b) as (λ t. is_slash b ≡ t → names_of (b ∷ names) ≡ Ok (name ∷ text)) [
      | true ↦ λ is.
          let rest : slice_split is_slash names ≡ reverse (name ∷ text) = same_rest [] [] (slice_split is_slash names) (reverse (name ∷ text)) (sym (slice_split-cons_yes is_slash b names is) ∙ pieces) in
          let named : list_all is_name (slice_split is_slash names) ≡ true = ap (list_all is_name) rest ∙ names_pass (reverse (name ∷ text)) (names_reversed (name ∷ text) are) in
          let short : nat_le (length (b ∷ names)) path_limit ≡ true = le-leb (length (b ∷ names)) path_limit (let same = ap length e in omega (arith, same, fits)) in
          let either : (is_empty names || list_all is_name (slice_split is_slash names)) ≡ true = or_right (is_empty names) _ named in
          let is_one : is_path (b ∷ names) ≡ true = both_true is (both_true short either) in
          let parts : parts_of (b ∷ names) ≡ reverse (name ∷ text) = ap not_empty pieces ∙ none_empty (reverse (name ∷ text)) (names_reversed (name ∷ text) are) in
          rw is_one (ap (λ ps. Ok (reverse ps)) parts ∙ ap Ok (reverse-reverse (name ∷ text)))
      | false ↦ λ isnt. absurd (no_first b (slice_split is_slash names) (reverse (name ∷ text)) (sym (slice_split-cons_no is_slash b names isnt) ∙ pieces))
    ] refl
      where
        or_right : (x y : Bool) → y ≡ true → (x || y) ≡ true
        or_right true y is = refl
        or_right false y is = is

        no_first : (c : ℕ) (ps qs : List (List ℕ)) → onto_first c ps ≡ [] ∷ qs → ⊥
        no_first c [] qs e = cc
        no_first c (p ∷ ps) qs e = cc

pub path_back : (text : List (List ℕ)) → AreNames text → AreTextBytes (text_of text) → length (text_of text) ≤ path_limit → path_of (path_field text) ≡ Ok text
path_back text are bytes fits = rw (escapes_read (text_of text) bytes) (names_back text are fits)

pub path_graphic : (text : List (List ℕ)) → AreTextBytes (text_of text) → AreGraphic (path_field text)
path_graphic text bytes = escapes_graphic (text_of text) bytes
