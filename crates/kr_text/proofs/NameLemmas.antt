-- The names of a path.
use Rattle.std.proofs.Common.{◌≡◌, ℕ, List, [], ◌∷◌, length, reverse, true, refl, ap, ◌∙◌, arith, inl, inr, ◌⊎◌}
use Rattle.std.specs.Prelude.{◌&&◌, ◌||◌, nat_le}
use Rattle.std.specs.List.{list_all, slice_split}
use Rattle.std.specs.Cmp.Derive.{both_true}
use Rattle.std.proofs.lemmas.Bool.{and_parts, or_cases, eqb-true}
use Rattle.std.proofs.lemmas.List.{length-reverse}
use Rattle.kr_tree.specs.pr_base.Paths.{is_slash, not_empty, parts_of, slash}
use Rattle.kr_tree.proofs.pr_base.PathLemmas.{slash_passed}
use Rattle.kr_tree.specs.Names.{is_name}
use Rattle.kr_text.specs.Fields.{is_path, is_empty, path_limit}

named_parts : (pieces : List (List ℕ)) → list_all is_name pieces ≡ true → list_all is_name (not_empty pieces) ≡ true
named_parts [] h = refl
named_parts ([] ∷ pieces) h = named_parts pieces (and_parts (is_name []) (list_all is_name pieces) h).1
named_parts ((b ∷ piece) ∷ pieces) h =
    let p = and_parts (is_name (b ∷ piece)) (list_all is_name pieces) h in
    both_true p.0 (named_parts pieces p.1)

no_names : (names : List ℕ) → is_empty names ≡ true → list_all is_name (parts_of names) ≡ true
no_names [] e = refl
no_names (b ∷ names) e = let none = eqb-true (length (b ∷ names)) 0 e in absurd (omega (arith, none))

pub path_names : (path : List ℕ) → is_path path ≡ true → list_all is_name (parts_of path) ≡ true
path_names [] h = refl
path_names (b ∷ names) h =
    let p = and_parts (is_slash b) (nat_le (length (b ∷ names)) path_limit && (is_empty names || list_all is_name (slice_split is_slash names))) h in
    let q = and_parts (nat_le (length (b ∷ names)) path_limit) (is_empty names || list_all is_name (slice_split is_slash names)) p.1 in
    ap (list_all is_name) (slash_passed b names (eqb-true b slash p.0)) ∙ below (or_cases (is_empty names) (list_all is_name (slice_split is_slash names)) q.1)
  where
    below : (is_empty names ≡ true) ⊎ (list_all is_name (slice_split is_slash names) ≡ true) → list_all is_name (parts_of names) ≡ true
    below (inl none) = no_names names none
    below (inr all) = named_parts (slice_split is_slash names) all

-- names turned round
pub none_reversed : (names : List (List ℕ)) → names ≡ [] → reverse names ≡ []
none_reversed names e = rw e refl

pub some_reversed : (names rest : List (List ℕ)) (name : List ℕ) → names ≡ name ∷ rest → reverse names ≡ [] → ⊥
some_reversed names rest name e none =
    let counted : length (reverse names) ≡ 0 = ap length none in
    let same = length-reverse names in
    let long = ap length e in
    omega (arith, counted, same, long)
