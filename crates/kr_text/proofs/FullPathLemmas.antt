-- Paths of any length, by their names.
use Rattle.std.proofs.Common.{◌≡◌, ℕ, ◌<◌, true, false, List, [], ◌∷◌, ◌++◌, length, reverse, refl, sym, ap, ◌∙◌, arith, All, append_assoc, get_or}
use Rattle.std.specs.Prelude.{Bool, ◌&&◌, ◌||◌, not, nat_eq, nat_lt, nat_le}
use Rattle.std.specs.List.{list_all}
use Rattle.std.proofs.lemmas.Bool.{and_parts, ltb-true}
use Rattle.std.proofs.lemmas.List.{reverse-append}
use Rattle.std.proofs.lemmas.List.Sums.{AllPass-from_list_all}
use Rattle.std.proofs.lemmas.List.Splits.{slice_split_none}
use Rattle.kr_tree.specs.pr_base.Paths.{is_slash, not_empty, parts_of, below_root}
use Rattle.kr_tree.proofs.pr_base.PathLemmas.{parts_seam}
use Rattle.kr_tree.specs.kr_inode.Names.{is_name, is_dots}

first_false : (a b : Bool) → not (a || b) ≡ true → a ≡ false
first_false true b h = cc
first_false false b h = refl

whole : (name : List ℕ) → 0 < length name → All (λ b. is_slash b ≡ false) name → parts_of name ≡ name ∷ []
whole [] some plain = absurd (omega arith)
whole (b ∷ name) some plain = ap not_empty (slice_split_none is_slash (b ∷ name) plain)

-- what the test of a name says of its bytes
pub name_tests : (name : List ℕ) → is_name name ≡ true → (nat_lt 0 (length name) ≡ true) × (list_all (λ b. not (nat_eq b 47 || nat_eq b 0)) name ≡ true)
name_tests name h =
    let named = and_parts (nat_lt 0 (length name) && nat_le (length name) 255 && list_all (λ b. not (nat_eq b 47 || nat_eq b 0)) name) (not (is_dots name)) h in
    let plain = and_parts (nat_lt 0 (length name) && nat_le (length name) 255) (list_all (λ b. not (nat_eq b 47 || nat_eq b 0)) name) named.0 in
    ((and_parts (nat_lt 0 (length name)) (nat_le (length name) 255) plain.0).0, plain.1)

-- a name has bytes, none of which is a slash
pub name_bytes : (name : List ℕ) → is_name name ≡ true → (0 < length name) × All (λ b. is_slash b ≡ false) name
name_bytes name h =
    let tests = name_tests name h in
    let bytes = AllPass-from_list_all (λ b. not (nat_eq b 47 || nat_eq b 0)) name tests.1 in
    (ltb-true 0 (length name) tests.0, λ k d l. first_false (nat_eq (get_or name k d) 47) (nat_eq (get_or name k d) 0) (bytes k d l))

pub name_is_whole : (name : List ℕ) → is_name name ≡ true → parts_of name ≡ name ∷ []
name_is_whole name h = let bytes = name_bytes name h in whole name bytes.0 bytes.1

pub names_below : (path name : List ℕ) → is_name name ≡ true → reverse (parts_of ((path ++ 47 ∷ []) ++ name)) ≡ name ∷ reverse (parts_of path)
names_below path name h =
    ap (λ p. reverse (parts_of p)) (append_assoc path (47 ∷ []) name) ∙ ap reverse (parts_seam path name) ∙ ap (λ ps. reverse (parts_of path ++ ps)) (name_is_whole name h) ∙ reverse-append (parts_of path) (name ∷ [])

pub kept_below : (path name : List ℕ) → is_name name ≡ true → below_root (reverse (parts_of path)) ≡ path → below_root (reverse (parts_of ((path ++ 47 ∷ []) ++ name))) ≡ (path ++ 47 ∷ []) ++ name
kept_below path name h kept =
    ap below_root (names_below path name h) ∙ ap (λ p. p ++ 47 ∷ name) kept ∙ sym (append_assoc path (47 ∷ []) name)
