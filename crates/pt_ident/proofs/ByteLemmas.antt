-- Numbers in bytes.
use Rattle.std.proofs.Common.{◌∙◌, ◌<◌, ◌^◌, ℕ, suc, List, [], ◌∷◌, All, refl, ap, arith}
use Rattle.std.proofs.lemmas.Nat.{from_le_bytes-to_le_bytes_4}
use Rattle.pt_ident.specs.Identity.{number_bytes, numbers_in}
use Rattle.pt_ident.specs.Laws.{GroupsAreReadBack}

-- the rest of a list of which each element passes
all_rest : (P : ℕ → Type 0) (x : ℕ) (xs : List ℕ) → All P (x ∷ xs) → All P xs
all_rest P x xs all = λ k d within. all (suc k) d (omega arith)

pub groups_are_read_back : GroupsAreReadBack
groups_are_read_back [] small = refl
groups_are_read_back (n ∷ groups) small =
    ap (λ x. x ∷ numbers_in (number_bytes groups)) (from_le_bytes-to_le_bytes_4 n (small 0 0 (omega arith)))
    ∙ ap (λ xs. n ∷ xs) (groups_are_read_back groups (all_rest (λ x. x < 2 ^ 32) n groups small))
