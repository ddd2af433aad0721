-- The components of a path that is read from left to right.
use Rattle.std.proofs.Common.{◌≡◌, ◌≢◌, ℕ, ◌+◌, ◌-◌, ◌≤◌, ◌<◌, true, false, not, cond, List, [], ◌∷◌, length, take, drop, All, refl, sym, ap, ◌∙◌, subst, arith, slice_range, nat_eq, nat_lt}
use Rattle.std.specs.List.{slice_split, onto_first}
use Rattle.std.proofs.lemmas.Bool.Decides.{nat_tests}
use Rattle.std.proofs.lemmas.List.{length-drop, drop-drop, take-append-drop}
use Rattle.kr_tree.specs.pr_base.Paths.{slash, is_slash, not_empty, parts_of, has_parts}
use Rattle.kr_tree.specs.pr_base.Pieces.{BeginsName, BeginsSlash}
use Rattle.kr_tree.proofs.pr_base.PathLemmas.{first_part}
use Rattle.kr_view.specs.Begins.{begins_part}

-- what was put onto the first piece isn't empty
onto_has_parts : (b : ℕ) (pieces : List (List ℕ)) → has_parts (not_empty (onto_first b pieces)) ≡ true
onto_has_parts b [] = refl
onto_has_parts b (piece ∷ pieces) = refl

-- bytes without a slash in front have components where there are any
pub begun_has_parts : (bytes : List ℕ) → begins_part bytes ≡ true → has_parts (parts_of bytes) ≡ nat_lt 0 (length bytes)
begun_has_parts [] h = refl
begun_has_parts (b ∷ rest) h =
    elim (is_slash b) as (λ t. not t ≡ true → has_parts (not_empty (cond t ([] ∷ slice_split is_slash rest) (onto_first b (slice_split is_slash rest)))) ≡ nat_lt 0 (length (b ∷ rest))) [
      | true ↦ λ h. absurd cc
      | false ↦ λ h. onto_has_parts b (slice_split is_slash rest) ∙ grind (arith, nat_tests)
    ] h

pub done_at_end : (at : ℕ) (text : List ℕ) → at ≤ length text → begins_part (drop at text) ≡ true → nat_eq at (length text) ≡ not (has_parts (parts_of (drop at text)))
done_at_end at text within begun = rw (begun_has_parts (drop at text) begun, length-drop at text) (grind (arith, nat_tests))

-- what begins no slash begins a name
begun_name : (bytes : List ℕ) → begins_part bytes ≡ true → 0 < length bytes → BeginsName bytes
begun_name [] h some = absurd (omega arith)
begun_name (b ∷ rest) h some = λ e. let slashed : begins_part (slash ∷ rest) ≡ true = rw e at h in absurd cc

-- the component in front of bytes, up to their first slash
pub first_read : (n : ℕ) (bytes : List ℕ) → begins_part bytes ≡ true → 0 < length bytes → All (λ b. b ≢ slash) (take n bytes) → BeginsSlash (drop n bytes) → parts_of bytes ≡ take n bytes ∷ parts_of (drop n bytes)
first_read n bytes begun some plain slashed =
    let whole = take-append-drop n bytes in
    ap parts_of (sym whole) ∙ first_part (take n bytes) (drop n bytes) plain slashed (subst BeginsName (sym whole) (begun_name bytes begun some))

pub next_read : (at n k : ℕ) (text : List ℕ) → at ≤ length text → begins_part (drop at text) ≡ true → nat_eq at (length text) ≡ false
    → All (λ b. b ≢ slash) (take n (drop at text)) → BeginsSlash (drop n (drop at text)) → parts_of (drop k (drop (at + n) text)) ≡ parts_of (drop (at + n) text)
    → parts_of (drop at text) ≡ slice_range text at (at + n) ∷ parts_of (drop (at + n + k) text)
next_read at n k text within begun apart plain slashed passed =
    let some : 0 < length (drop at text) = rw (length-drop at text) (grind (arith, nat_tests)) in
    let first = first_read n (drop at text) begun some plain slashed in
    let span : at + n - at ≡ n = omega arith in
    let part : slice_range text at (at + n) ≡ take n (drop at text) = ap (λ m. take m (drop at text)) span in
    let rest : parts_of (drop n (drop at text)) ≡ parts_of (drop (at + n + k) text) =
    ap parts_of (drop-drop n at text) ∙ sym passed ∙ ap parts_of (drop-drop k (at + n) text) in
    first ∙ ap (λ ps. take n (drop at text) ∷ ps) rest ∙ ap (λ p. p ∷ parts_of (drop (at + n + k) text)) (sym part)

-- no more components than bytes
onto_more : (b : ℕ) (pieces : List (List ℕ)) → length (not_empty (onto_first b pieces)) ≤ 1 + length (not_empty pieces)
onto_more b [] = omega arith
onto_more b ([] ∷ pieces) = omega arith
onto_more b ((d ∷ piece) ∷ pieces) = omega arith

pub parts_fewer : (path : List ℕ) → length (parts_of path) ≤ length path
parts_fewer [] = omega arith
parts_fewer (b ∷ path) =
    let rest = parts_fewer path in
    let more = onto_more b (slice_split is_slash path) in
    elim (is_slash b) as (λ t. length (not_empty (cond t ([] ∷ slice_split is_slash path) (onto_first b (slice_split is_slash path)))) ≤ length (b ∷ path)) [
      | true ↦ omega arith
      | false ↦ omega arith
    ]
