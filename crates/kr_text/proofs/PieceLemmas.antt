-- Bytes cut at the first separator.
use Rattle.std.proofs.Common.{◌≡◌, ◌≢◌, ℕ, suc, ◌<◌, List, [], ◌∷◌, ◌++◌, length, take, drop, get_or, false, sym, ap, subst, ◌∙◌, take-append-drop, drop-cons, eq-eqb, All}
use Rattle.std.specs.Prelude.{nat_eq}
use Rattle.std.proofs.lemmas.Bool.{ne_eqb}
use Rattle.std.proofs.lemmas.List.Splits.{slice_split_at, slice_split_none}
use Rattle.kr_text.specs.Pieces.{pieces}

no_separator : (c : ℕ) (bs : List ℕ) → All (λ b. b ≢ c) bs → All (λ b. nat_eq b c ≡ false) bs
no_separator c bs h k d l = ne_eqb _ c (h k d l)

pub split_here : (c : ℕ) (bs : List ℕ) (at : ℕ) → at < length bs → All (λ b. b ≢ c) (take at bs) → get_or bs at 0 ≡ c → pieces c bs ≡ take at bs ∷ pieces c (drop (suc at) bs)
split_here c bs at inside before is =
    let P : List ℕ → Type 0 = λ l. pieces c l ≡ take at bs ∷ pieces c (drop (suc at) bs) in
    let whole : take at bs ++ get_or bs at 0 ∷ drop (suc at) bs ≡ bs = ap (λ l. take at bs ++ l) (sym (drop-cons bs at 0 inside)) ∙ take-append-drop at bs in
    subst P whole (slice_split_at (λ b. nat_eq b c) (take at bs) (get_or bs at 0) (drop (suc at) bs) (no_separator c (take at bs) before) (eq-eqb _ _ is))

pub split_nowhere : (c : ℕ) (bs : List ℕ) → All (λ b. b ≢ c) bs → pieces c bs ≡ bs ∷ []
split_nowhere c bs none = slice_split_none (λ b. nat_eq b c) bs (no_separator c bs none)
