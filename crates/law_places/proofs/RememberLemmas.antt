-- What remembers an entry: its directory and name are those, and the name isn't empty.
use Rattle.std.proofs.Common.{◌≡◌, ◌≢◌, ℕ, Bool, true, false, not, List, [], ◌∷◌, length, bytes_eq, refl, sym, ap, ◌∙◌, arith}
use Rattle.std.specs.Prelude.{◌==◌, ◌&&◌, ◌||◌}
use Rattle.std.proofs.lemmas.Bool.{and_parts, eq-eqb, eqb-true, ne_eqb}
use Rattle.std.proofs.lemmas.Slice.Eq.{bytes_eq-Decides}

pub filled_length : (n : List ℕ) → n ≢ [] → (length n == 0) ≡ false
filled_length [] some = absurd (some refl)
filled_length (c ∷ cs) some = ne_eqb (length (c ∷ cs)) 0 (λ e. omega (arith, e))

-- what has a name has one, whether it is a directory or not
pub has_name_by : (d : Bool) (n : List ℕ) → not (length n == 0) ≡ true → (d || not (length n == 0)) ≡ true
has_name_by true n e = refl
has_name_by false n e = e

module _ (dir : ℕ) (name : List ℕ) where
  pub remembering : (d : ℕ) (n : List ℕ) → (not (length n == 0) && (d == dir && bytes_eq n name)) ≡ true → (not (length n == 0) ≡ true) × (d ≡ dir) × (n ≡ name)
  remembering d n e =
      let a = and_parts (not (length n == 0)) (d == dir && bytes_eq n name) e in
      let b = and_parts (d == dir) (bytes_eq n name) a.1 in
      (a.0, eqb-true d dir b.0, (bytes_eq-Decides n name).0 b.1)

  module _ (some : name ≢ []) where
    remembered : (d : ℕ) (n : List ℕ) → d ≡ dir → n ≡ name → (not (length n == 0) && (d == dir && bytes_eq n name)) ≡ true
    remembered d n at_dir at_name =
        ap (λ z. not z && (d == dir && bytes_eq n name)) (filled_length n (λ e. some (sym at_name ∙ e))) ∙ ap (λ b. b && bytes_eq n name) (eq-eqb d dir at_dir) ∙ (bytes_eq-Decides n name).1 at_name

    pub other_remembered : (d : ℕ) (n : List ℕ) → (not (length n == 0) && (d == dir && bytes_eq n name)) ≡ false → ¬ ((d ≡ dir) × (n ≡ name))
    other_remembered d n e same = let clash : false ≡ true = sym e ∙ remembered d n same.0 same.1 in absurd cc
