-- Well-formed names.
use Rattle.std.proofs.Common.{◌≡◌, ◌≢◌, ◌⊎◌, inl, inr, ℕ, ◌≤◌, true, not, ◌&&◌, ◌||◌, List, [], ◌∷◌, length, refl, ap, ◌∙◌, arith, nat_eq, nat_le, nat_lt}
use Rattle.std.specs.Prelude.{Decides}
use Rattle.std.specs.List.{list_all}
use Rattle.std.proofs.lemmas.Bool.{eqb-true, ne_eqb}
use Rattle.std.proofs.lemmas.Bool.Decides.{nat_tests, Decides-eqb, Decides-and, Decides-not, Decides-like, Decides-by_and}
use Rattle.pr_base.specs.Paths.{IsName, slash, dot, dot_dot}
use Rattle.kr_inode.specs.Names.{is_name, is_dots}

some_decides : (name : List ℕ) → Decides (nat_lt 0 (length name)) (name ≢ [])
some_decides [] = (λ h. absurd cc, λ h. absurd (h refl))
some_decides (b ∷ bs) = (λ _ e. absurd cc, λ _. grind (arith, nat_tests))

short_decides : (n : ℕ) → Decides (nat_le n 255) (n ≤ 255)
short_decides n = (λ h. grind (arith, nat_tests), λ h. grind (arith, nat_tests))

plain_decides : (b : ℕ) → Decides (not (nat_eq b 47 || nat_eq b 0)) ((b ≢ slash) × (b ≢ 0))
plain_decides b = (λ h. (λ e. grind (arith, nat_tests), λ e. grind (arith, nat_tests)), λ h. both (h.0) (h.1))
  where
    both : b ≢ slash → b ≢ 0 → not (nat_eq b 47 || nat_eq b 0) ≡ true
    both s z = ap (λ t. not (t || nat_eq b 0)) (ne_eqb b 47 s) ∙ ap (λ t. not t) (ne_eqb b 0 z)

dots_decide : (name : List ℕ) → Decides (is_dots name) ((name ≡ dot) ⊎ (name ≡ dot_dot))
dots_decide [] = (λ h. absurd cc, λ h. elim h [ inl e ↦ absurd cc | inr e ↦ absurd cc ])
dots_decide (a ∷ []) = (λ h. inl (ap (λ a. a ∷ []) (eqb-true a 46 h)), λ h. elim h [ inl e ↦ ap is_dots e | inr e ↦ absurd cc ])
dots_decide (a ∷ b ∷ []) = (λ h. inr (two h), λ h. elim h [ inl e ↦ absurd cc | inr e ↦ ap is_dots e ])
  where
    two : (nat_eq a 46 && nat_eq b 46) ≡ true → a ∷ b ∷ [] ≡ dot_dot
    two h = let both = (Decides-and (nat_eq a 46) (nat_eq b 46) (Decides-eqb a 46) (Decides-eqb b 46)).0 h in rw (both.0, both.1) refl
dots_decide (a ∷ b ∷ c ∷ rest) = (λ h. absurd cc, λ h. elim h [ inl e ↦ absurd cc | inr e ↦ absurd cc ])

pub name_decides : (name : List ℕ) → Decides (is_name name) (IsName name)
name_decides name =
    Decides-like (is_name name)
    (λ h. record { some = h.0.0.0; short = h.0.0.1; no_slash = λ k d l. (h.0.1 k d l).0; no_zero = λ k d l. (h.0.1 k d l).1; not_dot = λ e. h.1 (inl e); not_dot_dot = λ e. h.1 (inr e) })
    (λ n. (((n.some, n.short), λ k d l. (n.no_slash k d l, n.no_zero k d l)), λ e. elim e [ inl e ↦ n.not_dot e | inr e ↦ n.not_dot_dot e ]))
    (Decides-and (nat_lt 0 (length name) && nat_le (length name) 255 && list_all (λ b. not (nat_eq b 47 || nat_eq b 0)) name) (not (is_dots name))
    (Decides-and (nat_lt 0 (length name) && nat_le (length name) 255) (list_all (λ b. not (nat_eq b 47 || nat_eq b 0)) name)
    (Decides-and (nat_lt 0 (length name)) (nat_le (length name) 255) (some_decides name) (short_decides (length name)))
    (Decides-by_and (λ b. not (nat_eq b 47 || nat_eq b 0)) (λ b. (b ≢ slash) × (b ≢ 0)) (list_all (λ b. not (nat_eq b 47 || nat_eq b 0))) plain_decides refl (λ _ _. refl) name))
    (Decides-not (is_dots name) (dots_decide name)))
