-- The way up from a directory.
use Rattle.std.proofs.Common.{◌≡◌, ◌≢◌, ℕ, zero, suc, ◌+◌, ◌≤◌, ◌<◌, Bool, true, false, ◌||◌, ◌⊎◌, inl, inr, Option, Some, None, refl, sym, ap, ◌∙◌, subst, arith}
use Rattle.std.specs.Prelude.{◌↔◌, IsTrue, nat_eq, nat_le}
use Rattle.std.specs.Option.{option_map, option_map_or}
use Rattle.std.proofs.lemmas.Bool.Decides.{nat_tests}
use Rattle.kr_seen.specs.kr_inode.declared.standing.Standing.{Standing}
use Rattle.kr_seen.specs.kr_tree.Lawful.{Below, Here, IsBelow, IsSound}
use Rattle.kr_seen.specs.kr_tree.Tree.{Tree, above, root}
use Rattle.kr_seen.proofs.kr_tree.BelowLemmas.{HasSteps, steps_end, steps_left}
use Rattle.kr_calm.specs.Above.{is_at_or_below, is_within}

module _ (up : ℕ → Option ℕ) (top at : ℕ) where
  pub within-zero : is_within zero up top at ≡ false
  unfolding is_within
  within-zero = refl

  pub within-here : (n : ℕ) → nat_eq top at ≡ true → is_within (suc n) up top at ≡ true
  unfolding is_within
  within-here n e = ap (λ b. b || option_map_or (is_within n up top) (up at) false) e

  pub within-up : (n next : ℕ) → nat_eq top at ≡ false → up at ≡ Some next → is_within (suc n) up top at ≡ is_within n up top next
  unfolding is_within
  within-up n next e is = ap (λ b. b || option_map_or (is_within n up top) (up at) false) e ∙ ap (λ o. option_map_or (is_within n up top) o false) is

  pub within-end : (n : ℕ) → nat_eq top at ≡ false → up at ≡ None → is_within (suc n) up top at ≡ false
  unfolding is_within
  within-end n e is = ap (λ b. b || option_map_or (is_within n up top) (up at) false) e ∙ ap (λ o. option_map_or (is_within n up top) o false) is

or-here : (a b : Bool) → (a || b) ≡ true → (a ≡ true) ⊎ (b ≡ true)
or-here true b e = inl refl
or-here false b e = inr e

-- a step that was found
pub within-step : (n : ℕ) (up : ℕ → Option ℕ) (top at : ℕ) → is_within (suc n) up top at ≡ true → (nat_eq top at ≡ true) ⊎ ((next : ℕ) × (up at ≡ Some next) × (is_within n up top next ≡ true))
unfolding is_within
within-step n up top at e = elim (or-here (nat_eq top at) _ e) [ inl here ↦ inl here | inr further ↦ inr (by (up at) refl further) ]
  where
    by : (o : Option ℕ) → up at ≡ o → option_map_or (is_within n up top) o false ≡ true → (next : ℕ) × (up at ≡ Some next) × (is_within n up top next ≡ true)
    by None is h = absurd cc
    by (Some next) is h = (next, is, h)

pub equal-or-not : (i j : ℕ) → (i ≡ j) ⊎ (i ≢ j)
equal-or-not i j = by (nat_eq i j) refl
  where
    by : (b : Bool) → nat_eq i j ≡ b → (i ≡ j) ⊎ (i ≢ j)
    by true e = inl (grind (arith, nat_tests))
    by false e = inr (grind (arith, nat_tests))

at-most-or-more : (m n : ℕ) → (m ≤ n) ⊎ (n < m)
at-most-or-more m n = by (nat_le m n) refl
  where
    by : (b : Bool) → nat_le m n ≡ b → (m ≤ n) ⊎ (n < m)
    by true e = inl (grind (arith, nat_tests))
    by false e = inr (grind (arith, nat_tests))

pub same-number : (i : ℕ) → nat_eq i i ≡ true
same-number i = grind (arith, nat_tests)

module _ (t : Tree) (sound : IsSound t) (top : ℕ) where
  -- above the root is the root
  pub root-above : (up : ℕ) → above t root ≡ Some up → up ≡ root
  root-above up e = let is : Some root ≡ Some up = sym (ap (λ o. option_map (λ (s : Standing). s.inode) o) sound.rooted) ∙ e in cc

  pub within-below : (n at : ℕ) → is_within n (above t) top at ≡ true → IsBelow t top at
  within-below zero at e = let no : false ≡ true = sym (within-zero (above t) top at) ∙ e in absurd cc
  within-below (suc n) at e = elim (within-step n (above t) top at e) [
    | inl here ↦ let is : top ≡ at = grind (arith, nat_tests) in subst (λ k. IsBelow t top k) is Here
    | inr step ↦
        let further = within-below n step.0 step.2 in
        elim (equal-or-not at root) [
          | inl is ↦ let same : step.0 ≡ at = root-above step.0 (sym (ap (above t) is) ∙ step.1) ∙ sym is in subst (λ k. IsBelow t top k) same further
          | inr other ↦ Below other step.1 further
        ]
  ]

  below-steps : (n step at : ℕ) → t.next ≤ n + step → HasSteps t step at → IsBelow t top at → is_within n (above t) top at ≡ true
  below-steps zero step at l has below = absurd (steps_end t sound step at (omega arith) has)
  below-steps (suc n) step at l has Here = within-here (above t) at at n (same-number at)
  below-steps (suc n) step at l has (Below {up = u} other is r) =
      elim (at-most-or-more t.next step) [
        | inl end ↦ absurd (steps_end t sound step at end has)
        | inr left ↦ by (nat_eq top at) refl (below-steps n (step + 1) u (omega arith) (steps_left t sound step at u left other is has) r)
      ]
    where
      by : (b : Bool) → nat_eq top at ≡ b → is_within n (above t) top u ≡ true → is_within (suc n) (above t) top at ≡ true
      by true e h = within-here (above t) top at n e
      by false e h = within-up (above t) top at n u e is ∙ h

  pub below-within : (at : ℕ) → IsBelow t top at → is_at_or_below t top at ≡ true
  below-within at below = below-steps t.next 0 at (omega arith) (inl refl) below

pub steps_are_enough : (t : Tree) (top dir : ℕ) → IsSound t → IsTrue (is_at_or_below t top dir) ↔ IsBelow t top dir
steps_are_enough t top dir sound = (λ e. within-below t sound top t.next dir e, λ below. below-within t sound top dir below)

both-or-neither : (a b : Bool) → (a ≡ true → b ≡ true) → (b ≡ true → a ≡ true) → a ≡ b
both-or-neither true b f g = sym (f refl)
both-or-neither false true f g = g refl
both-or-neither false false f g = refl

-- what finds a directory below another finds it so
pub as-found : (t : Tree) (top dir : ℕ) (found : Bool) → IsSound t → IsTrue found ↔ IsBelow t top dir → found ≡ is_at_or_below t top dir
as-found t top dir found sound h =
    both-or-neither found (is_at_or_below t top dir) (λ e. below-within t sound top dir (h.0 e)) (λ e. h.1 (within-below t sound top t.next dir e))
