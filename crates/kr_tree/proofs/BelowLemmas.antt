-- The way up from a directory, past another or not.
use Rattle.std.proofs.Common.{◌≡◌, ◌≢◌, ◌⊎◌, inl, inr, subst, ℕ, suc, ◌+◌, ◌-◌, ◌≤◌, ◌<◌, List, refl, sym, ap, ◌∙◌, arith, Some, None}
use Rattle.std.specs.Prelude.{◌↔◌}
use Rattle.kr_tree.specs.Tree.{Tree, root, above, standing}
use Rattle.kr_tree.specs.Names.{host_name_within}
use Rattle.kr_tree.specs.Lawful.{IsSound, IsBelow, Here, Below}
use Rattle.kr_tree.proofs.NameLemmas.{some_is, map_some, host_name-zero, host_name-above, standing-host_name}
use Rattle.kr_tree.proofs.CountLemmas.{standing_there}

-- one step up
down : (t : Tree) (top up at : ℕ) → IsBelow t top at → at ≢ top → above t at ≡ Some up → IsBelow t top up
down t top up at Here away h = absurd (away refl)
down t top up at (Below {up = u} n a r) away h = subst (λ k. IsBelow t top k) (some_is u up (sym a ∙ h)) r

pub below_step : (t : Tree) (top at up : ℕ) → at ≢ top → at ≢ root → above t at ≡ Some up → IsBelow t top at ↔ IsBelow t top up
below_step t top at up away n h = (λ r. down t top up at r away h, λ r. Below n h r)

pub not_below_root : (t : Tree) (top at : ℕ) → at ≢ top → at ≡ root → ¬ IsBelow t top at
not_below_root t top at away is Here = away refl
not_below_root t top at away is (Below n a r) = n is

pub not_below_removed : (t : Tree) (top at : ℕ) → at ≢ top → above t at ≡ None → ¬ IsBelow t top at
not_below_removed t top at away none Here = away refl
not_below_removed t top at away none (Below {up = u} n a r) = let no : None ≡ Some u = sym none ∙ a in absurd cc

-- after k steps up from a directory: its host name is found in the steps that are left, unless
-- no step was taken
abbrev pub HasSteps : Tree → ℕ → ℕ → Type 0
HasSteps t k at = (k ≡ 0) ⊎ ((text : List (List ℕ)) × (host_name_within (t.next - k) t at ≡ Some text))

pub steps_left : (t : Tree) → IsSound t → (k at up : ℕ) → k < t.next → at ≢ root → above t at ≡ Some up → HasSteps t k at → HasSteps t (k + 1) up
steps_left t sound k at up l away a has = inr (host_name-above t sound (t.next - (k + 1)) at up now.0 away a (ap (λ n. host_name_within n t at) (more (t.next) k l) ∙ now.1))
  where
    more : (n k : ℕ) → k < n → suc (n - (k + 1)) ≡ n - k
    more n k l = omega arith

    now : (text : List (List ℕ)) × (host_name_within (t.next - k) t at ≡ Some text)
    now = elim has [
      | inl none ↦
          let s = map_some (λ s. s.inode) (standing t at) up a in
          let called = standing-host_name t sound at s.0 s.1 in
          let whole : t.next - k ≡ t.next = omega (arith, none) in
          (called.0, ap (λ n. host_name_within n t at) whole ∙ called.1)
      | inr called ↦ called
    ]

-- the steps are enough
pub steps_end : (t : Tree) → IsSound t → (k at : ℕ) → t.next ≤ k → HasSteps t k at → ⊥
steps_end t sound k at l (inl none) =
    let x = standing_there t sound root _ sound.rooted in
    let some = (sound.numbered root x.0 x.1).1 in
    omega (arith, none, some)
steps_end t sound k at l (inr called) =
    let spent : t.next - k ≡ 0 = omega (arith, l) in
    let no : None ≡ Some called.0 = sym (ap (λ n. host_name_within n t at) spent ∙ host_name-zero t at) ∙ called.1 in
    absurd cc
