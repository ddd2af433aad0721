-- The way up from a directory.
use Rattle.std.proofs.Common.{◌≡◌, ◌≢◌, ℕ, zero, suc, ◌+◌, ◌-◌, ◌≤◌, ◌<◌, Bool, true, false, ◌||◌, Option, Some, None, inl, inr, ◌⊎◌, refl, ap, ◌∙◌, arith}
use Rattle.std.specs.Prelude.{◌==◌, nat_le}
use Rattle.std.specs.Bool.{if◌then◌else◌}
use Rattle.std.specs.Option.{option_map, option_map_or, option_and_then}
use Rattle.std.proofs.lemmas.Bool.Decides.{nat_tests}
use Rattle.std.proofs.lemmas.Option.{none-some}
use Rattle.kr_seen.specs.kr_inode.declared.standing.Standing.{Standing}
use Rattle.kr_seen.specs.kr_tree.declared.place.Host.{Host}
use Rattle.kr_seen.specs.kr_tree.declared.place.Host.TheVariants as host
use Rattle.kr_seen.specs.kr_tree.Lawful.{IsBelow, Here, Below, IsSound}
use Rattle.kr_seen.specs.kr_tree.Tree.{Inode, Node, above, inode, root, standing_of}
use Rattle.kr_seen.proofs.kr_tree.BelowLemmas.{HasSteps, steps_end, steps_left}
use Rattle.kr_seen.specs.kr_model.Asking.{same_host}
use Rattle.kr_seen.specs.kr_model.Known.{Fact, Known, known, known_node}
use Rattle.kr_seen.specs.kr_model.NameRows.{host_above, is_within}
use Rattle.kr_seen.specs.kr_model.State.{Image, State, image_layout}

module _ (k : Known) (top at : Host) where
  pub within-zero : is_within zero k top at ≡ false
  unfolding is_within
  within-zero = refl

  pub within-here : (n : ℕ) → same_host top at ≡ true → is_within (suc n) k top at ≡ true
  unfolding is_within
  within-here n e = ap (λ b. b || option_map_or (is_within n k top) (host_above k at) false) e

  pub within-up : (n : ℕ) (up : Host) → same_host top at ≡ false → host_above k at ≡ Some up → is_within (suc n) k top at ≡ is_within n k top up
  unfolding is_within
  within-up n up e is = ap (λ b. b || option_map_or (is_within n k top) (host_above k at) false) e ∙ ap (λ o. option_map_or (is_within n k top) o false) is

  pub within-end : (n : ℕ) → same_host top at ≡ false → host_above k at ≡ None → is_within (suc n) k top at ≡ false
  unfolding is_within
  within-end n e is = ap (λ b. b || option_map_or (is_within n k top) (host_above k at) false) e ∙ ap (λ o. option_map_or (is_within n k top) o false) is

-- a step that is left
pub one-left : (limit step : ℕ) → step < limit → limit - step ≡ suc (limit - (step + 1))
one-left limit step l = omega arith

at-most-or-more : (m n : ℕ) → (m ≤ n) ⊎ (n < m)
at-most-or-more m n = by (nat_le m n) refl
  where
    by : (b : Bool) → nat_le m n ≡ b → (m ≤ n) ⊎ (n < m)
    by true e = inl (grind (arith, nat_tests))
    by false e = inr (grind (arith, nat_tests))

same-number : (i : ℕ) → (i == i) ≡ true
same-number i = grind (arith, nat_tests)

module _ {T : Type 0} (pid : ℕ) (s : State T Image) (sound : IsSound s.tree) (top : ℕ) where
  abbrev k : Known
  k = known image_layout pid s

  above-known : (at up : ℕ) → at ≢ root → above s.tree at ≡ Some up → host_above k (host.Node at) ≡ Some (host.Node up)
  above-known at up other is = ap (λ b. if b then None else option_map_or (λ n. option_map_or (λ (x : Standing). Some (host.Node x.inode)) (standing_of n.body) None) (known_node k at) None) away ∙ by (inode s.tree at) is
    where
      away : (at == root) ≡ false
      away = grind (arith, nat_tests)

      stands : (o : Option Standing) → option_map (λ (x : Standing). x.inode) o ≡ Some up → option_map_or (λ (x : Standing). Some (host.Node x.inode)) o None ≡ Some (host.Node up)
      stands None e = absurd (none-some up e)
      stands (Some x) e = let same : x.inode ≡ up = cc in ap (λ i. Some (host.Node i)) same

      by : (o : Option Inode) → option_map (λ (x : Standing). x.inode) (option_and_then (λ (x : Inode). standing_of x.node.body) o) ≡ Some up
          → option_map_or (λ (n : Node). option_map_or (λ (x : Standing). Some (host.Node x.inode)) (standing_of n.body) None) (option_map (λ (f : Fact). f.node) (option_map (λ (x : Inode). record { node = x.node; names = x.names; directories = x.directories }) o)) None ≡ Some (host.Node up)
      by None e = absurd (none-some up e)
      by (Some x) e = stands (standing_of x.node.body) e

  -- what is below another is found to be in as many steps as there are
  pub below-within : (n step at : ℕ) → s.tree.next ≤ n + step → HasSteps s.tree step at → IsBelow s.tree top at → is_within n k (host.Node top) (host.Node at) ≡ true
  below-within zero step at l has below = absurd (steps_end s.tree sound step at (omega arith) has)
  below-within (suc n) step at l has Here = within-here k (host.Node at) (host.Node at) n (same-number at)
  below-within (suc n) step at l has (Below {up = u} other is r) =
      elim (at-most-or-more s.tree.next step) [
        | inl end ↦ absurd (steps_end s.tree sound step at end has)
        | inr left ↦ by (top == at) refl (below-within n (step + 1) u (omega arith) (steps_left s.tree sound step at u left other is has) r)
      ]
    where
      by : (b : Bool) → (top == at) ≡ b → is_within n k (host.Node top) (host.Node u) ≡ true → is_within (suc n) k (host.Node top) (host.Node at) ≡ true
      by true e h = within-here k (host.Node top) (host.Node at) n e
      by false e h = within-up k (host.Node top) (host.Node at) n (host.Node u) e (above-known at u other is) ∙ h
