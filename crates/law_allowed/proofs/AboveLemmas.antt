-- Going up from a directory as many steps as a row takes, one meets each directory at or above it.
use Rattle.std.proofs.Common.{◌≡◌, ◌≢◌, inl, ℕ, zero, suc, ◌+◌, ◌≤◌, Bool, true, false, ◌||◌, refl, sym, ap, ◌∙◌, arith, cond, Some, None, Option}
use Rattle.std.specs.Option.{option_map, option_map_or, option_and_then}
use Rattle.law_lawful.proofs.rv_mem.TableLemmas.{below_or_not}
use Rattle.law_lawful.specs.kr_inode.declared.standing.Standing.{Standing}
use Rattle.law_lawful.specs.kr_tree.Lawful.{IsSound, IsBelow, Here, Below}
use Rattle.law_lawful.specs.kr_tree.Tree.{Inode, Node, root, inode, above, standing_of}
use Rattle.law_lawful.specs.kr_tree.declared.place.Host.{Host}
use Rattle.law_lawful.specs.kr_tree.declared.place.Host.TheVariants as host
use Rattle.law_lawful.proofs.kr_tree.BelowLemmas.{HasSteps, steps_left, steps_end}
use Rattle.law_lawful.specs.kr_model.Asking.{same_host}
use Rattle.law_lawful.specs.kr_model.Known.{Known, Fact, known}
use Rattle.law_lawful.specs.kr_model.NameRows.{host_above, is_within, is_at_or_above}
use Rattle.law_lawful.specs.kr_model.State.{Image, image_layout, State}
use Rattle.law_lawful.proofs.SumLemmas.{same-test, other-test}

module _ {M : Type 0} (pid : ℕ) (s : State M Image) (sound : IsSound s.tree) where
  abbrev k : Known
  k = known image_layout pid s

  -- what a row knows to be above is so
  above-known : (at up : ℕ) → at ≢ root → above s.tree at ≡ Some up → host_above k (host.Node at) ≡ Some (host.Node up)
  above-known at up away e = ap (λ b. cond b None (up-of (inode s.tree at))) (other-test at root away) ∙ by (inode s.tree at) e
    where
      up-of : Option Inode → Option Host
      up-of o =
          option_map_or (λ (n : Node). option_map_or (λ (s : Standing). Some (host.Node s.inode)) (standing_of n.body) None)
          (option_map (λ (f : Fact). f.node) (option_map (λ (x : Inode). record { node = x.node; names = x.names; directories = x.directories }) o)) None

      of-standing : (o : Option Standing) → option_map (λ (s : Standing). s.inode) o ≡ Some up → option_map_or (λ (s : Standing). Some (host.Node s.inode)) o None ≡ Some (host.Node up)
      of-standing None e = absurd cc
      of-standing (Some st) e = ap (λ (o : Option ℕ). option_map host.Node o) e

      by : (o : Option Inode) → option_map (λ (s : Standing). s.inode) (option_and_then (λ (x : Inode). standing_of x.node.body) o) ≡ Some up → up-of o ≡ Some (host.Node up)
      by None e = absurd cc
      by (Some x) e = of-standing (standing_of x.node.body) e

  -- after j steps up, with n left
  within : (top n j at : ℕ) → HasSteps s.tree j at → s.tree.next ≤ j + n → IsBelow s.tree top at → is_within n k (host.Node top) (host.Node at) ≡ true
  unfolding is_within
  within top zero j at has enough below = absurd (steps_end s.tree sound j at (omega arith) has)
  within top (suc n) j at has enough Here = ap (λ b. b || option_map_or (is_within n k (host.Node top)) (host_above k (host.Node at)) false) (same-test at at refl)
  within top (suc n) j at has enough (Below {up = up} away e below) =
      below_or_not (is_within (suc n) k (host.Node top) (host.Node at) ≡ true) j s.tree.next
      (λ more.
      let later = within top n (j + 1) up (steps_left s.tree sound j at up more away e has) (omega arith) below in
      either-passes (same_host (host.Node top) (host.Node at)) (ap (λ (o : Option Host). option_map_or (is_within n k (host.Node top)) o false) (above-known at up away e) ∙ later))
      (λ none. absurd (steps_end s.tree sound j at none has))
    where
      either-passes : (a : Bool) {b : Bool} → b ≡ true → (a || b) ≡ true
      either-passes true e = refl
      either-passes false e = e

  pub not-below : (top at : ℕ) → is_at_or_above k (host.Node top) (host.Node at) ≡ false → ¬ IsBelow s.tree top at
  not-below top at none below = absurd (let is = within top (s.tree.next + 2) 0 at (inl refl) (omega arith) below in let both : true ≡ false = sym is ∙ none in cc)
