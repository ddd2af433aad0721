-- The trees in which both machines begin are one tree, where the holds of the mounts are taken off.
use Rattle.std.proofs.Common.{◌≡◌, ℕ, ◌-◌, ◌≤◌, Bool, true, false, List, [], ◌∷◌, Option, Some, None, refl, sym, ap, ◌∙◌, arith}
use Rattle.std.specs.Prelude.{◌==◌}
use Rattle.std.specs.Bool.{if◌then◌else◌}
use Rattle.std.specs.Option.{option_map, option_map_or}
use Rattle.pr_start.specs.pr_base.Maps.{mapped}
use Rattle.pr_start.proofs.pr_base.MapLemmas.{get-mapped, same_values}
use Rattle.pr_start.specs.kr_tree.Changes.{held, with_holds, with_inodes}
use Rattle.pr_start.specs.kr_tree.Holds.{fewer, holds_at, with_fewer}
use Rattle.pr_start.specs.kr_tree.Tree.{Inode, Inodes, Tree, inode}
use Rattle.pr_start.proofs.kr_tree.HoldLemmas.{changes_are_alike_with_fewer_holds}
use Rattle.pr_start.proofs.kr_tree.NameLemmas.{some_is}
use Rattle.pr_start.specs.kr_view.View.{Row, StandsIn}
use Rattle.law_turns.specs.kr_model.Bare.{pins_of}
use Rattle.law_turns.proofs.kr_model.TreeLemmas.{holds-held}
use Rattle.pr_start.specs.kr_start.Start.{HasNoHolds, held_once, pinned}
use Rattle.pr_start.proofs.kr_start.PinLemmas.{pinned-stays}
use Rattle.pr_start.proofs.kr_start.StartLemmas.{sources-held}

-- an inode without its holds
abbrev unheld : Option Inode → Option Inode
unheld o = option_map (with_holds (λ n. 0)) o

-- one that was held n times, and not before, is the same with n fewer holds
same-inode : (n : ℕ) (o p : Option Inode) → unheld o ≡ unheld p → option_map_or (λ (x : Inode). x.holds) o 0 ≡ n → option_map_or (λ (x : Inode). x.holds) p 0 ≡ 0 → option_map (fewer n) o ≡ p
same-inode n None None same count none = refl
same-inode n None (Some y) same count none = absurd cc
same-inode n (Some x) None same count none = absurd cc
same-inode n (Some x) (Some y) same count none =
    let rest : with_holds (λ n. 0) x ≡ with_holds (λ n. 0) y = some_is (with_holds (λ n. 0) x) (with_holds (λ n. 0) y) same in
    let gone : x.holds - n ≡ 0 = omega arith in
    let less : fewer n x ≡ with_holds (λ n. 0) x = ap (λ k. with_holds (λ n. k) x) gone in
    let own : with_holds (λ n. 0) y ≡ y = ap (λ k. with_holds (λ n. k) y) (sym none) in
    ap (λ (z : Inode). Some z) (less ∙ rest ∙ own)

-- what isn't told of inodes stays
rest-stays : {A : Type 0} (f : Tree → A) → ((m : Inodes) (t : Tree) → f (with_inodes m t) ≡ f t) → (rows : List Row) (t : Tree) → f (pinned rows t) ≡ f t
rest-stays f same [] t = refl
rest-stays f same (r ∷ rows) t = rest-stays f same rows (held_once r.source t) ∙ by (holds_at t r.source == 0)
  where
    by : (b : Bool) → f (if b then held r.source t else t) ≡ f t
    by true = same (held r.source t).inodes t
    by false = refl

module _ (table : List Row) (t : Tree) (stands : StandsIn t table) (free : HasNoHolds t) where
  abbrev pins : ℕ → ℕ
  pins = pins_of table

  fewer-pinned : with_fewer pins (pinned table t) ≡ t
  fewer-pinned =
      let inodes : mapped (λ i. fewer (pins i)) (pinned table t).inodes ≡ t.inodes =
      same_values (mapped (λ i. fewer (pins i)) (pinned table t).inodes) t.inodes
      (λ i. get-mapped (λ i. fewer (pins i)) (pinned table t).inodes i
      ∙ same-inode (pins i) (inode (pinned table t) i) (inode t i) (pinned-stays unheld (λ g x. refl) table t i) (sources-held table t stands free i) (free i)) in
      let next = rest-stays (λ t. t.next) (λ m t. refl) table t in
      let names = rest-stays (λ t. t.names) (λ m t. refl) table t in
      let bytes = rest-stays (λ t. t.bytes) (λ m t. refl) table t in
      λ j. record { inodes = inodes j; next = next j; names = names j; bytes = bytes j }

  -- also where two places more are held
  pub held-fewer : (c e : ℕ) → with_fewer pins (held e (held c (pinned table t))) ≡ held e (held c t)
  held-fewer c e =
      let few : (i : ℕ) → pins i ≤ holds_at (pinned table t) i = λ i. let same = sources-held table t stands free i in omega arith in
      let one = (changes_are_alike_with_fewer_holds pins (pinned table t)).held c (few c) ∙ ap (held c) fewer-pinned in
      let more : pins e ≤ holds_at (held c (pinned table t)) e = let least = few e in let next = holds-held c (pinned table t) e in omega arith in
      (changes_are_alike_with_fewer_holds pins (held c (pinned table t))).held e more ∙ ap (held e) one
