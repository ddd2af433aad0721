-- How many descriptors name a file, as far as some number.
use Rattle.std.specs.FinMap as map
use Rattle.std.proofs.Common.{◌≡◌, ◌≢◌, ◌≤◌, ◌<◌, ◌+◌, ◌-◌, ◌^◌, subst, ℕ, zero, suc, refl, sym, ap, ◌∙◌, arith, true, false, cond, Option, Some, None, add-one}
use Rattle.std.specs.Prelude.{◌==◌}
use Rattle.std.specs.Option.{option_map, option_map_or}
use Rattle.std.specs.Ordering.{nat_cmp}
use Rattle.kr_files.specs.declared.descs.Descriptor.{Descriptor}
use Rattle.kr_files.specs.Descriptors.{Descriptors, Meanings, Named, meanings, named_below}
use Rattle.kr_files.specs.Files.{Counted, counted_more}
use Rattle.kr_tree.specs.pr_base.Maps.{changed, mapped}
use Rattle.kr_tree.proofs.pr_base.MapLemmas.{same_values, by_key, get-mapped, get-changed_same, get-changed_other}
use Rattle.kr_files.proofs.SoundLemmas.{equal_same, equal_other}

-- whether the descriptor of a number names a file, as a number
abbrev pub named_here : Meanings → ℕ → ℕ → ℕ
named_here d n k = option_map_or (λ (x : Named). cond (x.number == n) 1 0) (map.get d k) 0

here_small : (d : Meanings) (n k : ℕ) → named_here d n k ≤ 1
here_small d n k = elim (map.get d k) as (λ o. option_map_or (λ (x : Named). cond (x.number == n) 1 0) o 0 ≤ 1) [
  | None ↦ omega arith
  | Some x ↦ elim (x.number == n) as (λ b. cond b 1 0 ≤ 1) [ true ↦ omega arith | false ↦ omega arith ]
]

-- each descriptor counts once
pub below_small : (d : Meanings) (n k : ℕ) → named_below d n k ≤ k
unfolding named_below
below_small d n zero = omega arith
below_small d n (suc k) = omega (arith, below_small d n k, here_small d n k)

pub below-more : (d : Meanings) (n k : ℕ) → named_below d n (k + 1) ≡ named_below d n k + named_here d n k
unfolding named_below
below-more d n k = ap (named_below d n) (add-one k)

pub below-none : (d : Meanings) (n k : ℕ) → map.get d k ≡ None → named_below d n (k + 1) ≡ named_below d n k
below-none d n k none =
    below-more d n k ∙ ap (λ o. named_below d n k + option_map_or (λ (x : Named). cond (x.number == n) 1 0) o 0) none ∙ omega arith

-- where no descriptor is left, no more are counted
pub below-past : (d : Meanings) (n k more : ℕ) → ((q : ℕ) → k ≤ q → map.get d q ≡ None) → named_below d n (k + more) ≡ named_below d n k
below-past d n k zero none = ap (named_below d n) (omega arith)
below-past d n k (suc more) none =
    let e : k + suc more ≡ k + more + 1 = omega arith in
    ap (named_below d n) e ∙ below-none d n (k + more) (none (k + more) (omega arith)) ∙ below-past d n k more none

pub below-grows : (d : Meanings) (n k more : ℕ) → named_below d n k ≤ named_below d n (k + more)
below-grows d n k zero = let e : k + zero ≡ k = omega arith in subst (λ m. named_below d n k ≤ named_below d n m) (sym e) (omega arith)
below-grows d n k (suc more) =
    let e : k + suc more ≡ k + more + 1 = omega arith in
    subst (λ m. named_below d n k ≤ named_below d n m) (sym e) (omega (arith, below-grows d n k more, below-more d n (k + more)))

pub get-meanings : (d : Descriptors) (k : ℕ) (x : Descriptor) → map.get d k ≡ Some x → map.get (meanings d) k ≡ Some (record { number = x.number; cloexec = x.cloexec })
get-meanings d k x e = get-mapped (λ fd (y : Descriptor). record { number = y.number; cloexec = y.cloexec }) d k ∙ ap (option_map (λ (y : Descriptor). record { number = y.number; cloexec = y.cloexec })) e

pub none-meanings : (d : Descriptors) (k : ℕ) → map.get d k ≡ None → map.get (meanings d) k ≡ None
none-meanings d k e = get-mapped (λ fd (y : Descriptor). record { number = y.number; cloexec = y.cloexec }) d k ∙ ap (option_map (λ (y : Descriptor). record { number = y.number; cloexec = y.cloexec })) e

-- this descriptor counts for its file, and for no other
pub here-same : (d : Descriptors) (k : ℕ) (x : Descriptor) → map.get d k ≡ Some x → named_here (meanings d) x.number k ≡ 1
here-same d k x e = ap (λ o. option_map_or (λ (y : Named). cond (y.number == x.number) 1 0) o 0) (get-meanings d k x e) ∙ ap (λ b. cond b 1 0) (equal_same x.number)

pub here-other : (d : Descriptors) (k : ℕ) (x : Descriptor) (n : ℕ) → map.get d k ≡ Some x → n ≢ x.number → named_here (meanings d) n k ≡ 0
here-other d k x n e other = ap (λ o. option_map_or (λ (y : Named). cond (y.number == n) 1 0) o 0) (get-meanings d k x e) ∙ ap (λ b. cond b 1 0) (equal_other x.number n other)

module _ {M : Type 0} (files : map.FinMap nat_cmp (Counted M)) (d : Descriptors) (k : ℕ) where
  counts_same : (a b : ℕ) → a ≡ b → (o : Option (Counted M)) → option_map (counted_more a) o ≡ option_map (counted_more b) o
  counts_same a b e o = ap (λ c. option_map (counted_more c) o) e

  pub raised-none : map.get d k ≡ None → mapped (λ n. counted_more (named_below (meanings d) n k)) files ≡ mapped (λ n. counted_more (named_below (meanings d) n (k + 1))) files
  raised-none none =
      same_values _ _ (λ q. get-mapped (λ n. counted_more (named_below (meanings d) n k)) files q
      ∙ counts_same (named_below (meanings d) q k) (named_below (meanings d) q (k + 1)) (sym (below-none (meanings d) q k (none-meanings d k none))) (map.get files q)
      ∙ sym (get-mapped (λ n. counted_more (named_below (meanings d) n (k + 1))) files q))

  twice : (a : ℕ) (o : Option (Counted M)) → option_map (counted_more 1) (option_map (counted_more a) o) ≡ option_map (counted_more (a + 1)) o
  twice a None = refl
  twice a (Some h) = let e : h.count + a + 1 ≡ h.count + (a + 1) = omega arith in ap (λ c. Some (record h { count = c })) e

  pub raised-some : (x : Descriptor) → map.get d k ≡ Some x
      → changed (mapped (λ n. counted_more (named_below (meanings d) n k)) files) x.number (counted_more 1) ≡ mapped (λ n. counted_more (named_below (meanings d) n (k + 1))) files
  raised-some x here =
      same_values _ _ (by_key (λ q. map.get (changed (mapped (λ n. counted_more (named_below (meanings d) n k)) files) x.number (counted_more 1)) q ≡ map.get (mapped (λ n. counted_more (named_below (meanings d) n (k + 1))) files) q) x.number
      (get-changed_same (mapped (λ n. counted_more (named_below (meanings d) n k)) files) x.number (counted_more 1)
      ∙ ap (option_map (counted_more 1)) (get-mapped (λ n. counted_more (named_below (meanings d) n k)) files x.number)
      ∙ twice (named_below (meanings d) x.number k) (map.get files x.number)
      ∙ counts_same (named_below (meanings d) x.number k + 1) (named_below (meanings d) x.number (k + 1)) (omega (arith, below-more (meanings d) x.number k, here-same d k x here)) (map.get files x.number)
      ∙ sym (get-mapped (λ n. counted_more (named_below (meanings d) n (k + 1))) files x.number))
      (λ q other. get-changed_other (mapped (λ n. counted_more (named_below (meanings d) n k)) files) x.number (counted_more 1) q other
      ∙ get-mapped (λ n. counted_more (named_below (meanings d) n k)) files q
      ∙ counts_same (named_below (meanings d) q k) (named_below (meanings d) q (k + 1)) (omega (arith, below-more (meanings d) q k, here-other d k x q here other)) (map.get files q)
      ∙ sym (get-mapped (λ n. counted_more (named_below (meanings d) n (k + 1))) files q)))

  pub raised-nothing : files ≡ mapped (λ n. counted_more (named_below (meanings d) n 0)) files
  unfolding named_below
  raised-nothing = same_values _ _ (λ q. kept (map.get files q) ∙ sym (get-mapped (λ n. counted_more (named_below (meanings d) n 0)) files q))
    where
      kept : (o : Option (Counted M)) → o ≡ option_map (counted_more 0) o
      kept None = refl
      kept (Some h) = let e : h.count ≡ h.count + 0 = omega arith in ap (λ c. Some (record h { count = c })) e

  pub raised-all : k ≤ 1024 → ((q : ℕ) → k ≤ q → map.get d q ≡ None) → mapped (λ n. counted_more (named_below (meanings d) n k)) files ≡ mapped (λ n. counted_more (named_below (meanings d) n 1024)) files
  raised-all within none =
      let e : k + (1024 - k) ≡ 1024 = omega arith in
      same_values _ _ (λ q. get-mapped (λ n. counted_more (named_below (meanings d) n k)) files q
      ∙ counts_same (named_below (meanings d) q k) (named_below (meanings d) q 1024)
      (sym (ap (named_below (meanings d) q) (sym e) ∙ below-past (meanings d) q k (1024 - k) (λ r low. none-meanings d r (none r low)))) (map.get files q)
      ∙ sym (get-mapped (λ n. counted_more (named_below (meanings d) n 1024)) files q))

  -- the count of what a descriptor names has room for one more
  pub raise_fits : (x : Descriptor) → k < 1024 → map.get d k ≡ Some x
      → ((n : ℕ) (h : Counted M) → map.get files n ≡ Some h → h.count + named_below (meanings d) n 1024 < 2 ^ 32)
      → option_map_or (λ (h : Counted M). h.count) (map.get (mapped (λ n. counted_more (named_below (meanings d) n k)) files) x.number) 0 + 1 < 2 ^ 32
  raise_fits x low here fits =
      subst (λ o. option_map_or (λ (h : Counted M). h.count) o 0 + 1 < 2 ^ 32) (sym (get-mapped (λ n. counted_more (named_below (meanings d) n k)) files x.number))
      (elim (map.get files x.number) as (λ o. map.get files x.number ≡ o → option_map_or (λ (h : Counted M). h.count) (option_map (counted_more (named_below (meanings d) x.number k)) o) 0 + 1 < 2 ^ 32) [
        | None ↦ λ e. omega arith
        | Some h ↦ λ e.
            let room = fits x.number h e in
            let all : k + 1 + (1024 - (k + 1)) ≡ 1024 = omega arith in
            let grows = subst (λ m. named_below (meanings d) x.number (k + 1) ≤ named_below (meanings d) x.number m) all (below-grows (meanings d) x.number (k + 1) (1024 - (k + 1))) in
            omega (arith, room, grows, below-more (meanings d) x.number k, here-same d k x here)
      ] refl)
