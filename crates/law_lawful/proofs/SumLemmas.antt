-- Sums over the numbers below one, over tables and over lists.
use Rattle.std.specs.FinMap as map
use Rattle.std.proofs.Common.{◌≡◌, ◌≢◌, inl, inr, subst, ℕ, zero, suc, ◌+◌, ◌*◌, ◌≤◌, ◌<◌, Bool, true, false, List, [], ◌∷◌, ◌++◌, length, refl, sym, ap, ◌∙◌, arith, zero-add, cond, Some}
use Rattle.std.specs.Prelude.{map as map_list, ◌==◌, sum}
use Rattle.std.specs.List.{find}
use Rattle.std.specs.Option.{option_map_or}
use Rattle.std.specs.Ordering.{nat_cmp}
use Rattle.std.proofs.lemmas.Bool.{cases_eq}
use Rattle.std.proofs.lemmas.Bool.Decides.{nat_tests}
use Rattle.std.proofs.lemmas.List.Sums.{sum_by-cons, sum_by-append}
use Rattle.kr_model.specs.Uses.{sum_to}

-- ---- tests

pub same-test : (a b : ℕ) → a ≡ b → (a == b) ≡ true
same-test a b e = grind (arith, nat_tests)

pub other-test : (a b : ℕ) → a ≢ b → (a == b) ≡ false
other-test a b d = grind (arith, nat_tests)

pub passed-test : (a b : ℕ) → (a == b) ≡ true → a ≡ b
passed-test a b e = grind (arith, nat_tests)

-- ---- over lists

pub sum-cons : (n : ℕ) (ns : List ℕ) → sum (n ∷ ns) ≡ n + sum ns
sum-cons n ns = sum_by-cons (λ (k : ℕ). k) n ns

pub sum-end : (ns : List ℕ) (n : ℕ) → sum (ns ++ n ∷ []) ≡ sum ns + n
sum-end ns n = sum_by-append (λ (k : ℕ). k) ns (n ∷ []) ∙ ap (λ k. sum ns + k) (zero-add n)

module _ {A : Type 0} (f : A → ℕ) where
  -- each summand has a bound
  pub sum-bounded : (most : ℕ) → ((x : A) → f x ≤ most) → (xs : List A) → sum (map_list f xs) ≤ length xs * most
  sum-bounded most each [] = omega arith
  sum-bounded most each (x ∷ xs) =
      let first = sum-cons (f x) (map_list f xs) in
      let one = each x in
      let rest = sum-bounded most each xs in
      grind (arith)

  -- what is found is one of the summands
  pub sum-found : (test : A → Bool) (xs : List A) (x : A) → find test xs ≡ Some x → f x ≤ sum (map_list f xs)
  sum-found test [] x e = absurd cc
  sum-found test (y ∷ ys) x e = by (test y) (sum-found test ys x) e
    where
      by : (b : Bool) → (find test ys ≡ Some x → f x ≤ sum (map_list f ys)) → cond b (Some y) (find test ys) ≡ Some x → f x ≤ sum (map_list f (y ∷ ys))
      by true rest e =
          let same : y ≡ x = cc in
          let here = ap f same in
          let first = sum-cons (f y) (map_list f ys) in
          omega arith
      by false rest e =
          let first = sum-cons (f y) (map_list f ys) in
          let more = rest e in
          omega arith

-- ---- over numbers

-- the sum of f over the numbers below one
unfoldable pub sum_numbers : (ℕ → ℕ) → ℕ → ℕ
sum_numbers f zero = 0
sum_numbers f (suc n) = f n + sum_numbers f n

pub numbers-none : (f : ℕ → ℕ) (n : ℕ) → ((q : ℕ) → q < n → f q ≡ 0) → sum_numbers f n ≡ 0
unfolding sum_numbers
numbers-none f zero none = refl
numbers-none f (suc n) none =
    let here = none n (omega arith) in
    let rest = numbers-none f n (λ q l. none q (omega arith)) in
    omega arith

pub numbers-plus : (f g : ℕ → ℕ) (n : ℕ) → sum_numbers (λ q. f q + g q) n ≡ sum_numbers f n + sum_numbers g n
unfolding sum_numbers
numbers-plus f g zero = refl
numbers-plus f g (suc n) = let rest = numbers-plus f g n in omega arith

pub numbers-same : (f g : ℕ → ℕ) (n : ℕ) → ((q : ℕ) → f q ≡ g q) → sum_numbers f n ≡ sum_numbers g n
unfolding sum_numbers
numbers-same f g zero same = refl
numbers-same f g (suc n) same = let here = same n in let rest = numbers-same f g n same in omega arith

-- one number is below at most once
pub numbers-one : (k n : ℕ) → sum_numbers (λ q. cond (k == q) 1 0) n ≤ 1
unfolding sum_numbers
numbers-one k zero = omega arith
numbers-one k (suc n) =
    elim (cases_eq k n) [
      | inl e ↦
          let here : cond {A = ℕ} (k == n) 1 0 ≡ 1 = ap (λ b. cond {A = ℕ} b 1 0) (same-test k n e) in
          let rest = numbers-none (λ q. cond (k == q) 1 0) n (λ q l. ap (λ b. cond b 1 0) (other-test k q (λ is. let no : q < q = subst (λ r. q < r) (sym e ∙ is) l in absurd (omega arith)))) in
          omega arith
      | inr d ↦
          let here : cond {A = ℕ} (k == n) 1 0 ≡ 0 = ap (λ b. cond {A = ℕ} b 1 0) (other-test k n d) in
          let rest = numbers-one k n in
          omega arith
    ]

-- ---- over tables

module _ {X : Type 0} (f : X → ℕ) (m n : map.FinMap nat_cmp X) where
  pub sum-same : (count : ℕ) → ((q : ℕ) → q < count → option_map_or f (map.get n q) 0 ≡ option_map_or f (map.get m q) 0) → sum_to f n count ≡ sum_to f m count
  unfolding sum_to
  sum-same zero same = refl
  sum-same (suc count) same =
      let here = same count (omega arith) in
      let rest = sum-same count (λ q l. same q (omega arith)) in
      omega arith

  -- one entry changed
  pub sum-changed : (count k : ℕ) → k < count → ((q : ℕ) → q ≢ k → map.get n q ≡ map.get m q) → sum_to f n count + option_map_or f (map.get m k) 0 ≡ sum_to f m count + option_map_or f (map.get n k) 0
  unfolding sum_to
  sum-changed zero k l same = absurd (let no : k < 0 = l in omega arith)
  sum-changed (suc count) k l same =
      elim (cases_eq k count) [
        | inl e ↦
            let rest = sum-same count (λ q below. ap (λ o. option_map_or f o 0) (same q (λ is. let no : count < count = subst (λ r. r < count) (is ∙ e) below in omega arith))) in
            let old = ap (λ q. option_map_or f (map.get m q) 0) e in
            let new = ap (λ q. option_map_or f (map.get n q) 0) e in
            omega arith
        | inr d ↦
            let rest = sum-changed count k (omega arith) same in
            let here = ap (λ o. option_map_or f o 0) (same count (λ e. d (sym e))) in
            omega arith
      ]

module _ {X : Type 0} (f : X → ℕ) (m : map.FinMap nat_cmp X) where
  -- one summand
  pub sum-least : (count k : ℕ) → k < count → option_map_or f (map.get m k) 0 ≤ sum_to f m count
  unfolding sum_to
  sum-least zero k l = absurd (let no : k < 0 = l in omega arith)
  sum-least (suc count) k l =
      elim (cases_eq k count) [
        | inl e ↦ let same = ap (λ q. option_map_or f (map.get m q) 0) e in omega arith
        | inr d ↦ let rest = sum-least count k (omega arith) in omega arith
      ]

  pub sum-within : (g : ℕ → ℕ) (count : ℕ) → ((q : ℕ) → option_map_or f (map.get m q) 0 ≤ g q) → sum_to f m count ≤ sum_numbers g count
  unfolding sum_to sum_numbers
  sum-within g zero each = omega arith
  sum-within g (suc count) each =
      let here = each count in
      let rest = sum-within g count each in
      omega arith

  pub sum-more : (count : ℕ) → sum_to f m (suc count) ≡ option_map_or f (map.get m count) 0 + sum_to f m count
  unfolding sum_to
  sum-more count = refl
