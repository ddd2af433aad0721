-- Lists of living processes after one of them changed, came or went.
use Rattle.std.specs.FinMap as map
use Rattle.std.proofs.Common.{◌≡◌, ◌≢◌, inl, inr, subst, ℕ, zero, suc, ◌+◌, ◌≤◌, ◌<◌, Bool, true, false, List, [], ◌∷◌, length, refl, sym, ap, ◌∙◌, arith, cond, Option, Some, None, IsSome}
use Rattle.std.specs.Prelude.{map as map_list, ◌==◌, sum}
use Rattle.std.specs.List.{find}
use Rattle.std.specs.Option.{option_map, option_map_or}
use Rattle.std.proofs.lemmas.Bool.{cases_eq}
use Rattle.kr_model.proofs.kr_tree.NameLemmas.{some_is}
use Rattle.kr_model.specs.kr_files.Descriptors.{Meanings, Named, named_below}
use Rattle.kr_model.specs.Lawful.{RiseFrom}
use Rattle.kr_model.specs.State.{Process, is_pid, at_pid, with_process}
use Rattle.kr_model.proofs.BareLemmas.{found-mapped}
use Rattle.law_lawful.specs.Holding.{one_at}
use Rattle.law_lawful.proofs.SumLemmas.{passed-test, same-test, other-test, sum-cons}

-- ---- lists

pub same-mapped : {A B : Type 0} (f : A → B) (g : A → A) → ((x : A) → f (g x) ≡ f x) → (xs : List A) → map_list f (map_list g xs) ≡ map_list f xs
same-mapped f g same [] = refl
same-mapped f g same (x ∷ xs) = ap (λ y. y ∷ map_list f (map_list g xs)) (same x) ∙ ap (λ ys. f x ∷ ys) (same-mapped f g same xs)

pub as-long : {A : Type 0} (g : A → A) (xs : List A) → length (map_list g xs) ≡ length xs
as-long g [] = refl
as-long g (x ∷ xs) = ap suc (as-long g xs)

pub found-passes : {A : Type 0} (test : A → Bool) (xs : List A) (x : A) → find test xs ≡ Some x → test x ≡ true
found-passes test [] x e = absurd cc
found-passes test (y ∷ ys) x e = by (test y) refl (found-passes test ys x) e
  where
    by : (b : Bool) → test y ≡ b → (find test ys ≡ Some x → test x ≡ true) → cond b (Some y) (find test ys) ≡ Some x → test x ≡ true
    by true is more h = let same : y ≡ x = cc in ap test (sym same) ∙ is
    by false is more h = more h

pub some-mapped : {A : Type 0} (g : A → A) (o : Option A) → IsSome (option_map g o) → IsSome o
some-mapped g None h = h
some-mapped g (Some x) h = refl

-- ---- what descriptors name

-- how often a file is named by the descriptor of a number
abbrev pub here : Meanings → ℕ → ℕ → ℕ
here d n k = option_map_or (λ (x : Named). one_at x.number n) (map.get d k) 0

pub below-same : (d e : Meanings) (n count : ℕ) → ((q : ℕ) → q < count → map.get e q ≡ map.get d q) → named_below e n count ≡ named_below d n count
unfolding named_below
below-same d e n zero same = refl
below-same d e n (suc count) same =
    let last = ap (λ o. option_map_or (λ (x : Named). one_at x.number n) o 0) (same count (omega arith)) in
    let rest = below-same d e n count (λ q l. same q (omega arith)) in
    omega arith

-- descriptors that name the same files
pub below-alike : (d e : Meanings) (n count : ℕ) → ((q : ℕ) → here e n q ≡ here d n q) → named_below e n count ≡ named_below d n count
unfolding named_below
below-alike d e n zero same = refl
below-alike d e n (suc count) same =
    let last = same count in
    let rest = below-alike d e n count same in
    omega arith

-- one descriptor changed
pub below-changed : (d e : Meanings) (n k count : ℕ) → k < count → ((q : ℕ) → q ≢ k → map.get e q ≡ map.get d q) → named_below e n count + here d n k ≡ named_below d n count + here e n k
unfolding named_below
below-changed d e n k zero l same = absurd (let no : k < 0 = l in omega arith)
below-changed d e n k (suc count) l same =
    elim (cases_eq k count) [
      | inl is ↦
          let rest = below-same d e n count (λ q below. same q (λ eq. let no : count < count = subst (λ r. r < count) (eq ∙ is) below in omega arith)) in
          let old = ap (λ q. here d n q) is in
          let new = ap (λ q. here e n q) is in
          omega arith
      | inr d_is ↦
          let rest = below-changed d e n k count (omega arith) same in
          let last = ap (λ o. option_map_or (λ (x : Named). one_at x.number n) o 0) (same count (λ eq. d_is (sym eq))) in
          omega arith
    ]

pub here-least : (d : Meanings) (n k count : ℕ) → k < count → here d n k ≤ named_below d n count
unfolding named_below
here-least d n k zero l = absurd (let no : k < 0 = l in omega arith)
here-least d n k (suc count) l =
    elim (cases_eq k count) [
      | inl is ↦ let same = ap (λ q. here d n q) is in omega arith
      | inr apart ↦ let rest = here-least d n k count (omega arith) in omega arith
    ]

pub below-none : (d : Meanings) (n count : ℕ) → ((q : ℕ) → q < count → here d n q ≡ 0) → named_below d n count ≡ 0
unfolding named_below
below-none d n zero none = refl
below-none d n (suc count) none =
    let last = none count (omega arith) in
    let rest = below-none d n count (λ q l. none q (omega arith)) in
    omega arith

-- ---- one process changed

module _ {M X : Type 0} (pid : ℕ) (f : Process M X → Process M X) (pids : (p : Process M X) → (f p).pid ≡ p.pid) where
  at-pids : (p : Process M X) → (at_pid pid f p).pid ≡ p.pid
  at-pids p = by (p.pid == pid)
    where
      by : (b : Bool) → (cond b (f p) p).pid ≡ p.pid
      by true = pids p
      by false = refl

  pub found : (q : ℕ) (ps : List (Process M X)) → find (is_pid q) (with_process pid f ps) ≡ option_map (at_pid pid f) (find (is_pid q) ps)
  found q ps = found-mapped (at_pid pid f) (is_pid q) (is_pid q) (λ p. ap (λ n. n == q) (at-pids p)) ps

  -- what holds of all holds of all still, if of the one that changed
  pub each-found : (P : Process M X → Type 0) (ps : List (Process M X)) → ((q : ℕ) (p : Process M X) → find (is_pid q) ps ≡ Some p → P p) → ((p : Process M X) → find (is_pid pid) ps ≡ Some p → P (f p))
      → (q : ℕ) (p : Process M X) → find (is_pid q) (with_process pid f ps) ≡ Some p → P p
  each-found P ps each own q p e = by (find (is_pid q) ps) refl (sym (found q ps) ∙ e)
    where
      chosen : (x : Process M X) → find (is_pid q) ps ≡ Some x → (b : Bool) → (x.pid == pid) ≡ b → P (cond b (f x) x)
      chosen x is true same =
          let number : q ≡ pid = sym (passed-test x.pid q (found-passes (is_pid q) ps x is)) ∙ passed-test x.pid pid same in
          own x (subst (λ n. find (is_pid n) ps ≡ Some x) number is)
      chosen x is false same = each q x is

      by : (o : Option (Process M X)) → find (is_pid q) ps ≡ o → option_map (at_pid pid f) o ≡ Some p → P p
      by None is e = absurd cc
      by (Some x) is e = subst P (some_is (at_pid pid f x) p e) (chosen x is (x.pid == pid) refl)

  pub pids-same : (ps : List (Process M X)) → map_list (λ p. p.pid) (with_process pid f ps) ≡ map_list (λ p. p.pid) ps
  pids-same ps = same-mapped (λ (p : Process M X). p.pid) (at_pid pid f) at-pids ps

  module _ (g : Process M X → ℕ) (next : ℕ) where
    untouched : (low : ℕ) (ps : List (Process M X)) → pid < low → RiseFrom low next (map_list (λ p. p.pid) ps) → sum (map_list g (with_process pid f ps)) ≡ sum (map_list g ps)
    untouched low [] l rise = refl
    untouched low (x ∷ ps) l rise =
        let above = rise.0 in
        let apart : (x.pid == pid) ≡ false = other-test x.pid pid (λ e. absurd (omega arith)) in
        sum-cons (g (at_pid pid f x)) (map_list g (with_process pid f ps))
        ∙ ap (λ b. g (cond b (f x) x) + sum (map_list g (with_process pid f ps))) apart
        ∙ ap (λ n. g x + n) (untouched (suc x.pid) ps (omega arith) rise.2)
        ∙ sym (sum-cons (g x) (map_list g ps))

    -- a sum over the processes alters by that of the one that changed
    pub sum-with : (low : ℕ) (ps : List (Process M X)) (p : Process M X) → RiseFrom low next (map_list (λ p. p.pid) ps) → find (is_pid pid) ps ≡ Some p
        → sum (map_list g (with_process pid f ps)) + g p ≡ sum (map_list g ps) + g (f p)
    sum-with low [] p rise e = absurd cc
    sum-with low (x ∷ ps) p rise e = by (sum-with (suc x.pid) ps p rise.2) (x.pid == pid) refl e
      where
        by : (find (is_pid pid) ps ≡ Some p → sum (map_list g (with_process pid f ps)) + g p ≡ sum (map_list g ps) + g (f p)) → (b : Bool) → (x.pid == pid) ≡ b → cond b (Some x) (find (is_pid pid) ps) ≡ Some p
            → sum (g (cond b (f x) x) ∷ map_list g (with_process pid f ps)) + g p ≡ sum (g x ∷ map_list g ps) + g (f p)
        by later true is e =
            let same : x ≡ p = some_is x p e in
            let number : x.pid ≡ pid = passed-test x.pid pid is in
            let rest = untouched (suc x.pid) ps (omega arith) rise.2 in
            let old = ap g same in
            let new = ap (λ y. g (f y)) same in
            let first = sum-cons (g (f x)) (map_list g (with_process pid f ps)) in
            let before = sum-cons (g x) (map_list g ps) in
            omega arith
        by later false is e =
            let rest = later e in
            let first = sum-cons (g x) (map_list g (with_process pid f ps)) in
            let before = sum-cons (g x) (map_list g ps) in
            omega arith

-- ---- all that live

module _ {M X : Type 0} (next : ℕ) where
  -- numbers are not below where a list rises from
  pub found-above : (low q : ℕ) (ps : List (Process M X)) (p : Process M X) → RiseFrom low next (map_list (λ p. p.pid) ps) → find (is_pid q) ps ≡ Some p → (low ≤ q) × (q < next)
  found-above low q [] p rise e = absurd cc
  found-above low q (x ∷ ps) p rise e = by (found-above (suc x.pid) q ps p rise.2) (x.pid == q) refl e
    where
      by : (find (is_pid q) ps ≡ Some p → (suc x.pid ≤ q) × (q < next)) → (b : Bool) → (x.pid == q) ≡ b → cond b (Some x) (find (is_pid q) ps) ≡ Some p → (low ≤ q) × (q < next)
      by later true is e = let same = passed-test x.pid q is in let first = rise.0 in let last = rise.1 in (omega arith, omega arith)
      by later false is e = let rest = later e in let first = rise.0 in let least = rest.0 in (omega arith, rest.1)

  -- one that is found behind the first isn't the first
  found-later : (low q : ℕ) (x : Process M X) (ps : List (Process M X)) (p : Process M X) → RiseFrom low next (map_list (λ p. p.pid) (x ∷ ps)) → find (is_pid q) ps ≡ Some p → find (is_pid q) (x ∷ ps) ≡ Some p
  found-later low q x ps p rise e =
      let above = (found-above (suc x.pid) q ps p rise.2 e).0 in
      ap (λ b. cond b (Some x) (find (is_pid q) ps)) (other-test x.pid q (λ same. absurd (omega arith))) ∙ e

  -- a sum over all that live is nothing, where that of each is
  pub sum-none : (g : Process M X → ℕ) (low : ℕ) (ps : List (Process M X)) → RiseFrom low next (map_list (λ p. p.pid) ps) → ((q : ℕ) (p : Process M X) → find (is_pid q) ps ≡ Some p → g p ≡ 0) → sum (map_list g ps) ≡ 0
  sum-none g low [] rise none = refl
  sum-none g low (x ∷ ps) rise none =
      let first = sum-cons (g x) (map_list g ps) in
      let here = none x.pid x (ap (λ b. cond b (Some x) (find (is_pid x.pid) ps)) (same-test x.pid x.pid refl)) in
      let rest = sum-none g (suc x.pid) ps rise.2 (λ q p e. none q p (found-later low q x ps p rise e)) in
      omega arith
