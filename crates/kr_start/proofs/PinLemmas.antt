-- A tree in which the sources of mounts are held.
use Rattle.std.proofs.Common.{◌≡◌, ℕ, zero, suc, ◌+◌, ◌<◌, ◌≤◌, Bool, true, false, cond, List, [], ◌∷◌, ◌++◌, length, take, Option, Some, None, IsSome, refl, sym, ap, subst, ◌∙◌, arith}
use Rattle.std.specs.Prelude.{◌==◌, ◌||◌, nat_eq}
use Rattle.std.specs.Bool.{if◌then◌else◌}
use Rattle.std.specs.List.{list_any}
use Rattle.std.specs.Option.{option_map}
use Rattle.std.proofs.lemmas.Bool.Decides.{nat_tests}
use Rattle.std.proofs.lemmas.Option.{same_Some, none-some}
use Rattle.elf_load.proofs.pr_base.MapLemmas.{stays-changed}
use Rattle.kr_text.specs.kr_tree.Tree.{Tree, Inode, inode, is_directory}
use Rattle.kr_text.specs.kr_tree.Changes.{counted, held, with_holds}
use Rattle.kr_text.specs.kr_tree.Holds.{holds_at}
use Rattle.kr_text.specs.kr_tree.Lawful.{IsKept}
use Rattle.law_walks.specs.kr_view.View.{Row, Shown, StandsIn, row, shown, is_there}
use Rattle.kr_ops.proofs.law_lawful.SumLemmas.{passed-test, other-test}
use Rattle.kr_ops.proofs.law_lawful.HoldingLemmas.{holds-held}
use Rattle.kr_ops.proofs.law_lawful.TreeChangeLemmas.{Still, still-same, still-on, held-still}
use Rattle.kr_start.specs.Start.{held_once, pinned}

-- ---- what stays

module _ {A : Type 0} (f : Option Inode → A) (same : (g : ℕ → ℕ) (x : Inode) → f (Some (with_holds g x)) ≡ f (Some x)) where
  pub held-stays : (t : Tree) (i q : ℕ) → f (inode (held i t) q) ≡ f (inode t q)
  held-stays t i q = stays-changed f t.inodes i (with_holds (λ n. n + 1)) (λ x. same (λ n. n + 1) x) q

  once-stays : (t : Tree) (i q : ℕ) → f (inode (held_once i t) q) ≡ f (inode t q)
  once-stays t i q = by (holds_at t i == 0)
    where
      by : (b : Bool) → f (inode (if b then held i t else t) q) ≡ f (inode t q)
      by true = held-stays t i q
      by false = refl

  -- whatever doesn't count holds is as it was
  pub pinned-stays : (rows : List Row) (t : Tree) (q : ℕ) → f (inode (pinned rows t) q) ≡ f (inode t q)
  pinned-stays [] t q = refl
  pinned-stays (r ∷ rows) t q = pinned-stays rows (held_once r.source t) q ∙ once-stays t r.source q

once-still : (table : List Row) (t : Tree) (i : ℕ) → IsKept t → Still table t (held_once i t)
once-still table t i h = by (holds_at t i == 0)
  where
    by : (b : Bool) → Still table t (if b then held i t else t)
    by true = held-still table t i h
    by false = still-same table t h

pub pinned-still : (table rows : List Row) (t : Tree) → IsKept t → Still table t (pinned rows t)
pinned-still table [] t h = still-same table t h
pinned-still table (r ∷ rows) t h =
    let once = once-still table t r.source h in
    still-on once (pinned-still table rows (held_once r.source t) once.kept)

-- ---- how often what is held

abbrev is_source : ℕ → List Row → Bool
is_source i rows = list_any (λ r. nat_eq r.source i) rows

-- the sources of these rows are there
pub record AreThere (rows : List Row) (t : Tree) : Type 0 where
  pub each : (i : ℕ) → is_source i rows ≡ true → IsSome (inode t i)

pub is_there-some : (o : Option Inode) → is_there o ≡ true → IsSome o
is_there-some None e = absurd cc
is_there-some (Some x) e = refl

pub some-is_there : (o : Option Inode) → IsSome o → is_there o ≡ true
some-is_there None e = absurd cc
some-is_there (Some x) e = refl

there-behind : (r : Row) (rows : List Row) (t : Tree) → AreThere (r ∷ rows) t → AreThere rows (held_once r.source t)
there-behind r rows t there = record {
  each = λ i e. is_there-some (inode (held_once r.source t) i)
      (once-stays is_there (λ g x. refl) t r.source i ∙ some-is_there (inode t i) (there.each i (later (nat_eq r.source i) e)));
}
  where
    later : {b : Bool} (a : Bool) → b ≡ true → (a || b) ≡ true
    later true e = refl
    later false e = e

-- what a hold, put where there is none, makes of a count
once-holds : (t : Tree) (j i : ℕ) → IsSome (inode t j) → holds_at (held_once j t) i ≡ cond (nat_eq j i) (cond (holds_at t i == 0) 1 (holds_at t i)) (holds_at t i)
once-holds t j i there = by (holds_at t j == 0) refl
  where
    held-there : (b : Bool) → nat_eq j i ≡ b → (holds_at t j == 0) ≡ true → holds_at t i + cond b 1 0 ≡ cond b (cond (holds_at t i == 0) 1 (holds_at t i)) (holds_at t i)
    held-there true e zero_there =
        let is : j ≡ i = grind (arith, nat_tests) in
        let none : (holds_at t i == 0) ≡ true = subst (λ k. (holds_at t k == 0) ≡ true) is zero_there in
        let no_holds : holds_at t i ≡ 0 = grind (arith, nat_tests) in
        ap (λ n. n + 1) no_holds ∙ sym (ap (λ b. cond b 1 (holds_at t i)) none)
    held-there false e zero_there = omega arith

    kept-there : (b : Bool) → nat_eq j i ≡ b → (holds_at t j == 0) ≡ false → holds_at t i ≡ cond b (cond (holds_at t i == 0) 1 (holds_at t i)) (holds_at t i)
    kept-there true e some =
        let is : j ≡ i = grind (arith, nat_tests) in
        let more : (holds_at t i == 0) ≡ false = subst (λ k. (holds_at t k == 0) ≡ false) is some in
        sym (ap (λ b. cond b 1 (holds_at t i)) more)
    kept-there false e some = refl

    by : (b : Bool) → (holds_at t j == 0) ≡ b → holds_at (if b then held j t else t) i ≡ cond (nat_eq j i) (cond (holds_at t i == 0) 1 (holds_at t i)) (holds_at t i)
    by true e = holds-held j t there i ∙ held-there (nat_eq j i) refl e
    by false e = kept-there (nat_eq j i) refl e

-- an inode that wasn't held is held once where it is a source
pub pinned-holds : (rows : List Row) (t : Tree) → AreThere rows t → (i : ℕ) → holds_at (pinned rows t) i ≡ cond (holds_at t i == 0) (counted (is_source i rows)) (holds_at t i)
pinned-holds [] t there i = none (holds_at t i)
  where
    none : (n : ℕ) → n ≡ cond (n == 0) 0 n
    none n = by (n == 0) refl
      where
        by : (b : Bool) → (n == 0) ≡ b → n ≡ cond b 0 n
        by true e = passed-test n 0 e
        by false e = refl
pinned-holds (r ∷ rows) t there i =
    pinned-holds rows (held_once r.source t) (there-behind r rows t there) i
    ∙ ap (λ n. cond (n == 0) (counted (is_source i rows)) n) (once r.source refl)
    ∙ joined (nat_eq r.source i) (holds_at t i)
  where
    once : (j : ℕ) → r.source ≡ j → holds_at (held_once j t) i ≡ cond (nat_eq j i) (cond (holds_at t i == 0) 1 (holds_at t i)) (holds_at t i)
    once j is = once-holds t j i (there.each j (front (nat_eq r.source j) (grind (arith, nat_tests))))
      where
        front : (a : Bool) → a ≡ true → (a || is_source j rows) ≡ true
        front true e = refl
        front false e = absurd cc

    joined : (b : Bool) (n : ℕ) → cond (cond b (cond (n == 0) 1 n) n == 0) (counted (is_source i rows)) (cond b (cond (n == 0) 1 n) n) ≡ cond (n == 0) (counted (b || is_source i rows)) n
    joined true n = by (n == 0) refl
      where
        by : (b : Bool) → (n == 0) ≡ b → cond (cond b 1 n == 0) (counted (is_source i rows)) (cond b 1 n) ≡ cond b (counted true) n
        by true e = ap (λ b. cond b (counted (is_source i rows)) 1) (other-test 1 0 (λ e. absurd (omega arith)))
        by false e = ap (λ b. cond b (counted (is_source i rows)) n) e
    joined false n = refl

-- ---- row by row

pub pinned-append : (rows more : List Row) (t : Tree) → pinned (rows ++ more) t ≡ pinned more (pinned rows t)
pinned-append [] more t = refl
pinned-append (r ∷ rows) more t = pinned-append rows more (held_once r.source t)

row-taken : (rows : List Row) (k : ℕ) (r : Row) → row rows k ≡ Some r → take (suc k) rows ≡ take k rows ++ r ∷ []
row-taken [] k r e = absurd cc
row-taken (q ∷ rows) zero r e = ap (λ r. r ∷ []) (same_Some q r e)
row-taken (q ∷ rows) (suc k) r e = ap (λ rows. q ∷ rows) (row-taken rows k r e)

-- one row more
pub pinned-next : (rows : List Row) (k : ℕ) (r : Row) (t u : Tree) → row rows k ≡ Some r → u ≡ pinned (take k rows) t → held_once r.source u ≡ pinned (take (suc k) rows) t
pinned-next rows k r t u e is =
    ap (held_once r.source) is ∙ sym (pinned-append (take k rows) (r ∷ []) t) ∙ ap (λ rows. pinned rows t) (sym (row-taken rows k r e))

pub row-within : (rows : List Row) (k : ℕ) (r : Row) → row rows k ≡ Some r → k < length rows
row-within [] k r e = absurd cc
row-within (q ∷ rows) zero r e = omega arith
row-within (q ∷ rows) (suc k) r e = let l = row-within rows k r e in omega arith

no-row-taken : (rows : List Row) (k : ℕ) → row rows k ≡ None → take k rows ≡ rows
no-row-taken [] zero e = refl
no-row-taken [] (suc k) e = refl
no-row-taken (q ∷ rows) zero e = absurd cc
no-row-taken (q ∷ rows) (suc k) e = ap (λ rows. q ∷ rows) (no-row-taken rows k e)

-- behind the last row
pub pinned-all : (rows : List Row) (k : ℕ) (t : Tree) → row rows k ≡ None → pinned (take k rows) t ≡ pinned rows t
pinned-all rows k t e = ap (λ rows. pinned rows t) (no-row-taken rows k e)

-- what is told of a row is of a row
pub row-shown : (rows : List Row) (k : ℕ) (x : Shown) → Some x ≡ option_map shown (row rows k) → (r : Row) × (row rows k ≡ Some r) × (r.source ≡ x.source)
row-shown rows k x e = by (row rows k) refl e
  where
    by : (o : Option Row) → row rows k ≡ o → Some x ≡ option_map shown o → (r : Row) × (row rows k ≡ Some r) × (r.source ≡ x.source)
    by None is e = absurd (none-some x (sym e))
    by (Some r) is e = (r, is, ap (λ (x : Shown). x.source) (same_Some (shown r) x (sym e)))

-- what a row stands for is there, while others are held
pub source-there : (rows : List Row) (t u : Tree) → StandsIn t rows → (k n : ℕ) (x : Shown) → Some x ≡ option_map shown (row rows k) → u ≡ pinned (take n rows) t → IsSome (inode u x.source)
source-there rows t u stands k n x e is =
    let at = row-shown rows k x e in
    subst (λ i. IsSome (inode u i)) at.2
    (subst (λ u. IsSome (inode u at.0.source)) (sym is)
    (is_there-some (inode (pinned (take n rows) t) at.0.source)
    (pinned-stays is_there (λ g x. refl) (take n rows) t at.0.source ∙ there (inode t at.0.source) at.0.is_dir (stands.sources k at.0 at.1))))
  where
    there : (o : Option Inode) (d : Bool) → option_map is_directory (option_map (λ (x : Inode). x.node.body) o) ≡ Some d → is_there o ≡ true
    there None d e = absurd (none-some d e)
    there (Some x) d e = refl

pub next-pinned : (rows : List Row) (k next : ℕ) (t u v : Tree) (x : Shown) → Some x ≡ option_map shown (row rows k) → u ≡ pinned (take k rows) t → v ≡ held_once x.source u → next ≡ k + 1
    → (v ≡ pinned (take next rows) t) × (next ≤ length rows)
next-pinned rows k next t u v x e is held more =
    let at = row-shown rows k x e in
    let within = row-within rows k at.0 at.1 in
    let same : next ≡ suc k = omega arith in
    (held ∙ ap (λ i. held_once i u) (sym at.2) ∙ pinned-next rows k at.0 t u at.1 is ∙ ap (λ n. pinned (take n rows) t) (sym same), omega arith)

pub row-below : (rows : List Row) (k : ℕ) (x : Shown) → Some x ≡ option_map shown (row rows k) → k < length rows
row-below rows k x e = let at = row-shown rows k x e in row-within rows k at.0 at.1

pub no-row : (rows : List Row) (k : ℕ) → None ≡ option_map shown (row rows k) → row rows k ≡ None
no-row rows k e = by (row rows k) refl e
  where
    by : (o : Option Row) → row rows k ≡ o → None ≡ option_map shown o → row rows k ≡ None
    by None is e = is
    by (Some r) is e = absurd (none-some (shown r) e)
