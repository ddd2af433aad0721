-- The names of a directory, sorted, are those put in order one after the other.
use Rattle.std.proofs.Common.{◌≡◌, ◌≢◌, ℕ, zero, suc, ◌+◌, ◌<◌, Bool, true, false, List, [], ◌∷◌, length, map as map_list, refl, sym, ap, subst, ◌∙◌, arith, inl, inr, bytes_eq}
use Rattle.std.specs.declared.cmp.Ordering.{Ordering}
use Rattle.std.specs.declared.cmp.Ordering.TheVariants.{Less, Equal, Greater}
use Rattle.std.specs.Ordering.{nat_cmp, match_ordering, ordering_then, ordering_reverse, is_lt}
use Rattle.std.specs.BTreeMap.{insert_entry}
use Rattle.std.specs.Prelude.{slice_index_or, nat_lt, nat_eq, cond}
use Rattle.std.proofs.lemmas.Bool.Decides.{nat_tests}
use Rattle.std.specs.List.{All, AllByRecursion, Contains, IsDistinct}
use Rattle.std.specs.Cmp.Lexicographic.{slice_cmp}
use Rattle.std.specs.FinMap.{nat_cmp-IsAntisymmetric, slice_cmp-IsAntisymmetric}
use Rattle.std.proofs.lemmas.Map.Keys.{IsDistinct-head, IsDistinct-tail, IsDistinct-IsPermutation}
use Rattle.std.specs.List.Sorted.{IsSortedBy, IsPermutation}
use Rattle.std.proofs.lemmas.List.Sorted.{IsPermutation-sym, IsPermutation-map, Contains-permutation, All-permutation}
use Rattle.std.proofs.lemmas.Cmp.{nat_list_cmp_total, nat_list_eq_equiv}
use Rattle.kr_tree.specs.Tree.{Entry}
use Rattle.kr_tree.specs.kr_inode.Entries.{names_in}
use Rattle.kr_tree.specs.Lawful.{IsIn}
use Rattle.kr_text.specs.Canonical.{by_bytes, put_in_order}
use Rattle.kr_text.specs.declared.order.Item.{Item}
use Rattle.kr_text.specs.Order.{HasHead, head, pair_of, pairs_of, pairs_in}
use Rattle.kr_text.proofs.OrderLemmas.{all-insert, all-put}
use Rattle.kr_text.proofs.NamesLemmas.{all-mapped}
use Rattle.kr_text.proofs.EveryName.{HasPair, all-of, pair_put}

-- ---- lists of names that rise

-- each name is below all behind it
abbrev pub Rises : List (List ℕ × ℕ) → Type 0
Rises [] = Unit {0}
Rises (p ∷ ps) = AllByRecursion (λ q. by_bytes p.0 q.0 ≡ Less) ps × Rises ps

turned : (a b : List ℕ) (r : Ordering) → by_bytes a b ≡ r → by_bytes b a ≡ ordering_reverse r
turned a b r is = nat_list_cmp_total.antisymm b a ∙ ap ordering_reverse is

-- no two names are each below the other
never_both : (a b : List ℕ) → by_bytes a b ≡ Less → by_bytes b a ≡ Less → ⊥
never_both a b up down = let back : by_bytes b a ≡ Greater = turned a b Less up in let never : Less ≡ Greater = sym down ∙ back in cc

rises-insert : (names : List (List ℕ × ℕ)) (k : List ℕ) (i : ℕ) → Rises names → Rises (insert_entry by_bytes names k i)
rises-insert [] k i up = (tt, tt)
rises-insert (p ∷ names) k i up =
    elim (by_bytes k p.0) as (λ r. by_bytes k p.0 ≡ r → Rises (match_ordering r ((k, i) ∷ p ∷ names) ((p.0, i) ∷ names) (p ∷ insert_entry by_bytes names k i))) [
      | Less ↦ λ e. ((e, all-mapped (λ q. by_bytes p.0 q.0 ≡ Less) (λ q. by_bytes k q.0 ≡ Less) names up.0 (λ q l. nat_list_cmp_total.trans k p.0 q.0 e l)), up)
      | Equal ↦ λ e. up
      | Greater ↦ λ e. (all-insert (λ q. by_bytes p.0 q.0 ≡ Less) names k i (turned k p.0 Greater e) up.0, rises-insert names k i up.1)
    ] refl

pub rises-put : (names : List (List ℕ × ℕ)) (es : List Entry) → Rises names → Rises (put_in_order names es)
rises-put names [] up = up
rises-put names (e ∷ es) up = rises-put (insert_entry by_bytes names e.name e.inode) es (rises-insert names e.name e.inode up)

-- what else one list has stands behind the first of the other, which has the same first
others_behind : (p q : List ℕ × ℕ) (a b : List (List ℕ × ℕ)) → p ≡ q → AllByRecursion (λ r. by_bytes p.0 r.0 ≡ Less) a → ((r : List ℕ × ℕ) → HasPair r (p ∷ a) → HasPair r (q ∷ b)) → (r : List ℕ × ℕ) → HasPair r a → HasPair r b
others_behind p q a b heads up to r is = elim (to r (inr is)) [
  | inl same ↦
      let above : by_bytes p.0 r.0 ≡ Less = all-of (λ s. by_bytes p.0 s.0 ≡ Less) a r up is in
      let itself : by_bytes r.0 r.0 ≡ Less = subst (λ s. by_bytes s.0 r.0 ≡ Less) (heads ∙ same) above in
      absurd (never_both r.0 r.0 itself itself)
  | inr more ↦ more
]

-- two lists that rise and have the same pairs are one
pub one_list : (a b : List (List ℕ × ℕ)) → Rises a → Rises b → ((p : List ℕ × ℕ) → HasPair p a → HasPair p b) → ((p : List ℕ × ℕ) → HasPair p b → HasPair p a) → a ≡ b
one_list [] [] ua ub to from = refl
one_list [] (q ∷ b) ua ub to from = absurd (from q (inl refl))
one_list (p ∷ a) [] ua ub to from = absurd (to p (inl refl))
one_list (p ∷ a) (q ∷ b) ua ub to from =
    let heads : p ≡ q = elim (to p (inl refl)) [
      | inl same ↦ sym same
      | inr later ↦ elim (from q (inl refl)) [
        | inl same ↦ same
        | inr also ↦ absurd (never_both p.0 q.0 (all-of (λ r. by_bytes p.0 r.0 ≡ Less) a q ua.0 also) (all-of (λ r. by_bytes q.0 r.0 ≡ Less) b p ub.0 later))
      ]
    ] in
    let rest : a ≡ b = one_list a b ua.1 ub.1 (others_behind p q a b heads ua.0 to) (others_behind q p b a (sym heads) ub.0 from) in
    λ k. heads k ∷ rest k

-- ---- from one name to the next

abbrev pub Chain : List (List ℕ × ℕ) → Type 0
Chain [] = Unit {0}
Chain (p ∷ []) = Unit {0}
Chain (p ∷ q ∷ ps) = (by_bytes p.0 q.0 ≡ Less) × Chain (q ∷ ps)

all_above : (p : List ℕ × ℕ) (ps : List (List ℕ × ℕ)) → Chain (p ∷ ps) → AllByRecursion (λ q. by_bytes p.0 q.0 ≡ Less) ps
all_above p [] chain = tt
all_above p (q ∷ ps) chain = (chain.0, all-mapped (λ r. by_bytes q.0 r.0 ≡ Less) (λ r. by_bytes p.0 r.0 ≡ Less) ps (all_above q ps chain.1) (λ r l. nat_list_cmp_total.trans p.0 q.0 r.0 chain.0 l))

pub chain_rises : (ps : List (List ℕ × ℕ)) → Chain ps → Rises ps
chain_rises [] chain = tt
chain_rises (p ∷ []) chain = (tt, tt)
chain_rises (p ∷ q ∷ ps) chain = (all_above p (q ∷ ps) chain, chain_rises (q ∷ ps) chain.1)

-- no element is less than the one before it
abbrev pub Follows : {X : Type 0} → (X → X → Bool) → List X → Type 0
Follows lt [] = Unit {0}
Follows lt (x ∷ []) = Unit {0}
Follows lt (x ∷ y ∷ xs) = (lt y x ≡ false) × Follows lt (y ∷ xs)

pub follows : {X : Type 0} (lt : X → X → Bool) (xs : List X) → IsSortedBy lt xs → Follows lt xs
follows lt [] up = tt
follows lt (x ∷ []) up = tt
follows lt (x ∷ y ∷ xs) up = (
  up 0 x (omega arith) (omega arith),
  follows lt (y ∷ xs) (λ k d low high.
      let next : suc k + 1 ≡ suc (k + 1) = omega arith in
      subst (λ n. lt (slice_index_or (x ∷ y ∷ xs) n d) (slice_index_or (y ∷ xs) k d) ≡ false) next (up (suc k) d (omega arith) (omega (arith, high)))),
)

-- ---- lists with the same elements

pub contained : (ps : List (List ℕ × ℕ)) (p : List ℕ × ℕ) → HasPair p ps → Contains ps p
contained [] p is = absurd is
contained (q ∷ ps) p (inl same) = (0, omega arith, same)
contained (q ∷ ps) p (inr is) = let c = contained ps p is in let l = c.1 in (suc c.0, omega (arith, l), c.2)

found_at : (ps : List (List ℕ × ℕ)) (p : List ℕ × ℕ) (k : ℕ) → k < length ps → slice_index_or ps k p ≡ p → HasPair p ps
found_at [] p k l is = absurd (omega (arith, l))
found_at (q ∷ ps) p zero l is = inl is
found_at (q ∷ ps) p (suc k) l is = inr (found_at ps p k (omega (arith, l)) is)

pub moved : (ps qs : List (List ℕ × ℕ)) → IsPermutation ps qs → (p : List ℕ × ℕ) → HasPair p ps → HasPair p qs
moved ps qs same p is = let c = Contains-permutation ps qs p same (contained ps p is) in found_at qs p c.0 c.1 c.2

has_entry : (es : List Entry) (p : List ℕ × ℕ) → HasPair p (pairs_in es) → (e : Entry) × IsIn e es × ((e.name, e.inode) ≡ p)
has_entry [] p is = absurd is
has_entry (e ∷ es) p (inl same) = (e, inl refl, same)
has_entry (e ∷ es) p (inr is) = let more = has_entry es p is in (more.0, inr more.1, more.2)

has_pair : (es : List Entry) (e : Entry) → IsIn e es → HasPair (e.name, e.inode) (pairs_in es)
has_pair [] e is = absurd is
has_pair (x ∷ es) e (inl same) = inl (ap (λ y. (y.name, y.inode)) same)
has_pair (x ∷ es) e (inr is) = inr (has_pair es e is)

-- what rises and has the pairs of entries is those put in order
pub sorted_is : (es : List Entry) (ps : List (List ℕ × ℕ)) → IsDistinct bytes_eq (names_in es) → IsPermutation (pairs_in es) ps → Rises ps → ps ≡ put_in_order [] es
sorted_is es ps distinct same up =
    one_list ps (put_in_order [] es) up (rises-put [] es tt)
    (λ p is. let e = has_entry es p (moved ps (pairs_in es) (IsPermutation-sym (pairs_in es) ps same) p is) in subst (λ q. HasPair q (put_in_order [] es)) e.2 (pair_put [] es e.0 distinct e.1))
    (λ p is. all-of (λ q. HasPair q ps) (put_in_order [] es) p (all-put (λ q. HasPair q ps) [] es tt (λ e is_e. moved (pairs_in es) ps same (e.name, e.inode) (has_pair es e is_e))) is)

-- ---- items, whose heads are compared first

above_zero : (x : ℕ) → nat_cmp (suc x) 0 ≡ Greater
above_zero x =
    let not_less : nat_lt (suc x) 0 ≡ false = grind (arith, nat_tests) in
    let not_equal : nat_eq (suc x) 0 ≡ false = grind (arith, nat_tests) in
    ap (λ b. cond b Less (cond (nat_eq (suc x) 0) Equal Greater)) not_less ∙ ap (λ b. cond b Equal Greater) not_equal

nothing_below : (n : ℕ) (a : List ℕ) → slice_cmp nat_cmp (head n a) (head n []) ≡ Less → ⊥
nothing_below zero a e = cc
nothing_below (suc n) [] e = nothing_below n [] e
nothing_below (suc n) (zero ∷ a) e = nothing_below n a e
nothing_below (suc n) (suc x ∷ a) e = let never : Greater ≡ Less = ap (λ r. ordering_then r (slice_cmp nat_cmp (head n a) (head n []))) (sym (above_zero x)) ∙ e in cc

-- a name is below another where its first bytes are
heads_less : (n : ℕ) (a b : List ℕ) → slice_cmp nat_cmp (head n a) (head n b) ≡ Less → by_bytes a b ≡ Less
heads_less zero a b e = cc
heads_less (suc n) [] [] e = heads_less n [] [] e
heads_less (suc n) [] (y ∷ b) e = refl
heads_less (suc n) (x ∷ a) [] e = absurd (nothing_below (suc n) (x ∷ a) e)
heads_less (suc n) (x ∷ a) (y ∷ b) e =
    elim (nat_cmp x y) as (λ r. ordering_then r (slice_cmp nat_cmp (head n a) (head n b)) ≡ Less → ordering_then r (by_bytes a b) ≡ Less)
    [ Less ↦ λ is. refl | Equal ↦ λ is. heads_less n a b is | Greater ↦ λ is. cc ] e

abbrev pub item_cmp : Item → Item → Ordering
item_cmp x y = ordering_then (slice_cmp nat_cmp x.head y.head) (ordering_then (slice_cmp nat_cmp x.name.now y.name.now) (nat_cmp x.ino y.ino))

abbrev pub item_lt : Item → Item → Bool
item_lt x y = is_lt (item_cmp x y)

-- an item that isn't less than one of another name has the greater name
below_next : (x y : Item) → HasHead x → HasHead y → x.name.now ≢ y.name.now → item_lt y x ≡ false → by_bytes x.name.now y.name.now ≡ Less
below_next x y hx hy apart not_less =
    elim (by_bytes x.name.now y.name.now) as (λ r. by_bytes x.name.now y.name.now ≡ r → r ≡ Less) [
      | Less ↦ λ e. refl
      | Equal ↦ λ e. absurd (apart (slice_cmp-IsAntisymmetric nat_cmp-IsAntisymmetric x.name.now y.name.now e))
      | Greater ↦ λ e. absurd (above e)
    ] refl
  where
    by_heads : (r : Ordering) → slice_cmp nat_cmp y.head x.head ≡ r → by_bytes x.name.now y.name.now ≡ Greater → is_lt (ordering_then r (ordering_then Less (nat_cmp y.ino x.ino))) ≡ false → ⊥
    by_heads Less is e not_below = cc
    by_heads Equal is e not_below = cc
    by_heads Greater is e not_below =
        let heads : slice_cmp nat_cmp (head 8 x.name.now) (head 8 y.name.now) ≡ Less = sym (λ k. slice_cmp nat_cmp (hx k) (hy k)) ∙ turned y.head x.head Greater is in
        let less : by_bytes x.name.now y.name.now ≡ Less = heads_less 8 x.name.now y.name.now heads in
        let never : Less ≡ Greater = sym less ∙ e in
        cc

    above : by_bytes x.name.now y.name.now ≡ Greater → ⊥
    above e = by_heads (slice_cmp nat_cmp y.head x.head) refl e (ap (λ r. is_lt (ordering_then (slice_cmp nat_cmp y.head x.head) (ordering_then r (nat_cmp y.ino x.ino)))) (sym (turned x.name.now y.name.now Greater e)) ∙ not_less)

abbrev firsts : List (List ℕ × ℕ) → List (List ℕ)
firsts ps = map_list (λ p. p.0) ps

chain_of : (xs : List Item) → Follows item_lt xs → All HasHead xs → IsDistinct bytes_eq (firsts (pairs_of xs)) → Chain (pairs_of xs)
chain_of [] up heads distinct = tt
chain_of (x ∷ []) up heads distinct = tt
chain_of (x ∷ y ∷ xs) up heads distinct =
    let others = IsDistinct-head bytes_eq x.name.now (firsts (pairs_of (y ∷ xs))) distinct in
    let apart : x.name.now ≢ y.name.now = (λ same. let never : true ≡ false = sym (nat_list_eq_equiv.refl x.name.now) ∙ ap (bytes_eq x.name.now) same ∙ others.0 in cc) in
    (below_next x y (heads 0 x (omega arith)) (heads 1 x (omega arith)) apart up.0, chain_of (y ∷ xs) up.1 (λ k d l. heads (suc k) d (omega (arith, l))) (IsDistinct-tail bytes_eq x.name.now (firsts (pairs_of (y ∷ xs))) distinct))

firsts_in : (es : List Entry) → firsts (pairs_in es) ≡ names_in es
firsts_in [] = refl
firsts_in (e ∷ es) = ap (λ names. e.name ∷ names) (firsts_in es)

-- sorted items of entries are those put in order
pub items_in_order : (es : List Entry) (items sorted : List Item) → IsDistinct bytes_eq (names_in es) → pairs_of items ≡ pairs_in es → All HasHead items → IsPermutation items sorted → IsSortedBy item_lt sorted → pairs_of sorted ≡ put_in_order [] es
items_in_order es items sorted distinct pairs heads same up =
    let moved_pairs : IsPermutation (pairs_in es) (pairs_of sorted) = subst (λ ps. IsPermutation ps (pairs_of sorted)) pairs (IsPermutation-map pair_of items sorted same) in
    let names_distinct : IsDistinct bytes_eq (firsts (pairs_of sorted)) = IsDistinct-IsPermutation bytes_eq nat_list_eq_equiv.symm (firsts (pairs_in es)) (firsts (pairs_of sorted)) (IsPermutation-map (λ p. p.0) (pairs_in es) (pairs_of sorted) moved_pairs) (subst (IsDistinct bytes_eq) (sym (firsts_in es)) distinct) in
    sorted_is es (pairs_of sorted) distinct moved_pairs (chain_rises (pairs_of sorted) (chain_of sorted (follows item_lt sorted up) (All-permutation HasHead items sorted same heads) names_distinct))
