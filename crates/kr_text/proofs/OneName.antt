-- What has one name stands among all names once.
use Rattle.std.proofs.Common.{◌≡◌, ◌≢◌, ℕ, zero, suc, ◌+◌, ◌≤◌, ◌<◌, List, [], ◌∷◌, true, false, Option, Some, None, refl, sym, ap, subst, ◌∙◌, arith, inl, inr}
use Rattle.std.specs.Prelude.{bytes_eq}
use Rattle.std.specs.FinMap as map
use Rattle.std.specs.Option.{option_map_or}
use Rattle.std.proofs.lemmas.Bool.{cases_eq, ne_eqb}
use Rattle.std.proofs.lemmas.Bool.Decides.{nat_tests}
use Rattle.std.proofs.lemmas.Slice.Eq.{bytes_eq-Decides}
use Rattle.kr_tree.specs.Tree.{Tree, Inode, Inodes, Entry, inode, entry, entries, entries_of}
use Rattle.kr_tree.specs.Names.{named}
use Rattle.kr_tree.specs.Lawful.{IsKept, IsIn, sum_below, count_in}
use Rattle.kr_tree.proofs.CountLemmas.{value, sum-at, counted-same, in-counted, entries_there}
use Rattle.kr_text.specs.declared.names.Named.{Named}
use Rattle.kr_text.specs.Canonical.{first_name}
use Rattle.kr_text.specs.FirstNames.{has_several}
use Rattle.kr_text.proofs.NamesLemmas.{IsNamed}
use Rattle.kr_text.proofs.OrderedNames.{IsAmong}
use Rattle.kr_text.proofs.DepthLemmas.{named_above, has_entries, root_is_no_entry}
use Rattle.kr_text.proofs.Growth.{found_entry, one_text}

-- ---- two entries are counted as two

-- two of the numbers that are summed up
two_at : (f : Inode → ℕ) (m : Inodes) (i j k : ℕ) → i ≢ j → i < k → j < k → value f (map.get m i) + value f (map.get m j) ≤ sum_below f m k
unfolding sum_below
two_at f m i j zero apart l r = absurd (omega (arith, l))
two_at f m i j (suc k) apart l r = elim (cases_eq i k) [
  | inl e ↦
      let here : value f (map.get m i) ≡ value f (map.get m k) = ap (λ q. value f (map.get m q)) e in
      let rest = sum-at f m j k (omega (arith, e, apart, r)) in
      omega (arith, here, rest)
  | inr d ↦ elim (cases_eq j k) [
    | inl e ↦
        let here : value f (map.get m j) ≡ value f (map.get m k) = ap (λ q. value f (map.get m q)) e in
        let rest = sum-at f m i k (omega (arith, d, l)) in
        omega (arith, here, rest)
    | inr c ↦ let rest = two_at f m i j k apart (omega (arith, d, l)) (omega (arith, c, r)) in omega (arith, rest)
  ]
]

-- two entries of one list
two_in : (e f : Entry) (es : List Entry) → e.inode ≡ f.inode → e.name ≢ f.name → IsIn e es → IsIn f es → 2 ≤ count_in e.inode es
two_in e f [] same apart is_e is_f = absurd is_e
two_in e f (x ∷ es) same apart (inl one) (inl two) = absurd (apart (ap (λ y. y.name) (sym one ∙ two)))
two_in e f (x ∷ es) same apart (inl one) (inr two) =
    let here = counted-same e.inode x.inode (ap (λ y. y.inode) (sym one)) in
    let rest : 0 < count_in e.inode es = subst (λ i. 0 < count_in i es) (sym same) (in-counted f es two) in
    omega (arith, here, rest)
two_in e f (x ∷ es) same apart (inr one) (inl two) =
    let here = counted-same e.inode x.inode (same ∙ ap (λ y. y.inode) (sym two)) in
    let rest = in-counted e es one in
    omega (arith, here, rest)
two_in e f (x ∷ es) same apart (inr one) (inr two) = let rest = two_in e f es same apart one two in omega (arith, rest)

abbrev count_of : ℕ → Inode → ℕ
count_of i x = count_in i (entries_of x.node.body)

counted_at : (t : Tree) (i d : ℕ) → count_in i (entries t d) ≡ value (count_of i) (inode t d)
counted_at t i d = at (inode t d)
  where
    at : (o : Option Inode) → count_in i (option_map_or (λ x. entries_of x.node.body) o []) ≡ option_map_or (count_of i) o 0
    at None = refl
    at (Some x) = refl

few_names : (t : Tree) (i : ℕ) → has_several t i ≡ false → option_map_or (λ x. x.names) (inode t i) 0 ≤ 1
few_names t i one = grind (arith, nat_tests)

one_directory : (t : Tree) → IsKept t → (c d i : ℕ) → has_several t i ≡ false → 0 < count_in i (entries t c) → 0 < count_in i (entries t d) → c < t.next → d < t.next → c ≢ d → ⊥
one_directory t kept c d i one in_c in_d l r apart =
    let both = two_at (count_of i) t.inodes c d t.next apart l r in
    let at_c = counted_at t i c in
    let at_d = counted_at t i d in
    let count = kept.counted.names i in
    let few = few_names t i one in
    omega (arith, both, at_c, at_d, count, few, in_c, in_d)

one_inside : (t : Tree) → IsKept t → (d i : ℕ) → has_several t i ≡ false → 2 ≤ count_in i (entries t d) → d < t.next → ⊥
one_inside t kept d i one in_d l =
    let all = sum-at (count_of i) t.inodes d t.next l in
    let at_d = counted_at t i d in
    let count = kept.counted.names i in
    let few = few_names t i one in
    omega (arith, all, at_d, count, few, in_d)

-- ---- the entry of what has one name

pub one_entry : (t : Tree) → IsKept t → (c d : ℕ) (a b : List ℕ) (i : ℕ) → entry t c a ≡ Some i → entry t d b ≡ Some i → has_several t i ≡ false → (c ≡ d) × (a ≡ b)
one_entry t kept c d a b i is also one =
    let e = found_entry t c a i is in
    let f = found_entry t d b i also in
    let x = entries_there t c e.0 e.1 in
    let y = entries_there t d f.0 f.1 in
    let l : c < t.next = (kept.sound.numbered c x.0 x.1).1 in
    let r : d < t.next = (kept.sound.numbered d y.0 y.1).1 in
    let in_c : 0 < count_in i (entries t c) = subst (λ j. 0 < count_in j (entries t c)) e.2 (in-counted e.0 (entries t c) e.1) in
    let in_d : 0 < count_in i (entries t d) = subst (λ j. 0 < count_in j (entries t d)) f.2 (in-counted f.0 (entries t d) f.1) in
    elim (cases_eq c d) [
      | inl same ↦
          elim (bytes_eq a b) as (λ r. bytes_eq a b ≡ r → (c ≡ d) × (a ≡ b)) [
            | true ↦ λ yes. (same, (bytes_eq-Decides a b).0 yes)
            | false ↦ λ no.
                let differ : e.0.name ≢ f.0.name = (λ equal. let never : true ≡ false = sym ((bytes_eq-Decides a b).1 (e.3 ∙ equal ∙ sym f.3)) ∙ no in cc) in
                let two = two_in e.0 f.0 (entries t c) (e.2 ∙ sym f.2) differ e.1 (subst (λ k. IsIn f.0 (entries t k)) (sym same) f.1) in
                absurd (one_inside t kept c i one (subst (λ j. 2 ≤ count_in j (entries t c)) e.2 two) l)
          ] refl
      | inr apart ↦ absurd (one_directory t kept c d i one in_c in_d l r apart)
    ]

-- two texts that name it are the same
pub one_name : (t : Tree) → IsKept t → (a b : List (List ℕ)) (i : ℕ) → named t a ≡ Some i → named t b ≡ Some i → has_several t i ≡ false → a ≡ b
one_name t kept [] [] i is also one = refl
one_name t kept [] (name ∷ b) i is also one = let at = named_above t name b i also in absurd (root_is_no_entry t kept at.0 name (at.2 ∙ sym is))
one_name t kept (name ∷ a) [] i is also one = let at = named_above t name a i is in absurd (root_is_no_entry t kept at.0 name (at.2 ∙ sym also))
one_name t kept (name ∷ a) (other ∷ b) i is also one =
    let up = named_above t name a i is in
    let across = named_above t other b i also in
    let same = one_entry t kept up.0 across.0 name other i up.2 across.2 one in
    let e = found_entry t up.0 name i up.2 in
    let names : name ≡ other = same.1 in
    let above : a ≡ b = one_text t kept a b up.0 up.1 (across.1 ∙ ap Some (sym same.0)) (has_entries t up.0 e.0 e.1) in
    λ k. names k ∷ above k

-- so none of other texts' names is its
pub none_before : (t : Tree) → IsKept t → (earlier : List Named) (n : Named) → ((m : Named) → IsAmong m earlier → IsNamed t m) → IsNamed t n → ((m : Named) → IsAmong m earlier → m.path ≢ n.path) → has_several t n.ino ≡ false → first_name n.ino earlier ≡ None
none_before t kept [] n all is fresh one = refl
none_before t kept (m ∷ earlier) n all is fresh one = elim (cases_eq m.ino n.ino) [
  | inl same ↦ absurd (fresh m (inl refl) (one_name t kept m.path n.path n.ino (all m (inl refl) ∙ ap Some same) is one))
  | inr other ↦ rw (ne_eqb m.ino n.ino other) (none_before t kept earlier n (λ x is_x. all x (inr is_x)) is (λ x is_x. fresh x (inr is_x)) one)
]
