-- There are no more names than the entries of all directories, and the root's: each name but the
-- root's is that of one entry, and no two are that of the same.
use Rattle.std.proofs.Common.{◌≡◌, ◌≢◌, ℕ, zero, suc, ◌+◌, ◌≤◌, ◌<◌, List, [], ◌∷◌, ◌++◌, length, cond, Option, Some, None, refl, sym, ap, subst, ◌∙◌, arith, inl, inr, nat_eq, eq-eqb}
use Rattle.std.specs.FinMap as map
use Rattle.std.specs.Option.{option_map_or}
use Rattle.std.proofs.lemmas.Bool.{cases_eq, ne_eqb}
use Rattle.kr_tree.specs.Tree.{Tree, Inode, Entry, inode, entry, entries, entries_of}
use Rattle.kr_tree.specs.Names.{named}
use Rattle.kr_tree.specs.Lawful.{IsKept, IsIn, sum_below}
use Rattle.kr_tree.proofs.CountLemmas.{entries_there}
use Rattle.kr_text.specs.declared.names.Named.{Named}
use Rattle.kr_text.specs.Canonical.{root_name, all_names}
use Rattle.kr_text.proofs.OrderedNames.{IsAmong, IsNext, AreInOrder, among-front, among-end, names_inside, under_parts, all_in_order}
use Rattle.kr_text.proofs.DepthLemmas.{has_entries}
use Rattle.kr_text.proofs.Growth.{found_entry, one_text}

-- ---- entries, a list at each number

-- how many entries the lists at the numbers below one have
unfoldable count_below : (ℕ → List Entry) → ℕ → ℕ
count_below g zero = 0
count_below g (suc n) = length (g n) + count_below g n

-- the same lists but the one at a number
abbrev with_list : ℕ → List Entry → (ℕ → List Entry) → ℕ → List Entry
with_list i es g = λ k. cond (nat_eq k i) es (g k)

list_same : (i : ℕ) (es : List Entry) (g : ℕ → List Entry) → with_list i es g i ≡ es
list_same i es g = ap (λ b. cond b es (g i)) (eq-eqb i i refl)

list_other : (i : ℕ) (es : List Entry) (g : ℕ → List Entry) (k : ℕ) → k ≢ i → with_list i es g k ≡ g k
list_other i es g k other = ap (λ b. cond b es (g k)) (ne_eqb k i other)

count_past : (i : ℕ) (es : List Entry) (g : ℕ → List Entry) (n : ℕ) → n ≤ i → count_below (with_list i es g) n ≡ count_below g n
unfolding count_below
count_past i es g zero past = refl
count_past i es g (suc n) past =
    let rest = count_past i es g n (omega (arith, past)) in
    let here = ap length (list_other i es g n (λ is. omega (arith, is, past))) in
    omega (arith, rest, here)

count_with : (i : ℕ) (es : List Entry) (g : ℕ → List Entry) (n : ℕ) → i < n → count_below (with_list i es g) n + length (g i) ≡ count_below g n + length es
unfolding count_below
count_with i es g zero below = absurd (omega (arith, below))
count_with i es g (suc n) below = elim (cases_eq n i) [
  | inl same ↦
      let rest = count_past i es g n (omega (arith, same)) in
      let here = ap length (ap (with_list i es g) same ∙ list_same i es g) in
      let was = ap (λ k. length (g k)) same in
      omega (arith, rest, here, was)
  | inr other ↦
      let rest = count_with i es g n (omega (arith, below, other)) in
      let here = ap length (list_other i es g n other) in
      omega (arith, rest, here)
]

-- ---- one entry less

record OneLess (e : Entry) (es : List Entry) : Type 0 where
  left : List Entry
  fewer : length es ≡ length left + 1
  others : (f : Entry) → f.name ≢ e.name → IsIn f es → IsIn f left

one_less : (e : Entry) (es : List Entry) → IsIn e es → OneLess e es
one_less e [] is = absurd is
one_less e (x ∷ es) (inl same) = record {
  left = es;
  fewer = omega arith;
  others = λ f apart is. elim is [ inl here ↦ absurd (apart (ap (λ y. y.name) (sym here ∙ same))) | inr later ↦ later ];
}
one_less e (x ∷ es) (inr is) =
    let less = one_less e es is in
    let count = less.fewer in
    record {
      left = x ∷ less.left;
      fewer = omega (arith, count);
      others = λ f apart is_f. elim is_f [ inl here ↦ inl here | inr later ↦ inr (less.others f apart later) ];
    }

-- ---- names in their order

-- the lists have each entry whose name isn't listed yet
abbrev HasOthers : Tree → List Named → (ℕ → List Entry) → Type 0
HasOthers t earlier g =
    (text : List (List ℕ)) (name : List ℕ) (dir i : ℕ) → named t text ≡ Some dir → entry t dir name ≡ Some i → ((m : Named) → IsAmong m earlier → m.path ≢ name ∷ text)
    → (e : Entry) × IsIn e (g dir) × (name ≡ e.name)

directory_below : (t : Tree) → IsKept t → (dir : ℕ) (e : Entry) → IsIn e (entries t dir) → dir < t.next
directory_below t kept dir e is = let x = entries_there t dir e is in (kept.sound.numbered dir x.0 x.1).1

-- the entry of a name taken away, each name that isn't listed has one still
others_left : (t : Tree) → IsKept t → (earlier : List Named) (n : Named) (g : ℕ → List Entry) (next : IsNext t earlier n) → HasOthers t earlier g
    → (e : Entry) → next.name ≡ e.name → (less : OneLess e (g next.directory.ino)) → HasOthers t (earlier ++ n ∷ []) (with_list next.directory.ino less.left g)
others_left t kept earlier n g next has e called less text name dir i is entry_is fresh =
    let d : ℕ = next.directory.ino in
    let f = has text name dir i is entry_is (λ m is_m. fresh m (among-front m earlier (n ∷ []) is_m)) in
    elim (cases_eq dir d) [
      | inl same ↦
          let at = found_entry t dir name i entry_is in
          let texts : next.directory.path ≡ text = one_text t kept next.directory.path text dir (next.named ∙ ap Some (sym same)) is (has_entries t dir at.0 at.1) in
          let differ : f.0.name ≢ e.name = (λ equal. fresh n (among-end n earlier) (let names : next.name ≡ name = called ∙ sym equal ∙ sym f.2 in next.path ∙ (λ k. names k ∷ texts k))) in
          let kept_in : IsIn f.0 less.left = less.others f.0 differ (subst (λ k. IsIn f.0 (g k)) same f.1) in
          (f.0, subst (IsIn f.0) (sym (ap (with_list d less.left g) same ∙ list_same d less.left g)) kept_in, f.2)
      | inr other ↦ (f.0, subst (IsIn f.0) (sym (list_other d less.left g dir other)) f.1, f.2)
    ]

counted_in_order : (t : Tree) → IsKept t → (rest earlier : List Named) (g : ℕ → List Entry) → AreInOrder t earlier rest → HasOthers t earlier g → length rest ≤ count_below g t.next
counted_in_order t kept [] earlier g order has = omega arith
counted_in_order t kept (n ∷ rest) earlier g order has =
    let next = order.0 in
    let d : ℕ = next.directory.ino in
    let e = has next.directory.path next.name d n.ino next.named next.entry_is (λ m is_m same. next.fresh m is_m (same ∙ sym next.path)) in
    let at = found_entry t d next.name n.ino next.entry_is in
    let less = one_less e.0 (g d) e.1 in
    let fewer = less.fewer in
    let more = counted_in_order t kept rest (earlier ++ n ∷ []) (with_list d less.left g) order.1 (others_left t kept earlier n g next has e.0 e.2 less) in
    let count = count_with d less.left g t.next (directory_below t kept d at.0 at.1) in
    omega (arith, fewer, more, count)

-- ---- all names

entries_counted : (t : Tree) (n : ℕ) → count_below (entries t) n ≡ sum_below (λ x. length (entries_of x.node.body)) t.inodes n
unfolding count_below sum_below
entries_counted t zero = refl
entries_counted t (suc n) =
    let rest = entries_counted t n in
    let here = at (inode t n) in
    omega (arith, rest, here)
  where
    at : (o : Option Inode) → length (option_map_or (λ x. entries_of x.node.body) o []) ≡ option_map_or (λ x. length (entries_of x.node.body)) o 0
    at None = refl
    at (Some x) = refl

-- all names, the root's among them, are one more than are counted at most
pub all_names_counted : (t : Tree) → IsKept t → length (all_names t) ≤ t.names + 1
all_names_counted t kept =
    let all = ap length (under_parts (map.len t.inodes) t root_name) in
    let few = counted_in_order t kept (names_inside (map.len t.inodes) t root_name) (root_name ∷ []) (entries t) (all_in_order t kept (map.len t.inodes)) (λ text name dir i is entry_is fresh.
    let e = found_entry t dir name i entry_is in (e.0, e.1, e.3)) in
    let count = entries_counted t t.next in
    let names = kept.counted.all_names in
    omega (arith, all, few, count, names)
