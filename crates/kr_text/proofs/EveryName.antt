-- Each text that names something stands among all names.
use Rattle.std.proofs.Common.{◌≡◌, ◌≢◌, ℕ, zero, suc, ◌+◌, ◌≤◌, List, [], ◌∷◌, ◌++◌, length, map as map_list, Some, refl, sym, ap, subst, ◌∙◌, arith, inl, inr, ◌⊎◌}
use Rattle.std.specs.Prelude.{bytes_eq}
use Rattle.std.specs.FinMap as map
use Rattle.std.specs.FinMap.{nat_cmp-IsAntisymmetric, slice_cmp-IsAntisymmetric}
use Rattle.std.specs.declared.cmp.Ordering.TheVariants.{Less, Equal, Greater}
use Rattle.std.specs.Ordering.{match_ordering}
use Rattle.std.specs.BTreeMap.{insert_entry}
use Rattle.std.specs.List.{AllByRecursion, flat_map, IsDistinct}
use Rattle.std.proofs.lemmas.Map.Keys.{IsDistinct-head, IsDistinct-tail}
use Rattle.kr_tree.specs.Tree.{Tree, Entry, entry, entries}
use Rattle.kr_tree.specs.Names.{named}
use Rattle.kr_tree.specs.kr_inode.Entries.{names_in}
use Rattle.kr_tree.specs.Lawful.{IsKept, IsIn}
use Rattle.kr_text.specs.declared.names.Named.{Named}
use Rattle.kr_text.specs.Canonical.{by_bytes, put_in_order, below, names_under, root_name, all_names}
use Rattle.kr_text.proofs.NamesLemmas.{IsNamed, children_named, no_children}
use Rattle.kr_text.proofs.OrderedNames.{IsAmong, among-front, others_differ, distinct_entries, under_parts}
use Rattle.kr_text.proofs.DepthLemmas.{named_above}
use Rattle.kr_text.proofs.Growth.{found_entry}

-- ---- the entry of a name among the names in order

abbrev pub HasPair : List ℕ × ℕ → List (List ℕ × ℕ) → Type 0
HasPair p [] = ⊥
HasPair p (q ∷ names) = (q ≡ p) ⊎ HasPair p names

pair_new : (names : List (List ℕ × ℕ)) (k : List ℕ) (i : ℕ) → HasPair (k, i) (insert_entry by_bytes names k i)
pair_new [] k i = inl refl
pair_new (p ∷ names) k i =
    elim (by_bytes k p.0) as (λ r. by_bytes k p.0 ≡ r → HasPair (k, i) (match_ordering r ((k, i) ∷ p ∷ names) ((p.0, i) ∷ names) (p ∷ insert_entry by_bytes names k i))) [
      | Less ↦ λ e. inl refl
      | Equal ↦ λ e. inl (ap (λ name. (name, i)) (sym (slice_cmp-IsAntisymmetric nat_cmp-IsAntisymmetric k p.0 e)))
      | Greater ↦ λ e. inr (pair_new names k i)
    ] refl

pair_old : (names : List (List ℕ × ℕ)) (k : List ℕ) (i : ℕ) (q : List ℕ × ℕ) → q.0 ≢ k → HasPair q names → HasPair q (insert_entry by_bytes names k i)
pair_old [] k i q apart is = absurd is
pair_old (p ∷ names) k i q apart (inl same) =
    elim (by_bytes k p.0) as (λ r. by_bytes k p.0 ≡ r → HasPair q (match_ordering r ((k, i) ∷ p ∷ names) ((p.0, i) ∷ names) (p ∷ insert_entry by_bytes names k i))) [
      | Less ↦ λ e. inr (inl same)
      | Equal ↦ λ e. absurd (apart (ap (λ x. x.0) (sym same) ∙ sym (slice_cmp-IsAntisymmetric nat_cmp-IsAntisymmetric k p.0 e)))
      | Greater ↦ λ e. inl same
    ] refl
pair_old (p ∷ names) k i q apart (inr is) =
    elim (by_bytes k p.0) as (λ r. HasPair q (match_ordering r ((k, i) ∷ p ∷ names) ((p.0, i) ∷ names) (p ∷ insert_entry by_bytes names k i)))
    [ Less ↦ inr (inr is) | Equal ↦ inr is | Greater ↦ inr (pair_old names k i q apart is) ]

pair_stays : (names : List (List ℕ × ℕ)) (es : List Entry) (q : List ℕ × ℕ) → ((e : Entry) → IsIn e es → q.0 ≢ e.name) → HasPair q names → HasPair q (put_in_order names es)
pair_stays names [] q apart is = is
pair_stays names (e ∷ es) q apart is = pair_stays (insert_entry by_bytes names e.name e.inode) es q (λ f is_f. apart f (inr is_f)) (pair_old names e.name e.inode q (apart e (inl refl)) is)

pub pair_put : (names : List (List ℕ × ℕ)) (es : List Entry) (e : Entry) → IsDistinct bytes_eq (names_in es) → IsIn e es → HasPair (e.name, e.inode) (put_in_order names es)
pair_put names [] e distinct is = absurd is
pair_put names (x ∷ es) e distinct (inl same) =
    subst (λ y. HasPair (y.name, y.inode) (put_in_order names (x ∷ es))) same
    (pair_stays (insert_entry by_bytes names x.name x.inode) es (x.name, x.inode) (λ f is. others_differ x.name es f (IsDistinct-head bytes_eq x.name (names_in es) distinct) is) (pair_new names x.name x.inode))
pair_put names (x ∷ es) e distinct (inr is) = pair_put (insert_entry by_bytes names x.name x.inode) es e (IsDistinct-tail bytes_eq x.name (names_in es) distinct) is

entry_in_order : (t : Tree) → IsKept t → (dir : ℕ) (name : List ℕ) (i : ℕ) → entry t dir name ≡ Some i → HasPair (name, i) (put_in_order [] (entries t dir))
entry_in_order t kept dir name i is =
    let e = found_entry t dir name i is in
    let found : HasPair (e.0.name, e.0.inode) (put_in_order [] (entries t dir)) = pair_put [] (entries t dir) e.0 (distinct_entries t dir kept) e.1 in
    subst (λ j. HasPair (name, j) (put_in_order [] (entries t dir))) e.2 (subst (λ s. HasPair (s, e.0.inode) (put_in_order [] (entries t dir))) (sym e.3) found)

-- ---- children of names

among-behind : (n : Named) (a b : List Named) → IsAmong n b → IsAmong n (a ++ b)
among-behind n [] b is = is
among-behind n (m ∷ a) b is = inr (among-behind n a b is)

among-each : (f : Named → List Named) (path : List (List ℕ)) (ps : List (List ℕ × ℕ)) (p : List ℕ × ℕ) (n : Named) → HasPair p ps → IsAmong n (f (below path p)) → IsAmong n (flat_map f (map_list (below path) ps))
among-each f path [] p n has is = absurd has
among-each f path (q ∷ ps) p n (inl same) is = among-front n (f (below path q)) (flat_map f (map_list (below path) ps)) (subst (λ r. IsAmong n (f (below path r))) (sym same) is)
among-each f path (q ∷ ps) p n (inr has) is = among-behind n (f (below path q)) (flat_map f (map_list (below path) ps)) (among-each f path ps p n has is)

among-parts : (n : Named) (a b : List Named) → IsAmong n (a ++ b) → IsAmong n a ⊎ IsAmong n b
among-parts n [] b is = inr is
among-parts n (m ∷ a) b (inl same) = inl (inl same)
among-parts n (m ∷ a) b (inr is) = elim (among-parts n a b is) [ inl one ↦ inl (inr one) | inr two ↦ inr two ]

among-some : (f : Named → List Named) (path : List (List ℕ)) (ps : List (List ℕ × ℕ)) (n : Named) → IsAmong n (flat_map f (map_list (below path) ps)) → (p : List ℕ × ℕ) × HasPair p ps × IsAmong n (f (below path p))
among-some f path [] n is = absurd is
among-some f path (q ∷ ps) n is = elim (among-parts n (f (below path q)) (flat_map f (map_list (below path) ps)) is) [
  | inl one ↦ (q, inl refl, one)
  | inr two ↦ let more = among-some f path ps n two in (more.0, inr more.1, more.2)
]

pub all-of : (P : List ℕ × ℕ → Type 0) (ps : List (List ℕ × ℕ)) (p : List ℕ × ℕ) → AllByRecursion P ps → HasPair p ps → P p
all-of P [] p all is = absurd is
all-of P (q ∷ ps) p all (inl same) = subst P same all.0
all-of P (q ∷ ps) p all (inr is) = all-of P ps p all.1 is

no_pair : (f : List ℕ × ℕ → Named) (ps : List (List ℕ × ℕ)) (p : List ℕ × ℕ) → HasPair p ps → map_list f ps ≡ [] → ⊥
no_pair f [] p is none = is
no_pair f (q ∷ ps) p is none = cc

child_under : (t : Tree) → IsKept t → (depth : ℕ) (top : Named) → IsNamed t top → map.len t.inodes ≤ depth + length top.path → (n : Named) → IsAmong n (names_under depth t top) → (p : List ℕ × ℕ) → HasPair p (put_in_order [] (entries t n.ino)) → IsAmong (below n.path p) (names_under depth t top)
unfolding names_under
child_under t kept zero top is deep n (inl same) p has =
    absurd (no_pair (below top.path) (put_in_order [] (entries t top.ino)) p (subst (λ m. HasPair p (put_in_order [] (entries t m.ino))) (sym same) has) (no_children t kept top is (omega (arith, deep))))
child_under t kept zero top is deep n (inr none) p has = absurd none
child_under t kept (suc depth) top is deep n (inl same) p has =
    let c : Named = below top.path p in
    let first : IsAmong c (names_under depth t c) = subst (IsAmong c) (sym (under_parts depth t c)) (inl refl) in
    subst (λ m. IsAmong (below m.path p) (names_under (suc depth) t top)) same
    (inr (among-each (names_under depth t) top.path (put_in_order [] (entries t top.ino)) p c (subst (λ m. HasPair p (put_in_order [] (entries t m.ino))) (sym same) has) first))
child_under t kept (suc depth) top is deep n (inr more) p has =
    let at = among-some (names_under depth t) top.path (put_in_order [] (entries t top.ino)) n more in
    let c : Named = below top.path at.0 in
    let is_c : IsNamed t c = all-of (λ q. IsNamed t (below top.path q)) (put_in_order [] (entries t top.ino)) at.0 (children_named t kept top is) at.1 in
    inr (among-each (names_under depth t) top.path (put_in_order [] (entries t top.ino)) at.0 (below n.path p) at.1 (child_under t kept depth c is_c (omega (arith, deep)) n at.2 p has))

pub every_name : (t : Tree) → IsKept t → (text : List (List ℕ)) (i : ℕ) → named t text ≡ Some i → IsAmong (record { path = text; ino = i }) (all_names t)
every_name t kept [] i is = subst (λ j. IsAmong (record { path = []; ino = j }) (all_names t)) (same_of is) (subst (IsAmong root_name) (sym (under_parts (map.len t.inodes) t root_name)) (inl refl))
  where
    same_of : {a b : ℕ} → Some a ≡ Some b → a ≡ b
    same_of e = cc
every_name t kept (name ∷ text) i is =
    let at = named_above t name text i is in
    child_under t kept (map.len t.inodes) root_name refl (omega arith) (record { path = text; ino = at.0 }) (every_name t kept text at.0 at.1) (name, i) (entry_in_order t kept at.0 name i at.2)
