-- All names of a tree, and their lines.
use Rattle.std.proofs.Common.{◌≡◌, ℕ, zero, suc, ◌+◌, ◌≤◌, List, [], ◌∷◌, ◌++◌, length, map as map_list, Option, Some, None, refl, sym, ap, subst, ◌∙◌, arith, inl}
use Rattle.std.specs.FinMap as map
use Rattle.std.specs.List.{AllByRecursion, flat_map}
use Rattle.std.specs.Option.{option_map, option_map_or, option_and_then}
use Rattle.std.proofs.lemmas.Cmp.{nat_list_eq_equiv}
use Rattle.kr_tree.specs.Tree.{Tree, Inode, Entry, inode, entry, entries, entries_of, entry_named}
use Rattle.kr_tree.specs.Names.{named}
use Rattle.kr_tree.specs.Lawful.{IsKept, IsIn}
use Rattle.kr_tree.proofs.kr_inode.EntryLemmas.{in_named}
use Rattle.kr_text.specs.declared.names.Named.{Named}
use Rattle.kr_text.specs.Canonical.{put_in_order, below, children, names_under}
use Rattle.kr_text.proofs.OrderLemmas.{all-put}
use Rattle.kr_text.proofs.DepthLemmas.{depth_limited}

-- ---- lists

pub all-mapped : {A : Type 0} (P Q : A → Type 0) (xs : List A) → AllByRecursion P xs → ((x : A) → P x → Q x) → AllByRecursion Q xs
all-mapped P Q [] all each = tt
all-mapped P Q (x ∷ xs) all each = (each x all.0, all-mapped P Q xs all.1 each)

pub all-in_front : {A B : Type 0} (P : B → Type 0) (f : A → B) (xs : List A) (ys : List B) → AllByRecursion (λ x. P (f x)) xs → AllByRecursion P ys → AllByRecursion P (map_list f xs ++ ys)
all-in_front P f [] ys all more = more
all-in_front P f (x ∷ xs) ys all more = (all.0, all-in_front P f xs ys all.1 more)

flat_map-same : {A B C : Type 0} (f g : B → List C) (h : A → B) (xs : List A) → AllByRecursion (λ x. f (h x) ≡ g (h x)) xs → flat_map f (map_list h xs) ≡ flat_map g (map_list h xs)
flat_map-same f g h [] all = refl
flat_map-same f g h (x ∷ xs) all = let one = all.0 in let more = flat_map-same f g h xs all.1 in λ i. one i ++ more i

-- ---- the names below a name

-- a path and the inode that it names
abbrev pub IsNamed : Tree → Named → Type 0
IsNamed t n = named t n.path ≡ Some n.ino

pub each_entry : (t : Tree) (dir : ℕ) → IsKept t → (e : Entry) → IsIn e (entries t dir) → entry t dir e.name ≡ Some e.inode
each_entry t dir kept e is = go (inode t dir) refl is
  where
    go : (o : Option Inode) → inode t dir ≡ o → IsIn e (option_map_or (λ x. entries_of x.node.body) o []) → option_map (λ f. f.inode) (entry_named e.name (option_map_or (λ x. entries_of x.node.body) o [])) ≡ Some e.inode
    go None none in_none = absurd in_none
    go (Some x) there in_some = ap (option_map (λ f. f.inode)) (in_named e.name (entries_of x.node.body) e (kept.sound.listed dir x there).distinct in_some (nat_list_eq_equiv.refl e.name))

pub below_named : (t : Tree) (n : Named) (p : List ℕ × ℕ) → IsNamed t n → entry t n.ino p.0 ≡ Some p.1 → IsNamed t (below n.path p)
below_named t n p is entry_is = ap (option_and_then (λ dir. entry t dir p.0)) is ∙ entry_is

pub children_named : (t : Tree) → IsKept t → (n : Named) → IsNamed t n → AllByRecursion (λ p. IsNamed t (below n.path p)) (put_in_order [] (entries t n.ino))
children_named t kept n is = all-put (λ p. IsNamed t (below n.path p)) [] (entries t n.ino) tt (λ e is_in. below_named t n (e.name, e.inode) is (each_entry t n.ino kept e is_in))

-- at the greatest depth there is nothing below
pub no_children : (t : Tree) → IsKept t → (n : Named) → IsNamed t n → map.len t.inodes ≤ length n.path → children t n ≡ []
no_children t kept n is deep = go (entries t n.ino) refl
  where
    go : (es : List Entry) → entries t n.ino ≡ es → map_list (below n.path) (put_in_order [] es) ≡ []
    go [] none = refl
    go (e ∷ es) some = let limited = depth_limited t kept n.path n.ino e is (subst (IsIn e) (sym some) (inl refl)) in absurd (omega (arith, limited, deep))

-- one step deeper shows no more
stable : (t : Tree) → IsKept t → (depth : ℕ) (n : Named) → IsNamed t n → map.len t.inodes ≤ depth + length n.path → names_under depth t n ≡ names_under (suc depth) t n
unfolding names_under
stable t kept zero n is deep = ap (λ names. n ∷ flat_map (names_under zero t) names) (sym (no_children t kept n is (omega (arith, deep))))
stable t kept (suc depth) n is deep =
    ap (λ names. n ∷ names) (flat_map-same (names_under depth t) (names_under (suc depth) t) (below n.path) (put_in_order [] (entries t n.ino))
    (all-mapped (λ p. IsNamed t (below n.path p)) (λ p. names_under depth t (below n.path p) ≡ names_under (suc depth) t (below n.path p)) (put_in_order [] (entries t n.ino)) (children_named t kept n is)
    (λ p is_p. stable t kept depth (below n.path p) is_p (omega (arith, deep)))))

-- a name and all below it
abbrev pub under : Tree → Named → List Named
under t n = names_under (map.len t.inodes) t n

pub under_step : (t : Tree) → IsKept t → (n : Named) → IsNamed t n → under t n ≡ n ∷ flat_map (under t) (children t n)
unfolding names_under
under_step t kept n is = go (map.len t.inodes) refl
  where
    go : (size : ℕ) → map.len t.inodes ≡ size → names_under size t n ≡ n ∷ flat_map (names_under size t) (children t n)
    go zero none = ap (λ names. n ∷ flat_map (names_under zero t) names) (sym (no_children t kept n is (omega (arith, none))))
    go (suc depth) some =
        ap (λ names. n ∷ names) (flat_map-same (names_under depth t) (names_under (suc depth) t) (below n.path) (put_in_order [] (entries t n.ino))
        (all-mapped (λ p. IsNamed t (below n.path p)) (λ p. names_under depth t (below n.path p) ≡ names_under (suc depth) t (below n.path p)) (put_in_order [] (entries t n.ino)) (children_named t kept n is)
        (λ p is_p. stable t kept depth (below n.path p) is_p (omega (arith, some)))))
