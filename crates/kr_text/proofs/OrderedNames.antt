-- In the order of a listing each name stands behind that of the directory above it, and stands once.
use Rattle.std.proofs.Common.{◌≡◌, ◌≢◌, ℕ, zero, suc, ◌≤◌, true, false, List, [], ◌∷◌, ◌++◌, length, map as map_list, Option, None, refl, sym, ap, subst, ◌∙◌, arith, append_assoc, append-nil, inl, inr, ◌⊎◌, Some}
use Rattle.std.specs.Prelude.{bytes_eq}
use Rattle.std.specs.FinMap.{nat_cmp-IsAntisymmetric, slice_cmp-IsAntisymmetric}
use Rattle.std.specs.declared.cmp.Ordering.TheVariants.{Less, Equal, Greater}
use Rattle.std.specs.Ordering.{match_ordering}
use Rattle.std.specs.BTreeMap.{insert_entry}
use Rattle.std.specs.List.{AllByRecursion, flat_map, IsDistinct}
use Rattle.std.specs.Option.{option_map_or}
use Rattle.std.proofs.lemmas.Cmp.{nat_list_eq_equiv}
use Rattle.std.proofs.lemmas.Map.Keys.{IsDistinct-head, IsDistinct-tail}
use Rattle.kr_tree.specs.Tree.{Tree, Inode, Entry, inode, entry, entries, entries_of}
use Rattle.kr_tree.specs.kr_inode.Entries.{names_in}
use Rattle.kr_tree.specs.Lawful.{IsKept, IsIn}
use Rattle.kr_text.specs.declared.names.Named.{Named}
use Rattle.kr_text.specs.Canonical.{by_bytes, put_in_order, below, children, names_under, root_name}
use Rattle.kr_text.proofs.OrderLemmas.{all-insert, all-put}
use Rattle.kr_text.proofs.NamesLemmas.{IsNamed, all-mapped, each_entry, below_named}

-- ---- the names of one directory differ

abbrev pub AreDifferent : List (List ℕ × ℕ) → Type 0
AreDifferent [] = Unit {0}
AreDifferent (p ∷ names) = AllByRecursion (λ q. p.0 ≢ q.0) names × AreDifferent names

different-insert : (names : List (List ℕ × ℕ)) (k : List ℕ) (i : ℕ) → AllByRecursion (λ q. k ≢ q.0) names → AreDifferent names → AreDifferent (insert_entry by_bytes names k i)
different-insert [] k i new are = (tt, tt)
different-insert (p ∷ names) k i new are =
    elim (by_bytes k p.0) as (λ r. by_bytes k p.0 ≡ r → AreDifferent (match_ordering r ((k, i) ∷ p ∷ names) ((p.0, i) ∷ names) (p ∷ insert_entry by_bytes names k i))) [
      | Less ↦ λ e. (new, are)
      | Equal ↦ λ e. absurd (new.0 (slice_cmp-IsAntisymmetric nat_cmp-IsAntisymmetric k p.0 e))
      | Greater ↦ λ e. (all-insert (λ q. p.0 ≢ q.0) names k i (λ same. new.0 (sym same)) are.0, different-insert names k i new.1 are.1)
    ] refl

pub others_differ : (name : List ℕ) (es : List Entry) (f : Entry) → AllByRecursion (λ y. bytes_eq name y ≡ false) (names_in es) → IsIn f es → name ≢ f.name
others_differ name [] f all is = absurd is
others_differ name (x ∷ es) f all (inl same) =
    (λ eq. let yes : bytes_eq name x.name ≡ true = subst (λ y. bytes_eq name y ≡ true) (eq ∙ ap (λ y. y.name) (sym same)) (nat_list_eq_equiv.refl name) in
    let no = all.0 in
    let never : true ≡ false = sym yes ∙ no in
    cc)
others_differ name (x ∷ es) f all (inr is) = others_differ name es f all.1 is

different-put : (names : List (List ℕ × ℕ)) (es : List Entry) → AreDifferent names → ((e : Entry) → IsIn e es → AllByRecursion (λ q. e.name ≢ q.0) names) → IsDistinct bytes_eq (names_in es) → AreDifferent (put_in_order names es)
different-put names [] are apart distinct = are
different-put names (e ∷ es) are apart distinct =
    different-put (insert_entry by_bytes names e.name e.inode) es (different-insert names e.name e.inode (apart e (inl refl)) are)
    (λ f is. all-insert (λ q. f.name ≢ q.0) names e.name e.inode (λ same. others_differ e.name es f (IsDistinct-head bytes_eq e.name (names_in es) distinct) is (sym same)) (apart f (inr is)))
    (IsDistinct-tail bytes_eq e.name (names_in es) distinct)

pub distinct_entries : (t : Tree) (dir : ℕ) → IsKept t → IsDistinct bytes_eq (names_in (entries t dir))
unfolding IsDistinct
distinct_entries t dir kept = go (inode t dir) refl
  where
    go : (o : Option Inode) → inode t dir ≡ o → IsDistinct bytes_eq (names_in (option_map_or (λ x. entries_of x.node.body) o []))
    go None none = tt
    go (Some x) there = (kept.sound.listed dir x there).distinct

names_differ : (t : Tree) (dir : ℕ) → IsKept t → AreDifferent (put_in_order [] (entries t dir))
names_differ t dir kept = different-put [] (entries t dir) tt (λ e is. tt) (distinct_entries t dir kept)

-- ---- at or below a path

abbrev pub IsBelow : List (List ℕ) → List (List ℕ) → Type 0
IsBelow path [] = path ≡ []
IsBelow path (name ∷ text) = (path ≡ name ∷ text) ⊎ IsBelow path text

below_itself : (path : List (List ℕ)) → IsBelow path path
below_itself [] = refl
below_itself (name ∷ path) = inl refl

below_once_more : (top path text : List (List ℕ)) → IsBelow top path → IsBelow path text → IsBelow top text
below_once_more top path [] one two = subst (IsBelow top) two one
below_once_more top path (name ∷ text) one (inl same) = subst (IsBelow top) same one
below_once_more top path (name ∷ text) one (inr more) = inr (below_once_more top path text one more)

below_longer : (path text : List (List ℕ)) → IsBelow path text → length path ≤ length text
below_longer path [] is = let same = ap length is in omega (arith, same)
below_longer path (name ∷ text) (inl same) = let long = ap length same in omega (arith, long)
below_longer path (name ∷ text) (inr more) = let long = below_longer path text more in omega (arith, long)

first_of : (a b : List ℕ) (p q : List (List ℕ)) → a ∷ p ≡ b ∷ q → a ≡ b
first_of a b p q e = cc

rest_of : (a b : List ℕ) (p q : List (List ℕ)) → a ∷ p ≡ b ∷ q → p ≡ q
rest_of a b p q e = cc

-- what is below two names of one directory is below one alone
one_above : (a b : List ℕ) (path text : List (List ℕ)) → IsBelow (a ∷ path) text → IsBelow (b ∷ path) text → a ≡ b
one_above a b path [] one two = let long = ap length one in absurd (omega (arith, long))
one_above a b path (name ∷ text) (inl one) (inl two) = first_of a name path text one ∙ sym (first_of b name path text two)
one_above a b path (name ∷ text) (inl one) (inr two) = let same = ap length (rest_of a name path text one) in let long = below_longer (b ∷ path) text two in absurd (omega (arith, same, long))
one_above a b path (name ∷ text) (inr one) (inl two) = let same = ap length (rest_of b name path text two) in let long = below_longer (a ∷ path) text one in absurd (omega (arith, same, long))
one_above a b path (name ∷ text) (inr one) (inr two) = one_above a b path text one two

pub all-append : {A : Type 0} (P : A → Type 0) (xs ys : List A) → AllByRecursion P xs → AllByRecursion P ys → AllByRecursion P (xs ++ ys)
all-append P [] ys all more = more
all-append P (x ∷ xs) ys all more = (all.0, all-append P xs ys all.1 more)

all_below_each : (depth : ℕ) (t : Tree) (path : List (List ℕ)) → ((n : Named) → AllByRecursion (λ m. IsBelow n.path m.path) (names_under depth t n)) → (ps : List (List ℕ × ℕ)) → AllByRecursion (λ m. IsBelow path m.path) (flat_map (names_under depth t) (map_list (below path) ps))
all_below_each depth t path each [] = tt
all_below_each depth t path each (p ∷ ps) =
    all-append (λ m. IsBelow path m.path) (names_under depth t (below path p)) (flat_map (names_under depth t) (map_list (below path) ps))
    (all-mapped (λ m. IsBelow (p.0 ∷ path) m.path) (λ m. IsBelow path m.path) (names_under depth t (below path p)) (each (below path p)) (λ m is. below_once_more path (p.0 ∷ path) m.path (inr (below_itself path)) is))
    (all_below_each depth t path each ps)

under_below : (depth : ℕ) (t : Tree) (n : Named) → AllByRecursion (λ m. IsBelow n.path m.path) (names_under depth t n)
unfolding names_under
under_below zero t n = (below_itself n.path, tt)
under_below (suc depth) t n = (below_itself n.path, all_below_each depth t n.path (under_below depth t) (put_in_order [] (entries t n.ino)))

-- ---- names in their order

-- a name among some names
abbrev pub IsAmong : Named → List Named → Type 0
IsAmong n [] = ⊥
IsAmong n (m ∷ names) = (m ≡ n) ⊎ IsAmong n names

-- the name of an entry of a directory that stands before it; it stands there itself for the first time
pub record IsNext (t : Tree) (earlier : List Named) (n : Named) : Type 0 where
  pub name : List ℕ
  pub directory : Named
  pub path : n.path ≡ name ∷ directory.path
  pub before : IsAmong directory earlier
  pub named : IsNamed t directory
  pub entry_is : entry t directory.ino name ≡ Some n.ino
  pub fresh : (m : Named) → IsAmong m earlier → m.path ≢ n.path

abbrev pub AreInOrder : Tree → List Named → List Named → Type 0
AreInOrder t earlier [] = Unit {0}
AreInOrder t earlier (n ∷ names) = IsNext t earlier n × AreInOrder t (earlier ++ n ∷ []) names

among-append : (n : Named) (a b : List Named) → IsAmong n (a ++ b) → IsAmong n a ⊎ IsAmong n b
among-append n [] b is = inr is
among-append n (m ∷ a) b (inl same) = inl (inl same)
among-append n (m ∷ a) b (inr is) = elim (among-append n a b is) [ inl one ↦ inl (inr one) | inr two ↦ inr two ]

pub among-front : (n : Named) (a b : List Named) → IsAmong n a → IsAmong n (a ++ b)
among-front n [] b is = absurd is
among-front n (m ∷ a) b (inl same) = inl same
among-front n (m ∷ a) b (inr is) = inr (among-front n a b is)

pub among-end : (n : Named) (a : List Named) → IsAmong n (a ++ n ∷ [])
among-end n [] = inl refl
among-end n (m ∷ a) = inr (among-end n a)

pub among-last : (n m : Named) (a : List Named) → IsAmong n (a ++ m ∷ []) → IsAmong n a ⊎ (m ≡ n)
among-last n m a is = elim (among-append n a (m ∷ []) is) [ inl one ↦ inl one | inr two ↦ inr (alone two) ]
  where
    alone : IsAmong n (m ∷ []) → m ≡ n
    alone (inl same) = same
    alone (inr is) = absurd is

in_order-append : (t : Tree) (earlier a b : List Named) → AreInOrder t earlier a → AreInOrder t (earlier ++ a) b → AreInOrder t earlier (a ++ b)
in_order-append t earlier [] b one two = subst (λ e. AreInOrder t e b) (append-nil earlier) two
in_order-append t earlier (n ∷ a) b one two = (one.0, in_order-append t (earlier ++ n ∷ []) a b one.1 (subst (λ e. AreInOrder t e b) (sym (append_assoc earlier (n ∷ []) a)) two))

all_at : (P : Named → Type 0) (names : List Named) (n : Named) → AllByRecursion P names → IsAmong n names → P n
all_at P [] n all is = absurd is
all_at P (m ∷ names) n all (inl same) = subst P same all.0
all_at P (m ∷ names) n all (inr is) = all_at P names n all.1 is

-- the names below one, down to a depth
abbrev pub names_inside : ℕ → Tree → Named → List Named
names_inside zero t n = []
names_inside (suc depth) t n = flat_map (names_under depth t) (children t n)

pub under_parts : (depth : ℕ) (t : Tree) (n : Named) → names_under depth t n ≡ n ∷ names_inside depth t n
unfolding names_under
under_parts zero t n = refl
under_parts (suc depth) t n = refl

-- nothing below a name stands among others
IsFree : Named → List Named → Type 0
IsFree n earlier = (m : Named) (name : List ℕ) → IsAmong m earlier → IsBelow (name ∷ n.path) m.path → ⊥

InOrderTo : Tree → ℕ → Type 0
InOrderTo t depth = (earlier : List Named) (n : Named) → IsNamed t n → IsAmong n earlier → IsFree n earlier → AreInOrder t earlier (names_inside depth t n)

-- one name of a directory, and those below it
next_in_order : (t : Tree) (earlier : List Named) (n : Named) (p : List ℕ × ℕ) → IsNamed t n → IsAmong n earlier → entry t n.ino p.0 ≡ Some p.1 → ((m : Named) → IsAmong m earlier → IsBelow (p.0 ∷ n.path) m.path → ⊥) → IsNext t earlier (below n.path p)
next_in_order t earlier n p is among entry_is free = record {
  name = p.0;
  directory = n;
  path = refl;
  before = among;
  named = is;
  entry_is = entry_is;
  fresh = λ m is_m same. free m is_m (subst (IsBelow (p.0 ∷ n.path)) (sym same) (below_itself (p.0 ∷ n.path)));
}

free_inside : (earlier : List Named) (c : Named) → ((m : Named) → IsAmong m earlier → IsBelow c.path m.path → ⊥) → IsFree c (earlier ++ c ∷ [])
unfolding IsFree
free_inside earlier c free m name is is_below = elim (among-last m c earlier is) [
  | inl one ↦ free m one (below_once_more c.path (name ∷ c.path) m.path (inr (below_itself c.path)) is_below)
  | inr same ↦ let long = below_longer (name ∷ c.path) m.path is_below in let equal = ap (λ x. length x.path) same in absurd (omega (arith, long, equal))
]

-- the names of a directory, of which none stands among the earlier ones
siblings_in_order : (t : Tree) (depth : ℕ) → InOrderTo t depth → (n : Named) → IsNamed t n → (ps : List (List ℕ × ℕ)) → AreDifferent ps → AllByRecursion (λ p. entry t n.ino p.0 ≡ Some p.1) ps
    → (earlier : List Named) → IsAmong n earlier → ((m : Named) → IsAmong m earlier → AllByRecursion (λ p. IsBelow (p.0 ∷ n.path) m.path → ⊥) ps)
    → AreInOrder t earlier (flat_map (names_under depth t) (map_list (below n.path) ps))
unfolding InOrderTo
siblings_in_order t depth inside n is [] different entries_are earlier among free = tt
siblings_in_order t depth inside n is (p ∷ ps) different entries_are earlier among free =
    let c : Named = below n.path p in
    let names : List Named = names_under depth t c in
    let is_c : IsNamed t c = below_named t n p is entries_are.0 in
    let free_c : (m : Named) → IsAmong m earlier → IsBelow c.path m.path → ⊥ = λ m is_m. (free m is_m).0 in
    let first : AreInOrder t earlier names = subst (AreInOrder t earlier) (sym (under_parts depth t c)) (next_in_order t earlier n p is among entries_are.0 free_c, inside (earlier ++ c ∷ []) c is_c (among-end c earlier) (free_inside earlier c free_c)) in
    in_order-append t earlier names (flat_map (names_under depth t) (map_list (below n.path) ps)) first
    (siblings_in_order t depth inside n is ps different.1 entries_are.1 (earlier ++ names) (among-front n earlier names among)
    (λ m is_m. elim (among-append m earlier names is_m) [
      | inl one ↦ (free m one).1
      | inr two ↦ all-mapped (λ q. p.0 ≢ q.0) (λ q. IsBelow (q.0 ∷ n.path) m.path → ⊥) ps different.0 (λ q apart is_below. apart (one_above p.0 q.0 n.path m.path (all_at (λ x. IsBelow c.path x.path) names m (under_below depth t c) two) is_below))
    ]))

entries_found : (t : Tree) → IsKept t → (dir : ℕ) → AllByRecursion (λ p. entry t dir p.0 ≡ Some p.1) (put_in_order [] (entries t dir))
entries_found t kept dir = all-put (λ p. entry t dir p.0 ≡ Some p.1) [] (entries t dir) tt (each_entry t dir kept)

each_free : (n m : Named) (ps : List (List ℕ × ℕ)) → ((name : List ℕ) → IsBelow (name ∷ n.path) m.path → ⊥) → AllByRecursion (λ p. IsBelow (p.0 ∷ n.path) m.path → ⊥) ps
each_free n m [] free = tt
each_free n m (p ∷ ps) free = (free p.0, each_free n m ps free)

inside_in_order : (t : Tree) → IsKept t → (depth : ℕ) → InOrderTo t depth
unfolding InOrderTo IsFree
inside_in_order t kept zero earlier n is among free = tt
inside_in_order t kept (suc depth) earlier n is among free =
    siblings_in_order t depth (inside_in_order t kept depth) n is (put_in_order [] (entries t n.ino)) (names_differ t n.ino kept) (entries_found t kept n.ino) earlier among (λ m is_m. each_free n m (put_in_order [] (entries t n.ino)) (λ name. free m name is_m))

-- all names but the root's stand behind it in order
pub all_in_order : (t : Tree) → IsKept t → (depth : ℕ) → AreInOrder t (root_name ∷ []) (names_inside depth t root_name)
unfolding InOrderTo IsFree
all_in_order t kept depth = inside_in_order t kept depth (root_name ∷ []) root_name refl (inl refl) (λ m name is is_below. alone m name is is_below)
  where
    alone : (m : Named) (name : List ℕ) → IsAmong m (root_name ∷ []) → IsBelow (name ∷ []) m.path → ⊥
    alone m name (inl same) is_below = let long = below_longer (name ∷ []) m.path is_below in let short = ap (λ x. length x.path) same in omega (arith, long, short)
    alone m name (inr is) is_below = is
