-- Names, paths and texts of a kept tree are of bytes.
use Rattle.std.proofs.Common.{◌≡◌, ℕ, ◌<◌, true, List, [], ◌∷◌, Option, Some, None, refl, sym, subst, arith, inl, inr}
use Rattle.std.specs.Prelude.{◌||◌, not, nat_eq}
use Rattle.std.specs.List.{AllByRecursion, list_all}
use Rattle.std.specs.Option.{option_map, option_map_or}
use Rattle.std.proofs.lemmas.Bool.{and_parts}
use Rattle.std.proofs.lemmas.Bool.Decides.{nat_tests}
use Rattle.kr_tree.specs.pr_base.Paths.{slash, below_root, text_of}
use Rattle.kr_tree.specs.Tree.{Tree, Inode, Node, Entry, Body, Directory, RegularFile, SymbolicLink, ProcessDirectory, inode, node, entry, entries_of}
use Rattle.kr_tree.specs.Names.{named, is_name}
use Rattle.kr_tree.specs.Lawful.{IsKept, IsIn, AreBytes, IsOfBytes}
use Rattle.kr_text.specs.Same.{AreTextBytes, HasNoZero, bare_body}
use Rattle.kr_text.proofs.DepthLemmas.{named_above}
use Rattle.kr_text.proofs.FullPathLemmas.{name_tests}
use Rattle.kr_text.proofs.OrderedNames.{all-append}
use Rattle.kr_text.proofs.Growth.{found_entry}

-- ---- one node

pub node_of_bytes : (t : Tree) → IsKept t → (i : ℕ) (x : Node) → node t i ≡ Some x → IsOfBytes x.body
node_of_bytes t kept i x is = go (inode t i) refl is
  where
    go : (o : Option Inode) → inode t i ≡ o → option_map (λ z. z.node) o ≡ Some x → IsOfBytes x.body
    go None none e = cc
    go (Some z) there e = subst (λ n. IsOfBytes n.body) (same z e) (kept.bytes i z there)
      where
        same : (z : Inode) → Some z.node ≡ Some x → z.node ≡ x
        same z e = cc

entry_in_body : (b : Body) → IsOfBytes b → (e : Entry) → IsIn e (entries_of b) → AreBytes e.name
entry_in_body (Directory es standing) are e is_in = at es are is_in
  where
    at : (es : List Entry) → AllByRecursion (λ f. AreBytes f.name) es → IsIn e es → AreBytes e.name
    at [] all none = absurd none
    at (f ∷ es) all (inl same) = subst (λ g. AreBytes g.name) same all.0
    at (f ∷ es) all (inr more) = at es all.1 more
entry_in_body (RegularFile bytes) are e is_in = absurd is_in
entry_in_body (SymbolicLink text) are e is_in = absurd is_in
entry_in_body (ProcessDirectory standing) are e is_in = absurd is_in

pub entry_of_bytes : (t : Tree) → IsKept t → (dir : ℕ) (name : List ℕ) (i : ℕ) → entry t dir name ≡ Some i → AreBytes name
entry_of_bytes t kept dir name i is =
    let e = found_entry t dir name i is in
    subst AreBytes (sym e.3) (go (inode t dir) refl e.0 e.1)
  where
    go : (o : Option Inode) → inode t dir ≡ o → (e : Entry) → IsIn e (option_map_or (λ x. entries_of x.node.body) o []) → AreBytes e.name
    go None none e is_in = absurd is_in
    go (Some x) there e is_in = entry_in_body x.node.body (kept.bytes dir x there) e is_in

-- ---- a node that shows the same

of_bytes-bare : (b : Body) → IsOfBytes b → IsOfBytes (bare_body b)
of_bytes-bare (Directory es standing) are = tt
of_bytes-bare (RegularFile bytes) are = are
of_bytes-bare (SymbolicLink text) are = are
of_bytes-bare (ProcessDirectory standing) are = tt

of_bytes-whole : (b : Body) → entries_of b ≡ [] → IsOfBytes (bare_body b) → IsOfBytes b
of_bytes-whole (Directory es standing) none are = subst (λ fs. AllByRecursion (λ e. AreBytes e.name) fs) (sym none) tt
of_bytes-whole (RegularFile bytes) none are = are
of_bytes-whole (SymbolicLink text) none are = are
of_bytes-whole (ProcessDirectory standing) none are = tt

pub of_bytes-alike : (b c : Body) → bare_body b ≡ bare_body c → entries_of b ≡ [] → IsOfBytes c → IsOfBytes b
of_bytes-alike b c same none are = of_bytes-whole b none (subst IsOfBytes (sym same) (of_bytes-bare c are))

-- ---- texts

pub text_bytes : (bytes : List ℕ) → HasNoZero bytes → AreBytes bytes → AreTextBytes bytes
text_bytes [] some are = tt
text_bytes (b ∷ bytes) some are = ((some.0, are.0), text_bytes bytes some.1 are.1)

no_zeros : (bytes : List ℕ) → list_all (λ b. not (nat_eq b 47 || nat_eq b 0)) bytes ≡ true → HasNoZero bytes
no_zeros [] all = tt
no_zeros (b ∷ bytes) all =
    let parts = and_parts (not (nat_eq b 47 || nat_eq b 0)) (list_all (λ c. not (nat_eq c 47 || nat_eq c 0)) bytes) all in
    (positive b parts.0, no_zeros bytes parts.1)
  where
    positive : (b : ℕ) → not (nat_eq b 47 || nat_eq b 0) ≡ true → 0 < b
    positive b is = grind (arith, nat_tests)

below_bytes : (text : List (List ℕ)) → AllByRecursion (λ name. is_name name ≡ true) text → AllByRecursion AreBytes text → AreTextBytes (below_root text)
below_bytes [] names are = tt
below_bytes (name ∷ text) names are =
    all-append (λ b. (0 < b) × (b < 256)) (below_root text) (slash ∷ name) (below_bytes text names.1 are.1)
    ((omega arith, omega arith), text_bytes name (no_zeros name (name_tests name names.0).1) are.0)

pub path_bytes : (text : List (List ℕ)) → AllByRecursion (λ name. is_name name ≡ true) text → AllByRecursion AreBytes text → AreTextBytes (text_of text)
path_bytes [] names are = ((omega arith, omega arith), tt)
path_bytes (name ∷ text) names are = below_bytes (name ∷ text) names are

pub names_of_bytes : (t : Tree) → IsKept t → (text : List (List ℕ)) (i : ℕ) → named t text ≡ Some i → AllByRecursion AreBytes text
names_of_bytes t kept [] i is = tt
names_of_bytes t kept (name ∷ text) i is = let at = named_above t name text i is in (entry_of_bytes t kept at.0 name i at.2, names_of_bytes t kept text at.0 at.1)
