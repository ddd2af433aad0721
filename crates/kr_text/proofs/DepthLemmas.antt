-- How deep a directory may stand: no deeper than there are inodes.
use Rattle.std.proofs.Common.{◌≡◌, ◌≢◌, ℕ, zero, suc, ◌+◌, ◌-◌, ◌<◌, ◌≤◌, true, false, List, [], ◌∷◌, length, Option, Some, None, refl, sym, ap, subst, ◌∙◌, arith, cond}
use Rattle.std.specs.Prelude.{is_some}
use Rattle.std.specs.FinMap as map
use Rattle.std.specs.Cmp.{nat_cmp_total}
use Rattle.std.specs.Ordering.{nat_cmp}
use Rattle.std.specs.Option.{option_map, option_map_or, option_and_then}
use Rattle.kr_tree.specs.kr_inode.declared.standing.Standing.{Standing}
use Rattle.kr_tree.specs.Tree.{Tree, Inodes, Inode, Entry, root, inode, entry, entries, entries_of, entry_named, standing, body_is, is_directory}
use Rattle.kr_tree.specs.Names.{named}
use Rattle.kr_tree.specs.Lawful.{IsKept, IsIn}
use Rattle.kr_tree.proofs.AddLemmas.{passing}
use Rattle.kr_tree.proofs.kr_inode.BodyLemmas.{entries-is_listed, listed-is_directory}
use Rattle.kr_tree.proofs.CountLemmas.{root_directory}
use Rattle.kr_tree.proofs.kr_inode.EntryLemmas.{named_in, in_above}
use Rattle.kr_tree.proofs.pr_base.MapLemmas.{get-remove_other}
use Rattle.kr_text.proofs.OrderLemmas.{entries_rise}

-- ---- a name in a directory

-- the entry of a name that is there
pub entry_in : (t : Tree) (dir : ℕ) (name : List ℕ) (i : ℕ) → entry t dir name ≡ Some i → (e : Entry) × IsIn e (entries t dir) × (e.inode ≡ i)
entry_in t dir name i is = go (entry_named name (entries t dir)) refl is
  where
    go : (o : Option Entry) → entry_named name (entries t dir) ≡ o → option_map (λ e. e.inode) o ≡ Some i → (e : Entry) × IsIn e (entries t dir) × (e.inode ≡ i)
    go None found same = cc
    go (Some e) found same = (e, (named_in name (entries t dir) e found).0, cc)

-- what has entries is a directory
pub has_entries : (t : Tree) (dir : ℕ) (e : Entry) → IsIn e (entries t dir) → body_is is_directory t dir ≡ true
has_entries t dir e is = go (inode t dir) is
  where
    go : (o : Option Inode) → IsIn e (option_map_or (λ x. entries_of x.node.body) o []) → option_map_or (λ x. is_directory x.node.body) o false ≡ true
    go None in_none = absurd in_none
    go (Some x) in_some = listed-is_directory x.node.body (entries-is_listed x.node.body e in_some)

-- a name below the root stands in a directory that the text above it names
pub named_above : (t : Tree) (name : List ℕ) (text : List (List ℕ)) (i : ℕ) → named t (name ∷ text) ≡ Some i → (dir : ℕ) × (named t text ≡ Some dir) × (entry t dir name ≡ Some i)
named_above t name text i is = go (named t text) refl is
  where
    go : (o : Option ℕ) → named t text ≡ o → option_and_then (λ dir. entry t dir name) o ≡ Some i → (dir : ℕ) × (named t text ≡ Some dir) × (entry t dir name ≡ Some i)
    go None at same = cc
    go (Some dir) at same = (dir, at, same)

-- an inode stands in one place
pub one_standing : (o : Option Standing) (s r : Standing) → o ≡ Some s → o ≡ Some r → s ≡ r
one_standing o s r is also = let both : Some s ≡ Some r = sym is ∙ also in cc

-- where an entry is that of a directory, that stands there
pub stands_in : (t : Tree) → IsKept t → (dir : ℕ) (name : List ℕ) (i : ℕ) → entry t dir name ≡ Some i → body_is is_directory t i ≡ true → (s : Standing) × (standing t i ≡ Some s) × (s.inode ≡ dir) × (2 < s.serial)
stands_in t kept dir name i is directory =
    let found = entry_in t dir name i is in
    let e : Entry = found.0 in
    let rises = entries_rise t dir kept in
    let s : Standing = record { inode = dir; serial = e.serial } in
    (s, ap (standing t) (sym found.2) ∙ kept.sound.alone dir e found.1 (subst (λ j. body_is is_directory t j ≡ true) (sym found.2) directory), refl, (in_above 2 rises.0 (entries t dir) e rises.1 found.1).0)

-- no entry is the root's
pub root_is_no_entry : (t : Tree) → IsKept t → (dir : ℕ) (name : List ℕ) → entry t dir name ≡ Some root → ⊥
root_is_no_entry t kept dir name is =
    let at = stands_in t kept dir name root is (root_directory t kept.sound) in
    let none = ap (λ s. s.serial) (one_standing (standing t root) at.0 (record { inode = root; serial = 0 }) at.1 kept.sound.rooted) in
    let some = at.3 in
    omega (arith, none, some)

-- ---- each directory has one depth

pub same_depth : (t : Tree) → IsKept t → (a b : List (List ℕ)) (i : ℕ) → named t a ≡ Some i → named t b ≡ Some i → body_is is_directory t i ≡ true → length a ≡ length b
same_depth t kept [] [] i is also directory = refl
same_depth t kept [] (name ∷ b) i is also directory =
    let at = named_above t name b i also in
    absurd (root_is_no_entry t kept at.0 name (at.2 ∙ sym is))
same_depth t kept (name ∷ a) [] i is also directory =
    let at = named_above t name a i is in
    absurd (root_is_no_entry t kept at.0 name (at.2 ∙ sym also))
same_depth t kept (name ∷ a) (other ∷ b) i is also directory =
    let one = named_above t name a i is in
    let two = named_above t other b i also in
    let here = stands_in t kept one.0 name i one.2 directory in
    let there = stands_in t kept two.0 other i two.2 directory in
    let same : two.0 ≡ one.0 = sym there.2 ∙ ap (λ s. s.inode) (one_standing (standing t i) there.0 here.0 there.1 here.1) ∙ here.2 in
    let e = entry_in t one.0 name i one.2 in
    ap suc (same_depth t kept a b one.0 one.1 (two.1 ∙ ap Some same) (has_entries t one.0 e.0 e.1))

-- ---- each directory above another is another inode

-- all directories down to a depth are in a map
Covers : Tree → Inodes → ℕ → Type 0
Covers t m depth = (text : List (List ℕ)) (i : ℕ) → named t text ≡ Some i → length text ≤ depth → body_is is_directory t i ≡ true → is_some (map.get m i) ≡ true

some_len : (m : Inodes) (i : ℕ) → is_some (map.get m i) ≡ true → 0 < map.len m
some_len m i there = go (map.len m) refl
  where
    go : (n : ℕ) → map.len m ≡ n → 0 < map.len m
    go zero none = let gone : map.get m i ≡ None = ap (λ m. map.get m i) (map.empty_of_len m none) ∙ map.get-empty nat_cmp i in let not : is_some (map.get m i) ≡ false = ap is_some gone in cc
    go (suc n) some = omega arith

fewer : (m : Inodes) (i : ℕ) → is_some (map.get m i) ≡ true → map.len (map.remove m i) + 1 ≡ map.len m
fewer m i there =
    let less : map.len (map.remove m i) ≡ map.len m - 1 = map.len-remove nat_cmp_total m i ∙ ap (λ b. cond b (map.len m - 1) (map.len m)) there in
    let some = some_len m i there in
    omega arith

within : (t : Tree) → IsKept t → (text : List (List ℕ)) (i : ℕ) → named t text ≡ Some i → body_is is_directory t i ≡ true → (m : Inodes) → Covers t m (length text) → length text < map.len m
unfolding Covers
within t kept [] i is directory m covers = some_len m i (covers [] i is (omega arith) directory)
within t kept (name ∷ text) i is directory m covers =
    let at = named_above t name text i is in
    let e = entry_in t at.0 name i at.2 in
    let there = covers (name ∷ text) i is (omega arith) directory in
    let one_less = fewer m i there in
    let above = within t kept text at.0 at.1 (has_entries t at.0 e.0 e.1) (map.remove m i) (λ other j is_j le directory_j.
    let apart : j ≢ i = (λ same. let deep = same_depth t kept other (name ∷ text) i (is_j ∙ ap Some same) is directory in omega (arith, deep, le)) in
    ap is_some (get-remove_other m i j apart) ∙ covers other j is_j (omega (arith, le)) directory_j) in
    omega arith

-- a directory with entries has fewer names above it than there are inodes
pub depth_limited : (t : Tree) → IsKept t → (text : List (List ℕ)) (dir : ℕ) (e : Entry) → named t text ≡ Some dir → IsIn e (entries t dir) → length text < map.len t.inodes
unfolding Covers
depth_limited t kept text dir e is is_in =
    within t kept text dir is (has_entries t dir e is_in) t.inodes (λ other j is_j le directory. let x = passing is_directory (inode t j) directory in ap is_some x.1)
